use Rattle.std.proofs.Common.{◌∙◌, arith}
use Rattle.field_values.proofs.all_values.fill_values.Goals as goal

pub fill_rows-requires-clause-room : goal.fill_rows-requires-clause-room
fill_rows-requires-clause-room g c = c.fill_transformed.auto.into ∙ c.requires.room

pub returns-then-not-fill_transformed-clause-rows : goal.returns-then-not-fill_transformed-clause-rows
returns-then-not-fill_transformed-clause-rows g c = c.fill_rows.ensures.rows

pub returns-then-not-fill_transformed-clause-cost : goal.returns-then-not-fill_transformed-clause-cost
returns-then-not-fill_transformed-clause-cost g c =
    omega (arith, c.fill_rows.ensures.cost, c.fill_transformed.ensures.none c.if-not-fill_transformed.true)

pub returns-else-not-fill_transformed-clause-rows : goal.returns-else-not-fill_transformed-clause-rows
returns-else-not-fill_transformed-clause-rows g c = c.fill_transformed.ensures.rows c.if-not-fill_transformed.false

pub returns-else-not-fill_transformed-clause-cost : goal.returns-else-not-fill_transformed-clause-cost
returns-else-not-fill_transformed-clause-cost g c = c.fill_transformed.ensures.cost
