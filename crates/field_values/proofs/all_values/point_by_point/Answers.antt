use Rattle.std.proofs.Common.{◌∙◌, length, drop, arith}
use Rattle.std.proofs.lemmas.List.{take_at}
use Rattle.field_values.proofs.all_values.point_by_point.Goals as goal

pub fill_rows-requires-clause-room : goal.fill_rows-requires-clause-room
fill_rows-requires-clause-room g c = c.deref_mut.ensures.len ∙ c.in_ok-values.ensures.len

pub returns-clause-rows : goal.returns-clause-rows
returns-clause-rows g c =
    rw (take_at c.fill_rows.new.into (drop (length c.fill_rows.new.into) c.in_ok-values.values.items)
    c.in_ok-values.values.len (c.fill_rows.auto.into ∙ c.deref_mut.ensures.len))
    c.fill_rows.ensures.rows

pub returns-clause-cost : goal.returns-clause-cost
returns-clause-cost g c = omega (arith, c.fill_rows.ensures.cost)
