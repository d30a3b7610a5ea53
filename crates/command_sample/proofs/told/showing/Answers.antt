use Rattle.std.proofs.Common.{◌-◌, ◌<◌, ◌≤◌, length, ap, ◌∙◌, arith}
use Rattle.stripe_plan.specs.Layers.{count_of}
use Rattle.stripe_plan.specs.Sizes.{Sizes}
use Rattle.command_sample.specs.declared.made.Made.{Made}
use Rattle.command_sample.specs.inside.Making.{IsMade}
use Rattle.command_sample.proofs.Arrived.{few}
use Rattle.command_sample.proofs.Encoders.{as_many_tables, cuts_few, cuts_some}
use Rattle.command_sample.proofs.Telling.{showing_so, table_so}
use Rattle.command_sample.proofs.told.showing.Goals as goal

-- there are tables, and 100 at most
tables_some : (made : Made) (is : IsMade made) → 0 < length made.plan.tables.items
tables_some made is = omega (arith, cuts_some made is, as_many_tables made is)

tables_few : (made : Made) (is : IsMade made) → length made.plan.tables.items ≤ 100
tables_few made is = omega (arith, cuts_few made is, as_many_tables made is)

pub overflow_sub-last : goal.overflow_sub-last
overflow_sub-last c =
    omega (arith, tables_some c.args.made.now c.requires.made, c.len-last.ensures)

pub index-requires : goal.index-requires
index-requires c = omega (arith, tables_some c.args.made.now c.requires.made)

pub count-requires : goal.count-requires
count-requires c =
    let made = c.args.made.now in
    let so = table_so made c.requires.made 0 c.index.result.now (tables_some made c.requires.made) c.index.ensures in
    omega (arith, c.requires.layer, ap (λ (t : Sizes). length t.layers) so)

pub overflow_cast-result : goal.overflow_cast-result
overflow_cast-result c =
    omega (arith, tables_few c.args.made.now c.requires.made, c.len-last.ensures)

pub overflow_mul-result : goal.overflow_mul-result
overflow_mul-result c =
    omega (arith, tables_few c.args.made.now c.requires.made, c.len-last.ensures)

pub index-requires-2 : goal.index-requires-2
index-requires-2 c =
    omega (arith, tables_some c.args.made.now c.requires.made, c.len-last.ensures)

pub count-requires-2 : goal.count-requires-2
count-requires-2 c =
    let made = c.args.made.now in
    let place = c.len-last.result - 1 in
    let low : place < length made.plan.tables.items =
    omega (arith, tables_some made c.requires.made, c.len-last.ensures) in
    let so = table_so made c.requires.made place c.index-2.result.now low c.index-2.ensures in
    omega (arith, c.requires.layer, ap (λ (t : Sizes). length t.layers) so)

pub overflow_add-result : goal.overflow_add-result
overflow_add-result c =
    let made = c.args.made.now in
    let place = c.len-last.result - 1 in
    let low : place < length made.plan.tables.items =
    omega (arith, tables_some made c.requires.made, c.len-last.ensures) in
    let so = table_so made c.requires.made place c.index-2.result.now low c.index-2.ensures in
    omega (
      arith,
      tables_few made c.requires.made,
      c.len-last.ensures,
      c.from-2.ensures,
      c.count-2.ensures.count,
      few c.args.layer c.requires.layer,
      ap (λ (t : Sizes). count_of t.layers c.args.layer) so,
    )

pub returns : goal.returns
returns c =
    let made = c.args.made.now in
    let place = c.len-last.result - 1 in
    let some = tables_some made c.requires.made in
    let many = as_many_tables made c.requires.made in
    let last_low : place < length made.plan.tables.items = omega (arith, some, c.len-last.ensures) in
    let first_so = table_so made c.requires.made 0 c.index.result.now some c.index.ensures in
    let last_so = table_so made c.requires.made place c.index-2.result.now last_low c.index-2.ensures in
    λ first last ends.
    showing_so made c.requires.made first last ends c.args.layer c.from.result c.from-2.result place c.requires.layer
    (omega (arith, some, many, c.len-last.ensures))
    (c.from.ensures ∙ c.count.ensures.count ∙ ap (λ (t : Sizes). count_of t.layers c.args.layer) first_so)
    (c.from-2.ensures ∙ c.count-2.ensures.count ∙ ap (λ (t : Sizes). count_of t.layers c.args.layer) last_so)
