use Rattle.std.proofs.Common.{◌≡◌, ◌+◌, ◌-◌, ◌*◌, ◌<◌, length, get_or, ap, ◌∙◌, arith, rules}
use Rattle.field_rows.specs.laws.PlaceLaws.{row_place, row_room, rows_le}
use Rattle.field_rows.proofs.AnyField.{horner_is, start, next, done}
use Rattle.field_rows.proofs.any_field.column_value.Goals as goal

pub mul-requires-clause-first : goal.mul-requires-clause-first
mul-requires-clause-first g c =
    let F = g.F.Field in
    rw c.loop-j.invariant.value
    (horner_is F.is_element F.coding.ops g.met.F.Field.lawful.field c.args.rows.now c.args.width c.args.count c.args.c
    c.args.x c.requires.whole c.requires.column c.requires.elements c.requires.point c.loop-j.j)

pub add-value-requires-clause-first : goal.add-value-requires-clause-first
add-value-requires-clause-first g c =
    let F = g.F.Field in
    rw c.mul.ensures.product (g.met.F.Field.lawful.field.times_is c.loop-j.value c.args.x (
    rw c.loop-j.invariant.value
    (horner_is F.is_element F.coding.ops g.met.F.Field.lawful.field c.args.rows.now c.args.width c.args.count c.args.c
    c.args.x c.requires.whole c.requires.column c.requires.elements c.requires.point c.loop-j.j)) c.requires.point)

pub loop-j-init : goal.loop-j-init
loop-j-init g c =
    let F = g.F.Field in
    record {
      place = c.requires.whole;
      value =
          c.zero-value.ensures
          ∙ start F.is_element F.coding.ops g.met.F.Field.lawful.field c.args.rows.now c.args.width c.args.count
          c.args.c c.args.x c.requires.whole c.requires.column c.requires.elements c.requires.point;
      cost = omega arith;
    }

pub loop-j-preserved : goal.loop-j-preserved
loop-j-preserved g c =
    let F = g.F.Field in
    let rows = c.args.rows.now in
    let w = c.args.width in
    let j = c.loop-j.j in
    let e = c.index-rows-at.result in
    let place : c.loop-j.at - w ≡ (j - 1) * w = row_place j w c.loop-j.at (omega arith) c.loop-j.invariant.place in
    let room : (j - 1) * w + c.args.c < length rows =
    rw c.requires.whole (row_room j w c.args.count c.args.c (omega arith) (omega arith) c.requires.column) in
    record {
      place = place;
      value =
          c.add-value.ensures ∙ ap (λ y. F.coding.ops.plus y e) c.mul.ensures.product
          ∙ next F.is_element F.coding.ops g.met.F.Field.lawful.field rows w c.args.count c.args.c c.args.x
          c.requires.whole c.requires.column c.requires.elements c.requires.point j c.loop-j.value e
          (omega arith) (omega arith) c.loop-j.invariant.value room
          (c.index-rows-at.is ∙ ap (λ n. get_or rows (n + c.args.c) e) place);
      cost = omega arith;
    }

pub returns-clause-value : goal.returns-clause-value
returns-clause-value g c =
    let F = g.F.Field in
    done F.is_element F.coding.ops g.met.F.Field.lawful.field c.args.rows.now c.args.width c.args.count c.args.c
    c.args.x c.requires.whole c.requires.column c.requires.elements c.requires.point
    c.loop-j.j c.loop-j.value (omega arith) c.loop-j.invariant.value

pub returns-clause-cost : goal.returns-clause-cost
returns-clause-cost g c = omega (arith, c.loop-j.invariant.cost)

pub overflow_sub-at : goal.overflow_sub-at
overflow_sub-at g c = omega (arith, rows_le 1 c.loop-j.j c.args.width (omega arith), c.loop-j.invariant.place)

pub overflow_add-at : goal.overflow_add-at
overflow_add-at g c =
    let j = c.loop-j.j in
    let w = c.args.width in
    let place : c.loop-j.at - w ≡ (j - 1) * w = row_place j w c.loop-j.at (omega arith) c.loop-j.invariant.place in
    let room : c.loop-j.at - w + c.args.c < length c.args.rows.now =
    rw (place, c.requires.whole) (row_room j w c.args.count c.args.c (omega arith) (omega arith) c.requires.column) in
    search rules

pub bounds-rows-at : goal.bounds-rows-at
bounds-rows-at g c =
    let j = c.loop-j.j in
    let w = c.args.width in
    let place : c.loop-j.at - w ≡ (j - 1) * w = row_place j w c.loop-j.at (omega arith) c.loop-j.invariant.place in
    let room : c.loop-j.at - w + c.args.c < length c.args.rows.now =
    rw (place, c.requires.whole) (row_room j w c.args.count c.args.c (omega arith) (omega arith) c.requires.column) in
    room
