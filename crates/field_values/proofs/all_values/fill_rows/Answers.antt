use borrow.Rule.Slice.PartMut.{put_mid}
use Rattle.std.proofs.Common.{◌≡◌, ◌+◌, ◌-◌, ◌*◌, ◌≤◌, length, map, drop, ap, sym, ◌∙◌, arith, rules}
use Rattle.std.proofs.lemmas.List.{length-take-le, length-drop}
use Rattle.pet_poly.specs.Value.{value}
use Rattle.field_rows.specs.Blocks.{columns_of}
use Rattle.field_rows.specs.laws.PlaceLaws.{more_rows}
use Rattle.field_rows.proofs.Parts.{part_length}
use Rattle.field_values.proofs.RowAfterRow.{row_within, row_end, values_at, row_more}
use Rattle.field_values.proofs.all_values.fill_rows.Goals as goal

pub loop-p-preserved : goal.loop-p-preserved
loop-p-preserved g c =
    let F = g.F.Field in
    let o = F.coding.ops in
    let w = c.args.stripes in
    let p = c.loop-p.p in
    let at = c.loop-p.at in
    let k = at + w - at in
    let into = c.loop-p.into in
    let new = c.block_values.new.into in
    let columns = columns_of o.nought c.args.blocks.now c.args.laid.now in
    let place : at ≡ p * w = c.loop-p.invariant.place in
    let kw : k ≡ w = omega arith in
    let room : at + k
    ≤ length into = omega (arith, place, row_within p c.args.count w (omega arith), c.loop-p.invariant.long) in
    let long : length new ≡ k = c.block_values.auto.into
    ∙ length-take-le k (drop at into) (omega (arith, length-drop at into, room)) in
    let whole : length (put_mid at k into new) ≡ length into = part_length o.nought at k into new room long in
    record {
      place = ap (λ n. n + w) place ∙ sym (more_rows p w);
      long = whole ∙ c.loop-p.invariant.long;
      values =
          row_more (λ q. map (λ s. value o s (F.coding.point_of (c.args.first + q))) columns) w p at k into new place
          kw room long
          (values_at (λ y s. value o s y) (g.F.Rows.element_of c.prepare-x.result) c.point.result
          (F.coding.point_of (c.args.first + p)) columns new
          c.block_values.ensures.values c.prepare-x.ensures c.point.ensures)
          c.loop-p.invariant.values;
      cost = omega (arith, c.block_values.ensures.cost, c.loop-p.invariant.cost, more_rows p (length c.args.laid.now));
    }

pub loop-p-init : goal.loop-p-init
loop-p-init g c =
    record { place = omega arith; long = c.requires.room; values = λ q l. absurd (omega arith); cost = omega arith }

pub returns-clause-rows : goal.returns-clause-rows
returns-clause-rows g c =
    record { long = c.loop-p.invariant.long; each = λ q l. c.loop-p.invariant.values q (omega (arith, l)) }

pub returns-clause-cost : goal.returns-clause-cost
returns-clause-cost g c =
    let is : c.loop-p.p ≡ c.args.count = omega arith in
    rw is at c.loop-p.invariant.cost

pub point-requires : goal.point-requires
point-requires g c = omega (arith, c.requires.points)

pub block_values-requires-clause-room : goal.block_values-requires-clause-room
block_values-requires-clause-room g c =
    let k = c.loop-p.at + c.args.stripes - c.loop-p.at in
    let room : c.loop-p.at + k ≤ length c.loop-p.into =
    omega (
      arith,
      c.loop-p.invariant.place,
      row_within c.loop-p.p c.args.count c.args.stripes (omega arith),
      c.loop-p.invariant.long,
    ) in
    length-take-le k (drop c.loop-p.at c.loop-p.into) (omega (arith, length-drop c.loop-p.at c.loop-p.into, room))
    ∙ omega (arith, c.requires.stripes)

pub overflow_add-end : goal.overflow_add-end
overflow_add-end g c =
    let room = row_end c.loop-p.p c.args.count c.args.stripes c.loop-p.at (length c.loop-p.into) c.loop-p-test.true
    c.loop-p.invariant.place c.loop-p.invariant.long in
    search rules

pub slice_bounds-block_values-end : goal.slice_bounds-block_values-end
slice_bounds-block_values-end g c =
    let room = row_end c.loop-p.p c.args.count c.args.stripes c.loop-p.at (length c.loop-p.into) c.loop-p-test.true
    c.loop-p.invariant.place c.loop-p.invariant.long in
    search rules

pub offset_bounds-into-at : goal.offset_bounds-into-at
offset_bounds-into-at g c =
    let room = row_end c.loop-p.p c.args.count c.args.stripes c.loop-p.at (length c.loop-p.into) c.loop-p-test.true
    c.loop-p.invariant.place c.loop-p.invariant.long in
    search rules
