use Rattle.std.proofs.Common.{◌≡◌, ℕ, length, get_or, refl, arith}
use Rattle.std.proofs.lemmas.List.{get_or_read_under}
use Rattle.field_rows.proofs.AddedRows.{none_added, row_added, next_room}
use Rattle.field_rows.proofs.any_field.add_each.Goals as goal

pub add_scaled_at-requires-clause-room : goal.add_scaled_at-requires-clause-room
add_scaled_at-requires-clause-room g c =
    next_room c.loop-j.j (length c.args.by.now) c.loop-j.at (length c.args.row.now) (length c.loop-j.rows)
    (length c.args.rows.now)
    (omega arith) c.loop-j.invariant.place c.requires.room c.loop-j.invariant.long

pub add_scaled_at-requires-clause-elements : goal.add_scaled_at-requires-clause-elements
add_scaled_at-requires-clause-elements g c = c.loop-j.invariant.elements

pub loop-j-preserved : goal.loop-j-preserved
loop-j-preserved g c =
    let F = g.F.Field in
    let j = c.loop-j.j in
    let s = c.add_scaled_at in
    row_added F.is_element F.coding.ops j c.loop-j.at c.args.row.now c.args.rows.now c.loop-j.rows s.new.rows
    c.index-by-j.result (λ (i : ℕ). get_or c.args.by.now i F.coding.ops.nought) _ c.loop-j.steps s.new.steps
    c.loop-j.invariant s.auto.rows s.ensures.elements s.ensures.sums s.ensures.before s.ensures.behind
    (get_or_read_under c.args.by.now j (length c.args.by.now) c.index-by-j.result F.coding.ops.nought c.index-by-j.is
    c.loop-j-test.true refl) s.ensures.cost

pub loop-j-init : goal.loop-j-init
loop-j-init g c =
    none_added g.F.Field.is_element g.F.Field.coding.ops c.args.row.now c.args.rows.now _ _ c.requires.elements

pub returns : goal.returns
returns g c =
    let has = c.loop-j.invariant in
    let all : c.loop-j.j ≡ length c.args.by.now = omega arith in
    record {
      sums = λ i k l. has.sums i k (omega arith);
      others = λ i l. has.rest i (rw all l);
      elements = has.elements;
      cost = rw all at has.cost;
    }
