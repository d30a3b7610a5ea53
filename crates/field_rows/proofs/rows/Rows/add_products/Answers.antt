use Rattle.std.proofs.Common.{◌≡◌, ℕ, length, map, get_or, ap, sym, ◌∙◌, arith}
use Rattle.std.proofs.lemmas.List.{get_or-map, length-map}
use Rattle.field_rows.proofs.AddedRows.{none_added, row_added, next_room}
use Rattle.field_rows.proofs.rows.Rows.add_products.Goals as goal

pub add_scaled_at-requires-clause-room : goal.add_scaled_at-requires-clause-room
add_scaled_at-requires-clause-room g c =
    next_room c.loop-j.j (length c.args.factors.now) c.loop-j.at (length c.args.row.now) (length c.loop-j.rows)
    (length c.args.rows.now)
    (omega arith) c.loop-j.invariant.place c.requires.room c.loop-j.invariant.long

pub add_scaled_at-requires-clause-factor : goal.add_scaled_at-requires-clause-factor
add_scaled_at-requires-clause-factor g c =
    let R = g.Self.Rows in
    let x = c.index-factors-j.result in
    let z = g.Self.Field.coding.ops.nought in
    let factors = c.args.factors.now in
    let is : get_or (map R.element_of factors) c.loop-j.j z ≡ R.element_of x =
    get_or-map R.element_of factors c.loop-j.j x z (omega arith) ∙ ap R.element_of (sym c.index-factors-j.is) in
    rw c.element-by.ensures
    (rw is at (c.requires.factors c.loop-j.j z (rw (length-map factors R.element_of) (omega arith))))

pub add_scaled_at-requires-clause-elements : goal.add_scaled_at-requires-clause-elements
add_scaled_at-requires-clause-elements g c = c.loop-j.invariant.elements

pub loop-j-preserved : goal.loop-j-preserved
loop-j-preserved g c =
    let F = g.Self.Field in
    let z = F.coding.ops.nought in
    let R = g.Self.Rows in
    let factors = c.args.factors.now in
    let j = c.loop-j.j in
    let x = c.index-factors-j.result in
    let by_is = c.element-by.ensures
    ∙ sym (get_or-map R.element_of factors j x z (omega arith) ∙ ap R.element_of (sym c.index-factors-j.is)) in
    let s = c.add_scaled_at in
    row_added F.is_element F.coding.ops j c.loop-j.at c.args.row.now c.args.rows.now c.loop-j.rows s.new.rows
    c.element-by.result (λ (i : ℕ). get_or (map R.element_of factors) i z) _ c.loop-j.steps s.new.steps
    c.loop-j.invariant s.auto.rows s.ensures.elements s.ensures.sums s.ensures.before s.ensures.behind by_is
    s.ensures.cost

pub loop-j-init : goal.loop-j-init
loop-j-init g c =
    none_added g.Self.Field.is_element g.Self.Field.coding.ops c.args.row.now c.args.rows.now _ _ c.requires.elements

pub returns : goal.returns
returns g c =
    let has = c.loop-j.invariant in
    let all : c.loop-j.j ≡ length c.args.factors.now = omega arith in
    record {
      sums = λ i k l m. has.sums i k (omega arith) m;
      others = λ i l. has.rest i (rw all l);
      elements = has.elements;
      cost = rw all at has.cost;
    }
