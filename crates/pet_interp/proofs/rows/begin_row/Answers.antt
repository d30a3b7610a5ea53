use Rattle.std.proofs.Common.{◌≡◌, ◌*◌, ◌++◌, length, get_or, take, drop, ap, sym, ◌∙◌, arith, subst}
use Rattle.std.proofs.lemmas.List.Elements.{All-append, All-drop, All-take, All-same}
use Rattle.pet_poly.specs.Rows.{words}
use Rattle.pet_poly.specs.Value.{value}
use Rattle.field_rows.specs.Columns.{column}
use Rattle.pet_interp.proofs.Columns.{begun_column}
use Rattle.pet_interp.proofs.Places.{row_inside, row_long}
use Rattle.pet_interp.proofs.rows.begin_row.Goals as goal

pub overflow_mul-met : goal.overflow_mul-met
overflow_mul-met g c =
    omega (
      arith,
      row_inside c.args.width c.args.count c.args.met (length c.args.rows.now) c.requires.whole c.requires.longer,
    )

pub split_at_mut-low-requires : goal.split_at_mut-low-requires
split_at_mut-low-requires g c =
    omega (
      arith,
      row_inside c.args.width c.args.count c.args.met (length c.args.rows.now) c.requires.whole c.requires.longer,
    )

pub slice_bounds-row-end : goal.slice_bounds-row-end
slice_bounds-row-end g c =
    omega (
      arith,
      c.split_at_mut-low.ensures.back_len,
      row_inside c.args.width c.args.count c.args.met (length c.args.rows.now) c.requires.whole c.requires.longer,
    )

pub slice_bounds-row-end-2 : goal.slice_bounds-row-end-2
slice_bounds-row-end-2 g c =
    sym (row_long c.args.width c.args.count c.args.met c.args.rows.now c.split_at_mut-low.result.1.now
    c.split_at_mut-low.ensures.back c.requires.whole c.requires.longer)

pub values-requires-clause-point : goal.values-requires-clause-point
values-requires-clause-point g c = c.requires.point

pub scale-requires-clause-factor : goal.scale-requires-clause-factor
scale-requires-clause-factor g c = c.requires.inverse

pub values-requires-clause-whole : goal.values-requires-clause-whole
values-requires-clause-whole g c =
    let part = row_long c.args.width c.args.count c.args.met c.args.rows.now c.split_at_mut-low.result.1.now
    c.split_at_mut-low.ensures.back c.requires.whole c.requires.longer in
    omega (arith, c.split_at_mut-low.ensures.front_len, ap (λ n. c.args.met * n) part)

pub values-requires-clause-narrow : goal.values-requires-clause-narrow
values-requires-clause-narrow g c =
    let part = row_long c.args.width c.args.count c.args.met c.args.rows.now c.split_at_mut-low.result.1.now
    c.split_at_mut-low.ensures.back c.requires.whole c.requires.longer in
    rw part c.requires.narrow

pub values-requires-clause-elements : goal.values-requires-clause-elements
values-requires-clause-elements g c =
    let P = g.F.Field.is_element in
    All-same P c.split_at_mut-low.result.0.now
    (take (c.args.met * c.args.width) c.args.rows.now) c.split_at_mut-low.ensures.front
    (All-take P (c.args.met * c.args.width) c.args.rows.now c.requires.elements)

pub subtract-requires-clause-values : goal.subtract-requires-clause-values
subtract-requires-clause-values g c =
    let part = row_long c.args.width c.args.count c.args.met c.args.rows.now c.split_at_mut-low.result.1.now
    c.split_at_mut-low.ensures.back c.requires.whole c.requires.longer in
    c.requires.values ∙ ap (λ n. n * g.F.Field.coding.width) (sym (c.values.auto.into ∙ part))

pub scale-requires-clause-narrow : goal.scale-requires-clause-narrow
scale-requires-clause-narrow g c =
    let part = row_long c.args.width c.args.count c.args.met c.args.rows.now c.split_at_mut-low.result.1.now
    c.split_at_mut-low.ensures.back c.requires.whole c.requires.longer in
    rw (c.subtract.auto.row ∙ c.values.auto.into ∙ part) c.requires.narrow

pub returns-clause-cost : goal.returns-clause-cost
returns-clause-cost g c =
    let w = c.args.width in
    let rest = c.split_at_mut-low.result.1.now in
    let part = row_long w c.args.count c.args.met c.args.rows.now rest c.split_at_mut-low.ensures.back c.requires.whole
    c.requires.longer in
    let long : length c.subtract.new.row ≡ w = c.subtract.auto.row ∙ c.values.auto.into ∙ part in
    omega (arith, c.values.ensures.cost, c.scale.ensures.cost, c.split_at_mut-low.ensures.front_len, long)

pub returns-clause-columns : goal.returns-clause-columns
returns-clause-columns g c =
    λ i l.
    let F = g.F.Field in
    let R = g.F.Rows in
    let o = F.coding.ops in
    let z = o.nought in
    let w = c.args.width in
    let k = c.args.count in
    let met = c.args.met in
    let rows = c.args.rows.now in
    let low = c.split_at_mut-low.result.0.now in
    let rest = c.split_at_mut-low.result.1.now in
    let split = c.split_at_mut-low.ensures in
    let x = R.element_of c.args.x.now in
    let part = row_long w k met rows rest split.back c.requires.whole c.requires.longer in
    let long_values : length c.values.new.into ≡ w = c.values.auto.into ∙ part in
    let long_sub : length c.subtract.new.row ≡ w = c.subtract.auto.row ∙ long_values in
    let long_by : length c.scale.new.row ≡ w = c.scale.auto.row ∙ long_sub in
    let v = get_or c.values.new.into i z in
    let e = get_or c.subtract.new.row i z in
    let y = get_or (words F.coding.spelt F.coding.width w c.args.values.now) i z in
    let v_is = subst (λ n. v ≡ value o (column z n met i low) x) part (c.values.ensures.values i (rw part l)) in
    let e_is = subst (λ n. e ≡ o.minus (get_or (words F.coding.spelt F.coding.width n c.args.values.now) i z) v)
    long_values (c.subtract.ensures.differences i (omega (arith, long_values))) in
    begun_column F.is_element o g.met.F.Field.lawful.field w k met i rows low rest c.scale.new.row x
    (R.element_of c.args.inverse.now) y v e (get_or c.scale.new.row i z)
    split.front split.back c.requires.whole c.requires.longer l long_by v_is e_is
    (c.scale.ensures.products i (omega (arith, long_sub))) c.requires.inverse
    (c.subtract.ensures.elements i z (omega (arith, long_sub)))

pub returns-clause-elements : goal.returns-clause-elements
returns-clause-elements g c =
    let P = g.F.Field.is_element in
    let w = c.args.width in
    let rows = c.args.rows.now in
    let low = c.split_at_mut-low.result.0.now in
    let rest = c.split_at_mut-low.result.1.now in
    All-append P low (c.scale.new.row ++ drop w rest)
    (All-same P low (take (c.args.met * w) rows) c.split_at_mut-low.ensures.front
    (All-take P (c.args.met * w) rows c.requires.elements))
    (All-append P c.scale.new.row (drop w rest) c.scale.ensures.elements
    (All-drop P w rest (All-same P rest (drop (c.args.met * w) rows) c.split_at_mut-low.ensures.back
    (All-drop P (c.args.met * w) rows c.requires.elements))))
