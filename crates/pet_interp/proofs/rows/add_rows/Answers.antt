use Rattle.std.proofs.Common.{◌≡◌, ◌+◌, ◌-◌, ◌*◌, ◌≤◌, ◌++◌, length, All, get_or, take, drop, ap, ap₂, sym}
use Rattle.std.proofs.Common.{◌∙◌, arith}
use Rattle.std.proofs.lemmas.List.{length-take-le, length-drop, get_or-take, take_all}
use Rattle.std.proofs.lemmas.List.Elements.{All-append, All-take, All-drop, All-same}
use Rattle.field_rows.specs.Columns.{column}
use Rattle.field_rows.specs.laws.PlaceLaws.{rows_le}
use Rattle.pet_interp.proofs.Columns.{parts, put_end, back, grown_column}
use Rattle.pet_interp.proofs.Places.{row_inside, row_long}
use prog.Memory.{size}
use denote.Param.{layout}
use borrow.Rule.Slice.PartMut.{put_mid}
use native.Mathlib.Nat.{mul_comm}
use Rattle.pet_interp.proofs.rows.add_rows.Goals as goal

pub overflow_mul-met : goal.overflow_mul-met
overflow_mul-met g c =
    omega (
      arith,
      row_inside c.args.width c.args.count c.args.met (length c.args.rows.now) c.requires.whole c.requires.longer,
    )

pub overflow_mul-from : goal.overflow_mul-from
overflow_mul-from g c =
    omega (
      arith,
      row_inside c.args.width c.args.count c.args.met (length c.args.rows.now) c.requires.whole c.requires.longer,
      rows_le c.args.from c.args.met c.args.width (omega arith),
    )

pub split_at_mut-low-requires : goal.split_at_mut-low-requires
split_at_mut-low-requires g c =
    omega (
      arith,
      row_inside c.args.width c.args.count c.args.met (length c.args.rows.now) c.requires.whole c.requires.longer,
    )

pub slice_bounds-add_products-count : goal.slice_bounds-add_products-count
slice_bounds-add_products-count g c =
    omega (arith, c.split_at_mut-low.ensures.front_len, rows_le c.args.from c.args.met c.args.width (omega arith))

pub slice_bounds-add_products-end-2 : goal.slice_bounds-add_products-end-2
slice_bounds-add_products-end-2 g c =
    sym (row_long c.args.width c.args.count c.args.met c.args.rows.now c.split_at_mut-low.result.1.now
    c.split_at_mut-low.ensures.back c.requires.whole c.requires.longer)

pub slice_bounds-add_products-end : goal.slice_bounds-add_products-end
slice_bounds-add_products-end g c =
    let room = row_inside c.args.width c.args.count c.args.met
    (length c.args.rows.now) c.requires.whole c.requires.longer in
    omega (arith, c.split_at_mut-low.ensures.back_len)

pub slice_bounds-add_products-start : goal.slice_bounds-add_products-start
slice_bounds-add_products-start g c =
    let below : c.args.from * c.args.width ≤ c.args.met * c.args.width =
    rows_le c.args.from c.args.met c.args.width (omega arith) in
    omega (arith, c.split_at_mut-low.ensures.front_len)

pub add_products-requires-clause-narrow : goal.add_products-requires-clause-narrow
add_products-requires-clause-narrow g c =
    let rest = c.split_at_mut-low.result.1.now in
    rw (row_long c.args.width c.args.count c.args.met c.args.rows.now rest c.split_at_mut-low.ensures.back
    c.requires.whole c.requires.longer) c.requires.narrow

pub add_products-requires-clause-room : goal.add_products-requires-clause-room
add_products-requires-clause-room g c =
    let w = c.args.width in
    let n = length c.args.by.now in
    let low = c.split_at_mut-low.result.0.now in
    let rest = c.split_at_mut-low.result.1.now in
    let split = c.split_at_mut-low.ensures in
    let row = row_long w c.args.count c.args.met c.args.rows.now rest split.back c.requires.whole c.requires.longer in
    let part : length (take (length low - c.args.from * w) (drop (c.args.from * w) low))
    ≡ length low - c.args.from * w =
    length-take-le (length low - c.args.from * w) (drop (c.args.from * w) low)
    (omega (arith, length-drop (c.args.from * w) low)) in
    let few : c.args.from * w + n * w ≤ c.args.met * w =
    omega (arith, parts c.args.from n w, rows_le (c.args.from + n) c.args.met w c.requires.room) in
    let whole_size : n * length (take w rest) ≡ n * w = ap (λ t. n * t) row in
    omega (arith, whole_size, part, few, split.front_len)

pub add_products-requires-clause-row : goal.add_products-requires-clause-row
add_products-requires-clause-row g c =
    let P = g.F.Field.is_element in
    let w = c.args.width in
    let rest = c.split_at_mut-low.result.1.now in
    All-take P w rest (All-same P rest (drop (c.args.met * w) c.args.rows.now) c.split_at_mut-low.ensures.back
    (All-drop P (c.args.met * w) c.args.rows.now c.requires.elements))

pub add_products-requires-clause-elements : goal.add_products-requires-clause-elements
add_products-requires-clause-elements g c =
    let P = g.F.Field.is_element in
    let w = c.args.width in
    let low = c.split_at_mut-low.result.0.now in
    All-take P (length low - c.args.from * w) (drop (c.args.from * w) low)
    (All-drop P (c.args.from * w) low (All-same P low
    (take (c.args.met * w) c.args.rows.now) c.split_at_mut-low.ensures.front
    (All-take P (c.args.met * w) c.args.rows.now c.requires.elements)))

pub returns-clause-columns : goal.returns-clause-columns
returns-clause-columns g c =
    λ i l.
    let F = g.F.Field in
    let o = F.coding.ops in
    let z = o.nought in
    let P = F.is_element in
    let w = c.args.width in
    let k = c.args.count in
    let met = c.args.met in
    let from = c.args.from in
    let rows = c.args.rows.now in
    let by = c.args.by.now in
    let low = c.split_at_mut-low.result.0.now in
    let rest = c.split_at_mut-low.result.1.now in
    let split = c.split_at_mut-low.ensures in
    let new = c.add_products.new.rows in
    let row = row_long w k met rows rest split.back c.requires.whole c.requires.longer in
    let below : from * w ≤ met * w = rows_le from met w (omega arith) in
    let whole : take (length low - from * w) (drop (from * w) low) ≡ drop (from * w) low =
    take_all (length low - from * w) (drop (from * w) low) (omega (arith, length-drop (from * w) low)) in
    let long_part : length new ≡ (met - from) * w =
    c.add_products.auto.rows ∙ ap length whole ∙ length-drop (from * w) low
    ∙ omega (arith, split.front_len, parts from (met - from) w, ap (λ n. n * w) (back from met (omega arith))) in
    let here : get_or (take w rest) i z ≡ get_or rest i z = get_or-take w rest i z l in
    let hr : P (get_or rest i z) =
    rw (sym here) (All-take P w rest (All-same P rest (drop (met * w) rows) split.back
    (All-drop P (met * w) rows c.requires.elements)) i z (rw row l)) in
    ap (λ t. column z w k i (t ++ rest)) (put_end (from * w) (length low - from * w) low new (omega arith))
    ∙ grown_column P o g.met.F.Field.lawful.field w k met from i rows low rest new by split.front split.back
    c.requires.whole c.requires.longer l
    c.requires.room long_part c.requires.by hr
    (λ j m.
    ap (λ n. get_or new (j * n + i) z) (sym row) ∙ c.add_products.ensures.sums j i m (rw row l)
    ∙ ap₂ (λ a b. o.plus a (o.times (get_or by j z) b)) (ap₂ (λ t n. get_or t (j * n + i) z) whole row) here)
    (λ j m n.
    let past : length by * length (take w rest) ≤ j * w + i =
    omega (arith, ap (λ t. length by * t) row, rows_le (length by) j w m) in
    c.add_products.ensures.others (j * w + i) past ∙ ap (λ t. get_or t (j * w + i) z) whole)

pub returns-clause-elements : goal.returns-clause-elements
returns-clause-elements g c =
    let P = g.F.Field.is_element in
    let w = c.args.width in
    let rows = c.args.rows.now in
    let low = c.split_at_mut-low.result.0.now in
    let rest = c.split_at_mut-low.result.1.now in
    let new = c.add_products.new.rows in
    let lows : All P low = All-same P low (take (c.args.met * w) rows) c.split_at_mut-low.ensures.front
    (All-take P (c.args.met * w) rows c.requires.elements) in
    All-append P (put_mid (c.args.from * w) (length low - c.args.from * w) low new) rest
    (All-same P (put_mid (c.args.from * w) (length low - c.args.from * w) low new) (take (c.args.from * w) low ++ new)
    (put_end (c.args.from * w) (length low - c.args.from * w) low new (omega arith))
    (All-append P (take (c.args.from * w) low) new
    (All-take P (c.args.from * w) low lows) c.add_products.ensures.elements))
    (All-same P rest (drop (c.args.met * w) rows) c.split_at_mut-low.ensures.back
    (All-drop P (c.args.met * w) rows c.requires.elements))

pub returns-clause-cost : goal.returns-clause-cost
returns-clause-cost g c =
    let w = c.args.width in
    let n = length c.args.by.now in
    let rest = c.split_at_mut-low.result.1.now in
    let row = row_long w c.args.count c.args.met c.args.rows.now rest c.split_at_mut-low.ensures.back c.requires.whole
    c.requires.longer in
    let whole_size : n * length (take w rest) ≡ w * n = ap (λ t. n * t) row ∙ mul_comm n w in
    omega (arith, whole_size, c.add_products.ensures.cost)

pub add_products-requires-clause-by : goal.add_products-requires-clause-by
add_products-requires-clause-by g c = c.requires.by

pub add_products-requires-clause-factors : goal.add_products-requires-clause-factors
add_products-requires-clause-factors g c = c.requires.factors

pub offset_bounds-low-from : goal.offset_bounds-low-from
offset_bounds-low-from g c =
    let inside : c.args.from * c.args.width ≤ length c.args.rows.now =
    omega (
      arith,
      row_inside c.args.width c.args.count c.args.met (length c.args.rows.now) c.requires.whole c.requires.longer,
      rows_le c.args.from c.args.met c.args.width (omega arith),
    ) in
    omega (arith, rows_le (c.args.from * c.args.width) (length c.args.rows.now) (size (layout g.row.F-Elem)) inside)
