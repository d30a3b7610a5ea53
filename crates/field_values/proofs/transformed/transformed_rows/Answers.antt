use Rattle.std.proofs.Common.{◌≡◌, ◌*◌, ◌^◌, ◌≤◌, ◌+◌, length, take, drop, get_or, sym, ap, ap₂, ◌∙◌, arith, All}
use Rattle.std.proofs.lemmas.List.{get_or-take, length-take-le, take_at}
use Rattle.pet_poly.specs.Value.{value}
use Rattle.field_rows.specs.declared.blocks.Block.{Block}
use Rattle.field_rows.specs.Blocks.{columns_of}
use Rattle.field_rows.specs.Columns.{column}
use Rattle.field_rows.specs.laws.BlockLaws.{columns_are}
use Rattle.field_rows.specs.laws.PlaceLaws.{place_below, rows_le}
use Rattle.field_values.proofs.RowLanes.{columns_wide, wide_is}
use Rattle.field_values.proofs.TransformedRows.{side_elements, side_is, side_zeros, stripe_short, values_are}
use Rattle.field_values.proofs.transformed.transformed_rows.Goals as goal

pub transform_in_place-requires-clause-size : goal.transform_in_place-requires-clause-size
transform_in_place-requires-clause-size g c =
    ap length c.deref_mut.ensures.value ∙ c.in-Ok.ensures.long
    ∙ ap (λ n. c.size_at-size.result * n)
    (columns_wide g.F.Field.coding.ops.nought c.args.blocks.now c.args.laid.now ∙ sym c.requires.stripes)
    ∙ ap (λ s. s * c.args.stripes) c.size_at-size.ensures.power

pub transform_in_place-requires-clause-zeros : goal.transform_in_place-requires-clause-zeros
transform_in_place-requires-clause-zeros g c =
    let w = c.args.stripes in
    let size = 2 ^ c.in-Some.level in
    let columns = columns_of g.F.Field.coding.ops.nought c.args.blocks.now c.args.laid.now in
    let old = c.deref_mut.result.now in
    let wide = wide_is g.F.Field.coding.ops.nought w c.args.blocks.now c.args.laid.now c.requires.stripes in
    side_zeros g.F.Field.coding.ops.nought w size c.longest-most.result columns old wide
    (side_is g.F.Field.coding.ops.nought size c.size_at-size.result columns old c.in-Ok.rows.items
    c.size_at-size.ensures.power c.deref_mut.ensures.value c.in-Ok.ensures)
    (stripe_short g.F.Field.coding.ops.nought c.longest-most.result c.args.blocks.now c.args.laid.now
    c.longest-most.ensures)

pub transform_in_place-requires-clause-elements : goal.transform_in_place-requires-clause-elements
transform_in_place-requires-clause-elements g c =
    let F = g.F.Field in
    let columns = columns_of F.coding.ops.nought c.args.blocks.now c.args.laid.now in
    side_elements F.is_element F.coding.ops.nought c.size_at-size.result columns c.deref_mut.result.now
    g.met.F.Field.lawful.field.zero_is
    (columns_are F.is_element F.coding.ops.nought c.args.blocks.now c.args.laid.now
    (omega (arith, c.requires.whole)) c.requires.elements)
    (rw c.deref_mut.ensures.value c.in-Ok.ensures)

pub returns-clause-rows : goal.returns-clause-rows
returns-clause-rows g c =
    let F = g.F.Field in
    let zero = F.coding.ops.nought in
    let w = c.args.stripes in
    let n = c.args.count in
    let size = 2 ^ c.in-Some.level in
    let columns = columns_of zero c.args.blocks.now c.args.laid.now in
    let old = c.deref_mut.result.now in
    let new = c.transform_in_place.new.rows in
    let wide : w ≡ length columns = c.requires.stripes ∙ sym (columns_wide zero c.args.blocks.now c.args.laid.now) in
    let most : c.longest-most.result ≤ size = c.in-Some.ensures.enough in
    let short : All
    (λ (b : Block). b.length ≤ size) c.args.blocks.now = λ i d l. omega (arith, c.longest-most.ensures i d l, most) in
    let few : n ≤ size = omega (arith, c.size_at-size.ensures.power) in
    let begin : c.coset_of-coset.result * size ≡ c.args.first =
    sym (ap₂ (λ a b. a * b) c.from.ensures c.size_at-size.ensures.power) ∙ omega arith in
    let long : length new ≡ size * w =
    c.transform_in_place.auto.rows ∙ ap length c.deref_mut.ensures.value ∙ c.in-Ok.ensures.long
    ∙ ap (λ k. c.size_at-size.result * k) (sym wide) ∙ ap (λ k. k * w) c.size_at-size.ensures.power in
    let room : n * w ≤ length new = omega (arith, long, rows_le n size w few) in
    let items : c.truncate.new.self.items ≡ take (n * w) new =
    c.truncate.ensures.items
    ∙ ap (take (n * w))
    (take_at new (drop (length new) c.in-Ok.rows.items) c.in-Ok.rows.len
    (c.transform_in_place.auto.rows ∙ c.deref_mut.ensures.len)) in
    values_are F.is_element F.COUNT F.coding g.met.F.Field.lawful w size c.args.first n columns old
    c.truncate.new.self.items wide
    (side_is zero size c.size_at-size.result columns old c.in-Ok.rows.items
    c.size_at-size.ensures.power c.deref_mut.ensures.value c.in-Ok.ensures)
    (stripe_short zero size c.args.blocks.now c.args.laid.now short) (omega arith)
    (ap length items ∙ length-take-le (n * w) new room)
    (λ p i l m.
    ap (λ t. get_or t (p * w + i) zero) items ∙ get_or-take (n * w) new (p * w + i) zero (place_below p n w i l m)
    ∙ c.transform_in_place.ensures.values p i l m
    ∙ ap (λ b. value F.coding.ops (column zero w size i old) (F.coding.point_of (b + p))) begin)
