use Rattle.std.proofs.Common.{◌*◌, ◌^◌, ◌≤◌, ◌+◌, ◌-◌, length, refl, sym, ap, ◌∙◌, arith, true≢false}
use Rattle.field_rows.specs.declared.blocks.Block.{Block}
use Rattle.field_rows.specs.Blocks.{columns_of}
use Rattle.std.proofs.Common.{All}
use Rattle.std.proofs.lemmas.Bool.{false≢true, lt-ltb}
use Rattle.field_values.proofs.RowLanes.{columns_wide, wide_is}
use Rattle.field_rows.specs.laws.BlockLaws.{columns_are}
use Rattle.field_values.proofs.TransformedRows.{within_bound, cosets_in_order, side_elements, side_is, side_zeros}
use Rattle.field_values.proofs.TransformedRows.{stripe_short, values_are}
use Rattle.field_values.proofs.transformed.fill_transformed.Goals as goal

pub transform-requires-clause-size : goal.transform-requires-clause-size
transform-requires-clause-size g c =
    ap length c.deref_mut.ensures.value ∙ c.in-Ok.ensures.long
    ∙ ap (λ n. c.size_at-size.result * n)
    (columns_wide g.F.Field.coding.ops.nought c.args.blocks.now c.args.laid.now ∙ sym c.requires.stripes)
    ∙ ap (λ s. s * c.args.stripes) c.size_at-size.ensures.power

pub transform-requires-clause-zeros : goal.transform-requires-clause-zeros
transform-requires-clause-zeros g c =
    let w = c.args.stripes in
    let size = 2 ^ c.in-Some.level in
    let columns = columns_of g.F.Field.coding.ops.nought c.args.blocks.now c.args.laid.now in
    let old = c.deref_mut.result.now in
    let wide = wide_is g.F.Field.coding.ops.nought w c.args.blocks.now c.args.laid.now c.requires.stripes in
    side_zeros g.F.Field.coding.ops.nought w size c.longest-most.result columns old wide
    (side_is g.F.Field.coding.ops.nought size c.size_at-size.result columns old c.in-Ok.rows.items
    c.size_at-size.ensures.power c.deref_mut.ensures.value c.in-Ok.ensures)
    (stripe_short g.F.Field.coding.ops.nought c.longest-most.result c.args.blocks.now c.args.laid.now
    c.longest-most.ensures)

pub returns-clause-rows : goal.returns-clause-rows
returns-clause-rows g c t =
    let w = c.args.stripes in
    let size = 2 ^ c.in-Some.level in
    let columns = columns_of g.F.Field.coding.ops.nought c.args.blocks.now c.args.laid.now in
    let old = c.deref_mut.result.now in
    let wide = wide_is g.F.Field.coding.ops.nought w c.args.blocks.now c.args.laid.now c.requires.stripes in
    let most : c.longest-most.result ≤ size = c.in-Some.ensures.enough in
    let short : All
    (λ (b : Block). b.length ≤ size) c.args.blocks.now = λ i d l. omega (arith, c.longest-most.ensures i d l, most) in
    values_are g.F.Field.is_element g.F.Field.COUNT g.F.Field.coding g.met.F.Field.lawful w size c.args.first
    c.args.count columns old c.transform.new.into wide
    (side_is g.F.Field.coding.ops.nought size c.size_at-size.result columns old c.in-Ok.rows.items
    c.size_at-size.ensures.power c.deref_mut.ensures.value c.in-Ok.ensures)
    (stripe_short g.F.Field.coding.ops.nought size c.args.blocks.now c.args.laid.now short) (omega arith)
    (c.transform.auto.into ∙ c.requires.room) c.transform.ensures.values

pub returns-in_default-clause-rows : goal.returns-in_default-clause-rows
returns-in_default-clause-rows g c = λ t. absurd (false≢true t)

pub returns-in_default-room_for-clause-rows : goal.returns-in_default-room_for-clause-rows
returns-in_default-room_for-clause-rows g c = λ t. absurd (false≢true t)

pub returns-then-count-eq0-clause-rows : goal.returns-then-count-eq0-clause-rows
returns-then-count-eq0-clause-rows g c = λ t. absurd (false≢true t)

pub returns-then-not-is_taken-clause-rows : goal.returns-then-not-is_taken-clause-rows
returns-then-not-is_taken-clause-rows g c = λ t. absurd (false≢true t)

pub returns-in_default-clause-none : goal.returns-in_default-clause-none
returns-in_default-clause-none g c = λ _. refl

pub returns-in_default-room_for-clause-none : goal.returns-in_default-room_for-clause-none
returns-in_default-room_for-clause-none g c = λ _. refl

pub returns-then-count-eq0-clause-none : goal.returns-then-count-eq0-clause-none
returns-then-count-eq0-clause-none g c = λ _. refl

pub returns-then-not-is_taken-clause-none : goal.returns-then-not-is_taken-clause-none
returns-then-not-is_taken-clause-none g c = λ _. refl

pub returns-clause-none : goal.returns-clause-none
returns-clause-none g c = λ t. absurd (true≢false t)

pub returns-clause-cost : goal.returns-clause-cost
returns-clause-cost g c =
    within_bound _ _ _ _ _ _ c.transform.ensures.cost (c.is_taken.ensures.cost c.if-not-is_taken.false)

pub is_taken-requires-clause-known : goal.is_taken-requires-clause-known
is_taken-requires-clause-known g c = c.in-Some.ensures.enough

pub side_by_side-requires-clause-short : goal.side_by_side-requires-clause-short
side_by_side-requires-clause-short g c = λ i d l. omega (
  arith,
  c.longest-most.ensures i d l,
  c.in-Some.ensures.enough,
  c.size_at-size.ensures.power,
)

pub side_by_side-requires-clause-room : goal.side_by_side-requires-clause-room
side_by_side-requires-clause-room g c =
    rw c.size_at-size.ensures.power (c.is_taken.ensures.room c.if-not-is_taken.false)

pub transform-requires-clause-spare : goal.transform-requires-clause-spare
transform-requires-clause-spare g c =
    λ l.
    c.deref_mut-2.ensures.len ∙ c.in-Ok-room_for.ensures (lt-ltb c.coset_of-from.result c.coset_of-last.result l)
    ∙ ap (λ s. s * c.args.stripes) c.size_at-size.ensures.power

pub transform-requires-clause-order : goal.transform-requires-clause-order
transform-requires-clause-order g c =
    cosets_in_order c.coset_of-from.result c.coset_of-last.result (2 ^ c.in-Some.level) c.args.first
    (c.args.first + c.args.count - 1)
    c.coset_of-from.ensures.begins c.coset_of-last.ensures.ends (omega arith)

pub transform-requires-clause-begins : goal.transform-requires-clause-begins
transform-requires-clause-begins g c = c.coset_of-from.ensures.begins

pub transform-requires-clause-near : goal.transform-requires-clause-near
transform-requires-clause-near g c = c.coset_of-from.ensures.ends

pub transform-requires-clause-elements : goal.transform-requires-clause-elements
transform-requires-clause-elements g c =
    let F = g.F.Field in
    let columns = columns_of F.coding.ops.nought c.args.blocks.now c.args.laid.now in
    side_elements F.is_element F.coding.ops.nought c.size_at-size.result columns c.deref_mut.result.now
    g.met.F.Field.lawful.field.zero_is
    (columns_are F.is_element F.coding.ops.nought c.args.blocks.now c.args.laid.now
    (omega (arith, c.requires.whole)) c.requires.elements)
    (rw c.deref_mut.ensures.value c.in-Ok.ensures)
