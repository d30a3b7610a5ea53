use Rattle.std.proofs.Common.{◌≡◌, ◌∙◌, ◌*◌, true, All, length, map, ap, refl, sym, arith, subst}
use Rattle.std.specs.Vec.{with_items}
use Rattle.std.proofs.lemmas.List.{with_items_is}
use Rattle.std.proofs.lemmas.List.Elements.{All-same}
use Rattle.field_rows.specs.Columns.{block_columns}
use Rattle.pet_interp.specs.Blocks.{HeldBlock, stripes_of}
use Rattle.pet_interp.specs.inside.Lifted.{grown}
use Rattle.pet_interp.proofs.BlockStripes.{stripes_each, stripes_waiting, columns_grown, grown_none, laid_new, each_new}
use Rattle.pet_interp.proofs.BlockStripes.{waits_here, each_seen, longer_seen, none_longer}
use Rattle.pet_interp.proofs.block.StripeBlock.add_multiples.Goals as goal

pub add_rows-requires-clause-whole : goal.add_rows-requires-clause-whole
add_rows-requires-clause-whole g c = ap length c.deref_mut.ensures.value ∙ c.self.invariant.whole

pub add_rows-requires-clause-elements : goal.add_rows-requires-clause-elements
add_rows-requires-clause-elements g c =
    All-same g.F.Field.is_element c.deref_mut.result.now c.self.inside.places.items c.deref_mut.ensures.value
    c.self.invariant.elements

pub invariant_of-self : goal.invariant_of-self
invariant_of-self g c =
    let b = c.self.inside in
    laid_new g.F.Field.is_element b.width b.size _ c.add_rows.new.rows c.deref_mut.result.now b.places.items
    (with_items_is b.places c.add_rows.new.rows (c.add_rows.auto.rows ∙ c.deref_mut.ensures.len))
    c.add_rows.auto.rows c.deref_mut.ensures.value c.self.invariant c.add_rows.ensures.elements

pub returns-then-met-self-clause-each : goal.returns-then-met-self-clause-each
returns-then-met-self-clause-each g c =
    let F = g.F.Field in
    let b = c.self.inside in
    let new = c.add_rows.new.rows in
    each_new F.is_element F.coding.ops.nought b.waits b.width b.size (with_items b.places new).items new
    c.deref_mut.result.now b.places.items (with_items_is b.places new (c.add_rows.auto.rows ∙ c.deref_mut.ensures.len))
    c.add_rows.auto.rows c.deref_mut.ensures.value c.self.invariant c.add_rows.ensures.elements

pub returns-then-met-self-clause-stripes : goal.returns-then-met-self-clause-stripes
returns-then-met-self-clause-stripes g c =
    let F = g.F.Field in
    let z = F.coding.ops.nought in
    let b = c.self.inside in
    let new = c.add_rows.new.rows in
    let kept = with_items_is b.places new (c.add_rows.auto.rows ∙ c.deref_mut.ensures.len) in
    let G = grown F.coding.ops c.args.met c.args.from c.args.by.now in
    let waits : b.waits ≡ true = waits_here c.args.met _ _ c.self.view_is c.requires.waits c.if-met-self.true in
    ap (stripes_of z b.waits b.width b.size) kept ∙ stripes_waiting z b.waits b.width b.size new waits
    ∙ columns_grown G z b.width b.size c.deref_mut.result.now new c.add_rows.ensures.columns
    ∙ ap (λ t. map G (block_columns z b.width b.size t)) c.deref_mut.ensures.value
    ∙ ap (map G) (sym (stripes_waiting z b.waits b.width b.size b.places.items waits))
    ∙ ap (λ (v : HeldBlock g.row.F-Elem.Denot). map G v.stripes) c.self.view_is

pub returns-then-met-self-clause-cost : goal.returns-then-met-self-clause-cost
returns-then-met-self-clause-cost g c =
    let F = g.F.Field in
    let b = c.self.inside in
    let count = longer_seen F.is_element F.coding.ops.nought b.waits b.width b.size b.places.items _ c.self.view_is
    c.self.invariant.whole c.self.invariant.elements c.args.met c.if-met-self.true in
    omega (arith, ap (λ n. n * length c.args.by.now) count, c.add_rows.ensures.cost)

pub returns-else-met-self-clause-each : goal.returns-else-met-self-clause-each
returns-else-met-self-clause-each g c =
    let F = g.F.Field in
    let b = c.self.inside in
    each_seen F.is_element F.coding.ops.nought b.waits b.width b.size b.places.items _ c.self.view_is
    c.self.invariant.whole c.self.invariant.elements

pub returns-else-met-self-clause-stripes : goal.returns-else-met-self-clause-stripes
returns-else-met-self-clause-stripes g c =
    let F = g.F.Field in
    let b = c.self.inside in
    let each = stripes_each F.is_element F.coding.ops.nought b.waits b.width b.size b.places.items
    c.self.invariant.whole c.self.invariant.elements in
    let factors = c.args.by.now in
    subst (λ (v : HeldBlock g.row.F-Elem.Denot). v.stripes
    ≡ map (grown F.coding.ops c.args.met c.args.from factors) v.stripes) c.self.view_is
    (sym (grown_none F.coding.ops c.args.met c.args.from factors _ (All F.is_element) b.size c.if-met-self.false each))

pub add_rows-requires-clause-narrow : goal.add_rows-requires-clause-narrow
add_rows-requires-clause-narrow g c = c.self.invariant.narrow

pub add_rows-requires-clause-longer : goal.add_rows-requires-clause-longer
add_rows-requires-clause-longer g c = c.if-met-self.true

pub add_rows-requires-clause-room : goal.add_rows-requires-clause-room
add_rows-requires-clause-room g c = c.requires.room

pub add_rows-requires-clause-by : goal.add_rows-requires-clause-by
add_rows-requires-clause-by g c = c.requires.by

pub add_rows-requires-clause-factors : goal.add_rows-requires-clause-factors
add_rows-requires-clause-factors g c = c.requires.factors

pub returns-then-met-self-clause-size : goal.returns-then-met-self-clause-size
returns-then-met-self-clause-size g c = ap (λ (v : HeldBlock g.row.F-Elem.Denot). v.size) c.self.view_is

pub returns-then-met-self-clause-waits : goal.returns-then-met-self-clause-waits
returns-then-met-self-clause-waits g c = ap (λ (v : HeldBlock g.row.F-Elem.Denot). v.waits) c.self.view_is

pub returns-else-met-self-clause-size : goal.returns-else-met-self-clause-size
returns-else-met-self-clause-size g c = refl

pub returns-else-met-self-clause-waits : goal.returns-else-met-self-clause-waits
returns-else-met-self-clause-waits g c = refl

pub returns-else-met-self-clause-cost : goal.returns-else-met-self-clause-cost
returns-else-met-self-clause-cost g c =
    let F = g.F.Field in
    let b = c.self.inside in
    let none = none_longer F.is_element F.coding.ops.nought b.waits b.width b.size b.places.items _ c.self.view_is
    c.self.invariant.whole c.self.invariant.elements c.args.met (omega arith) in
    omega (arith, ap (λ n. n * (length c.args.by.now)) none)
