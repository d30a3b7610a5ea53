use Rattle.std.proofs.Common.{◌≡◌, ◌∙◌, ◌+◌, ◌*◌, true, All, length, ap, refl, sym, arith, subst}
use Rattle.std.specs.Vec.{with_items}
use Rattle.std.proofs.lemmas.List.{with_items_is}
use Rattle.std.proofs.lemmas.List.Elements.{All-same}
use Rattle.field_rows.specs.Columns.{block_columns}
use Rattle.pet_interp.specs.Blocks.{HeldBlock, stripes_of}
use Rattle.pet_interp.specs.inside.Lifted.{begun_all}
use Rattle.pet_poly.specs.Rows.{words}
use Rattle.pet_poly.specs.laws.RowLaws.{length-words}
use Rattle.pet_interp.proofs.BlockStripes.{stripes_each, stripes_waiting, columns_begun, begun_none, laid_new, each_new}
use Rattle.pet_interp.proofs.BlockStripes.{waits_here, count_seen, each_seen, longer_seen, none_longer}
use Rattle.pet_interp.proofs.block.StripeBlock.begin.Goals as goal

pub begin_row-requires-clause-whole : goal.begin_row-requires-clause-whole
begin_row-requires-clause-whole g c = ap length c.deref_mut.ensures.value ∙ c.self.invariant.whole

pub begin_row-requires-clause-elements : goal.begin_row-requires-clause-elements
begin_row-requires-clause-elements g c =
    All-same g.F.Field.is_element c.deref_mut.result.now c.self.inside.places.items c.deref_mut.ensures.value
    c.self.invariant.elements

pub invariant_of-self : goal.invariant_of-self
invariant_of-self g c =
    let b = c.self.inside in
    laid_new g.F.Field.is_element b.width b.size _ c.begin_row.new.rows c.deref_mut.result.now b.places.items
    (with_items_is b.places c.begin_row.new.rows (c.begin_row.auto.rows ∙ c.deref_mut.ensures.len))
    c.begin_row.auto.rows c.deref_mut.ensures.value c.self.invariant c.begin_row.ensures.elements

pub begin_row-requires-clause-values : goal.begin_row-requires-clause-values
begin_row-requires-clause-values g c =
    let F = g.F.Field in
    let b = c.self.inside in
    let count = count_seen F.coding.ops.nought b.waits b.width b.size b.places.items c.args.self.now c.self.view_is in
    c.requires.width ∙ ap (λ n. n * F.coding.width) count

pub returns-then-met-self-clause-each : goal.returns-then-met-self-clause-each
returns-then-met-self-clause-each g c =
    let F = g.F.Field in
    let b = c.self.inside in
    let new = c.begin_row.new.rows in
    each_new F.is_element F.coding.ops.nought b.waits b.width b.size (with_items b.places new).items new
    c.deref_mut.result.now b.places.items (with_items_is b.places new (c.begin_row.auto.rows ∙ c.deref_mut.ensures.len))
    c.begin_row.auto.rows c.deref_mut.ensures.value c.self.invariant c.begin_row.ensures.elements

pub returns-then-met-self-clause-stripes : goal.returns-then-met-self-clause-stripes
returns-then-met-self-clause-stripes g c =
    let F = g.F.Field in
    let z = F.coding.ops.nought in
    let b = c.self.inside in
    let new = c.begin_row.new.rows in
    let kept = with_items_is b.places new (c.begin_row.auto.rows ∙ c.deref_mut.ensures.len) in
    let o = F.coding.ops in
    let x = g.F.Rows.element_of c.args.x.now in
    let i = g.F.Rows.element_of c.args.inverse.now in
    let ys = words F.coding.spelt F.coding.width b.width c.args.values.now in
    let count = sym (count_seen z b.waits b.width b.size b.places.items c.args.self.now c.self.view_is) in
    let waits : b.waits ≡ true = waits_here c.args.met _ _ c.self.view_is c.requires.waits c.if-met-self.true in
    ap (stripes_of z b.waits b.width b.size) kept ∙ stripes_waiting z b.waits b.width b.size new waits
    ∙ columns_begun o b.width b.size c.args.met x i c.deref_mut.result.now new ys
    (length-words F.coding.spelt F.coding.width b.width c.args.values.now) c.begin_row.ensures.columns
    ∙ ap (λ t. begun_all o c.args.met x i (block_columns z b.width b.size t) ys) c.deref_mut.ensures.value
    ∙ ap (λ t. begun_all o c.args.met x i t ys) (sym (stripes_waiting z b.waits b.width b.size b.places.items waits))
    ∙ ap (λ (v : HeldBlock g.row.F-Elem.Denot). begun_all o c.args.met x i v.stripes ys) c.self.view_is
    ∙ ap (λ n. begun_all o c.args.met x i c.args.self.now.stripes
    (words F.coding.spelt F.coding.width n c.args.values.now)) count

pub returns-then-met-self-clause-cost : goal.returns-then-met-self-clause-cost
returns-then-met-self-clause-cost g c =
    let F = g.F.Field in
    let b = c.self.inside in
    let count = longer_seen F.is_element F.coding.ops.nought b.waits b.width b.size b.places.items _ c.self.view_is
    c.self.invariant.whole c.self.invariant.elements c.args.met c.if-met-self.true in
    omega (arith, ap (λ n. n * (c.args.met + 1)) count, c.begin_row.ensures.cost)

pub returns-else-met-self-clause-each : goal.returns-else-met-self-clause-each
returns-else-met-self-clause-each g c =
    let F = g.F.Field in
    let b = c.self.inside in
    each_seen F.is_element F.coding.ops.nought b.waits b.width b.size b.places.items _ c.self.view_is
    c.self.invariant.whole c.self.invariant.elements

pub returns-else-met-self-clause-stripes : goal.returns-else-met-self-clause-stripes
returns-else-met-self-clause-stripes g c =
    let F = g.F.Field in
    let b = c.self.inside in
    let each = stripes_each F.is_element F.coding.ops.nought b.waits b.width b.size b.places.items
    c.self.invariant.whole c.self.invariant.elements in
    let x = g.F.Rows.element_of c.args.x.now in
    let i = g.F.Rows.element_of c.args.inverse.now in
    subst (λ (v : HeldBlock g.row.F-Elem.Denot). v.stripes
    ≡ begun_all F.coding.ops c.args.met x i v.stripes
    (words F.coding.spelt F.coding.width (length v.stripes) c.args.values.now)) c.self.view_is
    (sym (begun_none F.coding.ops c.args.met x i _ _ (All F.is_element) b.size c.if-met-self.false each))

pub begin_row-requires-clause-narrow : goal.begin_row-requires-clause-narrow
begin_row-requires-clause-narrow g c = c.self.invariant.narrow

pub begin_row-requires-clause-longer : goal.begin_row-requires-clause-longer
begin_row-requires-clause-longer g c = c.if-met-self.true

pub begin_row-requires-clause-point : goal.begin_row-requires-clause-point
begin_row-requires-clause-point g c = c.requires.point

pub begin_row-requires-clause-inverse : goal.begin_row-requires-clause-inverse
begin_row-requires-clause-inverse g c = c.requires.inverse

pub returns-then-met-self-clause-size : goal.returns-then-met-self-clause-size
returns-then-met-self-clause-size g c = ap (λ (v : HeldBlock g.row.F-Elem.Denot). v.size) c.self.view_is

pub returns-then-met-self-clause-waits : goal.returns-then-met-self-clause-waits
returns-then-met-self-clause-waits g c = ap (λ (v : HeldBlock g.row.F-Elem.Denot). v.waits) c.self.view_is

pub returns-else-met-self-clause-size : goal.returns-else-met-self-clause-size
returns-else-met-self-clause-size g c = refl

pub returns-else-met-self-clause-waits : goal.returns-else-met-self-clause-waits
returns-else-met-self-clause-waits g c = refl

pub returns-else-met-self-clause-cost : goal.returns-else-met-self-clause-cost
returns-else-met-self-clause-cost g c =
    let F = g.F.Field in
    let b = c.self.inside in
    let none = none_longer F.is_element F.coding.ops.nought b.waits b.width b.size b.places.items _ c.self.view_is
    c.self.invariant.whole c.self.invariant.elements c.args.met (omega arith) in
    omega (arith, ap (λ n. n * (c.args.met + 1)) none)
