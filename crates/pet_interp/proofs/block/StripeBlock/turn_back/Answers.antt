use Rattle.std.proofs.Common.{◌≡◌, ◌∙◌, ◌-◌, ◌*◌, true, length, ap, sym, arith}
use Rattle.std.specs.Prelude.{nat_lt}
use Rattle.std.proofs.lemmas.Bool.{lt-ltb}
use Rattle.std.proofs.lemmas.List.{with_items_is}
use Rattle.std.proofs.lemmas.List.Elements.{All-same}
use Rattle.field_rows.specs.Columns.{block_columns}
use Rattle.field_rows.specs.Stripes.{cut}
use Rattle.pet_interp.specs.Blocks.{HeldBlock}
use Rattle.pet_interp.proofs.BlockStripes.{length-stripes, stripes_waiting, turned_stripes, turned_elements}
use Rattle.pet_interp.proofs.BlockStripes.{laid_new}
use Rattle.pet_interp.proofs.block.StripeBlock.turn_back.Goals as goal

pub turn_rows-requires-clause-room : goal.turn_rows-requires-clause-room
turn_rows-requires-clause-room g c =
    let b = c.self.inside in
    let z = g.F.Field.coding.ops.nought in
    let size : b.size * b.width ≡ c.args.self.now.size * length c.args.self.now.stripes =
    ap (λ n. b.size * n) (sym (length-stripes z b.waits b.width b.size b.places.items))
    ∙ ap (λ (v : HeldBlock g.row.F-Elem.Denot). v.size * length v.stripes) c.self.view_is in
    rw size c.requires.room

pub invariant_of-self : goal.invariant_of-self
invariant_of-self g c =
    let P = g.F.Field.is_element in
    let b = c.self.inside in
    let old = c.deref_mut.result.now in
    let new = c.turn_rows.new.rows in
    let was = c.deref_mut.ensures.value in
    let whole : length old ≡ b.size * b.width = ap length was ∙ c.self.invariant.whole in
    laid_new P b.width b.size _ new old b.places.items
    (with_items_is b.places new (c.turn_rows.auto.rows ∙ c.deref_mut.ensures.len)) c.turn_rows.auto.rows was
    c.self.invariant
    (turned_elements P g.F.Field.coding.ops.nought b.width b.size old new (c.turn_rows.auto.rows ∙ whole) whole
    (All-same P old b.places.items was c.self.invariant.elements) (c.turn_rows.ensures g.F.Field.coding.ops.nought))

pub returns-then-self-met-clause-stripes : goal.returns-then-self-met-clause-stripes
returns-then-self-met-clause-stripes g c =
    let z = g.F.Field.coding.ops.nought in
    let b = c.self.inside in
    let old = c.deref_mut.result.now in
    let new = c.turn_rows.new.rows in
    let kept = with_items_is b.places new (c.turn_rows.auto.rows ∙ c.deref_mut.ensures.len) in
    let whole : length old ≡ b.size * b.width = ap length c.deref_mut.ensures.value ∙ c.self.invariant.whole in
    let waits : b.waits ≡ true =
    ap (λ (v : HeldBlock g.row.F-Elem.Denot). v.waits) c.self.view_is ∙ c.requires.waits
    ∙ ap (λ (v : HeldBlock g.row.F-Elem.Denot). nat_lt (c.args.met - 1) v.size) (sym c.self.view_is)
    ∙ lt-ltb (c.args.met - 1) b.size (omega arith) in
    ap (cut b.width b.size) kept
    ∙ turned_stripes z b.width b.size old new (c.turn_rows.auto.rows ∙ whole) (c.turn_rows.ensures z)
    ∙ ap (block_columns z b.width b.size) c.deref_mut.ensures.value
    ∙ sym (stripes_waiting z b.waits b.width b.size b.places.items waits)
    ∙ ap (λ (v : HeldBlock g.row.F-Elem.Denot). v.stripes) c.self.view_is
