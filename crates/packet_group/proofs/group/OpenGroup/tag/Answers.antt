use Rattle.std.specs.Prelude.{slice_index_or}
use Rattle.std.proofs.Common.{ℕ, List, Option, None, sym, ap, ◌∙◌, subst}
use Rattle.packet_set.specs.Packets.{Packets, slot_at}
use Rattle.packet_group.specs.OpenGroup.{GroupState}
use Rattle.packet_group.specs.Tags.{IsTagOf}
use Rattle.packet_group.proofs.Tagging.{tag_stored}
use Rattle.packet_group.proofs.group.OpenGroup.tag.Goals as goal

pub returns-in-Some : goal.returns-in-Some
returns-in-Some g c =
    let packets = ap (λ (v : GroupState g.row.F-Elem.Denot). v.packets) c.self.view_is in
    let number = c.args.number in
    tag_stored c.args.self.now.packets number c.in_ok-payload.payload.now c.in-Some.tag
    (c.in_ok-payload.ensures.value ∙ ap (λ (p : Packets). slot_at p number) packets)
    (subst (λ (p : Packets). IsTagOf p number c.in-Some.tag) packets
    (c.self.invariant.tagged number c.in-Some.tag
    (ap (λ (t : List (Option (List ℕ))). slice_index_or t number None) (sym c.deref.ensures.value)
    ∙ sym c.in-Some.ensures)))
