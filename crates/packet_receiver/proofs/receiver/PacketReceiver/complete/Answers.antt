use Rattle.std.specs.Prelude.{IsTrue, nat_eq}
use Rattle.std.proofs.Common.{◌↔◌, false, refl, sym, ◌∙◌, subst}
use Rattle.packet_receiver.specs.ShownBytes.{IsComplete}
use Rattle.packet_receiver.specs.Arrivals.{ReceiverState, kept_set}
use Rattle.packet_verdicts.specs.GroupLayers.{whole_in}
use Rattle.packet_receiver.proofs.Fields.{receiver_of}
use Rattle.packet_receiver.proofs.Sums.{sum_seen, whole_fits, complete_is, not_complete}
use Rattle.packet_receiver.proofs.receiver.PacketReceiver.complete.Goals as goal

pub total-requires : goal.total-requires
total-requires g c = whole_fits (receiver_of c.self.inside) c.self.invariant.set

pub returns-in-Some : goal.returns-in-Some
returns-in-Some g c =
    let r = receiver_of c.self.inside in
    subst (λ (v : ReceiverState g.row.F-Elem.Denot). IsTrue (nat_eq c.total.result c.in-Some.groups)
    ↔ IsComplete (kept_set v)) c.self.view_is
    (complete_is (kept_set r) c.self.invariant.set c.in-Some.groups c.total.result
    (sym c.self.invariant.told_is ∙ c.in-Some.is) (c.total.ensures ∙ sum_seen whole_in {r = r} refl))

pub returns-in-None : goal.returns-in-None
returns-in-None g c =
    subst (λ (v : ReceiverState g.row.F-Elem.Denot). IsTrue false ↔ IsComplete (kept_set v)) c.self.view_is
    (not_complete (kept_set (receiver_of c.self.inside)) (sym c.self.invariant.told_is ∙ c.in-None.is))
