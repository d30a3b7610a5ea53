use Rattle.std.specs.Prelude.{IsSome, IfSome, MatchOption}
use Rattle.std.proofs.Common.{◌≡◌, ◌↔◌, sym, subst}
use Rattle.packet_set.specs.Packets.{Packets}
use Rattle.packet_session.specs.Session.{IsMessage, bytes_of_layer}
use Rattle.packet_receiver.specs.Arrivals.{numbers_of, layers_of}
use Rattle.packet_receiver.specs.ShownBytes.{IsShownIn, IsShownBytes, Agrees}
use Rattle.packet_receiver.proofs.Received.{opened_seen, closed_seen, packets_seen, holds_seen}
use Rattle.packet_receiver.proofs.receiver.PacketReceiver.layer.Goals as goal

pub returns-in-Some-clause-shown : goal.returns-in-Some-clause-shown
returns-in-Some-clause-shown g c =
    subst (λ o. IsSome c.layer.result ↔ MatchOption o ⊥ (λ (p : Packets). IsShownIn p c.args.layer))
    (sym (opened_seen c.self.view_is c.args.group c.in-Some.open.now c.in-Some.ensures.value)) c.layer.ensures.shown

pub returns-in-Some-clause-bytes : goal.returns-in-Some-clause-bytes
returns-in-Some-clause-bytes g c order p kept is =
    let F = g.F.Field in
    let numbers = numbers_of order c.args.group in
    subst (λ (q : Packets). IfSome c.layer.result
    (λ bytes. IsShownBytes F.is_element F.coding q numbers c.args.layer bytes.now))
    (packets_seen c.self.view_is c.args.group c.in-Some.open.now c.in-Some.ensures.value p is)
    (c.layer.ensures.bytes numbers (holds_seen c.self.view_is c.args.group c.in-Some.open.now c.in-Some.ensures.value
    F.is_element F.coding order kept))

pub returns-in-Some-clause-agreed : goal.returns-in-Some-clause-agreed
returns-in-Some-clause-agreed g c p message is message_is agrees =
    let F = g.F.Field in
    let same : c.in-Some.open.now.packets ≡ p =
    packets_seen c.self.view_is c.args.group c.in-Some.open.now c.in-Some.ensures.value p is in
    subst (λ (q : Packets). IfSome c.layer.result
    (λ bytes. bytes.now ≡ bytes_of_layer F.coding.width (layers_of q) message c.args.layer)) same
    (c.layer.ensures.agreed message
    (subst (λ (q : Packets). IsMessage F.coding.width (layers_of q) message) (sym same) message_is)
    (subst (λ (q : Packets). Agrees F.coding q message) (sym same) agrees))

pub returns-in-None-clause-shown : goal.returns-in-None-clause-shown
returns-in-None-clause-shown g c = (
  λ some. absurd (cc),
  λ shown. absurd (subst (λ o. MatchOption o ⊥ (λ (p : Packets). IsShownIn p c.args.layer))
      (closed_seen c.self.view_is c.args.group c.in-None.ensures.value) shown),
)
