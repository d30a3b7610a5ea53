use Rattle.std.proofs.Common.{◌≡◌, List, ℕ, sym, subst}
use Rattle.packet_session.specs.Encoding.{Encoding}
use Rattle.command_sample.specs.inside.Receiving.{IsPacketText}
use Rattle.command_sample.proofs.Handing.{handed, handed_cost}
use Rattle.command_sample.proofs.receiving.hand_on.Goals as goal

-- so is the text that was lent
lent_text : (e : Encoding) (number : ℕ) (lent bytes : List ℕ) → lent ≡ bytes → IsPacketText e number bytes
    → IsPacketText e number lent
lent_text e number lent bytes is packet = subst (λ (b : List ℕ). IsPacketText e number b) (sym is) packet

pub returns-clause-received : goal.returns-clause-received
returns-clause-received g c =
    λ s pairs source has.
    handed s pairs c.args.receiver.now c.args.encoder.now c.args.number source has c.deref.result.now
    (lent_text _ _ _ _ c.deref.ensures.value c.in_ok-datagram.ensures.packet)
    c.accept.new.receiver c.datagram_of.new.steps c.accept.new.steps c.in_ok-accept.ensures.accepts

pub returns-clause-cost : goal.returns-clause-cost
returns-clause-cost g c =
    λ s pairs source has.
    handed_cost s pairs c.args.receiver.now c.args.encoder.now c.args.number source has c.deref.result.now
    (lent_text _ _ _ _ c.deref.ensures.value c.in_ok-datagram.ensures.packet)
    c.accept.new.receiver c.args.steps.now c.datagram_of.new.steps c.accept.new.steps c.datagram_of.ensures.cost
    c.in_ok-accept.ensures.accepts
