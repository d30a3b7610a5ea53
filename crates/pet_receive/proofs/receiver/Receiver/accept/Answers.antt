use Rattle.std.proofs.Common.{ℕ, subst}
use Rattle.packet_frame.specs.declared.format.TheConstants.{FORMAT}
use Rattle.packet_verdicts.specs.KeptSet.{IsKeptSetBy}
use Rattle.packet_receiver.specs.Arrivals.{kept_set}
use Rattle.packet_receiver.specs.laws.FrontLaws.{takes_at_most}
use Rattle.pet_receive.proofs.receiver.Receiver.accept.Goals as goal

pub returns-clause-cost : goal.returns-clause-cost
returns-clause-cost g c =
    takes_at_most FORMAT c.self.inside.core c.args.self.now c.args.datagram.now c.args.steps.now c.accept.new.steps
    c.accept.result c.self.invariant.0 c.self.view_is c.accept.ensures.cost

pub returns-clause-sound : goal.returns-clause-sound
returns-clause-sound g c =
    subst (λ (w : ℕ). IsKeptSetBy w (kept_set c.accept.new.self)) c.self.invariant.1 c.accept.ensures.sound
