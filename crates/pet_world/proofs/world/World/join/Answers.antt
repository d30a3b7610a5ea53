use Rattle.std.proofs.Common.{length, ap, subst, ◌∙◌}
use Rattle.pet_base.specs.declared.event.Event.TheVariants.{Join}
use Rattle.pet_world.specs.World.{WorldState, world_of, refusal_in}
use Rattle.packet_met.specs.EncodedSession.{encoded_session}
use Rattle.pet_world.proofs.Known.{joined_known}
use Rattle.pet_world.proofs.JoinSteps.{itself_done}
use Rattle.pet_world.specs.inside.EventDone.{IsDone}
use Rattle.pet_world.proofs.world.World.join.Goals as goal

pub returns-then-receiver-other-clause-done : goal.returns-then-receiver-other-clause-done
returns-then-receiver-other-clause-done g c =
    let w = world_of c.self.inside.encoders.items c.self.inside.limit c.self.inside.receivers.items in
    let event = Join c.args.receiver c.args.other in
    let req = ap (λ (x : WorldState g.row.F-Elem.Denot). refusal_in x event) c.self.view_is ∙ c.requires in
    let here = (joined_known (length w.receivers) (encoded_session w.encoders) c.args.receiver c.args.other req).0 in
    subst (λ (x : WorldState g.row.F-Elem.Denot). IsDone g.F.Field.coding x event c.new.result.items x c.args.steps.now
    c.args.steps.now) c.self.view_is
    (itself_done g.F.Field.COUNT g.F.Field.coding w c.self.invariant c.args.receiver c.args.other c.new.result.items
    c.args.steps.now c.if-receiver-other.true here c.new.ensures.items)
