use Rattle.std.proofs.Common.{length, List, refl, ap, ◌∙◌, arith}
use Rattle.pet_base.specs.declared.event.Event.TheVariants.{Reopen}
use Rattle.pet_world.specs.World.{WorldState, world_of, refusal_in}
use Rattle.packet_met.specs.EncodedSession.{encoded_session}
use Rattle.pet_world.proofs.Known.{reopened_known}
use Rattle.pet_world.proofs.OneEvent.{lent_again, lent_done}
use Rattle.pet_world.proofs.ReopenSteps.{reopen_facts, only_memory_read}
use Rattle.pet_world.proofs.world.World.reopen.Goals as goal

pub reopen_at-requires-clause-here : goal.reopen_at-requires-clause-here
reopen_at-requires-clause-here g c =
    let w = world_of c.self.inside.encoders.items c.self.inside.limit c.self.inside.receivers.items in
    let req = ap (λ (x : WorldState g.row.F-Elem.Denot). refusal_in x (Reopen c.args.receiver)) c.self.view_is
    ∙ c.requires in
    omega (
      arith,
      reopened_known (length w.receivers) (encoded_session w.encoders) c.args.receiver req,
      ap (λ (xs : List _). length xs) c.deref_mut.ensures.value,
      c.from-here.ensures,
    )

pub not_reopened-requires : goal.not_reopened-requires
not_reopened-requires g c =
    let w = world_of c.self.inside.encoders.items c.self.inside.limit c.self.inside.receivers.items in
    only_memory_read g.F.Field.COUNT g.F.Field.coding w c.self.invariant c.from-here.result c.self.inside.limit
    c.deref_mut.result.now c.in-Err.fault refl c.deref_mut.ensures.value c.in-Err.ensures.refused

pub invariant_of-self-2 : goal.invariant_of-self-2
invariant_of-self-2 g c =
    let w = world_of c.self.inside.encoders.items c.self.inside.limit c.self.inside.receivers.items in
    let facts = reopen_facts g.F.Field.COUNT g.F.Field.coding w c.self.invariant c.args.receiver c.from-here.result
    c.self.inside.limit c.deref_mut.result.now c.reopen_at.new.receivers c.new.result.items c.args.steps.now
    c.reopen_at.new.steps
    c.from-here.ensures refl c.deref_mut.ensures.value c.new.ensures.items c.in-Ok.ensures.reopens in
    lent_again g.F.Field.COUNT g.F.Field.coding w
    (Reopen c.args.receiver) c.new.result.items c.reopen_at.new.receivers c.self.inside.receivers.items
    c.self.inside.receivers.len c.args.steps.now c.reopen_at.new.steps
    (omega (arith, c.reopen_at.auto.receivers, c.deref_mut.ensures.len)) facts

pub returns-clause-done : goal.returns-clause-done
returns-clause-done g c =
    let w = world_of c.self.inside.encoders.items c.self.inside.limit c.self.inside.receivers.items in
    let facts = reopen_facts g.F.Field.COUNT g.F.Field.coding w c.self.invariant c.args.receiver c.from-here.result
    c.self.inside.limit c.deref_mut.result.now c.reopen_at.new.receivers c.new.result.items c.args.steps.now
    c.reopen_at.new.steps
    c.from-here.ensures refl c.deref_mut.ensures.value c.new.ensures.items c.in-Ok.ensures.reopens in
    lent_done g.F.Field.COUNT g.F.Field.coding w
    (Reopen c.args.receiver) c.new.result.items c.reopen_at.new.receivers c.self.inside.receivers.items
    c.self.inside.receivers.len c.args.steps.now c.reopen_at.new.steps
    (omega (arith, c.reopen_at.auto.receivers, c.deref_mut.ensures.len)) facts c.args.self.now c.self.view_is
