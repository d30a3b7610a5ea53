use Rattle.std.proofs.Common.{ℕ, length, map, List, ap, ◌∙◌, arith}
use Rattle.std.proofs.lemmas.List.{length-map}
use Rattle.pet_base.specs.declared.event.Event.TheVariants.{Join}
use Rattle.pet_world.specs.ReceivedSets.{shown_to}
use Rattle.pet_world.specs.World.{WorldState, world_of, refusal_in}
use Rattle.packet_met.specs.EncodedSession.{encoded_session}
use Rattle.pet_world.proofs.Known.{joined_known}
use Rattle.pet_world.proofs.OneEvent.{lent_again, lent_done}
use Rattle.pet_world.proofs.JoinSteps.{join_facts, join_room, only_memory}
use Rattle.pet_world.proofs.world.World.join_other.Goals as goal

pub absorb_at-requires-clause-here : goal.absorb_at-requires-clause-here
absorb_at-requires-clause-here g c =
    let w = world_of c.self.inside.encoders.items c.self.inside.limit c.self.inside.receivers.items in
    let req = ap (λ (x : WorldState g.row.F-Elem.Denot). refusal_in x (Join c.args.receiver c.args.other))
    c.self.view_is ∙ c.requires.known in
    omega (
      arith,
      (joined_known (length w.receivers) (encoded_session w.encoders) c.args.receiver c.args.other req).0,
      ap (λ (xs : List _). length xs) c.deref_mut.ensures.value,
      c.from-here.ensures,
    )

pub absorb_at-requires-clause-there : goal.absorb_at-requires-clause-there
absorb_at-requires-clause-there g c =
    let w = world_of c.self.inside.encoders.items c.self.inside.limit c.self.inside.receivers.items in
    let req = ap (λ (x : WorldState g.row.F-Elem.Denot). refusal_in x (Join c.args.receiver c.args.other))
    c.self.view_is ∙ c.requires.known in
    omega (
      arith,
      (joined_known (length w.receivers) (encoded_session w.encoders) c.args.receiver c.args.other req).1,
      ap (λ (xs : List _). length xs) c.deref_mut.ensures.value,
      c.from-there.ensures,
    )

abbrev same : ℕ × ℕ → ℕ × ℕ
same s = (s.0, s.1)

pub not_joined-requires : goal.not_joined-requires
not_joined-requires g c =
    let w = world_of c.self.inside.encoders.items c.self.inside.limit c.self.inside.receivers.items in
    only_memory g.F.Field.COUNT g.F.Field.coding w c.self.invariant c.from-here.result c.from-there.result
    c.deref_mut.result.now c.in-Err.fault c.deref_mut.ensures.value c.in-Err.ensures.refused

pub shown_of_pairs-requires-clause-room : goal.shown_of_pairs-requires-clause-room
shown_of_pairs-requires-clause-room g c =
    let w = world_of c.self.inside.encoders.items c.self.inside.limit c.self.inside.receivers.items in
    let few = join_room g.F.Field.COUNT g.F.Field.coding w c.self.invariant c.args.receiver c.from-here.result
    c.args.other c.from-there.result c.deref.result.now
    (map same c.in-Ok.layers.items) c.deref_mut.result.now c.absorb_at.new.receivers
    c.most_layers.result c.args.steps.now c.absorb_at.new.steps c.from-here.ensures c.from-there.ensures
    c.deref.ensures.value c.deref_mut.ensures.value c.most_layers.ensures c.in-Ok.ensures.takes in
    omega (
      arith,
      few,
      length-map c.in-Ok.layers.items same,
      ap (λ (l : List (ℕ × ℕ)). length l) c.deref-3.ensures.value,
      c.in_ok-room.ensures.exact,
    )

pub invariant_of-self-2 : goal.invariant_of-self-2
invariant_of-self-2 g c =
    let w = world_of c.self.inside.encoders.items c.self.inside.limit c.self.inside.receivers.items in
    let facts = join_facts g.F.Field.COUNT g.F.Field.coding w c.self.invariant c.args.receiver c.from-here.result
    c.args.other c.from-there.result (map same c.in-Ok.layers.items) c.deref_mut.result.now c.absorb_at.new.receivers
    c.shown_of_pairs.result.items c.args.steps.now c.absorb_at.new.steps c.from-here.ensures c.from-there.ensures
    c.deref_mut.ensures.value
    (c.shown_of_pairs.ensures
    ∙ ap (λ (l : List (ℕ × ℕ)). shown_to c.args.receiver (map same l)) c.deref-3.ensures.value) c.in-Ok.ensures.takes in
    lent_again g.F.Field.COUNT g.F.Field.coding w
    (Join c.args.receiver c.args.other) c.shown_of_pairs.result.items c.absorb_at.new.receivers
    c.self.inside.receivers.items c.self.inside.receivers.len c.args.steps.now c.absorb_at.new.steps
    (omega (arith, c.absorb_at.auto.receivers, c.deref_mut.ensures.len)) facts

pub returns-clause-done : goal.returns-clause-done
returns-clause-done g c =
    let w = world_of c.self.inside.encoders.items c.self.inside.limit c.self.inside.receivers.items in
    let facts = join_facts g.F.Field.COUNT g.F.Field.coding w c.self.invariant c.args.receiver c.from-here.result
    c.args.other c.from-there.result (map same c.in-Ok.layers.items) c.deref_mut.result.now c.absorb_at.new.receivers
    c.shown_of_pairs.result.items c.args.steps.now c.absorb_at.new.steps c.from-here.ensures c.from-there.ensures
    c.deref_mut.ensures.value
    (c.shown_of_pairs.ensures
    ∙ ap (λ (l : List (ℕ × ℕ)). shown_to c.args.receiver (map same l)) c.deref-3.ensures.value) c.in-Ok.ensures.takes in
    lent_done g.F.Field.COUNT g.F.Field.coding w
    (Join c.args.receiver c.args.other) c.shown_of_pairs.result.items c.absorb_at.new.receivers
    c.self.inside.receivers.items c.self.inside.receivers.len c.args.steps.now c.absorb_at.new.steps
    (omega (arith, c.absorb_at.auto.receivers, c.deref_mut.ensures.len)) facts c.args.self.now c.self.view_is
