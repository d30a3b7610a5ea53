use Rattle.std.proofs.Common.{length, List, false, ap, ◌∙◌, arith}
use Rattle.std.specs.Prelude.{slice_get, nat_lt}
use Rattle.std.specs.Option.{option_map_or}
use Rattle.packet_session.specs.Encoding.{Encoding}
use Rattle.pet_base.specs.declared.event.Event.TheVariants.{Give}
use Rattle.pet_world.specs.World.{WorldState, world_of, refusal_in}
use Rattle.packet_met.specs.EncodedSession.{encoded_session}
use Rattle.pet_world.proofs.Known.{known, given_known, packet_known}
use Rattle.pet_world.proofs.OneEvent.{lent_again, lent_done}
use Rattle.pet_world.proofs.GiveSteps.{give_facts}
use Rattle.pet_world.proofs.world.World.give.Goals as goal

pub datagram_of-requires : goal.datagram_of-requires
datagram_of-requires g c =
    let w = world_of c.self.inside.encoders.items c.self.inside.limit c.self.inside.receivers.items in
    let event = Give c.args.receiver c.args.group c.args.number in
    let req = ap (λ (x : WorldState g.row.F-Elem.Denot). refusal_in x event) c.self.view_is ∙ c.requires in
    ap (λ (es : List Encoding). option_map_or (λ (e : Encoding). nat_lt c.args.number e.header.table.packets)
    (slice_get es c.args.group) false) c.deref.ensures.value
    ∙ packet_known w.encoders c.args.group c.args.number
    ∙ (known (length w.receivers) (encoded_session w.encoders) event req).1

pub accept_at-requires : goal.accept_at-requires
accept_at-requires g c =
    let w = world_of c.self.inside.encoders.items c.self.inside.limit c.self.inside.receivers.items in
    let event = Give c.args.receiver c.args.group c.args.number in
    let req = ap (λ (x : WorldState g.row.F-Elem.Denot). refusal_in x event) c.self.view_is ∙ c.requires in
    omega (
      arith,
      given_known (length w.receivers) (encoded_session w.encoders) c.args.receiver c.args.group c.args.number req,
      ap (λ (xs : List _). length xs) c.deref_mut.ensures.value,
      c.from.ensures,
    )

pub invariant_of-self-2 : goal.invariant_of-self-2
invariant_of-self-2 g c =
    let w = world_of c.self.inside.encoders.items c.self.inside.limit c.self.inside.receivers.items in
    let facts = give_facts g.F.Field.COUNT g.F.Field.coding w c.self.invariant c.args.receiver c.from.result
    c.args.group c.args.number c.deref.result.now c.deref_mut.result.now c.accept_at.new.receivers
    c.in_ok-datagram.datagram.items c.deref-2.result.now
    c.in_ok-verdict.verdict c.shown_by_verdict.result.items c.args.steps.now c.datagram_of.new.steps
    c.accept_at.new.steps c.from.ensures c.deref.ensures.value c.deref_mut.ensures.value c.deref-2.ensures.value
    c.shown_by_verdict.ensures
    c.in_ok-datagram.ensures c.in_ok-verdict.ensures.accepts in
    lent_again g.F.Field.COUNT g.F.Field.coding w
    (Give c.args.receiver c.args.group c.args.number) c.shown_by_verdict.result.items c.accept_at.new.receivers
    c.self.inside.receivers.items c.self.inside.receivers.len c.args.steps.now c.accept_at.new.steps
    (omega (arith, c.accept_at.auto.receivers, c.deref_mut.ensures.len)) facts

pub returns-clause-done : goal.returns-clause-done
returns-clause-done g c =
    let w = world_of c.self.inside.encoders.items c.self.inside.limit c.self.inside.receivers.items in
    let facts = give_facts g.F.Field.COUNT g.F.Field.coding w c.self.invariant c.args.receiver c.from.result
    c.args.group c.args.number c.deref.result.now c.deref_mut.result.now c.accept_at.new.receivers
    c.in_ok-datagram.datagram.items c.deref-2.result.now
    c.in_ok-verdict.verdict c.shown_by_verdict.result.items c.args.steps.now c.datagram_of.new.steps
    c.accept_at.new.steps c.from.ensures c.deref.ensures.value c.deref_mut.ensures.value c.deref-2.ensures.value
    c.shown_by_verdict.ensures
    c.in_ok-datagram.ensures c.in_ok-verdict.ensures.accepts in
    lent_done g.F.Field.COUNT g.F.Field.coding w
    (Give c.args.receiver c.args.group c.args.number) c.shown_by_verdict.result.items c.accept_at.new.receivers
    c.self.inside.receivers.items c.self.inside.receivers.len c.args.steps.now c.accept_at.new.steps
    (omega (arith, c.accept_at.auto.receivers, c.deref_mut.ensures.len)) facts c.args.self.now c.self.view_is
