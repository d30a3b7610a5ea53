use Rattle.std.proofs.Common.{◌+◌, ◌≤◌, ℕ, List, length, take, get_or, refl, sym, ap₂, subst, ◌∙◌, arith, rules}
use Rattle.std.proofs.lemmas.List.{take_all}
use Rattle.packet_session.specs.Encoding.{Encoding}
use Rattle.packet_session.specs.Session.{IsSession}
use Rattle.packet_met.specs.EncodedSession.{encoded_session}
use Rattle.pet_base.specs.declared.event.Event.{Event}
use Rattle.pet_base.specs.declared.event.Event.TheVariants.{Give}
use Rattle.pet_world.specs.ReceivedSets.{event_refusal, sets_after_all}
use Rattle.command_replay.specs.inside.Playing.{ArePlayed}
use Rattle.command_replay.proofs.PlayedEvents.{none_played, next_played}
use Rattle.command_replay.proofs.playing.play_events.Goals as goal

pub loop-index-init : goal.loop-index-init
loop-index-init g c = record {
  few = omega arith;
  played = none_played c.args.world.now c.args.text.now.items;
}

pub play_event-requires-clause-session : goal.play_event-requires-clause-session
play_event-requires-clause-session g c =
    subst (λ (es : List Encoding). IsSession 2 (encoded_session es)) (sym c.loop-index.invariant.played.encoders)
    c.requires.session

pub play_event-requires-clause-few : goal.play_event-requires-clause-few
play_event-requires-clause-few g c = omega (arith, c.loop-index.invariant.played.many, c.requires.few)

pub play_event-requires-clause-known : goal.play_event-requires-clause-known
play_event-requires-clause-known g c =
    let i = c.loop-index.index in
    let d = Give 0 0 0 in
    let played = c.loop-index.invariant.played in
    ap₂ (λ (n : ℕ) (es : List Encoding). event_refusal n (encoded_session es) (get_or c.args.events.now i d))
    played.many played.encoders
    ∙ c.requires.known i d c.loop-index-test.true

pub play_event-requires-clause-met : goal.play_event-requires-clause-met
play_event-requires-clause-met g c = (
  sets_after_all c.requires.met.0 (take c.loop-index.index c.args.events.now),
  (c.loop-index.invariant.played.played c.requires.met.0 c.requires.met.1).0,
)

pub loop-index-preserved : goal.loop-index-preserved
loop-index-preserved g c =
    let i = c.loop-index.index in
    record {
      few = omega (arith, c.loop-index-test.true);
      played =
          next_played c.args.world.now c.loop-index.world c.play_event.new.world c.args.events.now i (i + 1)
          (Give 0 0 0) c.args.text.now.items c.loop-index.text.items c.play_event.new.text.items
          c.loop-index-test.true refl c.loop-index.invariant.played c.in_ok-play_event.ensures.played;
    }

pub returns : goal.returns
returns g c =
    let end : length c.args.events.now ≤ c.loop-index.index = search rules in
    record {
      played =
          subst (λ (xs : List Event). ArePlayed c.args.world.now xs c.args.text.now.items c.loop-index.world
          c.loop-index.text.items) (take_all c.loop-index.index c.args.events.now end) c.loop-index.invariant.played;
    }
