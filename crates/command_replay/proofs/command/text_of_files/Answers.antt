use Rattle.std.proofs.Common.{List, sym, ap, subst, ◌∙◌}
use Rattle.pet_base.specs.declared.event.Event.{Event}
use Rattle.pet_base.specs.laws.Through.{each_err_and}
use Rattle.command_replay.specs.Replays.{Replays}
use Rattle.command_replay.specs.ReplayText.{replay_text}
use Rattle.command_replay.specs.inside.Held.{AreKnown, held_session}
use Rattle.command_replay.proofs.HeldSession.{held, tables_few, events_known}
use Rattle.command_replay.proofs.ReplayCauses.{script_cause, text_of}
use Rattle.command_replay.proofs.command.text_of_files.Goals as goal

pub read_events-requires : goal.read_events-requires
read_events-requires g c =
    let s = c.in_ok-whole.ensures.source in
    let files = (g.P.Place.seen c.args.place.now).files in
    record {
      few =
          tables_few c.in_ok-whole.whole
          (held files c.args.stream.now c.args.priority.now c.in_ok-whole.whole s.0 s.1);
    }

pub returns-in_err-events-clause-cause : goal.returns-in_err-events-clause-cause
returns-in_err-events-clause-cause g c =
    let s = c.in_ok-whole.ensures.source in
    let old = g.P.Place.seen c.args.place.now in
    let between = g.P.Place.seen c.read_whole.new.place in
    let new = g.P.Place.seen c.read_events.new.place in
    each_err_and c.from_residual-in_err-events.result _ _
    (λ e is.
    subst (Replays old new c.args.stream.now c.args.priority.now c.args.script.now) (sym is)
    (script_cause old between c.args.stream.now c.args.priority.now c.args.script.now c.in_ok-whole.whole s.0 s.1
    c.read_whole.ensures.others.files new c.in_err-events.field-0.0 c.read_whole.ensures.later
    c.in_err-events.ensures.cause))
    c.from_residual-in_err-events.ensures.1

pub play-requires-clause-known : goal.play-requires-clause-known
play-requires-clause-known g c =
    let s = c.in_ok-whole.ensures.source in
    let files = (g.P.Place.seen c.args.place.now).files in
    let whole = c.in_ok-whole.whole in
    let has = c.in_ok-events.ensures.events in
    subst (λ (events : List Event). AreKnown (held_session whole) events) (sym c.deref.ensures.value)
    (events_known whole (held files c.args.stream.now c.args.priority.now whole s.0 s.1) has.bytes
    c.in_ok-events.events.items has.read)

pub returns-clause-text : goal.returns-clause-text
returns-clause-text g c =
    let s = c.in_ok-whole.ensures.source in
    let old = g.P.Place.seen c.args.place.now in
    let between = g.P.Place.seen c.read_whole.new.place in
    let whole = c.in_ok-whole.whole in
    text_of old between c.args.stream.now c.args.priority.now c.args.script.now whole s.0 s.1
    c.read_whole.ensures.others.files c.in_ok-events.events.items c.in_ok-text.text c.in_ok-events.ensures.events
    (c.in_ok-text.ensures.text ∙ ap (replay_text (held_session whole)) c.deref.ensures.value)
