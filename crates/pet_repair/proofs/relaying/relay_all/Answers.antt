use Rattle.std.proofs.Common.{◌+◌, ◌∙◌, [], take, arith, refl, subst}
use Rattle.outside_routes.specs.Way.{way_of}
use Rattle.outside_routes.specs.Coming.{coming, TakesDatagram}
use Rattle.outside_routes.specs.RouteFaults.{stop_of_route}
use Rattle.outside_routes.specs.Sending.{routes}
use Rattle.outside_routes.specs.laws.SendingLaws.{grows_open}
use Rattle.packet_reading.specs.laws.BegunLaws.{input_kept}
use Rattle.pet_repair.specs.declared.arriving.RelayStop.TheVariants.{Route}
use Rattle.pet_repair.specs.inside.RelaySoFar.{StopsRelaying}
use Rattle.pet_repair.specs.laws.SessionRelayed.{between_same}
use Rattle.pet_repair.proofs.ArrivalMade.{err_is}
use Rattle.pet_repair.proofs.BetweenKept.{between_then, between_more, between_sent, between_stopped}
use Rattle.pet_repair.proofs.RelayedMore.{stands_after, so_far_start, relayed_all, relayed_more, stops_taking, stops_at_one}
use Rattle.pet_repair.proofs.RelayedMore.{later_same, later_taken, later_grown, open_taken, relayed_many}
use Rattle.pet_repair.proofs.relaying.relay_all.Goals as goal

pub loop-turn-init : goal.loop-turn-init
loop-turn-init g c =
    let r = routes g.P.Place g.K.Link c.args.place.now c.args.link.now in
    record {
      so_far = so_far_start (way_of c.args.from) (way_of c.args.to) c.args.receiver.now r;
      input = c.requires.input;
      is_open = c.requires.open;
      later = later_same r;
      kept = between_same (way_of c.args.from) (way_of c.args.to) (g.K.Link.seen c.args.link.now);
      calm_place = refl;
      calm_link = refl;
    }

pub returns-in_err-next_datagram-clause-stopped : goal.returns-in_err-next_datagram-clause-stopped
returns-in_err-next_datagram-clause-stopped g c =
    let from = way_of c.args.from in
    let to = way_of c.args.to in
    let first = routes g.P.Place g.K.Link c.args.place.now c.args.link.now in
    let before = routes g.P.Place g.K.Link c.loop-turn.place c.loop-turn.link in
    let now = routes g.P.Place g.K.Link c.next_datagram.new.place c.next_datagram.new.link in
    let failed = c.in_err-next_datagram.field-0.0 in
    err_is (StopsRelaying from to c.args.receiver.now first now) c.from_residual.result (Route (stop_of_route failed))
    c.from_residual.ensures.1
    (stops_taking from to c.args.receiver.now c.loop-turn.turn first before now c.loop-turn.receiver
    c.loop-turn.invariant.so_far c.loop-turn.invariant.later c.next_datagram.ensures.others (omega arith) failed
    c.in_err-next_datagram.ensures.feed c.in_err-next_datagram.ensures.part c.in_err-next_datagram.ensures.cause)

pub returns-in-End-clause-done : goal.returns-in-End-clause-done
returns-in-End-clause-done g c =
    let from = way_of c.args.from in
    let first = routes g.P.Place g.K.Link c.args.place.now c.args.link.now in
    let before = routes g.P.Place g.K.Link c.loop-turn.place c.loop-turn.link in
    let now = routes g.P.Place g.K.Link c.next_datagram.new.place c.next_datagram.new.link in
    let into = c.next_datagram.new.into in
    let step = subst (λ e. TakesDatagram (coming from before.place before.link) e into (coming from now.place now.link))
    c.in-End.is c.in_ok-next_datagram.ensures.datagram in
    relayed_all from (way_of c.args.to) c.args.receiver.now c.loop-turn.turn first before now c.loop-turn.receiver
    c.loop-turn.invariant.so_far c.loop-turn.invariant.later.names.target c.next_datagram.ensures.others into
    (omega arith) step

pub relay_one-requires-clause-sound : goal.relay_one-requires-clause-sound
relay_one-requires-clause-sound g c =
    let s = c.loop-turn.invariant.so_far in
    (stands_after c.args.receiver.now c.loop-turn.receiver s.read s.sent s.arrived [] c.requires.stands).sound

pub relay_one-requires-clause-open : goal.relay_one-requires-clause-open
relay_one-requires-clause-open g c =
    open_taken (way_of c.args.from) (way_of c.args.to) (routes g.P.Place g.K.Link c.loop-turn.place c.loop-turn.link)
    (routes g.P.Place g.K.Link c.next_datagram.new.place c.next_datagram.new.link) c.next_datagram.ensures.others
    c.loop-turn.invariant.is_open

pub returns-in_err-relay_one-in-Datagram-clause-stopped : goal.returns-in_err-relay_one-in-Datagram-clause-stopped
returns-in_err-relay_one-in-Datagram-clause-stopped g c =
    let from = way_of c.args.from in
    let to = way_of c.args.to in
    let first = routes g.P.Place g.K.Link c.args.place.now c.args.link.now in
    let before = routes g.P.Place g.K.Link c.loop-turn.place c.loop-turn.link in
    let between = routes g.P.Place g.K.Link c.next_datagram.new.place c.next_datagram.new.link in
    let now = routes g.P.Place g.K.Link c.relay_one.new.place c.relay_one.new.link in
    let into = c.next_datagram.new.into in
    let step = subst (λ e. TakesDatagram (coming from before.place before.link) e into
    (coming from between.place between.link))
    c.in-Datagram.is c.in_ok-next_datagram.ensures.datagram in
    let stop = c.in_err-relay_one-in-Datagram.field-0.0 in
    err_is (StopsRelaying from to c.args.receiver.now first now) c.from_residual-in_err-relay_one-in-Datagram.result stop
    c.from_residual-in_err-relay_one-in-Datagram.ensures.1
    (stops_at_one from to c.args.receiver.now c.loop-turn.turn first before between c.loop-turn.receiver
    c.loop-turn.invariant.so_far c.loop-turn.invariant.later c.next_datagram.ensures.others (omega arith)
    c.in-Datagram.len into step now c.in_err-relay_one-in-Datagram.ensures.told.others stop
    c.in_err-relay_one-in-Datagram.ensures.stopped)

pub loop-turn-preserved : goal.loop-turn-preserved
loop-turn-preserved g c =
    let from = way_of c.args.from in
    let to = way_of c.args.to in
    let first = routes g.P.Place g.K.Link c.args.place.now c.args.link.now in
    let before = routes g.P.Place g.K.Link c.loop-turn.place c.loop-turn.link in
    let between = routes g.P.Place g.K.Link c.next_datagram.new.place c.next_datagram.new.link in
    let now = routes g.P.Place g.K.Link c.relay_one.new.place c.relay_one.new.link in
    let into = c.next_datagram.new.into in
    let takes = c.next_datagram.ensures.others in
    let told = c.in_ok-relay_one-in-Datagram.ensures.told in
    let grows = told.others in
    let held = c.loop-turn.invariant in
    let step = subst (λ e. TakesDatagram (coming from before.place before.link) e into
    (coming from between.place between.link))
    c.in-Datagram.is c.in_ok-next_datagram.ensures.datagram in
    let done = c.in_ok-relay_one-in-Datagram.ensures.done in
    record {
      so_far =
          relayed_more from to c.args.receiver.now c.loop-turn.turn first before between c.loop-turn.receiver
          held.so_far held.later.names.target takes c.in-Datagram.len into step now grows (c.loop-turn.turn + 1)
          c.relay_one.new.receiver refl done;
      input =
          input_kept from before.place now.place (grows.place.has_input ∙ takes.place.has_input) held.input;
      is_open = grows_open to between now grows (open_taken from to before between takes held.is_open);
      later = later_grown first between now (later_taken from first before between held.later takes) grows;
      kept =
          between_then from to first.link between.link now.link
          (between_more from to first.link before between held.kept takes)
          (between_sent from to done.sent between now grows done.sends);
      calm_place = told.once_place ∙ c.in_ok-next_datagram.ensures.once_place ∙ held.calm_place;
      calm_link = told.once_link ∙ c.in_ok-next_datagram.ensures.once_link ∙ held.calm_link;
    }

pub returns-clause-done : goal.returns-clause-done
returns-clause-done g c =
    relayed_many (way_of c.args.from) (way_of c.args.to) c.args.receiver.now c.loop-turn.turn
    (routes g.P.Place g.K.Link c.args.place.now c.args.link.now)
    (routes g.P.Place g.K.Link c.loop-turn.place c.loop-turn.link) c.loop-turn.receiver
    c.loop-turn.invariant.so_far (omega arith)

pub returns-in_err-next_datagram-clause-kept : goal.returns-in_err-next_datagram-clause-kept
returns-in_err-next_datagram-clause-kept g c =
    between_more (way_of c.args.from) (way_of c.args.to) (g.K.Link.seen c.args.link.now)
    (routes g.P.Place g.K.Link c.loop-turn.place c.loop-turn.link)
    (routes g.P.Place g.K.Link c.next_datagram.new.place c.next_datagram.new.link) c.loop-turn.invariant.kept
    c.next_datagram.ensures.others

pub returns-in-End-clause-kept : goal.returns-in-End-clause-kept
returns-in-End-clause-kept g c =
    between_more (way_of c.args.from) (way_of c.args.to) (g.K.Link.seen c.args.link.now)
    (routes g.P.Place g.K.Link c.loop-turn.place c.loop-turn.link)
    (routes g.P.Place g.K.Link c.next_datagram.new.place c.next_datagram.new.link) c.loop-turn.invariant.kept
    c.next_datagram.ensures.others

pub returns-in_err-relay_one-in-Datagram-clause-kept : goal.returns-in_err-relay_one-in-Datagram-clause-kept
returns-in_err-relay_one-in-Datagram-clause-kept g c =
    let from = way_of c.args.from in
    let to = way_of c.args.to in
    let before = routes g.P.Place g.K.Link c.loop-turn.place c.loop-turn.link in
    let between = routes g.P.Place g.K.Link c.next_datagram.new.place c.next_datagram.new.link in
    let now = routes g.P.Place g.K.Link c.relay_one.new.place c.relay_one.new.link in
    between_then from to (g.K.Link.seen c.args.link.now) between.link now.link
    (between_more from to (g.K.Link.seen c.args.link.now) before between c.loop-turn.invariant.kept
    c.next_datagram.ensures.others)
    (between_stopped from to c.loop-turn.receiver (take c.in-Datagram.len c.next_datagram.new.into) between now
    c.in_err-relay_one-in-Datagram.ensures.told.others c.in_err-relay_one-in-Datagram.field-0.0
    c.in_err-relay_one-in-Datagram.ensures.stopped)
