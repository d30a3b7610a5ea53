use Rattle.std.proofs.Common.{◌≡◌, ◌≤◌, ℕ, List, take, ◌+◌, ◌∙◌, arith, refl, subst}
use Rattle.outside_routes.specs.Way.{way_of}
use Rattle.outside_routes.specs.Coming.{coming, TakesDatagram}
use Rattle.outside_routes.specs.RouteFaults.{stop_of_place, stop_of_route}
use Rattle.pet_base.specs.laws.SeenLaws.{KeepsNames-same, KeepsNames-then, OnlyReads-KeepsNames, OnlyWrites-KeepsNames}
use Rattle.outside_files.specs.Outputs.{Puts}
use Rattle.packet_frame.specs.declared.format.Format.{Format}
use Rattle.packet_met.specs.LayersText.{order_after_in}
use Rattle.packet_met.specs.Records.{IsTextAtIn}
use Rattle.packet_met.specs.Steps.{steps_of_in}
use Rattle.packet_receiver.specs.Arrivals.{Order, HasKept, kept_set}
use Rattle.packet_verdicts.specs.Verdicts.{after_in}
use Rattle.packet_reading.specs.inside.SoFar.{PartOfOne, StoppedSoFar}
use Rattle.packet_reading.proofs.DatagramsSoFar.{so_far_start, so_far_more, received_all, received_many}
use Rattle.packet_reading.proofs.DatagramsSoFar.{stopped_so_far, stopped_at_one, put_since}
use Rattle.packet_reading.specs.laws.BegunLaws.{input_kept, receives_nothing, receives_more}
use Rattle.packet_reading.specs.laws.ReadLaws.{stop_is}
use Rattle.packet_reading.proofs.reading.receive_all.Goals as goal

pub loop-turn-init : goal.loop-turn-init
loop-turn-init g c = record {
  so_far =
      so_far_start c.args.receiver.now.format g.F.Field.is_element g.F.Field.coding (g.P.Place.seen c.args.place.now)
      (coming (way_of c.args.from) (g.P.Place.seen c.args.place.now) (g.K.Link.seen c.args.link.now))
      c.args.receiver.now c.args.steps.now c.requires.held;
  ready = c.requires.ready;
  format = refl;
  input = c.requires.input;
  calm_place = refl;
  calm_link = refl;
  place_later = omega arith;
  link_later = omega arith;
  names = KeepsNames-same (g.P.Place.seen c.args.place.now);
  receives = receives_nothing (way_of c.args.from) (g.K.Link.seen c.args.link.now);
}

pub returns-in_err-next_datagram-clause-stopped : goal.returns-in_err-next_datagram-clause-stopped
returns-in_err-next_datagram-clause-stopped g c =
    let t = c.args.receiver.now.format in
    let P = g.F.Field.is_element in
    let coding = g.F.Field.coding in
    let from = way_of c.args.from in
    let first = g.P.Place.seen c.args.place.now in
    let before = g.P.Place.seen c.loop-turn.place in
    let now = g.P.Place.seen c.next_datagram.new.place in
    let set = kept_set c.args.receiver.now in
    let link_first = g.K.Link.seen c.args.link.now in
    let link_before = g.K.Link.seen c.loop-turn.link in
    let link_now = g.K.Link.seen c.next_datagram.new.link in
    let failed = c.in_err-next_datagram.field-0.0 in
    stop_is (StoppedSoFar t P coding from set first now link_first link_now) c.from_residual.result
    (stop_of_route failed) c.from_residual.ensures.1
    (stopped_so_far t P coding failed from set c.loop-turn.turn first before now link_first link_before link_now
    c.loop-turn.receiver c.args.steps.now c.loop-turn.steps c.loop-turn.invariant.so_far
    (omega arith) c.loop-turn.invariant.names c.loop-turn.invariant.place_later c.loop-turn.invariant.receives
    c.loop-turn.invariant.link_later c.in_err-next_datagram.ensures.feed c.in_err-next_datagram.ensures.part
    c.next_datagram.ensures.others.place.files c.in_err-next_datagram.ensures.cause)

pub returns-in_err-next_datagram-clause-link : goal.returns-in_err-next_datagram-clause-link
returns-in_err-next_datagram-clause-link g c =
    receives_more (way_of c.args.from) (g.K.Link.seen c.args.link.now) (g.K.Link.seen c.loop-turn.link)
    (g.K.Link.seen c.next_datagram.new.link) (g.P.Place.seen c.loop-turn.place)
    (g.P.Place.seen c.next_datagram.new.place)
    c.loop-turn.invariant.receives c.next_datagram.ensures.others

pub returns-in-End-clause-done : goal.returns-in-End-clause-done
returns-in-End-clause-done g c =
    let t = c.args.receiver.now.format in
    let P = g.F.Field.is_element in
    let coding = g.F.Field.coding in
    let from = way_of c.args.from in
    let first = g.P.Place.seen c.args.place.now in
    let before = g.P.Place.seen c.loop-turn.place in
    let now = g.P.Place.seen c.next_datagram.new.place in
    let link_first = g.K.Link.seen c.args.link.now in
    let link_before = g.K.Link.seen c.loop-turn.link in
    let link_now = g.K.Link.seen c.next_datagram.new.link in
    let into = c.next_datagram.new.into in
    let step = subst (λ e. TakesDatagram (coming from before link_before) e into (coming from now link_now))
    c.in-End.is c.in_ok-next_datagram.ensures.datagram in
    received_all t P coding (kept_set c.args.receiver.now) c.loop-turn.turn into first before now (coming from first link_first)
    (coming from before link_before) (coming from now link_now) c.loop-turn.receiver c.args.steps.now c.loop-turn.steps
    c.loop-turn.invariant.so_far (omega arith) step c.next_datagram.ensures.others.place

pub returns-in-End-clause-link : goal.returns-in-End-clause-link
returns-in-End-clause-link g c =
    receives_more (way_of c.args.from) (g.K.Link.seen c.args.link.now) (g.K.Link.seen c.loop-turn.link)
    (g.K.Link.seen c.next_datagram.new.link) (g.P.Place.seen c.loop-turn.place)
    (g.P.Place.seen c.next_datagram.new.place)
    c.loop-turn.invariant.receives c.next_datagram.ensures.others

pub returns-in_err-receive_one-in-Datagram-clause-stopped : goal.returns-in_err-receive_one-in-Datagram-clause-stopped
returns-in_err-receive_one-in-Datagram-clause-stopped g c =
    let t = c.args.receiver.now.format in
    let P = g.F.Field.is_element in
    let coding = g.F.Field.coding in
    let from = way_of c.args.from in
    let set = kept_set c.args.receiver.now in
    let first = g.P.Place.seen c.args.place.now in
    let before = g.P.Place.seen c.loop-turn.place in
    let between = g.P.Place.seen c.next_datagram.new.place in
    let now = g.P.Place.seen c.receive_one.new.place in
    let link_first = g.K.Link.seen c.args.link.now in
    let link_before = g.K.Link.seen c.loop-turn.link in
    let link_now = g.K.Link.seen c.next_datagram.new.link in
    let into = c.next_datagram.new.into in
    let step = subst (λ e. TakesDatagram (coming from before link_before) e into (coming from between link_now))
    c.in-Datagram.is c.in_ok-next_datagram.ensures.datagram in
    let stop = c.in_err-receive_one-in-Datagram.field-0.0 in
    stop_is (StoppedSoFar t P coding from set first now link_first link_now) c.from_residual-in_err-receive_one-in-Datagram.result
    (stop_of_place stop) c.from_residual-in_err-receive_one-in-Datagram.ensures.1
    (stopped_at_one t P coding stop from set c.loop-turn.turn
    (c.loop-turn.turn + 1) c.in-Datagram.len into first before between now link_first link_before link_now
    c.loop-turn.receiver c.args.steps.now c.loop-turn.steps
    c.loop-turn.invariant.so_far (omega arith) refl c.loop-turn.invariant.names step
    c.next_datagram.ensures.others.place
    (let held = c.loop-turn.invariant in
    omega (arith, held.place_later, c.next_datagram.ensures.others.place_later))
    c.in_err-receive_one-in-Datagram.ensures.cause
    (subst (λ (f : Format). PartOfOne f P coding c.loop-turn.receiver (c.loop-turn.turn + 1)
    (take c.in-Datagram.len into) between now) c.loop-turn.invariant.format
    c.in_err-receive_one-in-Datagram.ensures.part))

pub returns-in_err-receive_one-in-Datagram-clause-link : goal.returns-in_err-receive_one-in-Datagram-clause-link
returns-in_err-receive_one-in-Datagram-clause-link g c =
    receives_more (way_of c.args.from) (g.K.Link.seen c.args.link.now) (g.K.Link.seen c.loop-turn.link)
    (g.K.Link.seen c.next_datagram.new.link) (g.P.Place.seen c.loop-turn.place)
    (g.P.Place.seen c.next_datagram.new.place)
    c.loop-turn.invariant.receives c.next_datagram.ensures.others

pub loop-turn-preserved : goal.loop-turn-preserved
loop-turn-preserved g c =
    let t = c.args.receiver.now.format in
    let P = g.F.Field.is_element in
    let coding = g.F.Field.coding in
    let from = way_of c.args.from in
    let first = g.P.Place.seen c.args.place.now in
    let before = g.P.Place.seen c.loop-turn.place in
    let between = g.P.Place.seen c.next_datagram.new.place in
    let now = g.P.Place.seen c.receive_one.new.place in
    let link_first = g.K.Link.seen c.args.link.now in
    let link_before = g.K.Link.seen c.loop-turn.link in
    let link_now = g.K.Link.seen c.next_datagram.new.link in
    let into = c.next_datagram.new.into in
    let step = subst (λ e. TakesDatagram (coming from before link_before) e into (coming from between link_now))
    c.in-Datagram.is c.in_ok-next_datagram.ensures.datagram in
    let takes = c.next_datagram.ensures.others in
    let writes = c.receive_one.ensures.others in
    let one = c.in_ok-receive_one-in-Datagram.ensures in
    let held = c.loop-turn.invariant in
    let r = c.loop-turn.receiver in
    let d = take c.in-Datagram.len into in
    let next = c.receive_one.new.receiver in
    let puts = subst (λ (f : Format). (text : List ℕ) × IsTextAtIn P coding f r (c.loop-turn.turn + 1) d text
    × Puts text between now) held.format in
    let set = subst (λ (f : Format). kept_set next ≡ after_in f (kept_set r) d) held.format in
    let held_after = subst (λ (f : Format). (order : Order) → HasKept P coding r order
    → HasKept P coding next (order_after_in f (kept_set r) order d)) held.format in
    let cost = subst (λ (f : Format). c.receive_one.new.steps ≤ c.loop-turn.steps + steps_of_in f (kept_set r) d)
    held.format in
    record {
      so_far = put_since t P coding from first between now link_first link_now _ _ _ _ _ writes.rest
          (so_far_more t P coding (kept_set c.args.receiver.now) c.loop-turn.turn
          (c.loop-turn.turn + 1) c.in-Datagram.len into first before between now (coming from first link_first)
          (coming from before link_before)
          (coming from between link_now) c.loop-turn.receiver c.receive_one.new.receiver
          c.args.steps.now c.loop-turn.steps c.receive_one.new.steps held.so_far refl held.names step takes.place
          writes (puts one.puts) (set one.set) (held_after one.held) (cost one.cost));
      ready = one.ready;
      format = one.format ∙ held.format;
      input = input_kept from before now (writes.has_input ∙ takes.place.has_input) held.input;
      calm_place = one.once ∙ c.in_ok-next_datagram.ensures.once_place ∙ held.calm_place;
      calm_link = c.in_ok-next_datagram.ensures.once_link ∙ held.calm_link;
      place_later = omega (arith, held.place_later, takes.place_later, c.receive_one.ensures.later);
      link_later = omega (arith, held.link_later, takes.link_later);
      names =
          KeepsNames-then first between now (KeepsNames-then first before between held.names
          (OnlyReads-KeepsNames before between takes.place)) (OnlyWrites-KeepsNames between now writes);
      receives = receives_more from link_first link_before link_now before between held.receives takes;
    }

pub returns-clause-done : goal.returns-clause-done
returns-clause-done g c =
    let t = c.args.receiver.now.format in
    let P = g.F.Field.is_element in
    let coding = g.F.Field.coding in
    let from = way_of c.args.from in
    let first = g.P.Place.seen c.args.place.now in
    let now = g.P.Place.seen c.loop-turn.place in
    received_many t P coding (kept_set c.args.receiver.now) c.loop-turn.turn first now
    (coming from first (g.K.Link.seen c.args.link.now))
    (coming from now (g.K.Link.seen c.loop-turn.link)) c.loop-turn.receiver c.args.steps.now c.loop-turn.steps
    c.loop-turn.invariant.so_far (omega arith)
