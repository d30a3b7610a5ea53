use Rattle.std.proofs.Common.{◌∙◌, ◌+◌, arith, refl, subst, take}
use Rattle.outside_routes.specs.Way.{way_of}
use Rattle.outside_routes.specs.Coming.{coming, TakesDatagram}
use Rattle.pet_receive.specs.Arrivals.{kept_set}
use Rattle.packet_reading.specs.laws.BegunLaws.{input_kept, receives_nothing, receives_more}
use Rattle.pet_keep.specs.inside.SoFar.{StandsAfterFirst, StopsKeeping, of_failed}
use Rattle.pet_keep.proofs.CameSoFar.{came_start, came_more, came_all, came_until, leaves_less, leaves_more}
use Rattle.packet_verdicts.specs.Verdicts.{after}
use Rattle.pet_keep.proofs.CameSoFar.{few_so_far, few_still, leaves_none, reads_same, reads_then, stop_is}
use Rattle.pet_keep.proofs.keeping.keep_all.Goals as goal

pub loop-turn-init : goal.loop-turn-init
loop-turn-init g c =
    let all = coming (way_of c.args.from) (g.P.Place.seen c.args.place.now) (g.K.Link.seen c.args.link.now) in
    let set = kept_set c.args.keeper.now.receiver in
    record {
      so_far = came_start set all;
      going = c.requires.going;
      stands = c.requires.stands;
      images = leaves_none (StandsAfterFirst set all) (g.D.Disk.seen c.args.keeper.now.disk);
      disk_later = omega arith;
      input = c.requires.input;
      reads = reads_same (g.P.Place.seen c.args.place.now);
      receives = receives_nothing (way_of c.args.from) (g.K.Link.seen c.args.link.now);
      calm_place = refl;
      calm_link = refl;
      place_later = omega arith;
      link_later = omega arith;
    }

pub returns-in_err-next_datagram-clause-stopped : goal.returns-in_err-next_datagram-clause-stopped
returns-in_err-next_datagram-clause-stopped g c =
    let from = way_of c.args.from in
    let first = g.P.Place.seen c.args.place.now in
    let before = g.P.Place.seen c.loop-turn.place in
    let now = g.P.Place.seen c.next_datagram.new.place in
    let link_first = g.K.Link.seen c.args.link.now in
    let link_before = g.K.Link.seen c.loop-turn.link in
    let link_now = g.K.Link.seen c.next_datagram.new.link in
    let keeper = c.loop-turn.keeper in
    let failed = c.in_err-next_datagram.field-0.0 in
    stop_is (StopsKeeping (kept_set c.args.keeper.now.receiver) from first link_first now link_now
    (kept_set keeper.receiver) (g.D.Disk.seen keeper.disk)) c.from_residual.result (of_failed failed)
    c.from_residual.ensures.1
    (came_until (kept_set c.args.keeper.now.receiver) c.loop-turn.turn from first before now link_first link_before
    link_now (kept_set keeper.receiver) c.loop-turn.invariant.so_far (omega arith) c.in_err-next_datagram.ensures.feed
    c.in_err-next_datagram.ensures.part (g.D.Disk.seen keeper.disk) c.loop-turn.invariant.stands failed)

pub returns-in_err-next_datagram-clause-place : goal.returns-in_err-next_datagram-clause-place
returns-in_err-next_datagram-clause-place g c =
    reads_then (g.P.Place.seen c.args.place.now) (g.P.Place.seen c.loop-turn.place)
    (g.P.Place.seen c.next_datagram.new.place) c.loop-turn.invariant.reads c.next_datagram.ensures.others.place

pub returns-in_err-next_datagram-clause-link : goal.returns-in_err-next_datagram-clause-link
returns-in_err-next_datagram-clause-link g c =
    receives_more (way_of c.args.from) (g.K.Link.seen c.args.link.now) (g.K.Link.seen c.loop-turn.link)
    (g.K.Link.seen c.next_datagram.new.link) (g.P.Place.seen c.loop-turn.place)
    (g.P.Place.seen c.next_datagram.new.place)
    c.loop-turn.invariant.receives c.next_datagram.ensures.others

pub returns-in-End-clause-done : goal.returns-in-End-clause-done
returns-in-End-clause-done g c =
    let from = way_of c.args.from in
    let first = g.P.Place.seen c.args.place.now in
    let before = g.P.Place.seen c.loop-turn.place in
    let now = g.P.Place.seen c.next_datagram.new.place in
    let link_before = g.K.Link.seen c.loop-turn.link in
    let link_now = g.K.Link.seen c.next_datagram.new.link in
    let into = c.next_datagram.new.into in
    let step = subst (λ e. TakesDatagram (coming from before link_before) e into (coming from now link_now))
    c.in-End.is c.in_ok-next_datagram.ensures.datagram in
    came_all (kept_set c.args.keeper.now.receiver) c.loop-turn.turn
    (coming from first (g.K.Link.seen c.args.link.now)) (coming from before link_before)
    (kept_set c.loop-turn.keeper.receiver) c.loop-turn.invariant.so_far into (coming from now link_now) (omega arith)
    step

pub returns-in-End-clause-place : goal.returns-in-End-clause-place
returns-in-End-clause-place g c =
    reads_then (g.P.Place.seen c.args.place.now) (g.P.Place.seen c.loop-turn.place)
    (g.P.Place.seen c.next_datagram.new.place) c.loop-turn.invariant.reads c.next_datagram.ensures.others.place

pub returns-in-End-clause-link : goal.returns-in-End-clause-link
returns-in-End-clause-link g c =
    receives_more (way_of c.args.from) (g.K.Link.seen c.args.link.now) (g.K.Link.seen c.loop-turn.link)
    (g.K.Link.seen c.next_datagram.new.link) (g.P.Place.seen c.loop-turn.place)
    (g.P.Place.seen c.next_datagram.new.place)
    c.loop-turn.invariant.receives c.next_datagram.ensures.others

pub returns-in_err-keep_one-in-Datagram-clause-images : goal.returns-in_err-keep_one-in-Datagram-clause-images
returns-in_err-keep_one-in-Datagram-clause-images g c =
    let from = way_of c.args.from in
    let first = g.P.Place.seen c.args.place.now in
    let before = g.P.Place.seen c.loop-turn.place in
    let between = g.P.Place.seen c.next_datagram.new.place in
    let held = c.loop-turn.invariant in
    leaves_less (kept_set c.args.keeper.now.receiver) c.loop-turn.turn
    (coming from first (g.K.Link.seen c.args.link.now)) (coming from before (g.K.Link.seen c.loop-turn.link))
    (coming from between (g.K.Link.seen c.next_datagram.new.link)) (kept_set c.loop-turn.keeper.receiver) held.so_far
    c.in-Datagram.len c.next_datagram.new.into _ (g.D.Disk.seen c.args.keeper.now.disk)
    (g.D.Disk.seen c.loop-turn.keeper.disk) (g.D.Disk.seen c.keep_one.new.keeper.disk) c.in-Datagram.is
    c.in_ok-next_datagram.ensures.datagram held.images c.keep_one.ensures.images

pub loop-turn-preserved : goal.loop-turn-preserved
loop-turn-preserved g c =
    let from = way_of c.args.from in
    let first = g.P.Place.seen c.args.place.now in
    let before = g.P.Place.seen c.loop-turn.place in
    let between = g.P.Place.seen c.next_datagram.new.place in
    let link_first = g.K.Link.seen c.args.link.now in
    let link_before = g.K.Link.seen c.loop-turn.link in
    let link_now = g.K.Link.seen c.next_datagram.new.link in
    let into = c.next_datagram.new.into in
    let step = subst (λ e. TakesDatagram (coming from before link_before) e into (coming from between link_now))
    c.in-Datagram.is c.in_ok-next_datagram.ensures.datagram in
    let takes = c.next_datagram.ensures.others in
    let one = c.keep_one.ensures in
    let kept = c.in_ok-keep_one-in-Datagram.ensures in
    let held = c.loop-turn.invariant in
    record {
      so_far = came_more (kept_set c.args.keeper.now.receiver) c.loop-turn.turn (coming from first link_first)
          (coming from before link_before) (kept_set c.loop-turn.keeper.receiver) held.so_far c.in-Datagram.len into
          (coming from between link_now) (kept_set c.keep_one.new.keeper.receiver) step kept.kept;
      going = kept.going;
      stands = kept.stands;
      images = leaves_more (kept_set c.args.keeper.now.receiver) c.loop-turn.turn (coming from first link_first)
          (coming from before link_before) (kept_set c.loop-turn.keeper.receiver) held.so_far c.in-Datagram.len into
          (coming from between link_now) (g.D.Disk.seen c.args.keeper.now.disk)
          (g.D.Disk.seen c.loop-turn.keeper.disk) (g.D.Disk.seen c.keep_one.new.keeper.disk) step held.images one.images;
      disk_later = omega (arith, held.disk_later, one.later);
      input = input_kept from before between takes.place.has_input held.input;
      reads = reads_then first before between held.reads takes.place;
      receives = receives_more from link_first link_before link_now before between held.receives takes;
      calm_place = c.in_ok-next_datagram.ensures.once_place ∙ held.calm_place;
      calm_link = c.in_ok-next_datagram.ensures.once_link ∙ held.calm_link;
      place_later = omega (arith, held.place_later, takes.place_later);
      link_later = omega (arith, held.link_later, takes.link_later);
    }

pub returns-in_err-next_datagram-clause-few : goal.returns-in_err-next_datagram-clause-few
returns-in_err-next_datagram-clause-few g c =
    let from = way_of c.args.from in
    let link_first = g.K.Link.seen c.args.link.now in
    let link_before = g.K.Link.seen c.loop-turn.link in
    few_still from link_first link_before (g.K.Link.seen c.next_datagram.new.link)
    c.in_err-next_datagram.ensures.feed
    (few_so_far from (kept_set c.args.keeper.now.receiver) c.loop-turn.turn (g.P.Place.seen c.args.place.now)
    (g.P.Place.seen c.loop-turn.place) link_first link_before (kept_set c.loop-turn.keeper.receiver)
    c.loop-turn.invariant.so_far (omega arith))

pub returns-in-End-clause-few : goal.returns-in-End-clause-few
returns-in-End-clause-few g c =
    let from = way_of c.args.from in
    let first = g.P.Place.seen c.args.place.now in
    let before = g.P.Place.seen c.loop-turn.place in
    let now = g.P.Place.seen c.next_datagram.new.place in
    let link_first = g.K.Link.seen c.args.link.now in
    let link_before = g.K.Link.seen c.loop-turn.link in
    let link_now = g.K.Link.seen c.next_datagram.new.link in
    let into = c.next_datagram.new.into in
    let set = kept_set c.args.keeper.now.receiver in
    let held = kept_set c.loop-turn.keeper.receiver in
    let step = subst (λ e. TakesDatagram (coming from before link_before) e into (coming from now link_now))
    c.in-End.is c.in_ok-next_datagram.ensures.datagram in
    let all = came_all set c.loop-turn.turn (coming from first link_first) (coming from before link_before) held
    c.loop-turn.invariant.so_far into (coming from now link_now) (omega arith) step in
    few_so_far from set c.loop-turn.turn first now link_first link_now held all.so_far (omega arith)

pub returns-in_err-keep_one-in-Datagram-clause-few : goal.returns-in_err-keep_one-in-Datagram-clause-few
returns-in_err-keep_one-in-Datagram-clause-few g c =
    let from = way_of c.args.from in
    let first = g.P.Place.seen c.args.place.now in
    let before = g.P.Place.seen c.loop-turn.place in
    let now = g.P.Place.seen c.next_datagram.new.place in
    let link_first = g.K.Link.seen c.args.link.now in
    let link_before = g.K.Link.seen c.loop-turn.link in
    let link_now = g.K.Link.seen c.next_datagram.new.link in
    let into = c.next_datagram.new.into in
    let set = kept_set c.args.keeper.now.receiver in
    let held = kept_set c.loop-turn.keeper.receiver in
    let next = after held (take c.in-Datagram.len into) in
    let step = subst (λ e. TakesDatagram (coming from before link_before) e into (coming from now link_now))
    c.in-Datagram.is c.in_ok-next_datagram.ensures.datagram in
    few_so_far from set (c.loop-turn.turn + 1) first now link_first link_now next
    (came_more set c.loop-turn.turn (coming from first link_first) (coming from before link_before) held
    c.loop-turn.invariant.so_far c.in-Datagram.len into (coming from now link_now) next step refl) (omega arith)

pub returns-clause-few : goal.returns-clause-few
returns-clause-few g c =
    few_so_far (way_of c.args.from) (kept_set c.args.keeper.now.receiver) c.loop-turn.turn
    (g.P.Place.seen c.args.place.now) (g.P.Place.seen c.loop-turn.place) (g.K.Link.seen c.args.link.now)
    (g.K.Link.seen c.loop-turn.link) (kept_set c.loop-turn.keeper.receiver) c.loop-turn.invariant.so_far (omega arith)
