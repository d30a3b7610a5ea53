use Rattle.std.proofs.Common.{refl, sym, ap, subst, ◌∙◌}
use Rattle.pet_base.specs.Lent.{seen}
use Rattle.pet_base.specs.LinkSeen.{LinkStops}
use Rattle.pet_base.specs.Seen.{PlaceStops}
use Rattle.outside_routes.specs.Way.{way_of}
use Rattle.pet_repair.specs.Failures.{relay_end_of_place, relay_end_of_link}
use Rattle.pet_repair.specs.Relays.{DoesRelay}
use Rattle.pet_repair.proofs.RelayBegun.{bound_at_any, ends_relay, no_failure, stop_tells}
use Rattle.packet_reading.specs.Begun.{OutStops, stop_of_an_output}
use Rattle.outside_routes.specs.RouteFaults.{stop_of_a_place, stop_of_a_link}
use Rattle.pet_repair.proofs.relay.relay_routes.Goals as goal

pub returns-in-Ok-clause-relays : goal.returns-in-Ok-clause-relays
returns-in-Ok-clause-relays g c = record {
  bound =
      bound_at_any (way_of c.args.from) (seen c.args.outside.now).link (seen c.relay.new.outside).link
      c.end_after.result c.in-Ok.ensures.listens;
  kept = c.relay.ensures.kept;
  later = c.in-Ok.ensures.told.later;
  out =
      subst (λ b. OutStops b (seen c.args.outside.now) (seen c.relay.new.outside))
      (sym (no_failure c.in-Ok.relaying c.end_after.result stop_of_an_output c.end_after.ensures)) c.in-Ok.ensures.out;
  ends =
      ends_relay (way_of c.args.from) c.args.session (way_of c.args.to) (seen c.args.outside.now)
      (seen c.relay.new.outside) c.in-Ok.relaying c.end_after.result c.end_after.ensures c.in-Ok.ensures.done;
}

pub returns-in-Ok-clause-once_place : goal.returns-in-Ok-clause-once_place
returns-in-Ok-clause-once_place g c =
    subst (λ b. PlaceStops b (seen c.args.outside.now).place (seen c.relay.new.outside).place)
    (sym (no_failure c.in-Ok.relaying c.end_after.result stop_of_a_place c.end_after.ensures))
    c.in-Ok.ensures.told.once_place

pub returns-in-Ok-clause-once_link : goal.returns-in-Ok-clause-once_link
returns-in-Ok-clause-once_link g c =
    subst (λ b. LinkStops b (seen c.args.outside.now).link (seen c.relay.new.outside).link)
    (sym (no_failure c.in-Ok.relaying c.end_after.result stop_of_a_link c.end_after.ensures))
    c.in-Ok.ensures.told.once_link

pub returns-in-Err-clause-relays : goal.returns-in-Err-clause-relays
returns-in-Err-clause-relays g c =
    subst (DoesRelay (way_of c.args.from) c.args.session (way_of c.args.to) (seen c.args.outside.now)
    (seen c.relay.new.outside)) (sym c.stopped.ensures) (record {
      bound = c.in-Err.ensures.bound;
      kept = c.relay.ensures.kept;
      later = c.in-Err.ensures.told.later;
      out =
          subst (λ b. OutStops b (seen c.args.outside.now) (seen c.relay.new.outside))
          (stop_tells stop_of_an_output refl c.in-Err.stop) c.in-Err.ensures.out;
      ends = c.in-Err.ensures.stopped;
    })

pub returns-in-Err-clause-once_place : goal.returns-in-Err-clause-once_place
returns-in-Err-clause-once_place g c =
    subst (λ b. PlaceStops b (seen c.args.outside.now).place (seen c.relay.new.outside).place)
    (stop_tells stop_of_a_place refl c.in-Err.stop ∙ ap relay_end_of_place (sym c.stopped.ensures))
    c.in-Err.ensures.told.once_place

pub returns-in-Err-clause-once_link : goal.returns-in-Err-clause-once_link
returns-in-Err-clause-once_link g c =
    subst (λ b. LinkStops b (seen c.args.outside.now).link (seen c.relay.new.outside).link)
    (stop_tells stop_of_a_link refl c.in-Err.stop ∙ ap relay_end_of_link (sym c.stopped.ensures))
    c.in-Err.ensures.told.once_link
