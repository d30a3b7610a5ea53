use Rattle.std.proofs.Common.{Bool, refl, sym, ap, subst, ◌∙◌}
use Rattle.pet_base.specs.Seen.{PlaceStops}
use Rattle.pet_base.specs.LinkSeen.{LinkStops}
use Rattle.pet_base.specs.Lent.{seen}
use Rattle.outside_routes.specs.Way.{Way, way_of}
use Rattle.packet_receiver.specs.Arrivals.{kept_set}
use Rattle.pet_byte.specs.Failures.{byte_of_place, byte_of_link}
use Rattle.pet_byte.specs.ReceivesBytes.{ReceivesBytes}
use Rattle.packet_reading.specs.Begun.{OutStops, stop_of_an_output}
use Rattle.outside_routes.specs.RouteFaults.{stop_of_a_place, stop_of_a_link}
use Rattle.pet_byte.proofs.Ends.{alike, bound_at_any, bound_at_stop, calm_at, ends_read, ends_stopped}
use Rattle.pet_byte.proofs.breceive.breceive.Goals as goal

pub returns-in-Ok-clause-receives : goal.returns-in-Ok-clause-receives
returns-in-Ok-clause-receives g c =
    let from = way_of c.route_at.result in
    let before = seen c.args.outside.now in
    let after = seen c.read_layers.new.outside in
    let read = c.in-Ok.read in
    let done = c.in-Ok.ensures.done in
    subst (λ (way : Way). ReceivesBytes way c.args.session c.args.layers.now before after c.end_after.result)
    c.route_at.ensures
    (record {
      link = c.read_layers.ensures.link;
      bound = bound_at_any from before.link after.link c.end_after.result c.in-Ok.ensures.listens;
      later = c.read_layers.ensures.later;
      out =
          subst (λ (failed : Bool). OutStops failed before after)
          (sym (calm_at read.totals read.complete c.end_after.result c.end_after.ensures).2) c.in-Ok.ensures.out;
      ends =
          ends_read from c.args.session c.args.layers.now before after done.0 (kept_set read.receiver) read.totals
          read.complete done.1 done.2 c.end_after.result c.end_after.ensures;
    })

pub returns-in-Err-clause-receives : goal.returns-in-Err-clause-receives
returns-in-Err-clause-receives g c =
    let from = way_of c.route_at.result in
    let before = seen c.args.outside.now in
    let after = seen c.read_layers.new.outside in
    subst (λ (way : Way). ReceivesBytes way c.args.session c.args.layers.now before after c.stopped.result)
    c.route_at.ensures
    (subst (ReceivesBytes from c.args.session c.args.layers.now before after) (sym c.stopped.ensures)
    (record {
      link = c.read_layers.ensures.link;
      bound = bound_at_stop from before.link after.link c.in-Err.stop c.in-Err.ensures.bound;
      later = c.read_layers.ensures.later;
      out =
          subst (λ (failed : Bool). OutStops failed before after) (alike stop_of_an_output refl c.in-Err.stop)
          c.in-Err.ensures.out;
      ends = ends_stopped c.in-Err.stop from c.args.session c.args.layers.now before after c.in-Err.ensures.stop;
    }))

pub returns-in-Ok-clause-once_place : goal.returns-in-Ok-clause-once_place
returns-in-Ok-clause-once_place g c =
    let read = c.in-Ok.read in
    subst (λ (failed : Bool). PlaceStops failed (seen c.args.outside.now).place (seen c.read_layers.new.outside).place)
    (sym (calm_at read.totals read.complete c.end_after.result c.end_after.ensures).0) c.in-Ok.ensures.once_place

pub returns-in-Ok-clause-once_link : goal.returns-in-Ok-clause-once_link
returns-in-Ok-clause-once_link g c =
    let read = c.in-Ok.read in
    subst (λ (failed : Bool). LinkStops failed (seen c.args.outside.now).link (seen c.read_layers.new.outside).link)
    (sym (calm_at read.totals read.complete c.end_after.result c.end_after.ensures).1) c.in-Ok.ensures.once_link

pub returns-in-Err-clause-once_place : goal.returns-in-Err-clause-once_place
returns-in-Err-clause-once_place g c =
    subst (λ (failed : Bool). PlaceStops failed (seen c.args.outside.now).place (seen c.read_layers.new.outside).place)
    (alike stop_of_a_place refl c.in-Err.stop ∙ ap byte_of_place (sym c.stopped.ensures)) c.in-Err.ensures.once_place

pub returns-in-Err-clause-once_link : goal.returns-in-Err-clause-once_link
returns-in-Err-clause-once_link g c =
    subst (λ (failed : Bool). LinkStops failed (seen c.args.outside.now).link (seen c.read_layers.new.outside).link)
    (alike stop_of_a_link refl c.in-Err.stop ∙ ap byte_of_link (sym c.stopped.ensures)) c.in-Err.ensures.once_link
