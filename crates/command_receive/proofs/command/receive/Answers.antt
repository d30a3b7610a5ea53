use Rattle.std.proofs.Common.{Bool, sym, ap, subst, ◌∙◌}
use Rattle.pet_base.specs.Seen.{PlaceStops}
use Rattle.pet_base.specs.LinkSeen.{LinkStops}
use Rattle.command_receive.specs.Failures.{end_of_place, end_of_link}
use Rattle.command_receive.specs.Receives.{Receives}
use Rattle.packet_reading.specs.Begun.{OutStops}
use Rattle.pet_base.specs.Lent.{seen}
use Rattle.outside_routes.specs.Way.{way_of}
use Rattle.command_receive.proofs.Ends.{bound_at_any, calm_at, ends_read, link_alike, output_alike, place_alike}
use Rattle.command_receive.proofs.Stops.{bound_at_stop}
use Rattle.command_receive.specs.laws.NamedLaws.{names_what_it_stores}
use Rattle.command_receive.specs.laws.SessionReceived.{completes_receive}
use Rattle.command_receive.proofs.command.receive.Goals as goal

pub returns-in-Ok-clause-receives : goal.returns-in-Ok-clause-receives
returns-in-Ok-clause-receives g c =
    let from = way_of c.args.from in
    let before = seen c.args.outside.now in
    let after = seen c.read_all.new.outside in
    let done = c.in-Ok.ensures.done in
    record {
      link = c.read_all.ensures.link;
      bound = bound_at_any from before.link after.link c.end_after.result c.in-Ok.ensures.listens;
      later = c.read_all.ensures.later;
      out =
          subst (λ (failed : Bool). OutStops failed before after)
          (sym (calm_at c.in-Ok.reading c.end_after.result c.end_after.ensures).2) c.in-Ok.ensures.out;
      ends =
          ends_read from c.args.session c.args.layers.now c.args.store.now before after done.0 c.in-Ok.reading done.1
          done.2 c.end_after.result c.end_after.ensures;
    }

pub returns-in-Ok-clause-completes : goal.returns-in-Ok-clause-completes
returns-in-Ok-clause-completes g c =
    completes_receive _ _ _ _ _ _ c.end_after.result (returns-in-Ok-clause-receives g c)

pub returns-in-Ok-clause-named : goal.returns-in-Ok-clause-named
returns-in-Ok-clause-named g c =
    names_what_it_stores (way_of c.args.from) c.args.session c.args.layers.now c.args.store.now _ _
    c.end_after.result (returns-in-Ok-clause-receives g c).ends

pub returns-in-Err-clause-receives : goal.returns-in-Err-clause-receives
returns-in-Err-clause-receives g c =
    let from = way_of c.args.from in
    let before = seen c.args.outside.now in
    let after = seen c.read_all.new.outside in
    subst (Receives from c.args.session c.args.layers.now c.args.store.now before after) (sym c.stopped.ensures)
    (record {
      link = c.read_all.ensures.link;
      bound = bound_at_stop from before.link after.link c.in-Err.stop c.in-Err.ensures.bound;
      later = c.read_all.ensures.later;
      out = subst (λ (failed : Bool). OutStops failed before after) (output_alike c.in-Err.stop) c.in-Err.ensures.out;
      ends = c.in-Err.ensures.stop;
    })

pub returns-in-Err-clause-completes : goal.returns-in-Err-clause-completes
returns-in-Err-clause-completes g c =
    completes_receive _ _ _ _ _ _ c.stopped.result (returns-in-Err-clause-receives g c)

pub returns-in-Err-clause-named : goal.returns-in-Err-clause-named
returns-in-Err-clause-named g c =
    names_what_it_stores (way_of c.args.from) c.args.session c.args.layers.now c.args.store.now _ _ c.stopped.result
    (returns-in-Err-clause-receives g c).ends

pub returns-in-Ok-clause-once_place : goal.returns-in-Ok-clause-once_place
returns-in-Ok-clause-once_place g c =
    subst (λ (failed : Bool). PlaceStops failed (seen c.args.outside.now).place (seen c.read_all.new.outside).place)
    (sym (calm_at c.in-Ok.reading c.end_after.result c.end_after.ensures).0) c.in-Ok.ensures.once_place

pub returns-in-Ok-clause-once_link : goal.returns-in-Ok-clause-once_link
returns-in-Ok-clause-once_link g c =
    subst (λ (failed : Bool). LinkStops failed (seen c.args.outside.now).link (seen c.read_all.new.outside).link)
    (sym (calm_at c.in-Ok.reading c.end_after.result c.end_after.ensures).1) c.in-Ok.ensures.once_link

pub returns-in-Err-clause-once_place : goal.returns-in-Err-clause-once_place
returns-in-Err-clause-once_place g c =
    subst (λ (failed : Bool). PlaceStops failed (seen c.args.outside.now).place (seen c.read_all.new.outside).place)
    (place_alike c.in-Err.stop ∙ ap end_of_place (sym c.stopped.ensures)) c.in-Err.ensures.once_place

pub returns-in-Err-clause-once_link : goal.returns-in-Err-clause-once_link
returns-in-Err-clause-once_link g c =
    subst (λ (failed : Bool). LinkStops failed (seen c.args.outside.now).link (seen c.read_all.new.outside).link)
    (link_alike c.in-Err.stop ∙ ap end_of_link (sym c.stopped.ensures)) c.in-Err.ensures.once_link
