use Rattle.std.proofs.Common.{Bool, ap, subst}
use Rattle.pet_base.specs.Seen.{PlaceStops}
use Rattle.pet_base.specs.LinkSeen.{LinkStops}
use Rattle.pet_base.specs.Lent.{seen}
use Rattle.outside_routes.specs.Way.{way_of}
use Rattle.command_send.specs.laws.EndLaws.{sends_session_in}
use Rattle.command_send.proofs.Ends.{tells_fault, no_output, place_alike, link_alike}
use Rattle.command_send.proofs.command.send_by.Goals as goal

pub end-requires : goal.end-requires
end-requires g c =
    no_output c.args.format g.F.Field.coding _ _ c.args.stream.now c.args.priority.now (way_of c.args.to) c.in-Err.fault c.in-Err.ensures.cause

pub returns-in-Ok-clause-sends : goal.returns-in-Ok-clause-sends
returns-in-Ok-clause-sends g c =
    record {
      link = c.send_all.ensures.link;
      written = ap g.S.Sink.written c.send_all.ensures.out;
      out_faults = ap g.S.Sink.faults c.send_all.ensures.out;
      costs = c.send_all.ensures.costs;
      tells = c.in-Ok.ensures.sent;
    }

pub returns-in-Ok-clause-completes : goal.returns-in-Ok-clause-completes
returns-in-Ok-clause-completes g c =
    sends_session_in c.args.format g.F.Field.coding c.args.stream.now c.args.priority.now (way_of c.args.to) _ _ _ (returns-in-Ok-clause-sends g c)

pub returns-in-Err-clause-sends : goal.returns-in-Err-clause-sends
returns-in-Err-clause-sends g c =
    let after = seen c.send_all.new.outside in record {
      link = c.send_all.ensures.link;
      written = ap g.S.Sink.written c.send_all.ensures.out;
      out_faults = ap g.S.Sink.faults c.send_all.ensures.out;
      costs = c.send_all.ensures.costs;
      tells =
          tells_fault c.args.format g.F.Field.coding c.args.stream.now c.args.priority.now (way_of c.args.to)
          (seen c.args.outside.now) after c.in-Err.fault c.end.result c.end.ensures c.in-Err.ensures.cause
          c.in-Err.ensures.left;
    }

pub returns-in-Err-clause-completes : goal.returns-in-Err-clause-completes
returns-in-Err-clause-completes g c =
    sends_session_in c.args.format g.F.Field.coding c.args.stream.now c.args.priority.now (way_of c.args.to) _ _ c.end.result
    (returns-in-Err-clause-sends g c)

pub returns-in-Err-clause-once_place : goal.returns-in-Err-clause-once_place
returns-in-Err-clause-once_place g c =
    subst (λ (failed : Bool). PlaceStops failed (g.P.Place.seen c.args.outside.now.place.now)
    (g.P.Place.seen c.send_all.new.outside.place.now))
    (place_alike c.in-Err.fault c.end.result c.end.ensures) c.in-Err.ensures.once_place

pub returns-in-Err-clause-once_link : goal.returns-in-Err-clause-once_link
returns-in-Err-clause-once_link g c =
    subst (λ (failed : Bool). LinkStops failed (g.K.Link.seen c.args.outside.now.link.now)
    (g.K.Link.seen c.send_all.new.outside.link.now))
    (link_alike c.in-Err.fault c.end.result c.end.ensures) c.in-Err.ensures.once_link
