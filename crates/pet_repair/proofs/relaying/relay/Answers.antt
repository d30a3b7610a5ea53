use Rattle.std.proofs.lemmas.Result.{IfOk-weaker, IfErr-weaker}
use Rattle.pet_base.specs.Lent.{seen}
use Rattle.outside_routes.specs.Way.{way_of}
use Rattle.outside_routes.specs.declared.fault.RouteStop.TheVariants as stop
use Rattle.packet_reading.specs.Opened.{IsBoundTo}
use Rattle.packet_reading.specs.laws.BegunLaws.{begun_bound, begun_input}
use Rattle.pet_repair.specs.Relays.{EndsRelay, IsBoundAtRelayEnd}
use Rattle.pet_repair.specs.declared.arriving.RelayStop.TheVariants.{Route}
use Rattle.pet_repair.specs.inside.RelayEnds.{OnlyBegins, end_of_relay}
use Rattle.pet_repair.proofs.ArrivalMade.{err_is, err_so, ok_so}
use Rattle.pet_repair.specs.laws.SessionRelayed.{between_same}
use Rattle.pet_repair.proofs.BetweenKept.{between_then, between_begun}
use Rattle.pet_repair.proofs.RelayBegun.{bound_at_any, bound_at_stop, bound_kept, out_of, stops_beginning}
use Rattle.pet_repair.proofs.RelayBegun.{unused_bound, unused_stopped}
use Rattle.std.proofs.Common.{false, refl, ap, ◌∙◌}
use Rattle.pet_base.specs.Causes.{count_after, stops}
use Rattle.packet_reading.specs.Begun.{stop_of_an_output}
use Rattle.pet_repair.specs.inside.Arrivals.{relay_of_output}
use Rattle.pet_repair.proofs.relaying.relay.Goals as goal

pub returns-in_err-buffer-clause-stopped : goal.returns-in_err-buffer-clause-stopped
returns-in_err-buffer-clause-stopped g c =
    unused_stopped (way_of c.args.from) c.args.session (way_of c.args.to) (seen c.args.outside.now)
    c.from_residual.result c.from_residual.ensures.1

pub returns-in_err-field-clause-stopped : goal.returns-in_err-field-clause-stopped
returns-in_err-field-clause-stopped g c =
    unused_stopped (way_of c.args.from) c.args.session (way_of c.args.to) (seen c.args.outside.now)
    c.from_residual-in_err-field.result c.from_residual-in_err-field.ensures.1

pub returns-in_err-begin-clause-stopped : goal.returns-in_err-begin-clause-stopped
returns-in_err-begin-clause-stopped g c =
    let s = c.in_err-begin.field-0.0 in
    err_is (λ s. EndsRelay (way_of c.args.from) c.args.session (way_of c.args.to) (seen c.args.outside.now)
    (seen c.begin.new.outside) (end_of_relay s)) c.from_residual-in_err-begin.result (Route s)
    c.from_residual-in_err-begin.ensures.1
    (stops_beginning (way_of c.args.from) c.args.session (way_of c.args.to) (seen c.args.outside.now)
    (seen c.begin.new.outside) (record { untouched = c.begin.ensures.untouched; others = c.begin.ensures.others }) s
    c.in_err-begin.ensures.stop)

pub relay_begun-requires-clause-input : goal.relay_begun-requires-clause-input
relay_begun-requires-clause-input g c =
    begun_input (way_of c.args.from) (seen c.args.outside.now) (seen c.begin.new.outside)
    c.in_ok-begin.ensures.begins.begun

pub returns-clause-done : goal.returns-clause-done
returns-clause-done g c =
    let only : OnlyBegins (way_of c.args.from) (seen c.args.outside.now) (seen c.begin.new.outside) =
    record { untouched = c.begin.ensures.untouched; others = c.begin.ensures.others } in
    IfOk-weaker c.relay_begun.result _ _
    (λ x done. done (seen c.args.outside.now) c.in_ok-begin.ensures.begins only) c.relay_begun.ensures.done

pub returns-clause-stopped : goal.returns-clause-stopped
returns-clause-stopped g c =
    let only : OnlyBegins (way_of c.args.from) (seen c.args.outside.now) (seen c.begin.new.outside) =
    record { untouched = c.begin.ensures.untouched; others = c.begin.ensures.others } in
    IfErr-weaker c.relay_begun.result _ _
    (λ s stops. stops (seen c.args.outside.now) c.in_ok-begin.ensures.begins only) c.relay_begun.ensures.stopped

pub returns-in_err-buffer-clause-bound : goal.returns-in_err-buffer-clause-bound
returns-in_err-buffer-clause-bound g c =
    unused_bound (way_of c.args.from) c.args.session (way_of c.args.to) (seen c.args.outside.now)
    c.from_residual.result c.from_residual.ensures.1

pub returns-in_err-field-clause-bound : goal.returns-in_err-field-clause-bound
returns-in_err-field-clause-bound g c =
    unused_bound (way_of c.args.from) c.args.session (way_of c.args.to) (seen c.args.outside.now)
    c.from_residual-in_err-field.result c.from_residual-in_err-field.ensures.1

pub returns-in_err-begin-clause-bound : goal.returns-in_err-begin-clause-bound
returns-in_err-begin-clause-bound g c =
    let s = c.in_err-begin.field-0.0 in
    let old = (seen c.args.outside.now).link in
    let new = (seen c.begin.new.outside).link in
    err_is (λ s. IsBoundAtRelayEnd (way_of c.args.from) old new (end_of_relay s)) c.from_residual-in_err-begin.result
    (Route s) c.from_residual-in_err-begin.ensures.1
    (bound_at_stop (way_of c.args.from) old new s c.in_err-begin.ensures.bound)

pub returns-clause-listens : goal.returns-clause-listens
returns-clause-listens g c =
    ok_so (IsBoundTo (way_of c.args.from) (seen c.args.outside.now).link (seen c.relay_begun.new.outside).link)
    c.relay_begun.result
    (bound_kept (way_of c.args.from) (seen c.args.outside.now).link (seen c.begin.new.outside).link
    (seen c.relay_begun.new.outside).link c.relay_begun.ensures.bound
    (begun_bound (way_of c.args.from) (seen c.args.outside.now) (seen c.begin.new.outside)
    c.in_ok-begin.ensures.begins.begun))

pub returns-clause-bound : goal.returns-clause-bound
returns-clause-bound g c =
    err_so (λ s. IsBoundAtRelayEnd (way_of c.args.from) (seen c.args.outside.now).link
    (seen c.relay_begun.new.outside).link (end_of_relay s)) c.relay_begun.result
    (λ s. bound_at_any (way_of c.args.from) (seen c.args.outside.now).link (seen c.relay_begun.new.outside).link
    (end_of_relay s)
    (bound_kept (way_of c.args.from) (seen c.args.outside.now).link (seen c.begin.new.outside).link
    (seen c.relay_begun.new.outside).link c.relay_begun.ensures.bound
    (begun_bound (way_of c.args.from) (seen c.args.outside.now) (seen c.begin.new.outside)
    c.in_ok-begin.ensures.begins.begun)))

pub returns-in_err-buffer-clause-out : goal.returns-in_err-buffer-clause-out
returns-in_err-buffer-clause-out g c =
    out_of c.from_residual.result (Route stop.NoMemory) false (seen c.args.outside.now) (seen c.args.outside.now)
    c.from_residual.ensures.1 refl refl

pub returns-in_err-field-clause-out : goal.returns-in_err-field-clause-out
returns-in_err-field-clause-out g c =
    out_of c.from_residual-in_err-field.result (Route stop.NoMemory) false (seen c.args.outside.now)
    (seen c.args.outside.now) c.from_residual-in_err-field.ensures.1 refl refl

pub returns-in_err-begin-clause-out : goal.returns-in_err-begin-clause-out
returns-in_err-begin-clause-out g c =
    let s = c.in_err-begin.field-0.0 in
    out_of c.from_residual-in_err-begin.result (Route s) (stop_of_an_output s) (seen c.args.outside.now)
    (seen c.begin.new.outside) c.from_residual-in_err-begin.ensures.1 refl c.in_err-begin.ensures.out

pub returns-clause-out : goal.returns-clause-out
returns-clause-out g c =
    c.relay_begun.ensures.out ∙ ap (count_after (stops relay_of_output c.relay_begun.result)) c.in_ok-begin.ensures.out

pub returns-in_err-buffer-clause-kept : goal.returns-in_err-buffer-clause-kept
returns-in_err-buffer-clause-kept g c =
    between_same (way_of c.args.from) (way_of c.args.to) (seen c.args.outside.now).link

pub returns-in_err-field-clause-kept : goal.returns-in_err-field-clause-kept
returns-in_err-field-clause-kept g c =
    between_same (way_of c.args.from) (way_of c.args.to) (seen c.args.outside.now).link

pub returns-in_err-begin-clause-kept : goal.returns-in_err-begin-clause-kept
returns-in_err-begin-clause-kept g c =
    between_begun (way_of c.args.from) (way_of c.args.to) (seen c.args.outside.now).link (seen c.begin.new.outside).link
    c.begin.ensures.others.link

pub returns-clause-kept : goal.returns-clause-kept
returns-clause-kept g c =
    let from = way_of c.args.from in
    let to = way_of c.args.to in
    between_then from to (seen c.args.outside.now).link (seen c.begin.new.outside).link
    (seen c.relay_begun.new.outside).link
    (between_begun from to (seen c.args.outside.now).link (seen c.begin.new.outside).link c.begin.ensures.others.link)
    c.relay_begun.ensures.kept
