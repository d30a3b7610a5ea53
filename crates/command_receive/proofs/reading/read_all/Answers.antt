use Rattle.std.proofs.Common.{◌≡◌, ◌⊎◌, [], ◌∷◌, None, Some, arith, refl, subst}
use Rattle.pet_base.specs.Lent.{seen}
use Rattle.pet_base.specs.OutsideSeen.{outside_seen}
use Rattle.outside_files.specs.Wrote.{Wrote}
use Rattle.outside_routes.specs.Way.{way_of}
use Rattle.outside_routes.specs.RouteFaults.{stop_of_place}
use Rattle.packet_receiver.specs.Arrivals.{kept_set}
use Rattle.packet_reading.specs.Begun.{IsBoundWhereStopped}
use Rattle.packet_reading.specs.laws.BegunLaws.{link_same, port_printed, receives_nothing}
use Rattle.packet_reading.specs.laws.ReadLaws.{stop_is, bound_where_stopped, unbound_where_stopped}
use Rattle.store_text.specs.Files.{store_file}
use Rattle.command_receive.specs.Receives.{EndsReceive}
use Rattle.command_receive.specs.inside.Numbers.{end_of}
use Rattle.command_receive.proofs.FilesRead.{reads_all}
use Rattle.command_receive.proofs.Stops.{stopped_first, stops_reading, stops_storing}
use Rattle.command_receive.proofs.reading.read_all.Goals as goal

pub returns-in_err-field-clause-stop : goal.returns-in_err-field-clause-stop
returns-in_err-field-clause-stop g c =
    stopped_first (way_of c.args.from) c.args.session c.args.layers.now c.args.store.now
    (seen c.args.outside.now) c.from_residual.result c.from_residual.ensures.1

pub returns-in_err-field-clause-link : goal.returns-in_err-field-clause-link
returns-in_err-field-clause-link g c = link_same (way_of c.args.from) (seen c.args.outside.now).link

pub returns-in_err-field-clause-bound : goal.returns-in_err-field-clause-bound
returns-in_err-field-clause-bound g c =
    unbound_where_stopped (way_of c.args.from)
    (seen c.args.outside.now).link c.from_residual.result c.from_residual.ensures.1

pub returns-in_err-read-clause-stop : goal.returns-in_err-read-clause-stop
returns-in_err-read-clause-stop g c =
    let from = way_of c.args.from in
    let before = seen c.args.outside.now in
    let after = seen c.read_layers.new.outside in
    let stop = c.in_err-read.field-0.0 in
    stop_is (λ s. EndsReceive from c.args.session c.args.layers.now c.args.store.now before after (end_of s))
    c.from_residual-in_err-read.result stop c.from_residual-in_err-read.ensures.1
    (stops_reading stop from c.args.session c.args.layers.now c.args.store.now before after c.in_err-read.ensures.stop)

pub returns-in_err-read-clause-bound : goal.returns-in_err-read-clause-bound
returns-in_err-read-clause-bound g c =
    stop_is (IsBoundWhereStopped (way_of c.args.from) (seen c.args.outside.now).link (seen c.read_layers.new.outside).link)
    c.from_residual-in_err-read.result c.in_err-read.field-0.0 c.from_residual-in_err-read.ensures.1
    c.in_err-read.ensures.bound

pub returns-in_err-write_store_file-clause-stop : goal.returns-in_err-write_store_file-clause-stop
returns-in_err-write_store_file-clause-stop g c =
    let from = way_of c.args.from in
    let before = seen c.args.outside.now in
    let read = c.read_layers.new.outside in
    let new = seen read in
    let after = outside_seen g.P.Place g.K.Link g.S.Sink c.write_store_file.new.place read.link.now read.out.now
    read.steps.now in
    let done = c.in_ok-read.ensures.done in
    let stop = c.in_err-write_store_file.field-0.0 in
    let calm = c.in_ok-read.ensures.once_place in
    stop_is (λ s. EndsReceive from c.args.session c.args.layers.now c.args.store.now before after (end_of s))
    c.from_residual-in_err-write_store_file.result (stop_of_place stop)
    c.from_residual-in_err-write_store_file.ensures.1
    (stops_storing stop from c.args.session c.args.layers.now c.args.store.now before new after
    (kept_set c.in_ok-read.read.receiver) done.0 done.1.set refl (omega (arith, calm))
    (port_printed from before new after (receives_nothing from new.link) refl done.2)
    (subst (λ r. (after.place.files ≡ new.place.files)
    ⊎ Wrote [] (Some (store_file c.args.store.now (kept_set r))) new.place after.place) c.of-receiver.ensures
    c.in_err-write_store_file.ensures.front) c.in_err-write_store_file.ensures.cause)

pub returns-in_err-write_store_file-clause-bound : goal.returns-in_err-write_store_file-clause-bound
returns-in_err-write_store_file-clause-bound g c =
    let from = way_of c.args.from in
    let old = (seen c.args.outside.now).link in
    let new = (seen c.read_layers.new.outside).link in
    let stop = stop_of_place c.in_err-write_store_file.field-0.0 in
    stop_is (IsBoundWhereStopped from old new) c.from_residual-in_err-write_store_file.result stop
    c.from_residual-in_err-write_store_file.ensures.1
    (bound_where_stopped from old new stop c.in_ok-read.ensures.listens)

pub returns-clause-done : goal.returns-clause-done
returns-clause-done g c =
    let from = way_of c.args.from in
    let before = seen c.args.outside.now in
    let read = c.read_layers.new.outside in
    let new = seen read in
    let after = outside_seen g.P.Place g.K.Link g.S.Sink c.write_store_file.new.place read.link.now read.out.now
    read.steps.now in
    let done = c.in_ok-read.ensures.done in (
      reads_all from c.args.session c.args.layers.now c.args.store.now before new after
          (kept_set c.in_ok-read.read.receiver) done.0 done.1.set refl refl
          (subst (λ r. Wrote (store_file c.args.store.now (kept_set r) ∷ []) None new.place after.place)
          c.of-receiver.ensures c.in_ok-write_store_file.ensures.written),
      record { totals = done.1.totals; complete = done.1.complete },
      port_printed from before new after (receives_nothing from new.link) refl done.2,
    )
