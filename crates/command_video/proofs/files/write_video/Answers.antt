use Rattle.std.proofs.Common.{Some, ◌∙◌}
use Rattle.std.proofs.lemmas.Result.{IfOk-weaker, IfErr-weaker}
use Rattle.pet_base.specs.Causes.{Blames}
use Rattle.pet_base.specs.declared.place.Side.TheVariants.{Written}
use Rattle.pet_base.specs.laws.SeenLaws.{HadFault-err}
use Rattle.outside_files.specs.laws.FailureLaws.{stops_since}
use Rattle.command_video.specs.Videos.{Videos}
use Rattle.command_video.proofs.Causes.{end_is, when_put}
use Rattle.command_video.proofs.StoreRead.{is_store, no_store, not_made, are_stored}
use Rattle.command_video.proofs.files.write_video.Goals as goal

pub returns-in_err-packets-clause-cause : goal.returns-in_err-packets-clause-cause
returns-in_err-packets-clause-cause g c =
    let old = g.P.Place.seen c.args.place.now in
    let read = g.P.Place.seen c.read_bytes.new.place in
    end_is (Videos c.args.store.now c.args.out.now old read) c.from_residual-in_err-packets.result _
    c.from_residual-in_err-packets.ensures.1
    (no_store c.args.store.now c.args.out.now c.as_slice.result.now c.in_ok-bytes.bytes.items old read
    c.as_slice.ensures.value c.in_ok-bytes.ensures.read c.read_bytes.ensures.others.files c.in_err-packets.field-0.0
    c.in_err-packets.ensures.end)

pub returns-in_err-create-clause-cause : goal.returns-in_err-create-clause-cause
returns-in_err-create-clause-cause g c =
    let old = g.P.Place.seen c.args.place.now in
    let read = g.P.Place.seen c.read_bytes.new.place in
    let made = g.P.Place.seen c.create.new.self in
    end_is (Videos c.args.store.now c.args.out.now old made) c.from_residual-in_err-create.result _
    c.from_residual-in_err-create.ensures.1
    (not_made c.args.store.now c.args.out.now c.as_slice.result.now c.in_ok-bytes.bytes.items old read
    c.as_slice.ensures.value c.in_ok-bytes.ensures.read c.read_bytes.ensures.others.files
    c.in_ok-packets.ensures.packets.0 c.in_ok-packets.ensures.packets.1 made c.in_err-create.ensures.files
    c.read_bytes.ensures.later
    (HadFault-err read made c.in_err-create.field-0.0 (Blames Written (Some c.args.out.now)) c.in_err-create.ensures.cause))

pub put_groups-requires-clause-packets : goal.put_groups-requires-clause-packets
put_groups-requires-clause-packets g c =
    let there = c.in_ok-packets.ensures.packets in
    (there.0, are_stored c.in_ok-packets.packets there.0 c.as_slice.result.now there.1 there.2)

pub returns : goal.returns
returns g c =
    let old = g.P.Place.seen c.args.place.now in
    let read = g.P.Place.seen c.read_bytes.new.place in
    let made = g.P.Place.seen c.create.new.self in
    let new = g.P.Place.seen c.put_groups.new.place in
    let create = c.in_ok-create.ensures in
    let there = c.in_ok-packets.ensures.packets in
    let stored = are_stored c.in_ok-packets.packets there.0 c.as_slice.result.now there.1 there.2 in
    let ends = when_put c.args.store.now c.args.out.now old read there.0
    (is_store c.args.store.now c.args.out.now c.as_slice.result.now c.in_ok-bytes.bytes.items old read
    c.as_slice.ensures.value c.in_ok-bytes.ensures.read c.read_bytes.ensures.others.files there.0 there.1)
    there.2.sound c.read_bytes.ensures.later c.read_bytes.ensures.others.files made new create.cause.later create.files
    create.target c.put_groups.result
    (IfOk-weaker c.put_groups.result _ _ (λ n done. done there.0 stored) c.put_groups.ensures.done)
    (IfErr-weaker c.put_groups.result _ _ (λ end ends. ends there.0 stored) c.put_groups.ensures.end) in
    record {
      done = ends.0;
      cause = ends.1;
      once =
          stops_since _ old made new (create.counts.count ∙ c.in_ok-bytes.ensures.once) c.put_groups.ensures.once;
    }
