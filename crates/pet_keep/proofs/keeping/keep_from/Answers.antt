use Rattle.std.proofs.Common.{◌≡◌, ◌⊎◌, [], ◌∷◌, None, Some, false, refl, subst, arith}
use Rattle.packet_reading.specs.laws.BegunLaws.{begun_input, link_kept}
use Rattle.outside_routes.specs.Way.{way_of}
use Rattle.outside_files.specs.Wrote.{Wrote}
use Rattle.store_text.specs.Files.{store_file}
use Rattle.pet_base.specs.Lent.{seen}
use Rattle.pet_base.specs.OutsideSeen.{outside_seen}
use Rattle.pet_receive.specs.Arrivals.{kept_set}
use Rattle.pet_keep.specs.Journaled.{disk_now, offered, uncounted}
use Rattle.pet_keep.specs.Keeps.{EndsFrom}
use Rattle.pet_keep.specs.inside.SoFar.{StandsAfterFirst, end_of, of_route, of_stop}
use Rattle.packet_reading.specs.Begun.{stop_of_an_output}
use Rattle.pet_keep.proofs.CameSoFar.{few_none, few_since, few_still, leaves_none, no_output, out_of}
use Rattle.pet_keep.proofs.CameSoFar.{output_of_route, output_of_stop, stop_is}
use Rattle.pet_keep.proofs.Kept.{ends_beginning, ends_keeping, ends_kept, ends_storing, leaves_offered}
use Rattle.pet_keep.proofs.Uncounted.{begins, stops_beginning, untouched}
use Rattle.pet_keep.proofs.keeping.keep_from.Goals as goal

pub returns-in_err-begin-clause-stop : goal.returns-in_err-begin-clause-stop
returns-in_err-begin-clause-stop g c =
    let from = way_of c.args.from in
    let before = seen c.args.outside.now in
    let after = seen c.begin.new.outside in
    let why = c.in_err-begin.field-0.0 in
    let first = kept_set c.args.keeper.now.receiver in
    let disk = disk_now g.D.Disk c.args.keeper.now.disk in
    stop_is (λ s. EndsFrom first from c.args.store.now (uncounted before) (uncounted after) disk disk (end_of s))
    c.from_residual.result (of_route why) c.from_residual.ensures.1
    (ends_beginning why first from c.args.store.now (uncounted before) (uncounted after) disk disk
    (stops_beginning why from before after c.in_err-begin.ensures.stop) c.requires.stands)

pub returns-in_err-begin-clause-images : goal.returns-in_err-begin-clause-images
returns-in_err-begin-clause-images g c =
    leaves_none (StandsAfterFirst (kept_set c.args.keeper.now.receiver)
    (offered (way_of c.args.from) (uncounted (seen c.args.outside.now)))) (g.D.Disk.seen c.args.keeper.now.disk)

pub returns-in_err-begin-clause-link : goal.returns-in_err-begin-clause-link
returns-in_err-begin-clause-link g c = c.begin.ensures.others.link

pub keep_all-requires-clause-input : goal.keep_all-requires-clause-input
keep_all-requires-clause-input g c =
    begun_input (way_of c.args.from) (seen c.args.outside.now) (seen c.begin.new.outside)
    c.in_ok-begin.ensures.begins.begun

pub returns-in_err-read-clause-stop : goal.returns-in_err-read-clause-stop
returns-in_err-read-clause-stop g c =
    let from = way_of c.args.from in
    let before = seen c.args.outside.now in
    let opened = seen c.begin.new.outside in
    let new = outside_seen g.P.Place g.K.Link g.S.Sink c.keep_all.new.place c.keep_all.new.link
    c.begin.new.outside.out.now c.keep_all.new.steps in
    let why = c.in_err-read.field-0.0 in
    let first = kept_set c.args.keeper.now.receiver in
    let keeper = c.keep_all.new.keeper in
    let old = disk_now g.D.Disk c.args.keeper.now.disk in
    let disk = disk_now g.D.Disk keeper.disk in
    stop_is (λ s. EndsFrom first from c.args.store.now (uncounted before) (uncounted new) old disk (end_of s))
    c.from_residual-in_err-read.result why c.from_residual-in_err-read.ensures.1
    (ends_keeping why first from c.args.store.now (uncounted before) (uncounted opened) (uncounted new)
    (kept_set keeper.receiver) old disk (begins from before opened c.in_ok-begin.ensures.begins)
    (untouched from before opened c.begin.ensures.untouched) c.begin.ensures.others.place_later
    c.begin.ensures.others.link_later c.keep_all.ensures.link c.keep_all.ensures.place.files refl
    c.in_err-read.ensures.stopped c.in_err-read.ensures.cause)

pub returns-in_err-read-clause-images : goal.returns-in_err-read-clause-images
returns-in_err-read-clause-images g c =
    let from = way_of c.args.from in
    let before = seen c.args.outside.now in
    let opened = seen c.begin.new.outside in
    leaves_offered from (uncounted before) (uncounted opened)
    (begins from before opened c.in_ok-begin.ensures.begins).begun (kept_set c.args.keeper.now.receiver)
    (g.D.Disk.seen c.args.keeper.now.disk) (g.D.Disk.seen c.keep_all.new.keeper.disk)
    c.keep_all.ensures.images

pub returns-in_err-read-clause-link : goal.returns-in_err-read-clause-link
returns-in_err-read-clause-link g c =
    link_kept (way_of c.args.from) (seen c.args.outside.now).link (seen c.begin.new.outside).link
    (g.K.Link.seen c.keep_all.new.link) c.begin.ensures.others.link c.keep_all.ensures.link_later
    c.keep_all.ensures.link

pub returns-in_err-write_store_file-clause-stop : goal.returns-in_err-write_store_file-clause-stop
returns-in_err-write_store_file-clause-stop g c =
    let from = way_of c.args.from in
    let before = seen c.args.outside.now in
    let opened = seen c.begin.new.outside in
    let new = outside_seen g.P.Place g.K.Link g.S.Sink c.keep_all.new.place c.keep_all.new.link
    c.begin.new.outside.out.now c.keep_all.new.steps in
    let stored = outside_seen g.P.Place g.K.Link g.S.Sink c.write_store_file.new.place c.keep_all.new.link
    c.begin.new.outside.out.now c.keep_all.new.steps in
    let first = kept_set c.args.keeper.now.receiver in
    let keeper = c.keep_all.new.keeper in
    let old = disk_now g.D.Disk c.args.keeper.now.disk in
    let disk = disk_now g.D.Disk keeper.disk in
    let why = c.in_err-write_store_file.field-0.0 in
    let front = subst (λ r. (stored.place.files ≡ new.place.files)
    ⊎ Wrote [] (Some (store_file c.args.store.now (kept_set r))) new.place stored.place) c.receiver.ensures
    c.in_err-write_store_file.ensures.front in
    stop_is (λ s. EndsFrom first from c.args.store.now (uncounted before) (uncounted stored) old disk (end_of s))
    c.from_residual-in_err-write_store_file.result (of_stop why) c.from_residual-in_err-write_store_file.ensures.1
    (ends_storing first from c.args.store.now c.in_ok-read.read (uncounted before) (uncounted opened) (uncounted new)
    (uncounted stored) (kept_set keeper.receiver) old disk (begins from before opened c.in_ok-begin.ensures.begins)
    (untouched from before opened c.begin.ensures.untouched) c.in_ok-read.ensures.done c.keep_all.ensures.link
    c.keep_all.ensures.place.files refl refl why front
    (let a = c.begin.ensures.others.place_later in let b = c.keep_all.ensures.place_later in omega (arith, a, b))
    c.in_err-write_store_file.ensures.cause c.in_ok-read.ensures.stands)

pub returns-in_err-write_store_file-clause-images : goal.returns-in_err-write_store_file-clause-images
returns-in_err-write_store_file-clause-images g c =
    let from = way_of c.args.from in
    let before = seen c.args.outside.now in
    let opened = seen c.begin.new.outside in
    leaves_offered from (uncounted before) (uncounted opened)
    (begins from before opened c.in_ok-begin.ensures.begins).begun (kept_set c.args.keeper.now.receiver)
    (g.D.Disk.seen c.args.keeper.now.disk) (g.D.Disk.seen c.keep_all.new.keeper.disk) c.keep_all.ensures.images

pub returns-in_err-write_store_file-clause-link : goal.returns-in_err-write_store_file-clause-link
returns-in_err-write_store_file-clause-link g c =
    link_kept (way_of c.args.from) (seen c.args.outside.now).link (seen c.begin.new.outside).link
    (g.K.Link.seen c.keep_all.new.link) c.begin.ensures.others.link c.keep_all.ensures.link_later
    c.keep_all.ensures.link

pub returns-clause-done : goal.returns-clause-done
returns-clause-done g c e is =
    let from = way_of c.args.from in
    let before = seen c.args.outside.now in
    let opened = seen c.begin.new.outside in
    let new = outside_seen g.P.Place g.K.Link g.S.Sink c.keep_all.new.place c.keep_all.new.link
    c.begin.new.outside.out.now c.keep_all.new.steps in
    let stored = outside_seen g.P.Place g.K.Link g.S.Sink c.write_store_file.new.place c.keep_all.new.link
    c.begin.new.outside.out.now c.keep_all.new.steps in
    let keeper = c.keep_all.new.keeper in
    let old = disk_now g.D.Disk c.args.keeper.now.disk in
    let disk = disk_now g.D.Disk keeper.disk in
    let wrote = subst (λ r. Wrote (store_file c.args.store.now (kept_set r) ∷ []) None new.place stored.place)
    c.receiver.ensures c.in_ok-write_store_file.ensures.written in
    ends_kept (kept_set c.args.keeper.now.receiver) from c.args.store.now c.in_ok-read.read (uncounted before)
    (uncounted opened) (uncounted new) (uncounted stored) (kept_set keeper.receiver) old disk
    (begins from before opened c.in_ok-begin.ensures.begins)
    (untouched from before opened c.begin.ensures.untouched) c.in_ok-read.ensures.done c.keep_all.ensures.link
    c.keep_all.ensures.place.files refl refl wrote c.in_ok-read.ensures.stands e is

pub returns-clause-images : goal.returns-clause-images
returns-clause-images g c =
    let from = way_of c.args.from in
    let before = seen c.args.outside.now in
    let opened = seen c.begin.new.outside in
    leaves_offered from (uncounted before) (uncounted opened)
    (begins from before opened c.in_ok-begin.ensures.begins).begun (kept_set c.args.keeper.now.receiver)
    (g.D.Disk.seen c.args.keeper.now.disk) (g.D.Disk.seen c.keep_all.new.keeper.disk) c.keep_all.ensures.images

pub returns-clause-link : goal.returns-clause-link
returns-clause-link g c =
    link_kept (way_of c.args.from) (seen c.args.outside.now).link (seen c.begin.new.outside).link
    (g.K.Link.seen c.keep_all.new.link) c.begin.ensures.others.link c.keep_all.ensures.link_later
    c.keep_all.ensures.link

pub returns-in_err-begin-clause-few : goal.returns-in_err-begin-clause-few
returns-in_err-begin-clause-few g c =
    let from = way_of c.args.from in
    let link = (seen c.args.outside.now).link in
    few_still from link link (seen c.begin.new.outside).link c.begin.ensures.untouched.feed (few_none from link)

pub returns-in_err-begin-clause-out : goal.returns-in_err-begin-clause-out
returns-in_err-begin-clause-out g c =
    let why = c.in_err-begin.field-0.0 in
    out_of c.from_residual.result (of_route why) (stop_of_an_output why) (seen c.args.outside.now)
    (seen c.begin.new.outside) c.from_residual.ensures.1 (output_of_route why) c.in_err-begin.ensures.out

pub returns-in_err-read-clause-few : goal.returns-in_err-read-clause-few
returns-in_err-read-clause-few g c =
    few_since (way_of c.args.from) (seen c.args.outside.now).link (seen c.begin.new.outside).link
    (g.K.Link.seen c.keep_all.new.link) c.begin.ensures.untouched.feed c.keep_all.ensures.few

pub returns-in_err-read-clause-out : goal.returns-in_err-read-clause-out
returns-in_err-read-clause-out g c =
    let why = c.in_err-read.field-0.0 in
    let new = outside_seen g.P.Place g.K.Link g.S.Sink c.keep_all.new.place c.keep_all.new.link
    c.begin.new.outside.out.now c.keep_all.new.steps in
    out_of c.from_residual-in_err-read.result why false (seen c.args.outside.now) new
    c.from_residual-in_err-read.ensures.1 (no_output _ _ _ why c.in_err-read.ensures.cause) c.in_ok-begin.ensures.out

pub returns-in_err-write_store_file-clause-few : goal.returns-in_err-write_store_file-clause-few
returns-in_err-write_store_file-clause-few g c =
    few_since (way_of c.args.from) (seen c.args.outside.now).link (seen c.begin.new.outside).link
    (g.K.Link.seen c.keep_all.new.link) c.begin.ensures.untouched.feed c.keep_all.ensures.few

pub returns-in_err-write_store_file-clause-out : goal.returns-in_err-write_store_file-clause-out
returns-in_err-write_store_file-clause-out g c =
    let why = c.in_err-write_store_file.field-0.0 in
    let stored = outside_seen g.P.Place g.K.Link g.S.Sink c.write_store_file.new.place c.keep_all.new.link
    c.begin.new.outside.out.now c.keep_all.new.steps in
    out_of c.from_residual-in_err-write_store_file.result (of_stop why) false (seen c.args.outside.now) stored
    c.from_residual-in_err-write_store_file.ensures.1 (output_of_stop why) c.in_ok-begin.ensures.out

pub returns-clause-few : goal.returns-clause-few
returns-clause-few g c =
    few_since (way_of c.args.from) (seen c.args.outside.now).link (seen c.begin.new.outside).link
    (g.K.Link.seen c.keep_all.new.link) c.begin.ensures.untouched.feed c.keep_all.ensures.few
