use Rattle.std.proofs.Common.{ℕ, List, refl, ap, sym, subst, ◌∙◌}
use Rattle.pet_base.specs.Lent.{seen}
use Rattle.pet_base.specs.OutsideSeen.{OutsideSeen, outside_seen}
use Rattle.outside_routes.specs.Way.{way_of}
use Rattle.outside_routes.specs.Coming.{coming}
use Rattle.packet_frame.specs.declared.format.Format.{Format}
use Rattle.packet_receiver.specs.Arrivals.{kept_set}
use Rattle.packet_verdicts.specs.KeptSet.{KeptSet}
use Rattle.packet_reading.specs.Begun.{OnlyOpens}
use Rattle.packet_reading.specs.inside.Opened.{Opened}
use Rattle.packet_reading.specs.Layers.{StopsReadingIn}
use Rattle.packet_reading.specs.inside.SoFar.{HasReceived, StoppedSoFar}
use Rattle.packet_reading.specs.laws.BegunLaws.{port_printed}
use Rattle.packet_reading.specs.laws.ReadLaws.{stop_is}
use Rattle.packet_reading.proofs.FilesRead.{reads_with_numbers}
use Rattle.packet_reading.proofs.Stops.{out_calm, stopped_calm, stops_reading}
use Rattle.packet_reading.proofs.reading.read_opened.Goals as goal

pub receive_all-requires-clause-ready : goal.receive_all-requires-clause-ready
receive_all-requires-clause-ready g c = record {
  format = subst (λ (t : Format). Rattle.packet_frame.specs.Format.IsFormat t) (sym c.new-receiver.ensures.format)
      c.requires.format;
  plan = subst (λ (t : Format). Rattle.stripe_plan.specs.Sizes.ArePlanBounds t.bounds)
      (sym c.new-receiver.ensures.format) c.requires.plan;
  word = ap (λ (t : Format). t.word) c.new-receiver.ensures.format ∙ c.requires.word;
  sound = c.new-receiver.ensures.sound;
}

pub returns-in_err-read-clause-stop : goal.returns-in_err-read-clause-stop
returns-in_err-read-clause-stop g c =
    let t = c.args.format in
    let P = g.F.Field.is_element in
    let coding = g.F.Field.coding in
    let from = way_of c.args.from in
    let opened = seen c.args.outside.now in
    let after = outside_seen g.P.Place g.K.Link g.S.Sink c.receive_all.new.place c.receive_all.new.link
    c.args.outside.now.out.now c.receive_all.new.steps in
    let stop = c.in_err-read.field-0.0 in
    let set = kept_set c.new-receiver.result in
    let by_format = subst (λ (f : Format). StoppedSoFar f P coding from set opened.place after.place opened.link
    after.link stop) c.new-receiver.ensures.format c.in_err-read.ensures.stopped in
    let stopped = subst (λ (s : KeptSet). StoppedSoFar t P coding from s opened.place after.place opened.link after.link
    stop) c.new-receiver.ensures.empty by_format in
    stop_is (λ s. (layers : List ℕ) (before : OutsideSeen) → Opened from layers before opened
    → OnlyOpens from before opened → StopsReadingIn t P coding from c.args.session layers before after s)
    c.from_residual.result stop c.from_residual.ensures.1
    (λ layers before o only. stops_reading t P coding stop from c.args.session layers before opened after o
    only.place_later only.link_later c.receive_all.ensures.link refl stopped)

pub returns-in_err-read-clause-out : goal.returns-in_err-read-clause-out
returns-in_err-read-clause-out g c =
    let opened = seen c.args.outside.now in
    let after = outside_seen g.P.Place g.K.Link g.S.Sink c.receive_all.new.place c.receive_all.new.link
    c.args.outside.now.out.now c.receive_all.new.steps in
    let stop = c.in_err-read.field-0.0 in
    out_calm c.from_residual.result stop c.from_residual.ensures.1
    (stopped_calm c.new-receiver.result.format g.F.Field.is_element g.F.Field.coding stop (way_of c.args.from)
    (kept_set c.new-receiver.result) opened.place after.place opened.link after.link c.in_err-read.ensures.stopped)
    opened.out_faults

pub returns-clause-done : goal.returns-clause-done
returns-clause-done g c layers before o only =
    let t = c.args.format in
    let P = g.F.Field.is_element in
    let coding = g.F.Field.coding in
    let from = way_of c.args.from in
    let opened = seen c.args.outside.now in
    let new = outside_seen g.P.Place g.K.Link g.S.Sink c.receive_all.new.place c.receive_all.new.link
    c.args.outside.now.out.now c.receive_all.new.steps in
    let r = c.receive_all.new.receiver in
    let set = kept_set c.new-receiver.result in
    let by_format = subst (λ (f : Format). HasReceived f P coding set c.in_ok-read.read opened.place new.place
    (coming from opened.place opened.link) (coming from new.place new.link) r opened.steps new.steps)
    c.new-receiver.ensures.format c.in_ok-read.ensures.done in
    let h = subst (λ (s : KeptSet). HasReceived t P coding s c.in_ok-read.read opened.place new.place
    (coming from opened.place opened.link) (coming from new.place new.link) r opened.steps new.steps)
    c.new-receiver.ensures.empty by_format in
    let is = c.reading_of.ensures in
    let done =
    reads_with_numbers t P coding from c.args.session layers c.in_ok-read.read before opened new r
    (kept_set c.reading_of.result.receiver) c.reading_of.result.totals c.reading_of.result.complete o only.steps h
    (ap kept_set is.receiver) is.read is.kept is.shown is.complete in
    (done.0, done.1, port_printed from before opened new c.receive_all.ensures.link refl o.printed)

pub returns-clause-format : goal.returns-clause-format
returns-clause-format g c =
    ap (λ r. r.format) c.reading_of.ensures.receiver ∙ c.receive_all.ensures.format ∙ c.new-receiver.ensures.format
