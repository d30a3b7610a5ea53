-- Each way through, by its lemma.
use Rattle.std.proofs.Common.{refl, sym, ◌∙◌, ap}
use Rattle.std.proofs.lemmas.Result.{on_ok_weaker}
use Rattle.stream_groups.proofs.Reading.{is_none, refused_more, scans_stopped, feeds_cut}
use Rattle.stream_groups.proofs.groups.GroupCutter.feed.Goals as goal

pub returns-then-is_some : goal.returns-then-is_some
returns-then-is_some c priority stream given h =
    refused_more c.args.self.now priority stream c.args.portion.now given (sym c.is_some.ensures ∙ c.if-is_some.true) h

pub returns-then-is_some-2 : goal.returns-then-is_some-2
returns-then-is_some-2 c priority stream given h =
    let none = is_none c.args.self.now.scan (sym c.is_some.ensures ∙ c.if-is_some.false) in
    scans_stopped c.args.self.now c.scan_on.new.self _ priority stream c.args.portion.now given
    (sym c.is_some-2.ensures ∙ c.if-is_some-2.true) none
    c.in_ok-scan_on.ensures.scans refl refl c.scan_on.ensures.rest.fault c.clear.ensures.items h

pub returns : goal.returns
returns c =
    on_ok_weaker c.scan_on-2.result (λ scans priority stream given h.
    let scan = is_none c.args.self.now.scan (sym c.is_some.ensures ∙ c.if-is_some.false) in
    let fault = is_none c.args.self.now.fault (sym c.is_some-2.ensures ∙ c.if-is_some-2.false) in
    let rest = c.scan_on-2.ensures.rest in
    feeds_cut c.args.self.now c.forget_looked.new.self c.scan_on-2.new.self priority stream c.args.portion.now given
    fault scan c.forget_looked.ensures
    scans rest.grows rest.splitter rest.from rest.looked rest.fault
    (ap (λ v. v.items) rest.held ∙ c.in_ok-extend_from_slice.ensures.items) h)
    c.scan_on-2.ensures.scans
