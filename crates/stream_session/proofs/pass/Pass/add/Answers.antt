use Rattle.std.proofs.Common.{◌++◌, sym, ◌∙◌, refl}
use Rattle.stream_session.specs.Passing.{IsLive}
use Rattle.stream_session.proofs.Passed.{stays_refused, passed_more, passed_refusing}
use Rattle.stream_session.proofs.pass.Pass.add.Goals as goal

pub returns-then-is_some : goal.returns-then-is_some
returns-then-is_some c priority file stream passed =
    let pass = c.args.self.now in
    stays_refused pass.refused (IsLive pass priority file stream)
    (IsLive pass priority file (stream ++ c.args.portion.now)) stream c.args.portion.now
    (sym c.is_some.ensures ∙ c.if-is_some.true) passed

pub returns-in_ok-add_all-in-Ok : goal.returns-in_ok-add_all-in-Ok
returns-in_ok-add_all-in-Ok c priority file stream passed =
    passed_more c.args.self.now _ priority file stream c.args.portion.now c.feed.new.pieces.items _
    (sym c.is_some.ensures ∙ c.if-is_some.false) refl c.deref.ensures.value passed c.in-Ok.ensures.ok
    c.in_ok-add_all-in-Ok.ensures c.update.ensures c.clear.ensures.items

pub returns-in_default : goal.returns-in_default
returns-in_default c priority file stream passed =
    passed_refusing c.args.self.now _ priority file stream c.args.portion.now
    (sym c.is_some.ensures ∙ c.if-is_some.false) passed (c.in-Err.ensures.refusal c.in_default.not-NoMemory)
