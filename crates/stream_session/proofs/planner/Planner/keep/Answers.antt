-- The table of this one group.
use Rattle.std.proofs.lemmas.Result.{on_ok_weaker}
use Rattle.stream_session.proofs.Planned.{keeps_some}
use Rattle.stream_session.proofs.planner.Planner.keep.Goals as goal

pub returns-in-Some-clause-kept : goal.returns-in-Some-clause-kept
returns-in-Some-clause-kept c =
    on_ok_weaker c.keep.result
    (λ one. keeps_some c.args.self.now.tables c.keep.new.self c.args.cut c.in-Some.cut c.in-Some.is one) c.keep.ensures.kept
