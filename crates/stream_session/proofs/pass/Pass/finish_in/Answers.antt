use Rattle.stream_session.proofs.Passed.{finish_refused, finish_plan, finish_fault, end_refused}
use Rattle.stream_session.proofs.pass.Pass.finish_in.Goals as goal

pub returns-in-Some-clause-refused : goal.returns-in-Some-clause-refused
returns-in-Some-clause-refused c priority file stream passed =
    finish_refused c.args.self _ priority file stream c.in-Some.is passed

pub returns-in-Ok-clause-plan : goal.returns-in-Ok-clause-plan
returns-in-Ok-clause-plan c =
    finish_plan c.args.format.now c.args.limit c.args.self c.plan_of.result c.finish.new.pieces.items _ c.in_default.not-Some c.deref.ensures.value
    c.in-Ok.ensures.ok c.plan_of.ensures.plan

pub returns-in-Ok-clause-refused : goal.returns-in-Ok-clause-refused
returns-in-Ok-clause-refused c =
    finish_fault c.args.format.now c.args.limit c.args.self c.plan_of.result c.finish.new.pieces.items _ c.in_default.not-Some c.deref.ensures.value
    c.in-Ok.ensures.ok c.plan_of.ensures.refused

pub returns-in-Err-clause-refused : goal.returns-in-Err-clause-refused
returns-in-Err-clause-refused c priority file stream passed =
    c.scan_fault.ensures c.args.format.now c.args.limit priority stream (λ told. end_refused c.args.self c.in-Err.scan c.in_default.not-Some
    (c.in-Err.ensures.refusal told) priority file stream passed)
