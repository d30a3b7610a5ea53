use Rattle.std.proofs.Common.{◌∙◌, sym}
use Rattle.pet_base.specs.laws.Through.{on_any_err}
use Rattle.command_send.specs.inside.Job.{job_of, lent}
use Rattle.command_send.proofs.GroupsSoFar.{stands_none}
use Rattle.command_send.proofs.second.SecondPass.finish.Goals as goal

pub returns-in_err-self-clause-part : goal.returns-in_err-self-clause-part
returns-in_err-self-clause-part g c =
    let none = sym c.is_some.ensures ∙ c.if-is_some.false in
    on_any_err c.from_residual.result
    (λ stream first h. c.in_err-self.ensures.part stream first
    (stands_none (job_of g.F.Field.coding c.args.job.now) stream
    c.args.self.now.change c.args.self.now.groups first
    (lent c.args.outside.now) none h).0)

pub returns-clause-all : goal.returns-clause-all
returns-clause-all g c stream first h =
    let none = sym c.is_some.ensures ∙ c.if-is_some.false in
    let gone = stands_none (job_of g.F.Field.coding c.args.job.now) stream
    c.args.self.now.change c.args.self.now.groups first
    (lent c.args.outside.now) none h in
    c.in_ok-self.ensures.all stream first gone.0 gone.1
