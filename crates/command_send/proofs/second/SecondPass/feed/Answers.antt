use Rattle.std.proofs.Common.{◌∙◌, sym}
use Rattle.pet_base.specs.laws.Through.{on_any_err}
use Rattle.command_send.specs.inside.Job.{job_of, lent}
use Rattle.command_send.proofs.LeastChange.{is_change, stands_longer}
use Rattle.command_send.proofs.GroupsSoFar.{part_longer, part_stands}
use Rattle.command_send.proofs.second.SecondPass.feed.Goals as goal

pub returns-then-is_some-clause-stands : goal.returns-then-is_some-clause-stands
returns-then-is_some-clause-stands g c stream first h =
    let some = is_change c.args.self.now.change (sym c.is_some.ensures ∙ c.if-is_some.true) in
    stands_longer (job_of g.F.Field.coding c.args.job.now) stream
    c.args.portion.now some.0 c.args.self.now.change c.args.self.now.groups first
    (lent c.args.outside.now) some.1 h

pub returns-in_err-feed-clause-part : goal.returns-in_err-feed-clause-part
returns-in_err-feed-clause-part g c =
    let now = lent c.args.outside.now in
    on_any_err c.from_residual.result
    (λ stream first h. part_longer (job_of g.F.Field.coding c.args.job.now) stream c.args.portion.now first now
    (part_stands
    (job_of g.F.Field.coding c.args.job.now) stream c.args.self.now.change c.args.self.now.groups first now h))
