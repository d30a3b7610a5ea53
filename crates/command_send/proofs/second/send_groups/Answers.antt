use Rattle.std.proofs.lemmas.Option.{MatchOption-at_none, MatchOption-at_some}
use Rattle.command_send.specs.Sends.{packets_sent_in}
use Rattle.command_send.specs.inside.Job.{job_of, lent}
use Rattle.command_send.proofs.SameStream.{told_part, told_sent, told_changed, told_stop}
use Rattle.command_send.proofs.second.send_groups.Goals as goal

pub returns-in_err-change-clause-told : goal.returns-in_err-change-clause-told
returns-in_err-change-clause-told g c p b f told =
    let job = (job_of g.F.Field.coding c.args.job.now) in
    let old = lent c.args.outside.now in
    let new = lent c.send_again.new.outside in
    told_stop _ job.way (packets_sent_in job.format job.coding p b) old new c.in_err-change.field-0.0 c.from_residual.result
    c.from_residual.ensures.1
    (told_part job p b old new f told c.in_err-change.ensures.part)

pub returns-in-Some-clause-told : goal.returns-in-Some-clause-told
returns-in-Some-clause-told g c p b f told =
    told_changed (job_of g.F.Field.coding c.args.job.now) p b (lent c.args.outside.now) (lent c.send_again.new.outside)
    c.in-Some.change f told
    (MatchOption-at_some {o = c.in_ok-change.field-0} _ _ c.in-Some.change c.in-Some.is c.in_ok-change.ensures.sent)

pub returns-in-None-clause-told : goal.returns-in-None-clause-told
returns-in-None-clause-told g c p b f told =
    told_sent (job_of g.F.Field.coding c.args.job.now) p b (lent c.args.outside.now) (lent c.send_again.new.outside) f told
    (MatchOption-at_none {o = c.in_ok-change.field-0} _ _ c.in-None.is c.in_ok-change.ensures.sent)
