use Rattle.pet_base.specs.laws.Through.{on_any_err}
use Rattle.outside_routes.specs.Way.{way_of}
use Rattle.command_send.specs.inside.Job.{job_of, lent}
use Rattle.command_send.proofs.ReopenedFiles.{session_sent, session_left, session_stops, not_reopened, reopened_open}
use Rattle.command_send.proofs.ReopenedFiles.{keeps_reopened}
use Rattle.command_send.proofs.session.send_session.Goals as goal

pub send_groups-requires-clause-open : goal.send_groups-requires-clause-open
send_groups-requires-clause-open g c =
    reopened_open c.args.stream.now (way_of c.args.job.now.to)
    (lent c.args.outside.now)
    (lent c.reopen.new.outside) c.in_ok-reopen.ensures.opened

pub returns-in_err-reopen-clause-left : goal.returns-in_err-reopen-clause-left
returns-in_err-reopen-clause-left g c =
    on_any_err c.from_residual.result
    (not_reopened (job_of g.F.Field.coding c.args.job.now) c.args.stream.now (lent c.args.outside.now)
    (lent c.reopen.new.outside) c.in_err-reopen.ensures.err)

pub returns-clause-sent : goal.returns-clause-sent
returns-clause-sent g c =
    session_sent (job_of g.F.Field.coding c.args.job.now) c.args.stream.now (lent c.args.outside.now)
    (lent c.reopen.new.outside) (lent c.send_groups.new.outside)
    c.in_ok-reopen.ensures.opened c.send_groups.ensures.others c.send_groups.result c.send_groups.ensures.sent

pub returns-clause-left : goal.returns-clause-left
returns-clause-left g c =
    session_left (job_of g.F.Field.coding c.args.job.now) c.args.stream.now (lent c.args.outside.now)
    (lent c.reopen.new.outside) (lent c.send_groups.new.outside)
    c.in_ok-reopen.ensures.opened c.send_groups.ensures.others c.send_groups.result c.send_groups.ensures.stops

pub returns-clause-cause : goal.returns-clause-cause
returns-clause-cause g c =
    session_stops (job_of g.F.Field.coding c.args.job.now) c.args.stream.now (lent c.args.outside.now)
    (lent c.reopen.new.outside) (lent c.send_groups.new.outside)
    c.in_ok-reopen.ensures.opened c.send_groups.ensures.others c.send_groups.result c.reopen.ensures.later
    c.send_groups.ensures.stops

pub returns-clause-link : goal.returns-clause-link
returns-clause-link g c =
    keeps_reopened (job_of g.F.Field.coding c.args.job.now) (lent c.args.outside.now)
    (lent c.reopen.new.outside) (lent c.send_groups.new.outside) c.send_groups.result
    c.reopen.ensures.link c.send_groups.ensures.others c.send_groups.ensures.sent c.send_groups.ensures.stops
