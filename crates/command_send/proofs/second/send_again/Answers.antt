use Rattle.std.proofs.Common.{refl, arith}
use Rattle.pet_base.specs.laws.Through.{on_any_err}
use Rattle.command_send.specs.inside.Job.{job_of, lent}
use Rattle.command_send.proofs.GroupsSoFar.{cost_all, stands_known}
use Rattle.command_send.proofs.Passes.{passes_open, passes_same, passes_then, passes_grows, handed_on, stop_after}
use Rattle.command_send.proofs.ReadPortions.{part_start, gone_start, part_end, sent_end, taken_write}
use Rattle.command_send.specs.inside.Sending.{PassFailed}
use Rattle.outside_routes.specs.RouteFaults.{IsStop}
use Rattle.outside_routes.specs.Sending.{SendingFailed}
use Rattle.outside_routes.specs.Way.{way_of}
use Rattle.command_send.proofs.second.send_again.Goals as goal

pub returns-in_err-buffer-clause-part : goal.returns-in_err-buffer-clause-part
returns-in_err-buffer-clause-part g c =
    on_any_err c.from_residual.result (part_start
    (job_of g.F.Field.coding c.args.job.now)
    (lent c.args.outside.now))

pub returns-in_err-new-clause-part : goal.returns-in_err-new-clause-part
returns-in_err-new-clause-part g c =
    on_any_err c.from_residual-in_err-new.result
    (part_start (job_of g.F.Field.coding c.args.job.now)
    (lent c.args.outside.now))

pub read_again-requires-clause-begun : goal.read_again-requires-clause-begun
read_again-requires-clause-begun g c = (
  gone_start (job_of g.F.Field.coding c.args.job.now)
      (record { cutter = c.in_ok-new.field-0; sent = 0 })
      (lent c.args.outside.now) c.in_ok-new.ensures.cut refl,
  c.in_ok-new.ensures.none_left,
)

pub finish-requires-clause-open : goal.finish-requires-clause-open
finish-requires-clause-open g c =
    passes_open (way_of c.args.job.now.to) (lent c.args.outside.now)
    (lent c.read_again.new.outside) c.read_again.ensures.others c.requires.open

pub finish-requires-clause-known : goal.finish-requires-clause-known
finish-requires-clause-known g c =
    let read = c.in_ok-read_again.ensures.stands in
    stands_known (job_of g.F.Field.coding c.args.job.now) read.0
    c.read_again.new.pass.change c.read_again.new.pass.groups
    (lent c.args.outside.now)
    (lent c.read_again.new.outside) read.2

pub returns-in_err-read_again-clause-cost : goal.returns-in_err-read_again-clause-cost
returns-in_err-read_again-clause-cost g c =
    omega (arith, c.read_again.ensures.cost, cost_all c.args.job.now.found.source.tables.items)

pub returns-in_err-finish-clause-cost : goal.returns-in_err-finish-clause-cost
returns-in_err-finish-clause-cost g c =
    omega (arith, c.finish.ensures.cost, c.in_ok-read_again.ensures.left, cost_all c.args.job.now.found.source.tables.items)

pub returns-in_err-finish-clause-part : goal.returns-in_err-finish-clause-part
returns-in_err-finish-clause-part g c =
    let first = lent c.args.outside.now in
    let mid = lent c.read_again.new.outside in
    let now = lent c.finish.new.outside in
    let read = c.in_ok-read_again.ensures.stands in
    on_any_err c.from_residual-in_err-finish.result
    (part_end (job_of g.F.Field.coding c.args.job.now) read.0 first mid now
    read.1 (c.in_err-finish.ensures.part read.0 first read.2))

pub returns-clause-cost : goal.returns-clause-cost
returns-clause-cost g c =
    omega (arith, c.finish.ensures.cost, c.in_ok-read_again.ensures.left, cost_all c.args.job.now.found.source.tables.items)

pub returns-clause-sent : goal.returns-clause-sent
returns-clause-sent g c =
    let first = lent c.args.outside.now in
    let mid = lent c.read_again.new.outside in
    let now = lent c.finish.new.outside in
    let read = c.in_ok-read_again.ensures.stands in
    sent_end (job_of g.F.Field.coding c.args.job.now) read.0
    c.finish.new.self.change first now (taken_write read.0 first.place mid.place now.place
    c.finish.ensures.others.place.rest read.1) (c.in_ok-finish.ensures.all read.0 first read.2)

pub returns-in_err-buffer-clause-others : goal.returns-in_err-buffer-clause-others
returns-in_err-buffer-clause-others g c = passes_same (lent c.args.outside.now)

pub returns-in_err-new-clause-others : goal.returns-in_err-new-clause-others
returns-in_err-new-clause-others g c = passes_same (lent c.args.outside.now)

pub returns-in_err-read_again-clause-part : goal.returns-in_err-read_again-clause-part
returns-in_err-read_again-clause-part g c =
    on_any_err c.from_residual-in_err-read_again.result c.in_err-read_again.ensures.part

pub returns-in_err-read_again-clause-others : goal.returns-in_err-read_again-clause-others
returns-in_err-read_again-clause-others g c = c.read_again.ensures.others

pub returns-in_err-read_again-clause-cause : goal.returns-in_err-read_again-clause-cause
returns-in_err-read_again-clause-cause g c =
    let way = way_of c.args.job.now.to in
    let first = lent c.args.outside.now in
    let mid = lent c.read_again.new.outside in
    handed_on (IsStop (PassFailed way first.place mid.place) (SendingFailed way first.link mid.link) ⊥)
    c.from_residual-in_err-read_again.result c.in_err-read_again.field-0.0 c.from_residual-in_err-read_again.ensures.1
    c.in_err-read_again.ensures.cause

pub returns-in_err-finish-clause-others : goal.returns-in_err-finish-clause-others
returns-in_err-finish-clause-others g c =
    let first = lent c.args.outside.now in
    let mid = lent c.read_again.new.outside in
    let now = lent c.finish.new.outside in
    passes_then first mid now c.read_again.ensures.others (passes_grows mid now c.finish.ensures.others)

pub returns-in_err-finish-clause-cause : goal.returns-in_err-finish-clause-cause
returns-in_err-finish-clause-cause g c =
    let first = lent c.args.outside.now in
    let mid = lent c.read_again.new.outside in
    let now = lent c.finish.new.outside in
    stop_after (way_of c.args.job.now.to) first mid now c.from_residual-in_err-finish.result
    c.in_err-finish.field-0.0 c.from_residual-in_err-finish.ensures.1 c.read_again.ensures.others
    c.in_err-finish.ensures.cause

pub returns-clause-others : goal.returns-clause-others
returns-clause-others g c =
    let first = lent c.args.outside.now in
    let mid = lent c.read_again.new.outside in
    let now = lent c.finish.new.outside in
    passes_then first mid now c.read_again.ensures.others (passes_grows mid now c.finish.ensures.others)
