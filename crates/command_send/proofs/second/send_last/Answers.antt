use Rattle.std.proofs.Common.{◌++◌, length, subst, sym, List}
use Rattle.std.proofs.lemmas.Result.{IfOk-weaker, on_err_weaker}
use Rattle.stream_groups.specs.CutGroups.{CutGroup}
use Rattle.stream_groups.specs.Cutting.{AreAll}
use Rattle.stream_groups.specs.laws.EndedLaws.{given_ended, fault_refuses}
use Rattle.stream_groups.specs.laws.FilledLaws.{IsFilled, groups_filled}
use Rattle.stream_groups.specs.laws.FittingLaws.{IsWhole, groups_whole}
use Rattle.command_send.specs.inside.Job.{job_of, lent}
use Rattle.command_send.proofs.LeastChange.{ends_lost}
use Rattle.command_send.proofs.FoundGroups.{all_refused}
use Rattle.command_send.proofs.GroupsSoFar.{part_gone, part_found, left_all}
use Rattle.command_send.proofs.second.send_last.Goals as goal

pub returns-in-NoMemory-clause-part : goal.returns-in-NoMemory-clause-part
returns-in-NoMemory-clause-part g c stream first h =
    let now = lent c.args.outside.now in
    part_found (job_of g.F.Field.coding c.args.job.now) stream first now
    (part_gone (job_of g.F.Field.coding c.args.job.now) stream c.args.groups.now first now h)

pub send_left-requires-clause-whole : goal.send_left-requires-clause-whole
send_left-requires-clause-whole g c =
    let priority = c.args.job.now.found.source.priority in
    left_all (IsWhole (length priority.layers)) priority c.args.groups.now.cutter c.in-Ok.left.items c.deref.result.now
    (groups_whole priority)
    c.requires.known c.in-Ok.ensures.whole c.deref.ensures.value

pub send_left-requires-clause-filled : goal.send_left-requires-clause-filled
send_left-requires-clause-filled g c =
    let priority = c.args.job.now.found.source.priority in
    left_all IsFilled priority c.args.groups.now.cutter c.in-Ok.left.items c.deref.result.now (groups_filled priority)
    c.requires.known c.in-Ok.ensures.whole c.deref.ensures.value

pub returns-in-Ok-clause-all : goal.returns-in-Ok-clause-all
returns-in-Ok-clause-all g c =
    let source = c.args.job.now.found.source in
    let whole = c.in-Ok.ensures.whole in
    IfOk-weaker c.send_left.result _ _
    (λ after h stream first gone none.
    let all = whole source.priority stream gone.groups gone.cut in
    h stream first gone.groups gone.number (subst
    (λ (l : List CutGroup). AreAll source.priority stream (gone.groups ++ l)) (sym c.deref.ensures.value) all)
    gone.sent)
    c.send_left.ensures.all

pub returns-in-Ok-clause-part : goal.returns-in-Ok-clause-part
returns-in-Ok-clause-part g c =
    let source = c.args.job.now.found.source in
    let whole = c.in-Ok.ensures.whole in
    on_err_weaker c.send_left.result
    (λ h stream first gone.
    let all = whole source.priority stream gone.groups gone.cut in
    h stream first gone.groups gone.number (subst
    (λ (l : List CutGroup). AreAll source.priority stream (gone.groups ++ l)) (sym c.deref.ensures.value) all)
    gone.sent)
    c.send_left.ensures.part

pub returns-in_default-clause-all : goal.returns-in_default-clause-all
returns-in_default-clause-all g c stream first gone none =
    let source = c.args.job.now.found.source in
    let now = lent c.args.outside.now in
    ends_lost (job_of g.F.Field.coding c.args.job.now) stream gone.groups c.args.groups.now.sent first now
    c.first_lost.result gone.number gone.sent
    (all_refused source.priority stream gone.groups
    (given_ended c.args.groups.now.cutter source.priority stream gone.groups gone.cut)
    (fault_refuses source.priority stream c.in-Err.fault c.in_default.not-NoMemory
    (c.in-Err.ensures.refused source.priority stream gone.groups gone.cut))
    (c.in-Err.ensures.further source.priority stream gone.groups gone.cut none))
    c.first_lost.ensures.lost c.first_lost.ensures.none
