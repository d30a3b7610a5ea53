use Rattle.std.proofs.Common.{◌+◌, ◌-◌}
use Rattle.stream_sample.specs.SampleStream.{group_text, sample_text}
use Rattle.stream_sample.proofs.Appended.{one_more, all_appended}
use Rattle.stream_sample.proofs.Steps.{group_next, groups_end}
use Rattle.stream_sample.proofs.groups.append_groups.Goals as goal

pub loop-made-preserved : goal.loop-made-preserved
loop-made-preserved c =
    let now = c.loop-made.filler.state in
    let next = c.append_group.new.filler.state in
    let made = c.loop-made.made in
    let groups = c.args.groups in
    one_more c.args.into.now.items (sample_text c.args.seed groups)
    (sample_text now (groups - made)) c.loop-made.into.items
    (group_text now) (sample_text next (groups - (made + 1))) c.append_group.new.into.items c.loop-made.invariant
    (group_next now groups made next c.loop-made-test.true c.in_ok-append_group.ensures.state)
    c.in_ok-append_group.ensures.ok

pub returns-clause-ok : goal.returns-clause-ok
returns-clause-ok c =
    all_appended c.args.into.now.items (sample_text c.args.seed c.args.groups)
    (sample_text c.loop-made.filler.state (c.args.groups - c.loop-made.made)) c.loop-made.into.items
    c.loop-made.invariant
    (groups_end c.loop-made.filler.state c.args.groups c.loop-made.made c.loop-made-test.false)
