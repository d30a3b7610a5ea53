-- One group more.
use Rattle.stream_session.proofs.KeptInOrder.{keeps_next}
use Rattle.stream_session.proofs.marking.keep_all.Goals as goal

pub loop-group-preserved : goal.loop-group-preserved
loop-group-preserved c priority before few fit h =
    let i = c.loop-group.group-index in
    let groups = c.args.groups.now in
    keeps_next c.loop-group.kept c.keep.new.self priority before groups i c.group-item.result c.group-item.is
    c.loop-group-test.true few fit
    c.in_ok-keep.ensures (c.loop-group.invariant priority before few fit h)
