-- One group more, or none.
use Rattle.stream_session.proofs.KeptInOrder.{keeps_given}
use Rattle.stream_session.proofs.marking.keep_ended.Goals as goal

pub loop-ended-preserved : goal.loop-ended-preserved
loop-ended-preserved c priority stream h =
    keeps_given c.loop-ended.cutter c.next.new.self c.loop-ended.kept c.keep.new.self c.in_ok-ended.field-0
    c.in-Some.ended priority stream c.in-Some.is
    c.in_ok-ended.ensures.cut c.in_ok-keep.ensures (c.loop-ended.invariant priority stream h)
