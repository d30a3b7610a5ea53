use Rattle.stream_groups.specs.Cutting.{pieces_left}
use Rattle.test_sessions.proofs.cutter_tests.take_ended.Given as goal

-- with each group fewer pieces are left
abbrev pub decreases-loop-group : goal.decreases-loop-group
decreases-loop-group l = pieces_left l.cutter
