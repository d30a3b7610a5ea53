use Rattle.std.proofs.Common.{ℕ, List}
use Rattle.priority_file.specs.Priority.{Priorities}
use Rattle.stream_groups.specs.Cutting.{pieces_left}
use Rattle.stream_session.specs.inside.Marking.{HasKept}
use Rattle.stream_session.proofs.marking.keep_ended.Given as goal

abbrev pub invariant-loop-ended : goal.invariant-loop-ended
invariant-loop-ended l =
    (priority : Priorities) (stream : List ℕ) → HasKept l.initial.cutter l.initial.kept priority stream
    → HasKept l.cutter l.kept priority stream

-- with each group fewer pieces are left
abbrev pub decreases-loop-ended : goal.decreases-loop-ended
decreases-loop-ended l = pieces_left l.cutter
