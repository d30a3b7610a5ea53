use Rattle.std.proofs.Common.{◌++◌, List, take}
use Rattle.mpeg_scan.specs.declared.piece.Piece.{Piece}
use Rattle.priority_file.specs.Priority.{Priorities}
use Rattle.stream_session.specs.Planning.{HasPlanned}
use Rattle.stream_session.proofs.pass.add_all.Given as goal

abbrev pub invariant-loop-piece : goal.invariant-loop-piece
invariant-loop-piece l =
    (priority : Priorities) (given : List Piece) → HasPlanned l.initial.planner priority given
    → HasPlanned l.planner priority (given ++ take l.piece-index l.pieces)
