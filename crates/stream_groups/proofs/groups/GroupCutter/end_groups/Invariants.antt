use Rattle.std.proofs.Common.{ℕ, List, ◌++◌}
use Rattle.priority_file.specs.Priority.{Priorities}
use Rattle.stream_groups.specs.CutGroups.{CutGroup}
use Rattle.stream_groups.specs.Cutting.{HasEnded, pieces_left}
use Rattle.stream_groups.proofs.groups.GroupCutter.end_groups.Given as goal

-- the groups that ended were appended
abbrev pub invariant-loop-self : goal.invariant-loop-self
invariant-loop-self l =
    (priority : Priorities) (stream : List ℕ) (given : List CutGroup)
    → HasEnded l.initial.self priority stream (given ++ l.initial.groups.items)
    → HasEnded l.self priority stream (given ++ l.groups.items)

abbrev pub decreases-loop-self : goal.decreases-loop-self
decreases-loop-self l = pieces_left l.self
