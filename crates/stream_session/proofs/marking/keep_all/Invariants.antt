use Rattle.std.proofs.Common.{◌≤◌, ◌++◌, List, length, take}
use Rattle.std.specs.Prelude.{All}
use Rattle.pet_base.specs.declared.limits.TheConstants.{MAX_GROUPS}
use Rattle.priority_file.specs.Priority.{Priorities}
use Rattle.stream_groups.specs.CutGroups.{CutGroup}
use Rattle.stream_session.specs.Tables.{IsFit}
use Rattle.stream_session.specs.inside.Marking.{AreKept}
use Rattle.stream_session.proofs.marking.keep_all.Given as goal

-- the groups so far are kept
abbrev pub invariant-loop-group : goal.invariant-loop-group
invariant-loop-group l =
    (priority : Priorities) (before : List CutGroup) → length (before ++ l.groups) ≤ MAX_GROUPS
    → All (λ (group : CutGroup). IsFit priority group.cut) l.groups
    → AreKept l.initial.kept priority before → AreKept l.kept priority (before ++ take l.group-index l.groups)
