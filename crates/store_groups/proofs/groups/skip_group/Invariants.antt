use Rattle.std.proofs.Common.{List}
use Rattle.packet_frame.specs.Frame.{Fields}
use Rattle.store_groups.specs.inside.Groups.{IsCut}
use Rattle.store_groups.proofs.GroupEntries.{Left}
use Rattle.store_groups.proofs.groups.skip_group.Given as goal

-- so many of the group were gone over
abbrev pub invariant-loop-done : goal.invariant-loop-done
invariant-loop-done l =
    (own other : List Fields) → IsCut l.group l.count l.entries own other
    → Left l.group l.count l.done l.rest own other
