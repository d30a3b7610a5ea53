use Rattle.std.proofs.Common.{List, take}
use Rattle.priority_file.specs.Priority.{Priorities}
use Rattle.layer_split.specs.Layers.{Cut}
use Rattle.stream_session.specs.Planning.{HasTables}
use Rattle.stream_session.proofs.OneGroupMore.{StandsAt}
use Rattle.stream_session.proofs.group_tables.GroupTables.tables_in.Given as goal

-- the tables of the groups so far, and the first that is too wide
abbrev pub invariant-loop-group : goal.invariant-loop-group
invariant-loop-group l =
    (priority : Priorities) (cuts : List Cut) → HasTables l.self priority cuts
    → StandsAt l.format priority (take l.group cuts) l.wide l.tables.items
