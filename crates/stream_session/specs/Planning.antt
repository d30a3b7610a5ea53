-- Where a planner stands to the pieces that were added. This project's own.
use Rattle.std.specs.Prelude.{◌≡◌, ◌≤◌, ◌⊎◌, List, ◌++◌, length, map, Option, None, is_some, true, All}
use Rattle.pet_base.specs.declared.limits.TheConstants.{MAX_GROUPS, MAX_LAYERS}
use Rattle.mpeg_scan.specs.declared.piece.Piece.{Piece}
use Rattle.priority_file.specs.Priority.{Priorities, is_priority, layer_of}
use Rattle.layer_split.specs.Faults.{fault_of}
use Rattle.layer_split.specs.Groups.{groups_of}
use Rattle.layer_split.specs.Layers.{Cut}
use Rattle.layer_split.specs.Splitting.{HasAdded}
use Rattle.stream_session.specs.declared.group_tables.GroupTables.{GroupTables}
use Rattle.stream_session.specs.declared.needs.LayerNeeds.{LayerNeeds}
use Rattle.stream_session.specs.declared.planner.Planner.{Planner}
use Rattle.stream_session.specs.declared.fault.SessionFault.{SessionFault}
use Rattle.stream_session.specs.Tables.{sizes_of, IsFit}
use Rattle.stream_session.specs.Refusals.{fault_after}

-- these are the packets and the needs of the priority
pub record AreOf (held : LayerNeeds) (priority : Priorities) : Type 0 where
  pub packets : held.packets ≡ priority.packets
  pub needs : held.needs.items ≡ map (λ rule. rule.need) priority.layers
  pub few : length priority.layers ≤ MAX_LAYERS
  pub bounds : is_priority priority ≡ true

-- kept are the layers of these cuts, which are not too long and not too many
pub record HasTables (kept : GroupTables) (priority : Priorities) (cuts : List Cut) : Type 0 where
  pub needs : AreOf kept.needs priority
  pub layers : kept.layers.items ≡ map (sizes_of priority) cuts
  pub fit : All (IsFit priority) cuts
  pub few : length cuts ≤ MAX_GROUPS

-- the splitter has refused nothing, and of the cuts that it has answered the layers are kept
pub record IsLive (planner : Planner) (priority : Priorities) (pieces : List Piece) : Type 0 where
  pub cuts : List Cut
  pub none : planner.refused ≡ None
  pub added : HasAdded planner.splitter priority pieces cuts
  pub kept : HasTables planner.tables priority cuts

-- what was refused is the fault of the pieces, whatever comes later
pub record IsRefused (planner : Planner) (priority : Priorities) (pieces : List Piece) : Type 0 where
  pub needs : AreOf planner.tables.needs priority
  pub some : is_some planner.refused ≡ true
  pub fault : (later : List Piece) (rest : Option SessionFault)
      → fault_after (fault_of (layer_of priority) (length priority.layers) (groups_of (pieces ++ later))) rest
      ≡ planner.refused

-- The planner for this priority was given these pieces.
abbrev pub HasPlanned : Planner → Priorities → List Piece → Type 0
HasPlanned planner priority pieces = IsLive planner priority pieces ⊎ IsRefused planner priority pieces
