-- The tables of a stream's groups: each layer's length is that of the cut, and its need that of the priority. This
-- project's own.
use Rattle.std.specs.Prelude.{ℕ, List, [], ◌∷◌, map, ◌≡◌, ◌≤◌, length, sum, if◌then◌else◌}
use Rattle.stripe_plan.specs.declared.layer.LayerSize.{LayerSize}
use Rattle.stripe_plan.specs.Sizes.{Sizes, ArePlanBounds, planned}
use Rattle.packet_frame.specs.declared.format.Format.{Format}
use Rattle.packet_frame.specs.Format.{IsFormat}
use Rattle.mpeg_scan.specs.Pieces.{pieces_of}
use Rattle.priority_file.specs.Priority.{Rule, Priorities}
use Rattle.layer_split.specs.Groups.{groups_of}
use Rattle.layer_split.specs.Layers.{Cut}
use Rattle.layer_split.specs.Splitting.{cuts_of}
use Rattle.pet_base.specs.declared.limits.TheConstants.{MAX_GROUP_BYTES, MAX_LAYERS}

-- these lengths, each with the need of its layer
abbrev pub sizes_with : List ℕ → List Rule → List LayerSize
sizes_with (bytes ∷ lengths) (rule ∷ rules) = record { length = bytes; need = rule.need } ∷ sizes_with lengths rules
sizes_with _ _ = []

-- the layers of a cut
abbrev pub sizes_of : Priorities → Cut → List LayerSize
sizes_of priority cut = sizes_with cut.lengths priority.layers

abbrev pub table_of : Priorities → Cut → Sizes
table_of priority cut = record { packets = priority.packets; layers = sizes_of priority cut }

abbrev pub tables_of : Priorities → List Cut → List Sizes
tables_of priority cuts = map (table_of priority) cuts

-- in a format: the tables whose words its plans cut
abbrev pub table_of_in : Format → Priorities → Cut → Sizes
table_of_in t priority cut = record { packets = priority.packets; layers = planned t.bounds (sizes_of priority cut) }

abbrev pub tables_of_in : Format → Priorities → List Cut → List Sizes
tables_of_in t priority cuts = map (table_of_in t priority) cuts

-- the cuts of a stream's groups
abbrev pub cuts_of_stream : Priorities → List ℕ → List Cut
cuts_of_stream priority stream = cuts_of priority (groups_of (pieces_of stream))

-- the cut has a length for each layer of the priority, and is not too long
pub record IsFit (priority : Priorities) (cut : Cut) : Type 0 where
  pub count : length cut.lengths ≡ length priority.layers
  pub bytes : sum cut.lengths ≤ MAX_GROUP_BYTES

-- these lengths, each with its need
abbrev pub sizes_by : List ℕ → List ℕ → List LayerSize
sizes_by (bytes ∷ lengths) (need ∷ needs) = record { length = bytes; need = need } ∷ sizes_by lengths needs
sizes_by _ _ = []

-- what is asked of a format in which the sessions of streams are sent: it allows as many layers as a priority may have,
-- and a word that its plan cuts has the format's bytes, one where the plan cuts layers of twice the lengths, and else two
pub record IsSessionFormat (t : Format) : Type 0 where
  pub format : IsFormat t
  pub plan : ArePlanBounds t.bounds
  pub layers : t.bounds.layers ≡ MAX_LAYERS
  pub word : t.word ≡ (if t.bounds.doubled then 1 else 2)
