-- Where a splitter stands to which pieces were added (this project's own).
use Rattle.std.specs.Prelude.{◌≡◌, ◌≢◌, ℕ, ◌+◌, ◌-◌, ◌^◌, ◌<◌, ◌≤◌, ◌⊎◌, min, Bool, List, [], ◌∷◌, ◌++◌, length, map}
use Rattle.std.specs.Prelude.{slice_index, Option, Some, None, All, ◌==◌, not, true, false, if◌then◌else◌}
use Rattle.std.specs.List.{list_any, sum_by}
use Rattle.pet_base.specs.declared.kind.Kind.{Kind}
use Rattle.pet_base.specs.declared.kind.Kind.TheVariants.{Head, I, P, B, D}
use Rattle.pet_base.specs.declared.limits.TheConstants.{MAX_GROUPS, MAX_GROUP_BYTES, MAX_LAYERS}
use Rattle.mpeg_scan.specs.declared.piece.Piece.{Piece}
use Rattle.priority_file.specs.Priority.{Priorities, layer_of}
use Rattle.layer_split.specs.declared.cut.Run.{Run}
use Rattle.layer_split.specs.declared.fault.SplitFault.{SplitFault}
use Rattle.layer_split.specs.declared.fault.SplitFault.TheVariants as split
use Rattle.layer_split.specs.declared.kind_layers.KindLayers.{KindLayers}
use Rattle.layer_split.specs.declared.kind_layers.TheConstants.{PLACES}
use Rattle.layer_split.specs.declared.places.Places.{Places}
use Rattle.layer_split.specs.declared.splitter.Splitter.{Splitter}
use Rattle.layer_split.specs.Groups.{groups_of, groups_from, last_group, is_picture, begins_group}
use Rattle.layer_split.specs.Places.{number_of}
use Rattle.layer_split.specs.Runs.{runs_of, both}
use Rattle.layer_split.specs.Layers.{Cut, cut_of, run_table_size}
use Rattle.layer_split.specs.Faults.{fault_of, is_too_long}

-- the cuts of these groups
abbrev pub cuts_of : Priorities → List (List Piece) → List Cut
cuts_of priority groups = map (cut_of (layer_of priority) (length priority.layers)) groups

-- the layer of a place in a table of the places from 1 on, the last of which stands for all further ones
abbrev pub layer_at : List ℕ → ℕ → ℕ
layer_at table place = slice_index table (min place PLACES - 1)

-- the layers that were taken from a priority
abbrev pub layer_in : KindLayers → Kind → ℕ → ℕ
layer_in layers Head place = layers.head
layer_in layers I place = layers.i
layer_in layers P place = layer_at layers.p place
layer_in layers B place = layer_at layers.b place
layer_in layers D place = layers.d

pub record AreOf (layers : KindLayers) (priority : Priorities) : Type 0 where
  pub layer : (kind : Kind) (place : ℕ) → 0 < place → layer_in layers kind place ≡ layer_of priority kind place
  pub count : layers.count ≡ length priority.layers
  pub few : layers.count ≤ MAX_LAYERS
  pub within : (kind : Kind) (place : ℕ) → layer_of priority kind place < length priority.layers

-- the place as it is counted: as far as 32 bits can, and 1 where it is not looked at
abbrev pub place_in : Kind → ℕ → ℕ
place_in P place = min place (2 ^ 32 - 1)
place_in B place = min place (2 ^ 32 - 1)
place_in _ place = 1

-- the P and the B pictures of a group, counted as far as 32 bits can
abbrev pub HaveCounted : Places → List Piece → Type 0
HaveCounted places group =
    (places.p ≡ min (number_of P group) (2 ^ 32 - 1)) × (places.b ≡ min (number_of B group) (2 ^ 32 - 1))

-- whether a row behind these runs begins another run
abbrev pub begins_run : List Run → ℕ → Bool
begins_run [] layer = not false
begins_run (run ∷ []) layer = not (layer == run.layer)
begins_run (run ∷ next ∷ later) layer = begins_run (next ∷ later) layer

-- the runs with a row behind them, in one with the last where that is of its layer
abbrev pub with_run : List Run → Run → List Run
with_run [] run = run ∷ []
with_run (last ∷ []) run = if run.layer == last.layer then both last run ∷ [] else last ∷ (run ∷ [])
with_run (first ∷ next ∷ later) run = first ∷ with_run (next ∷ later) run

-- the bytes of a group's run table and pieces
abbrev pub group_size : (Kind → ℕ → ℕ) → List Piece → ℕ
group_size layer_of group = run_table_size (length (runs_of layer_of group)) + sum_by (λ piece. piece.len) group

-- these are the runs of a group that is not too long, its bytes, and the pictures that were counted in it
pub record IsGroup (layer_of : Kind → ℕ → ℕ) (group : List Piece) (runs : List Run) (size : ℕ)
    (places : Places) : Type 0 where
  pub runs_are : runs ≡ runs_of layer_of group
  pub size_is : size ≡ group_size layer_of group
  pub short : size ≤ MAX_GROUP_BYTES
  pub counted : HaveCounted places group

-- what a splitter holds of a group: these, or no more than that it is too long
abbrev pub Holds : Splitter → (Kind → ℕ → ℕ) → List Piece → Type 0
Holds splitter layer_of group =
    IsGroup layer_of group splitter.runs.items splitter.size splitter.places
    ⊎ ((MAX_GROUP_BYTES < splitter.size) × (MAX_GROUP_BYTES < group_size layer_of group))

-- what the runs and the size leave alone
pub record KeepsRest (old new : Splitter) : Type 0 where
  pub layers : new.layers ≡ old.layers
  pub has_picture : new.has_picture ≡ old.has_picture
  pub group : new.group ≡ old.group
  pub refused : new.refused ≡ old.refused

-- the current group with later pieces, and the groups after it
abbrev pub groups_after : List Piece → List Piece → List (List Piece)
groups_after [] later = groups_of later
groups_after (first ∷ current) later = groups_from (first ∷ current) later

-- The splitter for this priority was given these pieces, has answered these cuts, and refused nothing.
pub record HasAdded (splitter : Splitter) (priority : Priorities) (pieces : List Piece) (cuts : List Cut) : Type 0 where
  pub live : splitter.refused ≡ None
  pub layers : AreOf splitter.layers priority
  pub gone : List (List Piece)
  pub current : List Piece
  pub groups : (later : List Piece) → groups_of (pieces ++ later) ≡ gone ++ groups_after current later
  pub fresh : current ≡ [] → pieces ≡ []
  pub cut : cuts ≡ cuts_of priority gone
  pub fit : All (λ group. is_too_long (layer_of priority) (length priority.layers) group ≡ false) gone
  pub number : splitter.group ≡ length gone
  pub few : length gone < MAX_GROUPS
  pub picture : splitter.has_picture ≡ list_any is_picture current
  pub held : Holds splitter (layer_of priority) current

-- The piece would begin another group, and the one before it is too long, or there are as many as may be.
pub record IsOneTooMany (priority : Priorities) (pieces : List Piece) (piece : Piece) : Type 0 where
  pub begins : begins_group (last_group pieces) piece ≡ true
  pub last : (is_too_long (layer_of priority) (length priority.layers) (last_group pieces) ≡ true)
      ⊎ (length (groups_of pieces) ≡ MAX_GROUPS)

-- the splitter has refused with this
abbrev pub HasRefused : Splitter → SplitFault → Type 0
HasRefused splitter fault = splitter.refused ≡ Some fault

abbrev pub cuts_in : Option Cut → List Cut
cuts_in None = []
cuts_in (Some cut) = cut ∷ []

-- what the next piece does: the cut that it gives comes behind those before
abbrev pub TakesOn : Splitter → Splitter → Piece → Option Cut → Type 0
TakesOn old new piece cut = (priority : Priorities) (pieces : List Piece) (cuts : List Cut)
    → HasAdded old priority pieces cuts → HasAdded new priority (pieces ++ piece ∷ []) (cuts ++ cuts_in cut)

-- unless memory ran out, this is the fault of the pieces with this one, whatever comes later
abbrev pub MeetsFault : Splitter → Piece → SplitFault → Type 0
MeetsFault old piece fault = fault ≢ split.NoMemory → (priority : Priorities) (pieces : List Piece) (cuts : List Cut)
    → HasAdded old priority pieces cuts → (later : List Piece)
    → fault_of (layer_of priority) (length priority.layers) (groups_of (pieces ++ piece ∷ later)) ≡ Some fault

-- and this piece would begin another group, behind one that is too long or the last that may be
abbrev pub MeetsLast : Splitter → Piece → SplitFault → Type 0
MeetsLast old piece fault = fault ≢ split.NoMemory → (priority : Priorities) (pieces : List Piece) (cuts : List Cut)
    → HasAdded old priority pieces cuts → IsOneTooMany priority pieces piece

-- a run whose place is counted from this byte
abbrev pub rebased : ℕ → Run → Run
rebased from run = record { layer = run.layer; at = run.at - from; len = run.len }
