-- The layers of kinds and places that a splitter keeps.
use Rattle.std.proofs.Common.{◌≡◌, ℕ, ◌+◌, ◌-◌, ◌<◌, false, List, map, min, get_or, sym, ◌∙◌, ap, arith, inl, inr}
use Rattle.std.specs.List.{range_with_len}
use Rattle.std.proofs.lemmas.Bool.{cases_lt}
use Rattle.std.proofs.lemmas.List.FromFn.{get_or-map-range_with_len}
use Rattle.pet_base.specs.declared.kind.Kind.{Kind}
use Rattle.pet_base.specs.declared.kind.Kind.TheVariants.{Head, I, P, B, D}
use Rattle.priority_file.specs.declared.kinds.TheConstants.{LAST_PLACE}
use Rattle.priority_file.specs.Kinds.{has_places}
use Rattle.priority_file.specs.Priority.{Priorities, layer_of}
use Rattle.priority_file.specs.laws.PriorityLaws.{layer_of-no_places, layer_of-past}
use Rattle.mpeg_scan.specs.declared.piece.Piece.{Piece}
use Rattle.layer_split.specs.declared.kind_layers.KindLayers.{KindLayers}
use Rattle.layer_split.specs.declared.kind_layers.TheConstants.{PLACES}
use Rattle.layer_split.specs.Places.{place_behind, placed_at}
use Rattle.layer_split.specs.Runs.{run_of}
use Rattle.layer_split.specs.Splitting.{AreOf, layer_at, layer_in, place_in}

-- a place is not looked at where its kind has none
pub same_layer : (priority : Priorities) (kind : Kind) (place : ℕ) → has_places kind ≡ false
    → layer_of priority kind 1 ≡ layer_of priority kind place
same_layer priority kind place none =
    layer_of-no_places priority kind 1 none ∙ sym (layer_of-no_places priority kind place none)

-- the table of a kind's places is right at each of them, and at all further ones
pub table_is : (priority : Priorities) (kind : Kind) (table : List ℕ) (place : ℕ)
    → table ≡ map (layer_of priority kind) (range_with_len 1 PLACES) → 0 < place
    → layer_at table place ≡ layer_of priority kind place
table_is priority kind table place is some =
    ap (λ l. get_or l (min place PLACES - 1) 0) is
    ∙ (get_or-map-range_with_len (layer_of priority kind) 1 PLACES (min place PLACES - 1) (min place PLACES) 0
    (omega arith) (omega arith)
    ∙ elim (cases_lt LAST_PLACE place) [
      | inl past ↦
          (let last : min place PLACES ≡ LAST_PLACE + 1 = omega arith in
          layer_of-past priority kind (min place PLACES) (omega arith) ∙ sym (layer_of-past priority kind place past))
      | inr within ↦ ap (layer_of priority kind) (let e : min place PLACES ≡ place = omega arith in e)
    ])

-- and a place as far as 32 bits count is as good
layer_is : (layers : KindLayers) (priority : Priorities) → AreOf layers priority
    → (kind : Kind) (place counted layer : ℕ) → layer ≡ layer_in layers kind counted → counted ≡ place_in kind place
    → 0 < place → layer ≡ layer_of priority kind place
layer_is layers priority are Head place counted layer is count some = is ∙ are.layer Head place some
layer_is layers priority are I place counted layer is count some = is ∙ are.layer I place some
layer_is layers priority are P place counted layer is count some =
    is ∙ (ap (λ n. get_or layers.p (n - 1) 0) (let e : min counted PLACES ≡ min place PLACES = omega arith in e)
    ∙ are.layer P place some)
layer_is layers priority are B place counted layer is count some =
    is ∙ (ap (λ n. get_or layers.b (n - 1) 0) (let e : min counted PLACES ≡ min place PLACES = omega arith in e)
    ∙ are.layer B place some)
layer_is layers priority are D place counted layer is count some = is ∙ are.layer D place some

-- so that the row of a piece is the right one
pub row_is : (layers : KindLayers) (priority : Priorities) → AreOf layers priority
    → (group : List Piece) (p : Piece) (counted layer : ℕ) → layer ≡ layer_in layers p.kind counted
    → counted ≡ place_in p.kind (place_behind group p)
    → record { layer = layer; at = p.at; len = p.len } ≡ run_of (layer_of priority) (placed_at group p)
row_is layers priority are group p counted layer is count =
    ap (λ n. record { layer = n; at = p.at; len = p.len })
    (layer_is layers priority are p.kind (place_behind group p) counted layer is count (omega arith))
