-- What a priority is, which is this project's own: a number of packets, and layers that each have a name, a set of
-- kinds
-- and places, and a need, which is the number of packets that show the layer.
use Rattle.std.specs.Prelude.{◌≡◌, ◌<◌, ℕ, Bool, false, not, ◌&&◌, ◌==◌, nat_lt, List, [], ◌∷◌, length, count_by}
use Rattle.std.specs.Prelude.{slice_get, IsTrue, IfSome, Option, option_and_then, unwrap_or, position}
use Rattle.std.specs.List.{list_all, list_any, position_or_len, range_with_len}
use Rattle.pet_base.specs.declared.Kind.{Kind}
use Rattle.pet_base.specs.declared.Kind.TheVariants.{Head, P, B}
use Rattle.pet_base.specs.declared.limits.TheConstants.{MAX_PACKETS}
use Rattle.priority_file.specs.declared.kinds.TheConstants.{LAST_PLACE}
use Rattle.priority_file.specs.Kinds.{has_class, has_kind, has_place, place_index, all_kinds}

-- a layer: its name, the bits of its kinds and places, and its need
pub record Rule : Type 0 where
  pub name : List ℕ
  pub kinds : ℕ
  pub need : ℕ

pub record Priorities : Type 0 where
  pub packets : ℕ
  pub layers : List Rule

-- how many of the layers have the kind
abbrev pub layers_with : Kind → List Rule → ℕ
layers_with k rules = count_by (λ r. has_kind r.kinds k) rules

-- how many of the layers have the place
abbrev pub layers_at : Kind → ℕ → List Rule → ℕ
layers_at k n rules = count_by (λ r. has_place r.kinds k n) rules

unfoldable pub has_each_kind_once : List Rule → Bool
has_each_kind_once rules = list_all (λ k. layers_with k rules == 1) all_kinds

-- at most one layer lists the n-th P picture, and at most one the n-th B picture
abbrev pub has_places_once : List Rule → ℕ → Bool
has_places_once rules n = not (nat_lt 1 (layers_at P n rules)) && not (nat_lt 1 (layers_at B n rules))

unfoldable pub has_no_place_twice : List Rule → Bool
has_no_place_twice rules = list_all (has_places_once rules) (range_with_len 1 LAST_PLACE)

abbrev pub head_is_first : List Rule → Bool
head_is_first [] = false
head_is_first (r ∷ rules) = has_kind r.kinds Head

abbrev pub is_packets : ℕ → Bool
is_packets n = nat_lt 0 n && not (nat_lt MAX_PACKETS n)

abbrev pub is_need : ℕ → ℕ → Bool
is_need packets n = nat_lt 0 n && not (nat_lt packets n)

-- what a `Priority` keeps
abbrev pub is_priority : Priorities → Bool
is_priority p =
    (((is_packets p.packets && list_all (λ r. is_need p.packets r.need) p.layers)
    && has_each_kind_once p.layers)
    && has_no_place_twice p.layers)
    && head_is_first p.layers

-- the number of the layer that has the kind, from 0
abbrev pub layer_of_kind : Priorities → Kind → ℕ
layer_of_kind p k = position_or_len (λ r. has_kind r.kinds k) p.layers

-- the number of the layer that lists the n-th picture of the kind, where one does
abbrev pub layer_of_place : Priorities → Kind → ℕ → Option ℕ
layer_of_place p k n = option_and_then (λ i. position (λ r. has_class r.kinds i) p.layers) (place_index k n)

-- the number of the layer of a piece, by its kind and, for a P or B picture, its place in the group: that of the layer
-- that lists the place, and where none does that of the layer that has the kind
abbrev pub layer_of : Priorities → Kind → ℕ → ℕ
layer_of p k n = unwrap_or (layer_of_place p k n) (layer_of_kind p k)

-- the layer i passes the test, and no other layer passes it
pub record IsOnlyLayer (test : Rule → Bool) (layers : List Rule) (i : ℕ) : Type 0 where
  pub within : i < length layers
  pub listed : IfSome (slice_get layers i) (λ r. IsTrue (test r))
  pub only : (j : ℕ) → IfSome (slice_get layers j) (λ r. IsTrue (test r) → j ≡ i)

-- the layer i has the kind, and no other layer has it
abbrev pub IsOnlyLayerWith : Kind → List Rule → ℕ → Type 0
IsOnlyLayerWith k layers i = IsOnlyLayer (λ r. has_kind r.kinds k) layers i

-- the layer i lists the n-th picture of the kind, and no other layer lists it
abbrev pub IsOnlyLayerAt : Kind → ℕ → List Rule → ℕ → Type 0
IsOnlyLayerAt k n layers i = IsOnlyLayer (λ r. has_place r.kinds k n) layers i

-- a layer lists the n-th picture of the kind
abbrev pub lists_place : Kind → ℕ → List Rule → Bool
lists_place k n layers = list_any (λ r. has_place r.kinds k n) layers
