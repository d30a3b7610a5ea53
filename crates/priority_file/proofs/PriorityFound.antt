-- What the searches for the layer of a piece find.
use Rattle.std.proofs.Common.{◌≡◌, ◌<◌, ℕ, true, false, List, length, Option, Some, None, position, count_by}
use Rattle.std.proofs.Common.{option_and_then, unwrap_or, refl, sym, ◌∙◌}
use Rattle.std.specs.Option.{option_or}
use Rattle.std.proofs.lemmas.Option.{same_Some}
use Rattle.pet_base.specs.declared.Kind.{Kind}
use Rattle.priority_file.specs.Kinds.{index_of, place_index, has_class, has_some_class}
use Rattle.priority_file.specs.Priority.{Rule, Priorities, is_priority, layer_of, layer_of_kind, lists_place}
use Rattle.priority_file.specs.Priority.{IsOnlyLayerWith, IsOnlyLayerAt}
use Rattle.priority_file.specs.laws.OnlyOne.{count_by-none, nothing_passes}
use Rattle.priority_file.specs.laws.PriorityLaws.{layer_of_kind-position, layer_of-within, layer_of-listed}
use Rattle.priority_file.specs.laws.PriorityLaws.{layer_of-unlisted}

-- no layer has a place that is none
pub none_at : (layers : List Rule) (o found : Option ℕ) → found ≡ o → found ≡ None
    → 0 ≡ count_by (λ (r : Rule). has_some_class r.kinds o) layers
none_at layers o found is none =
    let missing : o ≡ None = sym is ∙ none in
    rw missing (sym (count_by-none (λ (r : Rule). false) layers (nothing_passes layers)))

or_some : (o : Option ℕ) (other : ℕ) → option_or o (Some other) ≡ Some (unwrap_or o other)
or_some None other = refl
or_some (Some i) other = refl

-- the layer that lists the place, and else the layer of the kind
pub searched : (p : Priorities) → is_priority p ≡ true
    → (k : Kind) (n : ℕ) (layers : List Rule) (class : ℕ) (at with found : Option ℕ) → layers ≡ p.layers
    → class ≡ index_of k
    → at ≡ option_and_then (λ i. position (λ (r : Rule). has_class r.kinds i) layers) (place_index k n)
    → with ≡ position (λ (r : Rule). has_class r.kinds class) layers
    → found ≡ option_or at with → found ≡ Some (layer_of p k n)
searched p h k n layers class at with found same is_class is_at is_with is =
    let other : with ≡ Some (layer_of_kind p k) = is_with ∙ rw (same, is_class) (layer_of_kind-position p h k) in
    let listed : at ≡ option_and_then (λ i. position (λ (r : Rule). has_class r.kinds i) p.layers) (place_index k n) =
    rw (← same) is_at in
    is ∙ rw (other, listed) (or_some _ (layer_of_kind p k))

-- what the layer that was found is
pub record IsLayer (p : Priorities) (k : Kind) (n i : ℕ) : Type 0 where
  pub value : i ≡ layer_of p k n
  pub within : i < length p.layers
  pub listed : lists_place k n p.layers ≡ true → IsOnlyLayerAt k n p.layers i
  pub unlisted : lists_place k n p.layers ≡ false → IsOnlyLayerWith k p.layers i

pub is_layer : (p : Priorities) → is_priority p ≡ true → (seen : Priorities) → p ≡ seen
    → (k : Kind) (n : ℕ) (found : Option ℕ) (i : ℕ) → found ≡ Some (layer_of p k n) → found ≡ Some i
    → IsLayer seen k n i
is_layer p h seen is_seen k n found i at is =
    let here : i ≡ layer_of p k n = same_Some i (layer_of p k n) (sym is ∙ at) in
    let all : IsLayer p k n (layer_of p k n) =
    record {
      value = refl;
      within = layer_of-within p h k n;
      listed = layer_of-listed p h k n;
      unlisted = layer_of-unlisted p h k n;
    } in
    rw (← is_seen, here) all
