-- The numbers that a plan prints of a table within its bounds (this project's own): all are below 2 ^ 32, and each
-- stripe
-- has a length.
use Rattle.std.proofs.Common.{◌≡◌, ℕ, suc, ◌+◌, ◌^◌, ◌<◌, ◌≤◌, List, [], ◌∷◌, length, map, get_or, refl, sym, subst}
use Rattle.std.proofs.Common.{arith}
use Rattle.std.specs.Prelude.{⊤}
use Rattle.std.proofs.lemmas.List.Sums.{get_or-le-sum_by}
use Rattle.pet_base.specs.declared.limits.TheConstants.{MAX_GROUP_BYTES}
use Rattle.stripe_plan.specs.declared.layer.LayerSize.{LayerSize}
use Rattle.stripe_plan.specs.Stripes.{IsPlan, stripes_of}
use Rattle.stripe_plan.specs.Layers.{needs_of, plan_ends, bound_of, count_of, stripes_from}
use Rattle.stripe_plan.specs.Sizes.{IsTable, datagram_length_of}
use Rattle.stripe_plan.proofs.LayerLemmas.{length-needs_of, words_le_bytes, bound_le_bytes}
use Rattle.stripe_plan.proofs.CountLemmas.{count_of-le}
use Rattle.stripe_plan.proofs.PlanLemmas.{plan_ends_plan}
use Rattle.text_plan.specs.PlanLines.{plan_lengths}
use Rattle.text_plan.specs.laws.RowLaws.{AllFit}

-- a list of stripe lengths of a plan from `start` on, with no more stripes than words
stripes_fit : (needs : List ℕ) (start : ℕ) (ends : List ℕ) → length needs < 2 ^ 32 → IsPlan needs start ends
    → AllFit (map (λ stripe. stripe.1) (stripes_of start ends)) × (start + length ends ≤ length needs)
stripes_fit needs start [] few plan = (tt, omega (arith, plan))
stripes_fit needs start (end ∷ ends) few plan =
    let rest = stripes_fit needs end ends few plan.1 in
    let begun = plan.0.respects.begun in
    ((omega arith, omega (arith, plan.0.respects.inside), rest.0), omega (arith, rest.1))

length-map_lengths : (start : ℕ) (ends : List ℕ)
    → length (map (λ stripe. stripe.1) (stripes_of start ends)) ≡ length ends
length-map_lengths start [] = refl
length-map_lengths start (end ∷ ends) = omega (arith, length-map_lengths end ends)

-- a table's words are few
pub words_few : (packets : ℕ) (layers : List LayerSize) → IsTable packets layers
    → length (needs_of layers) ≤ MAX_GROUP_BYTES
words_few packets layers table = omega (arith, length-needs_of layers, words_le_bytes layers, table.few_bytes)

-- there are as many lengths as ends
pub length-plan_lengths : (layers : List LayerSize) → length (plan_lengths layers) ≡ length (plan_ends layers)
unfolding stripes_from
length-plan_lengths layers = length-map_lengths 0 (plan_ends layers)

-- each length of a table's plan is from 1 on and below 2 ^ 32
pub lengths_fit : (packets : ℕ) (layers : List LayerSize) → IsTable packets layers → AllFit (plan_lengths layers)
unfolding stripes_from
lengths_fit packets layers table =
    (stripes_fit (needs_of layers) 0 (plan_ends layers) (omega (arith, words_few packets layers table))
    (plan_ends_plan layers table.needed)).0

-- there are no more than words
pub ends_few : (packets : ℕ) (layers : List LayerSize) → IsTable packets layers
    → length (plan_ends layers) ≤ length (needs_of layers)
ends_few packets layers table =
    omega (
      arith,
      (stripes_fit (needs_of layers) 0 (plan_ends layers) (omega (arith, words_few packets layers table))
          (plan_ends_plan layers table.needed)).1,
    )

-- where there are words, there is one
pub lengths_some : (packets : ℕ) (layers : List LayerSize) → IsTable packets layers → 0 < length (needs_of layers)
    → 0 < length (plan_lengths layers)
lengths_some packets layers table some =
    subst (λ n. 0 < n) (sym (length-plan_lengths layers)) (go (plan_ends layers) (plan_ends_plan layers table.needed))
  where
    go : (ends : List ℕ) → IsPlan (needs_of layers) 0 ends → 0 < length ends
    go [] plan = absurd (omega (arith, plan))
    go (end ∷ ends) plan = omega arith

-- the numbers of a layer's line are below 2 ^ 32
pub record NumbersFit (layer : ℕ) (size : LayerSize) (count : ℕ) : Type 0 where
  pub number : layer < 2 ^ 32
  pub bytes : size.length < 2 ^ 32
  pub need : size.need < 2 ^ 32
  pub shown : count < 2 ^ 32

-- those of all layers from this number on
abbrev pub LayersFit : ℕ → List LayerSize → List LayerSize → Type 0
LayersFit layer [] all = ⊤
LayersFit layer (size ∷ sizes) all = NumbersFit layer size (count_of all layer) × LayersFit (layer + 1) sizes all

layers_by_index : (layer : ℕ) (sizes all : List LayerSize)
    → ((i : ℕ) (d : LayerSize) → i < length sizes
    → NumbersFit (layer + i) (get_or sizes i d) (count_of all (layer + i))) → LayersFit layer sizes all
layers_by_index layer [] all each = tt
layers_by_index layer (size ∷ sizes) all each =
    let here : layer + 0 ≡ layer = omega arith in (
      subst (λ n. NumbersFit n size (count_of all n)) here (each 0 size (omega arith)),
      layers_by_index (layer + 1) sizes all (λ i d inside.
          let next : layer + suc i ≡ layer + 1 + i = omega arith in
          subst (λ n. NumbersFit n (get_or sizes i d) (count_of all n)) next (each (suc i) d (omega arith))),
    )

-- the numbers of a table's lines are
pub layers_fit : (packets : ℕ) (layers : List LayerSize) → IsTable packets layers → LayersFit 0 layers layers
layers_fit packets layers table = layers_by_index 0 layers layers (λ i d inside.
    let count = count_of-le layers i d inside table.needed in
    let need = table.within i d inside in
    let same : 0 + i ≡ i = omega arith in
    subst (λ n. NumbersFit n (get_or layers i d) (count_of layers n)) (sym same) (record {
      number = omega (arith, table.few_layers);
      bytes = omega (arith, table.few_bytes, get_or-le-sum_by (λ (layer : LayerSize). layer.length) layers i d inside);
      need = omega (arith, table.few_packets);
      shown = omega (arith, table.few_packets);
    }))

-- the numbers of a group's line are
pub record GroupFits (layers : List LayerSize) : Type 0 where
  pub words : length (needs_of layers) < 2 ^ 32
  pub stripes : length (plan_ends layers) < 2 ^ 32
  pub bound : bound_of layers < 2 ^ 32
  pub datagram : datagram_length_of layers < 2 ^ 32

pub group_fits : (packets : ℕ) (layers : List LayerSize) → IsTable packets layers → GroupFits layers
group_fits packets layers table = record {
  words = omega (arith, words_few packets layers table);
  stripes = omega (arith, words_few packets layers table, ends_few packets layers table);
  bound = omega (arith, bound_le_bytes layers, table.few_bytes);
  datagram = omega (arith, table.narrow);
}
