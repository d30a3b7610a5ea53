-- How long the stripes of a layer are, and that each stripe of the plan has a word of a layer.
use Rattle.std.proofs.Common.{◌≡◌, ℕ, zero, suc, ◌+◌, ◌-◌, ◌^◌, ◌<◌, ◌≤◌, List, [], ◌∷◌, length, get_or, take, All}
use Rattle.std.proofs.Common.{ap, ◌∙◌, arith, inl, inr, sum_by}
use Rattle.std.proofs.lemmas.Bool.{cases_lt}
use Rattle.std.proofs.Math.ListN as M
use Rattle.std.proofs.lemmas.List.{length-map}
use Rattle.std.proofs.lemmas.List.Elements.{All-contains, All-from_get_or}
use Rattle.std.proofs.lemmas.List.Sums.{sum_by-cons}
use Rattle.stripe_plan.specs.declared.layer.LayerSize.{LayerSize}
use Rattle.stripe_plan.specs.Counts.{Meets}
use Rattle.stripe_plan.specs.Layers.{AllNeeded, count_of, needs_of, plan_ends, plan_stripes, stripe_lengths}
use Rattle.stripe_plan.specs.Layers.{stripes_from, words_before, words_of}
use Rattle.stripe_plan.specs.Stripes.{IsPlan, stripes_of}
use Rattle.stripe_plan.proofs.CountLemmas.{count_of-greatest}
use Rattle.stripe_plan.proofs.LayerLemmas.{length-needs_of}
use Rattle.stripe_plan.proofs.PlanLemmas.{plan_ends_plan}
use Rattle.stripe_plan.proofs.TableLemmas.{words_half}
use Rattle.stripe_plan.specs.Sizes.{IsTable}
use Rattle.packet_group.proofs.Cuts.{plan_on_end}

-- the words of a table's layers, however they were read, are few enough to be counted
pub few_words : (packets : ℕ) (layers rows : List LayerSize) → IsTable packets layers → rows ≡ layers
    → sum_by words_of rows < 2 ^ 32
few_words packets layers rows table same =
    omega (
      arith,
      ap (λ (l : List LayerSize). sum_by words_of l) same,
      words_half layers,
      table.few_bytes,
      table.few_layers,
    )

-- ---- the count of a layer and the lengths of its stripes

module _ (layers : List LayerSize) (needed : AllNeeded layers) (layer : ℕ) (inside : layer < length layers) (j : ℕ)
    (l : j < length (plan_stripes layers))
    (meets : Meets (words_before layers layer) (words_before layers (layer + 1))
    (get_or (plan_stripes layers) j (0, 0))) where
  some : words_before layers layer < words_before layers (layer + 1)
  some = omega (arith, meets.3, meets.4)

  -- a stripe that has a word of a layer is no longer than its count
  pub stripe_short : (get_or (plan_stripes layers) j (0, 0)).1 ≤ count_of layers layer
  stripe_short = (count_of-greatest layers layer needed inside some).largest j (0, 0) l meets

  -- and the count is no greater than the longest stripe is long
  pub count_short : (most : ℕ) → All (λ n. n ≤ most) (stripe_lengths layers) → count_of layers layer ≤ most
  count_short most short =
      let plan = plan_stripes layers in
      let reached = (count_of-greatest layers layer needed inside some).reached in
      let each : All (λ (s : ℕ × ℕ). s.1 ≤ most) plan =
      All-from_get_or (λ (s : ℕ × ℕ). s.1 ≤ most) plan (0, 0)
      (λ i k. omega (
        arith,
        short i 0 (omega (arith, k, length-map plan (λ (s : ℕ × ℕ). s.1))),
        M.get_or-map (λ (s : ℕ × ℕ). s.1) plan i (0, 0),
      )) in
      let last : reached.0.1 ≤ most = All-contains (λ (s : ℕ × ℕ). s.1 ≤ most) plan reached.0 each reached.1 in
      omega (arith, last, reached.3)

-- ---- each stripe has a word, and each word is in a layer

record IsInLayer (layers : List LayerSize) (word : ℕ) : Type 0 where
  pub layer : ℕ
  pub inside : layer < length layers
  pub from : words_before layers layer ≤ word
  pub below : word < words_before layers (layer + 1)

words_behind : (x : LayerSize) (layers : List LayerSize) (i : ℕ)
    → words_before (x ∷ layers) (suc i) ≡ words_of x + words_before layers i
words_behind x layers i = sum_by-cons words_of x (take i layers)

in_later : (x : LayerSize) (layers : List LayerSize) (word : ℕ) → words_of x ≤ word
    → IsInLayer layers (word - words_of x) → IsInLayer (x ∷ layers) word
in_later x layers word later rest =
    let next : suc rest.layer + 1 ≡ suc (rest.layer + 1) = omega arith in
    let end : words_before (x ∷ layers) (suc rest.layer + 1) ≡ words_of x + words_before layers (rest.layer + 1) =
    ap (words_before (x ∷ layers)) next ∙ words_behind x layers (rest.layer + 1) in
    record {
      layer = suc rest.layer;
      inside = omega (arith, rest.inside);
      from = omega (arith, rest.from, later, words_behind x layers rest.layer);
      below = omega (arith, rest.below, later, end);
    }

layer_of : (layers : List LayerSize) (word : ℕ) → word < sum_by words_of layers → IsInLayer layers word
layer_of [] word l = absurd (omega arith)
layer_of (x ∷ layers) word l =
    elim (cases_lt word (words_of x)) [
      | inl here ↦ record {
        layer = 0;
        inside = omega arith;
        from = omega arith;
        below = omega (arith, here, words_behind x layers 0);
      }
      | inr later ↦ in_later x layers word later
          (layer_of layers (word - words_of x) (omega (arith, l, later, sum_by-cons words_of x layers)))
    ]

stripes_some : (needs : List ℕ) (start : ℕ) (ends : List ℕ) → IsPlan needs start ends → (j : ℕ)
    → j < length (stripes_of start ends) → 0 < (get_or (stripes_of start ends) j (0, 0)).1
stripes_some needs start [] plan j l = absurd (omega arith)
stripes_some needs start (end ∷ ends) plan zero l = omega (arith, plan.0.respects.begun)
stripes_some needs start (end ∷ ends) plan (suc j) l = stripes_some needs end ends plan.1 j (omega arith)

pub some_words : (layers : List LayerSize) → AllNeeded layers → (j : ℕ) → j < length (plan_stripes layers)
    → 0 < (get_or (plan_stripes layers) j (0, 0)).1
unfolding stripes_from
some_words layers needed j l =
    stripes_some (needs_of layers) 0 (plan_ends layers) (plan_ends_plan layers needed) j l

pub record IsOfLayer (layers : List LayerSize) (j : ℕ) : Type 0 where
  pub layer : ℕ
  pub inside : layer < length layers
  pub meets : Meets (words_before layers layer) (words_before layers (layer + 1))
      (get_or (plan_stripes layers) j (0, 0))

pub layer_of_stripe : (layers : List LayerSize) → AllNeeded layers → (j : ℕ) → j < length (plan_stripes layers)
    → IsOfLayer layers j
layer_of_stripe layers needed j l =
    let s = get_or (plan_stripes layers) j (0, 0) in
    let begun : 0 < s.1 = some_words layers needed j l in
    let end : s.0 + s.1 ≤ length (needs_of layers) = (plan_on_end layers).inside j l in
    let here = layer_of layers s.0 (omega (arith, begun, end, length-needs_of layers)) in
    record {
      layer = here.layer;
      inside = here.inside;
      meets = (s.0, omega arith, omega (arith, begun), here.from, here.below);
    }
