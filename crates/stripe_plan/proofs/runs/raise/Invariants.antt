use Rattle.std.specs.Prelude.{nat_lt}
use Rattle.std.proofs.Common.{◌≡◌, ℕ, ◌+◌, ◌<◌, ◌≤◌, min, max, cond, length, get_or}
use Rattle.stripe_plan.specs.Layers.{words_before}
use Rattle.stripe_plan.proofs.runs.raise.Given as goal

abbrev pub invariant-loop-layer : goal.invariant-loop-layer
invariant-loop-layer l = record {
  first_is : l.first ≡ words_before l.layers l.layer;
  long : length l.counts ≡ length l.layers;
  raised : (j : ℕ) → j < l.layer
      → get_or l.counts j 0
      ≡ max (get_or l.initial.counts j 0)
      (cond (nat_lt (max l.at (words_before l.layers j)) (min l.end (words_before l.layers (j + 1)))) l.size 0);
  others : (j : ℕ) → l.layer ≤ j → get_or l.counts j 0 ≡ get_or l.initial.counts j 0;
}
