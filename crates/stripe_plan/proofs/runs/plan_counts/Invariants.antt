use Rattle.std.proofs.Common.{◌≡◌, ℕ, ◌+◌, ◌-◌, ◌<◌, ◌≤◌, max, List, length, get_or}
use Rattle.stripe_plan.specs.Layers.{needs_of, words_before, count_of}
use Rattle.stripe_plan.specs.Stripes.{IsPlan, stripes_of}
use Rattle.stripe_plan.specs.Counts.{longest_meeting}
use Rattle.stripe_plan.proofs.runs.plan_counts.Given as goal

abbrev pub invariant-loop-at : goal.invariant-loop-at
invariant-loop-at l = record {
  inside : l.at ≤ l.words;
  first_is : l.here.first ≡ words_before l.layers l.here.layer;
  before : l.here.first ≤ l.at;
  long : length l.counts.items ≡ length l.layers;
  some : (layer : ℕ) → layer < length l.layers → 0 < get_or l.counts.items layer 0;
  whole : (layer : ℕ) → layer < length l.layers → (rest : List ℕ) → IsPlan (needs_of l.layers) l.at rest
      → max (get_or l.counts.items layer 0) (longest_meeting (words_before l.layers layer)
      (words_before l.layers (layer + 1)) (stripes_of l.at rest)) ≡ count_of l.layers layer;
}

abbrev pub decreases-loop-at : goal.decreases-loop-at
decreases-loop-at l = l.words - l.at
