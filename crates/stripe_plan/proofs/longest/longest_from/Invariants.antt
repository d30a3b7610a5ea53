use Rattle.std.proofs.Common.{◌≡◌, ◌<◌, ◌≤◌, ◌^◌, length}
use Rattle.stripe_plan.specs.Layers.{words_before, needs_of}
use Rattle.stripe_plan.proofs.LongestLemmas.{IsLongestSoFar}
use Rattle.stripe_plan.proofs.longest.longest_from.Given as goal

abbrev pub invariant-loop-later : goal.invariant-loop-later
invariant-loop-later l = record {
  inside : l.later ≤ length l.layers;
  first_is : l.first ≡ words_before l.layers l.later;
  past : l.at < l.first;
  short : l.longest < 2 ^ 16;
  so_far : IsLongestSoFar (needs_of l.layers) l.at l.first l.longest;
}
