use Rattle.std.proofs.Common.{◌≡◌, ◌≤◌}
use Rattle.stripe_plan.specs.Layers.{words_before}
use Rattle.stripe_plan.proofs.longest.layer_with.Given as goal

abbrev pub invariant-loop-layer : goal.invariant-loop-layer
invariant-loop-layer l = record {
  first_is : l.first ≡ words_before l.layers l.layer;
  before : l.first ≤ l.at;
}
