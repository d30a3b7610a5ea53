use Rattle.std.proofs.Common.{◌≡◌, map, take}
use Rattle.stripe_plan.specs.Sizes.{twofold}
use Rattle.stripe_plan.proofs.bounds.twice.Given as goal

abbrev pub invariant-loop-layer : goal.invariant-loop-layer
invariant-loop-layer l = l.twice.items ≡ map twofold (take l.layer-index l.layers)
