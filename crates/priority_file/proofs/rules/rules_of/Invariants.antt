use Rattle.std.proofs.Common.{◌≡◌, map, take}
use Rattle.priority_file.specs.Refusals.{rule_of}
use Rattle.priority_file.proofs.rules.rules_of.Given as goal

abbrev pub invariant-loop-layer : goal.invariant-loop-layer
invariant-loop-layer l = l.rules.items ≡ map (rule_of l.packets l.d_is_listed) (take l.layer-index l.layers)
