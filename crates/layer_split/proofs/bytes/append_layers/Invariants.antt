use Rattle.std.proofs.Common.{◌≡◌, ◌++◌}
use Rattle.layer_split.specs.Layers.{message_by}
use Rattle.layer_split.proofs.bytes.append_layers.Given as goal

-- the layers so far
abbrev pub invariant-loop-layer : goal.invariant-loop-layer
invariant-loop-layer l = l.into.items ≡ l.fn.into.items ++ message_by l.word l.stream l.runs l.layer
