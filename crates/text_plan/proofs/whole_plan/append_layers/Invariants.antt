use Rattle.std.proofs.Common.{◌≡◌, ◌++◌, length, take}
use Rattle.text_plan.specs.inside.LayerLines.{layer_lines}
use Rattle.text_plan.proofs.whole_plan.append_layers.Given as goal

abbrev pub invariant-loop-layer : goal.invariant-loop-layer
invariant-loop-layer l = record {
  text : l.into.items ≡ l.fn.into.items ++ layer_lines l.priority.layers l.table.layers l.layer;
  front : take (length l.fn.into.items) l.into.items ≡ l.fn.into.items;
}
