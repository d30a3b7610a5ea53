use Rattle.std.proofs.Common.{◌≡◌, ◌-◌, length, slice_index}
use Rattle.std.specs.Prelude.{◌==◌}
use Rattle.std.specs.List.{list_all, range_with_len}
use Rattle.layer_split.specs.RunTable.{bytes_in, fills_others}
use Rattle.layer_split.proofs.run_table.fills_others.Given as goal

-- the layers from here on decide
abbrev pub invariant-loop-layer : goal.invariant-loop-layer
invariant-loop-layer l =
    fills_others l.lengths l.runs
    ≡ list_all (λ layer. bytes_in layer l.runs == slice_index l.lengths layer)
    (range_with_len l.layer (length l.lengths - l.layer))
