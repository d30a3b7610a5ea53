use Rattle.std.proofs.Common.{◌≡◌, ◌++◌, drop, map}
use Rattle.arrayvec.specs.ArrayVec.{array_vec_len}
use Rattle.priority_file.specs.Priority.{Rule}
use Rattle.stream_session.proofs.needs.LayerNeeds.new.Given as goal

-- the needs so far, and then those of the rest, are those of all
abbrev pub invariant-loop-layer : goal.invariant-loop-layer
invariant-loop-layer l = record {
  count : array_vec_len l.needs ≡ l.layer;
  so_far : l.needs.items ++ map (λ (rule : Rule). rule.need) (drop l.layer l.priority.layers)
      ≡ map (λ (rule : Rule). rule.need) l.priority.layers;
}
