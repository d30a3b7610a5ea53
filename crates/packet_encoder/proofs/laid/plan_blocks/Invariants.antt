use Rattle.std.proofs.Common.{◌≡◌, ◌≤◌, ◌++◌, map, All}
use Rattle.stripe_plan.specs.Layers.{stripe_lengths}
use Rattle.field_rows.specs.Blocks.{lengths_of}
use Rattle.field_rows.specs.declared.blocks.TheConstants.{MAX_WIDTH}
use Rattle.stripe_plan.specs.Walk.{stripes_left}
use Rattle.packet_encoder.proofs.laid.plan_blocks.Given as goal

abbrev pub invariant-loop-length : goal.invariant-loop-length
invariant-loop-length l = record {
  can : goal.iterator-loop-length.can_next l.length-iterator;
  ends : goal.iterator-loop-length.is_finite l.length-iterator;
  lengths : lengths_of l.blocks.items ++ map (λ s. s.1) (stripes_left l.length-iterator)
      ≡ stripe_lengths l.table.layers;
  narrow : All (λ b. b.width ≤ MAX_WIDTH) l.blocks.items;
}
