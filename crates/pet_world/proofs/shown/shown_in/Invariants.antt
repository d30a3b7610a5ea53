use Rattle.std.proofs.Common.{◌≡◌, ◌≤◌, eqb}
use Rattle.std.specs.Prelude.{filter, map, vec_len, vec_capacity}
use Rattle.std.specs.Int.{bit_at}
use Rattle.std.specs.List.{range_with_len}
use Rattle.pet_base.specs.declared.limits.TheConstants.{MAX_LAYERS}
use Rattle.pet_world.specs.ReceivedSets.{shown_to}
use Rattle.pet_world.proofs.shown.shown_in.Given as goal

abbrev pub invariant-loop-layer : goal.invariant-loop-layer
invariant-loop-layer l = record {
  items : l.shown.items
      ≡ shown_to l.receiver
      (map (λ layer. (l.group, layer)) (filter (λ j. eqb (bit_at l.layers.bits j) 1) (range_with_len 0 l.layer)));
  few : vec_len l.shown ≤ l.layer;
  room : MAX_LAYERS ≤ vec_capacity l.shown;
}
