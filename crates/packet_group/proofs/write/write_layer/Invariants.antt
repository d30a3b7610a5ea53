use Rattle.std.proofs.Common.{◌≡◌, ℕ, ◌+◌, ◌<◌, ◌≤◌, drop, slice_index_or, vec_capacity}
use Rattle.std.specs.Iterator.Adapters.{enumerate_source, enumerate_count}
use Rattle.stripe_plan.specs.Counts.{Meets}
use Rattle.stripe_plan.specs.Layers.{plan_stripes, words_before}
use Rattle.stripe_plan.specs.Walk.{stripes_left}
use Rattle.packet_group.specs.Written.{HasStripe}
use Rattle.packet_group.specs.inside.Learning.{IsWrittenOn}
use Rattle.packet_group.proofs.write.write_layer.Given as goal

abbrev pub invariant-loop-stripe : goal.invariant-loop-stripe
invariant-loop-stripe g l = record {
  can : (goal.iterator-loop-stripe g).can_next l.stripe-iterator;
  ends : (goal.iterator-loop-stripe g).is_finite l.stripe-iterator;
  rest : stripes_left (enumerate_source l.stripe-iterator)
      ≡ drop (enumerate_count l.stripe-iterator) (plan_stripes l.table.layers);
  room : vec_capacity l.initial.message ≤ vec_capacity l.message;
  on : IsWrittenOn g.F.Field.coding l.table.layers l.progress l.initial.message.items l.message.items;
  written : (j : ℕ) → j < enumerate_count l.stripe-iterator
      → Meets (words_before l.table.layers l.layer) (words_before l.table.layers (l.layer + 1))
      (slice_index_or (plan_stripes l.table.layers) j (0, 0))
      → HasStripe g.F.Field.coding l.table.layers l.progress l.message.items j;
}
