use Rattle.std.specs.Prelude.{nat_le}
use Rattle.std.proofs.Common.{get_or, arith}
use Rattle.packet_verdicts.specs.laws.LayerSetLaws.{one-le}
use Rattle.packet_verdicts.proofs.layers.shown_layers.Goals as goal

pub overflow_add-shown : goal.overflow_add-shown
overflow_add-shown c =
    omega (
      arith,
      c.loop-needed.invariant.few,
      c.loop-needed-test.true,
      c.counts-needed-items.ensures.few,
      c.one_if-shown.ensures,
      one-le (nat_le (get_or c.counts-needed-items.result.now c.loop-needed.needed-index 0) c.len-held.result),
    )
