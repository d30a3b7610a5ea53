use Rattle.std.proofs.Common.{◌∙◌, ap, length, sym, refl, true≢false, arith}
use Rattle.command_send.proofs.Twofold.{sizes_many, none_left}
use Rattle.command_send.proofs.table.are_twofold.Goals as goal

pub returns-then-layers-min : goal.returns-then-layers-min
returns-then-layers-min c = (
  λ no. absurd (true≢false (sym no)),
  λ is. absurd (c.if-layers-min.true (ap length is ∙ sizes_many c.args.lengths.now c.args.rules.now ∙ sym c.min.ensures)),
)

pub returns : goal.returns
returns c = (
  λ yes. c.loop-layer.invariant.1
      (none_left c.loop-layer.layer c.args.layers.now c.args.lengths.now c.args.rules.now
      (omega (arith, c.loop-layer-test.false))
      (omega (arith, c.loop-layer-test.false, c.if-layers-min.false, c.min.ensures))),
  λ is. refl,
)
