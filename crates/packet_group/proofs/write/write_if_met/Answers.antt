use Rattle.std.proofs.Common.{arith}
use Rattle.std.specs.Prelude.{max}
use Rattle.packet_group.proofs.write.write_if_met.Goals as goal

pub returns-then-max-min-clause-same : goal.returns-then-max-min-clause-same
returns-then-max-min-clause-same g c none =
    absurd (none (
      max c.args.at c.args.words.0,
      omega arith,
      omega (arith, c.if-max-min.true, c.max.ensures, c.min.ensures, c.from.ensures),
      omega arith,
      omega (arith, c.if-max-min.true, c.max.ensures, c.min.ensures, c.from.ensures),
    ))
