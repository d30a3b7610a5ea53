use Rattle.std.proofs.Common.{◌==◌, ℕ, ap, arith}
use Rattle.std.proofs.lemmas.Nat.Bits.{bit_at_above, shr_and_one}
use Rattle.packet_verdicts.proofs.verdict.LayerSet.has.Goals as goal

pub returns-then-layer-lt32 : goal.returns-then-layer-lt32
returns-then-layer-lt32 c = ap (λ (n : ℕ). n == 1) (shr_and_one c.args.self.bits c.args.layer)

pub returns-else-layer-lt32 : goal.returns-else-layer-lt32
returns-else-layer-lt32 c = grind (arith, bit_at_above c.args.self.bits 32 c.args.layer)
