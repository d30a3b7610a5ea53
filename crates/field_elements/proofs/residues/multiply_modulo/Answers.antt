use Rattle.std.proofs.Common.{◌≡◌, ◌^◌, ◌/◌, arith, bit_xor, subst}
use lib.Bits.{xor_lt}
use lib.Pow.{pow_pos}
use Rattle.field_elements.specs.Carryless.{IsMultiple, carryless}
use Rattle.field_elements.proofs.Loops.{multiply_start, multiply_one, multiply_zero, multiply_end}
use Rattle.field_elements.proofs.residues.multiply_modulo.Goals as goal

pub loop-i-init : goal.loop-i-init
loop-i-init c =
    record {
      below = pow_pos c.args.degree;
      so_far = multiply_start c.args.degree c.args.modulus c.args.a c.args.b c.requires.first;
    }

pub loop-i-preserved-then-a-i-eq1 : goal.loop-i-preserved-then-a-i-eq1
loop-i-preserved-then-a-i-eq1 c =
    record {
      below = xor_lt c.args.degree c.double-twice.result c.args.b c.double-twice.ensures.below c.requires.second;
      so_far =
          multiply_one c.args.modulus c.args.a c.loop-i.i c.args.b c.loop-i.product c.double-twice.result
          (omega arith) c.loop-i.invariant.so_far
          c.double-twice.ensures.congruent c.if-a-i-eq1.true;
    }

pub loop-i-preserved : goal.loop-i-preserved
loop-i-preserved c =
    record {
      below = c.double-twice.ensures.below;
      so_far =
          multiply_zero c.args.modulus c.args.a c.loop-i.i c.args.b c.loop-i.product c.double-twice.result
          (omega arith) c.loop-i.invariant.so_far
          c.double-twice.ensures.congruent c.if-a-i-eq1.false;
    }

pub returns : goal.returns
returns c =
    let e : c.loop-i.i ≡ 0 = omega arith in
    multiply_end c.args.degree c.args.modulus c.args.a c.args.b c.loop-i.product c.loop-i.invariant.below
    (subst (λ i. IsMultiple c.args.modulus (bit_xor (carryless (c.args.a / 2 ^ i) c.args.b) c.loop-i.product)) e
    c.loop-i.invariant.so_far)
