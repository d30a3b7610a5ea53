use Rattle.std.proofs.Common.{◌≡◌, ◌+◌, ◌-◌, ◌<◌, ◌^◌, ◌∙◌, ℕ, suc, refl, sym, subst, arith}
use lib.Bits.{xor_self}
use lib.Count.{count_leading_zeros}
use lib.Pow.{pow_mono}
use Rattle.field_elements.specs.laws.CarrylessLaws.{carryless-zero_l}
use Rattle.field_elements.specs.laws.Inverses.{quotient_below}
use Rattle.field_elements.proofs.Loops.{divide_top, divide_below, divide_same, divide_skip}
use Rattle.field_elements.proofs.residues.divide.Goals as goal
use Rattle.field_elements.proofs.residues.divide.Goals.{After-loop-k}

pub overflow_step-k : goal.overflow_step-k
overflow_step-k c =
    let top = divide_top c.args.degree c.args.a
    (31 - count_leading_zeros 32 c.args.a) c.requires.large c.requires.element c.requires.modulus.few refl in
    omega (arith, top.1)

pub loop-k-init : goal.loop-k-init
loop-k-init c =
    let d : ℕ = 31 - count_leading_zeros 32 c.args.a in
    let top = divide_top c.args.degree c.args.a d c.requires.large c.requires.element c.requires.modulus.few refl in
    let e : d + (c.args.degree + 1 - d) ≡ suc c.args.degree = omega (arith, top.1) in
    record {
      below = rw e c.requires.modulus.degree.1;
      divided = xor_self c.args.modulus ∙ sym (carryless-zero_l c.args.a);
    }

pub loop-k-preserved-then-rest-top-eq1 : goal.loop-k-preserved-then-rest-top-eq1
loop-k-preserved-then-rest-top-eq1 c =
    let d : ℕ = 31 - count_leading_zeros 32 c.args.a in
    let top = divide_top c.args.degree c.args.a d c.requires.large c.requires.element c.requires.modulus.few refl in
    record {
      below =
          divide_below c.args.modulus c.args.a d c.loop-k.k c.loop-k.rest c.loop-k.quotient top.0 (omega arith)
          (omega (arith, top.1, c.requires.modulus.few)) c.loop-k.invariant.below c.loop-k.invariant.divided
          c.if-rest-top-eq1.true;
      divided =
          divide_same c.args.modulus c.args.a d c.loop-k.k c.loop-k.rest c.loop-k.quotient top.0 (omega arith)
          (omega (arith, top.1, c.requires.modulus.few)) c.loop-k.invariant.below c.loop-k.invariant.divided;
    }

pub loop-k-preserved : goal.loop-k-preserved
loop-k-preserved c =
    let d : ℕ = 31 - count_leading_zeros 32 c.args.a in
    let top = divide_top c.args.degree c.args.a d c.requires.large c.requires.element c.requires.modulus.few refl in
    record {
      below =
          divide_skip c.args.modulus c.args.a d c.loop-k.k c.loop-k.rest c.loop-k.quotient top.0 (omega arith)
          (omega (arith, top.1, c.requires.modulus.few)) c.loop-k.invariant.below c.loop-k.invariant.divided
          c.if-rest-top-eq1.false;
      divided = c.loop-k.invariant.divided;
    }

rest_below : (c : After-loop-k) → c.loop-k.rest < 2 ^ (31 - count_leading_zeros 32 c.args.a)
rest_below c =
    let e : 31 - count_leading_zeros 32 c.args.a + c.loop-k.k ≡ 31 - count_leading_zeros 32 c.args.a = omega arith in
    subst (λ n. c.loop-k.rest < 2 ^ n) e c.loop-k.invariant.below

smaller : (c : After-loop-k) → c.loop-k.rest < c.args.a
smaller c =
    let top = divide_top c.args.degree c.args.a
    (31 - count_leading_zeros 32 c.args.a) c.requires.large c.requires.element c.requires.modulus.few refl in
    omega (arith, rest_below c, top.0)

pub returns-clause-quotient : goal.returns-clause-quotient
returns-clause-quotient c =
    quotient_below c.args.degree c.args.modulus c.requires.modulus.some c.requires.modulus.degree c.args.a
    c.loop-k.quotient c.loop-k.rest c.requires.large
    (omega (arith, smaller c, c.requires.element, pow_mono {i = c.args.degree} {j = suc c.args.degree} (omega arith)))
    c.loop-k.invariant.divided

pub returns-clause-smaller : goal.returns-clause-smaller
returns-clause-smaller c = smaller c
