use Rattle.std.proofs.Common.{◌≡◌, ◌<◌, ◌^◌, ◌∙◌, arith}
use Rattle.field_elements.specs.laws.ResidueLaws.{one_below, times-one}
use Rattle.field_elements.specs.laws.Inverses.{remainder_positive}
use Rattle.field_elements.proofs.Loops.{inverse_step, inverse_end}
use Rattle.field_elements.proofs.residues.invert_modulo.Goals as goal

pub loop-rest-init : goal.loop-rest-init
loop-rest-init c =
    let m = c.requires.modulus in
    record {
      positive = c.requires.nonzero;
      rest_below = c.requires.element;
      factor_below = one_below c.args.degree c.args.modulus m.some m.degree;
      so_far = times-one c.args.degree c.args.modulus m.some m.degree c.args.a c.requires.element;
    }

pub loop-rest-preserved : goal.loop-rest-preserved
loop-rest-preserved c =
    let m = c.requires.modulus in
    let i = c.loop-rest.invariant in
    let below : c.divide-quotient.result.1 < 2 ^ c.args.degree =
    omega (arith, c.divide-quotient.ensures.smaller, i.rest_below) in
    record {
      positive =
          remainder_positive c.args.degree c.args.modulus m.some m.degree c.requires.irreducible c.loop-rest.rest
          c.divide-quotient.result.0
          c.divide-quotient.result.1 (omega arith) i.rest_below c.divide-quotient.ensures.divided;
      rest_below = below;
      factor_below = c.multiply_modulo-factor.ensures.below;
      so_far =
          inverse_step c.args.degree c.args.modulus c.args.a c.loop-rest.factor c.loop-rest.rest
          c.divide-quotient.result.0 c.divide-quotient.result.1
          c.multiply_modulo-factor.result m c.requires.element i.factor_below i.rest_below
          c.divide-quotient.ensures.quotient below i.so_far
          c.divide-quotient.ensures.divided c.multiply_modulo-factor.ensures;
    }

pub returns-clause-inverse : goal.returns-clause-inverse
returns-clause-inverse c =
    let one : c.loop-rest.rest ≡ 1 = omega (arith, c.loop-rest.invariant.positive) in
    inverse_end c.args.degree c.args.modulus c.args.a c.loop-rest.factor c.requires.modulus c.requires.element
    c.loop-rest.invariant.factor_below
    (c.loop-rest.invariant.so_far ∙ one)
