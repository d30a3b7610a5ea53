use Rattle.std.proofs.Common.{arith}
use lib.Pow.{pow_mono}
use Rattle.field_vectors.specs.laws.NibbleLaws.{double_under, double_over}
use Rattle.field_vectors.proofs.nibbles.double.Goals as goal

pub overflow_cast-result-else-twice-degree-eq0 : goal.overflow_cast-result-else-twice-degree-eq0
overflow_cast-result-else-twice-degree-eq0 c =
    let over = double_over c.args.degree c.args.modulus c.requires.modulus c.requires.wide c.args.a c.from-twice.result
    c.from-twice.ensures c.requires.element c.if-twice-degree-eq0.false in
    record { fits = omega (arith, over.0, pow_mono {i = c.args.degree} {j = 16} c.requires.narrow) }

pub returns-then-twice-degree-eq0-clause-product : goal.returns-then-twice-degree-eq0-clause-product
returns-then-twice-degree-eq0-clause-product c =
    double_under c.args.degree c.args.modulus c.requires.modulus c.requires.wide c.args.a c.from-twice.result
    c.from-twice.ensures c.if-twice-degree-eq0.true

pub returns-else-twice-degree-eq0-clause-below : goal.returns-else-twice-degree-eq0-clause-below
returns-else-twice-degree-eq0-clause-below c =
    (double_over c.args.degree c.args.modulus c.requires.modulus c.requires.wide c.args.a c.from-twice.result
    c.from-twice.ensures c.requires.element c.if-twice-degree-eq0.false).0

pub returns-else-twice-degree-eq0-clause-product : goal.returns-else-twice-degree-eq0-clause-product
returns-else-twice-degree-eq0-clause-product c =
    (double_over c.args.degree c.args.modulus c.requires.modulus c.requires.wide c.args.a c.from-twice.result
    c.from-twice.ensures c.requires.element c.if-twice-degree-eq0.false).1
