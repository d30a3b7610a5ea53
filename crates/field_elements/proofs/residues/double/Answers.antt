use Rattle.field_elements.proofs.Loops.{double_plain, double_below, double_same}
use Rattle.field_elements.proofs.residues.double.Goals as goal

pub returns-then-twice-degree-eq0-clause-congruent : goal.returns-then-twice-degree-eq0-clause-congruent
returns-then-twice-degree-eq0-clause-congruent c = double_plain c.args.modulus c.args.a

pub returns-else-twice-degree-eq0-clause-below : goal.returns-else-twice-degree-eq0-clause-below
returns-else-twice-degree-eq0-clause-below c =
    double_below c.args.degree c.args.modulus c.args.a c.requires.modulus c.requires.element c.if-twice-degree-eq0.false

pub returns-else-twice-degree-eq0-clause-congruent : goal.returns-else-twice-degree-eq0-clause-congruent
returns-else-twice-degree-eq0-clause-congruent c =
    double_same c.args.degree c.args.modulus c.args.a c.requires.modulus c.requires.element
