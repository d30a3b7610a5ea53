use Rattle.std.proofs.Common.{◌≡◌, length, take, map}
use Rattle.pet_interp.proofs.lift.prepare.Given as goal

abbrev pub invariant-loop-i : goal.invariant-loop-i
invariant-loop-i g l = record {
  long : length l.factors ≡ length l.initial.factors;
  done : map g.F.Rows.element_of (take l.i l.factors) ≡ take l.i l.elements;
}
