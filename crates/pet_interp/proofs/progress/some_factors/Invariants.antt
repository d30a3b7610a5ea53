use Rattle.std.proofs.Common.{◌≡◌, length}
use Rattle.pet_interp.proofs.progress.some_factors.Given as goal

abbrev pub invariant-loop-i : goal.invariant-loop-i
invariant-loop-i g l = length l.factors.items ≡ l.i
