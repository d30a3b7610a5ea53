use Rattle.std.proofs.Common.{◌≡◌, ◌++◌, replicate}
use Rattle.pet_interp.proofs.copies.push_copies.Given as goal

abbrev pub invariant-loop-i : goal.invariant-loop-i
invariant-loop-i g l = l.into.items ≡ l.initial.into.items ++ replicate l.i l.value
