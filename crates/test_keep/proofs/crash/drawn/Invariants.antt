use Rattle.std.proofs.Common.{◌≡◌, length}
use Rattle.test_keep.proofs.crash.drawn.Given as goal

abbrev pub invariant-loop-made : goal.invariant-loop-made
invariant-loop-made l = length l.bytes.items ≡ l.made
