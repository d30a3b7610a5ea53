use Rattle.std.proofs.Common.{◌≡◌, ℕ, ◌≤◌, slice_index}
use Rattle.test_fields.proofs.transform_tests.words.Given as goal

abbrev pub invariant-loop-i : goal.invariant-loop-i
invariant-loop-i l = record { rest : (j : ℕ) → l.known ≤ j → slice_index l.words.items j ≡ 0 }
