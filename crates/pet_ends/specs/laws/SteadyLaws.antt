-- A writer that never tells what it holds, and a vector, are steady.
use Rattle.std.proofs.Common.{ℕ, List, None, Some, refl, ap}
use Rattle.pet_ends.specs.Steady.{IsSteady}

pub never_told : {W : Type 0} → IsSteady {W = W} (λ _. None)
never_told old new bytes written = refl

pub always_told : {W : Type 0} (items : W → List ℕ) → IsSteady {W = W} (λ w. Some (items w))
always_told items old new bytes written = ap Some written
