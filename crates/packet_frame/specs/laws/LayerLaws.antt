-- For callers: as many layers are read as were asked for.
use Rattle.std.proofs.Common.{◌≡◌, ℕ, zero, suc, List, length, drop, refl, ap}
use Rattle.pet_base.specs.declared.limits.TheConstants.{LAYER_LENGTH}
use Rattle.packet_frame.specs.Refusals.{layers_at}

pub layers_length : (count : ℕ) (bytes : List ℕ) → length (layers_at count bytes) ≡ count
unfolding layers_at
layers_length zero bytes = refl
layers_length (suc count) bytes = ap (λ (k : ℕ). suc k) (layers_length count (drop LAYER_LENGTH bytes))
