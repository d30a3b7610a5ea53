-- Layers one after the other.
use Rattle.std.proofs.Common.{◌≡◌, ℕ, suc, ◌+◌, ◌-◌, ◌<◌, List, [], ◌∷◌, ◌++◌, drop, refl, sym, ◌∙◌, append_assoc}
use Rattle.std.proofs.Common.{arith}
use Rattle.pet_base.specs.declared.limits.TheConstants.{LAYER_LENGTH}
use Rattle.stripe_plan.specs.declared.layer.LayerSize.{LayerSize}
use Rattle.packet_frame.specs.Refusals.{layer_in, layers_at}

pub one_more : (count i : ℕ) (before after all : List LayerSize) (rest behind : List ℕ) (layer : LayerSize) → i < count
    → layer ≡ layer_in rest → behind ≡ drop LAYER_LENGTH rest → after ≡ before ++ layer ∷ []
    → before ++ layers_at (count - i) rest ≡ all → after ++ layers_at (count - (i + 1)) behind ≡ all
unfolding layers_at
one_more count i before after all rest behind layer lt is cut pushed so_far =
    let k : count - i ≡ suc (count - (i + 1)) = omega arith in
    let one : before ++ layers_at (count - i) rest ≡ before ++ (layer ∷ layers_at (count - (i + 1)) behind) =
    rw (k, is, cut) refl in
    rw (pushed, append_assoc) (sym one ∙ so_far)
