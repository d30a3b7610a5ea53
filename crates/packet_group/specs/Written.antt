-- A message of which only the first bytes are written. Those behind them count as zeros. This project's own.
use Rattle.std.specs.Prelude.{◌≡◌, ℕ, ◌+◌, ◌-◌, ◌*◌, ◌<◌, ◌≤◌, List, [], ◌++◌, length, replicate, slice_index_or}
use Rattle.field_elements.specs.Field.{Coding}
use Rattle.pet_interp.specs.Progressive.{Held, stripe_of}
use Rattle.stripe_plan.specs.declared.layer.LayerSize.{LayerSize}
use Rattle.stripe_plan.specs.Counts.{Meets}
use Rattle.stripe_plan.specs.Layers.{needs_of, plan_stripes, words_before}
use Rattle.packet_session.specs.Payload.{stripes_in}

-- the bytes, and zeros behind them, up to `size` bytes
abbrev pub filled : ℕ → List ℕ → List ℕ
filled size bytes = bytes ++ replicate (size - length bytes) 0

-- the message of words of `width` bytes of which these are written
abbrev pub whole_message : ℕ → List LayerSize → List ℕ → List ℕ
whole_message width layers bytes = filled (length (needs_of layers) * width) bytes

-- the bytes reach the end of stripe j of the plan
abbrev pub Reaches : ℕ → List LayerSize → ℕ → List ℕ → Type 0
Reaches width layers j bytes =
    ((slice_index_or (plan_stripes layers) j (0, 0)).0 + (slice_index_or (plan_stripes layers) j (0, 0)).1) * width
    ≤ length bytes

-- the bytes reach the end of this layer, where it has words
abbrev pub ReachesLayer : ℕ → List LayerSize → ℕ → List ℕ → Type 0
ReachesLayer width layers layer bytes =
    words_before layers layer < words_before layers (layer + 1)
    → words_before layers (layer + 1) * width ≤ length bytes

-- stripe j of the plan is written, with the words that are held of it
pub record HasStripe {E : Type 0} (c : Coding E) (layers : List LayerSize) (held : Held E) (bytes : List ℕ) (j : ℕ)
    : Type 0 where
  pub reached : Reaches c.width layers j bytes
  pub words : slice_index_or (stripes_in c layers (whole_message c.width layers bytes)) j [] ≡ stripe_of held j

-- each stripe that has a word of the layer is written
abbrev pub HasLayer : {E : Type 0} → Coding E → List LayerSize → Held E → List ℕ → ℕ → Type 0
HasLayer c layers held bytes layer =
    (j : ℕ) → j < length (plan_stripes layers)
    → Meets (words_before layers layer) (words_before layers (layer + 1))
    (slice_index_or (plan_stripes layers) j (0, 0))
    → HasStripe c layers held bytes j
