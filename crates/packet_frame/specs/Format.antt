-- The formats of frames. A format is a mark of four bytes, the bytes of a tag, the bytes of a payload for each stripe,
-- and
-- what bounds the tables. This project's own.
use Rattle.std.specs.Prelude.{◌≡◌, ℕ, ◌+◌, ◌*◌, ◌<◌, ◌≤◌, ◌^◌, List, length}
use Rattle.pet_base.specs.declared.limits.TheConstants.{HEAD_LENGTH, LAYER_LENGTH}
use Rattle.stripe_plan.specs.declared.layer.LayerSize.{LayerSize}
use Rattle.stripe_plan.specs.Layers.{plan_ends}
use Rattle.stripe_plan.specs.Sizes.{AreBounds, planned}
use Rattle.packet_frame.specs.declared.format.Format.{Format}

-- what is asked of a format
pub record IsFormat (t : Format) : Type 0 where
  pub mark : length t.mark ≡ 4
  pub tag : t.tag ≤ 32
  pub word : t.word ≤ 2
  pub packets : t.bounds.packets < 2 ^ 16
  pub bounds : AreBounds t.bounds
  pub bare : t.bounds.bare ≡ HEAD_LENGTH + t.tag

-- the bytes of a payload: a word of so many bytes for each stripe of the plan
abbrev pub payload_length_in : Format → List LayerSize → ℕ
payload_length_in t layers = t.word * length (plan_ends (planned t.bounds layers))

-- the bytes of a frame of so many layers that has no payload
abbrev pub bare_length : Format → ℕ → ℕ
bare_length t count = HEAD_LENGTH + t.tag + LAYER_LENGTH * count

-- the bytes of a frame
abbrev pub frame_length_in : Format → List LayerSize → ℕ
frame_length_in t layers = bare_length t (length layers) + payload_length_in t layers
