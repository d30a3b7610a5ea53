-- A frame by its fields, the ranges that they keep, and its one text. This project's own format: numbers are
-- big-endian, and the tag is the front of the SHA-256 digest (FIPS 180-4) of all bytes before it. A frame is of a
-- format;
-- names that tell none are of the frames that are written today.
use Rattle.std.specs.Prelude.{◌≡◌, ℕ, ◌*◌, ◌<◌, ◌≤◌, List, [], ◌∷◌, ◌++◌, length, take}
use Rattle.std.specs.List.{flat_map}
use Rattle.std.specs.Int.{w16, w32, to_be_bytes}
use Rattle.sha2.specs.Sha256.{sha256}
use Rattle.pet_base.specs.declared.limits.TheConstants.{MAX_GROUPS}
use Rattle.stripe_plan.specs.declared.layer.LayerSize.{LayerSize}
use Rattle.stripe_plan.specs.Layers.{plan_ends}
use Rattle.stripe_plan.specs.Sizes.{IsTableIn}
use Rattle.packet_frame.specs.declared.format.Format.{Format}
use Rattle.packet_frame.specs.declared.format.TheConstants.{FORMAT, OLD_FORMAT, BYTE_FORMAT}
use Rattle.packet_frame.specs.Format.{payload_length_in}

-- what a frame holds
pub record Fields : Type 0 where
  pub session : List ℕ
  pub groups : ℕ
  pub group : ℕ
  pub packets : ℕ
  pub number : ℕ
  pub layers : List LayerSize
  pub payload : List ℕ

-- the fields are in their ranges
pub record IsFrameIn (t : Format) (f : Fields) : Type 0 where
  pub session : length f.session ≡ 8
  pub some_groups : 0 < f.groups
  pub few_groups : f.groups ≤ MAX_GROUPS
  pub group : f.group < f.groups
  pub number : f.number < f.packets
  pub table : IsTableIn t.bounds f.packets f.layers
  pub payload : length f.payload ≡ payload_length_in t f.layers

abbrev pub tag_of : Format → List ℕ → List ℕ
tag_of t bytes = take t.tag (sha256 bytes)

abbrev pub layer_text : LayerSize → List ℕ
layer_text layer = to_be_bytes w32 layer.length ++ to_be_bytes w16 layer.need

-- all that is before the layers
abbrev pub head_text : Format → Fields → List ℕ
head_text t f =
    t.mark ++ f.session ++ to_be_bytes w32 f.groups ++ to_be_bytes w32 f.group ++ to_be_bytes w16 f.packets
    ++ to_be_bytes w16 f.number
    ++ (length f.layers ∷ [])

-- all that is before the payload
abbrev pub text_before_payload : Format → Fields → List ℕ
text_before_payload t f = head_text t f ++ flat_map layer_text f.layers

-- all that is before the tag
abbrev pub text_before_tag : Format → Fields → List ℕ
text_before_tag t f = text_before_payload t f ++ f.payload

-- the bytes of a frame
unfoldable pub text_in : Format → Fields → List ℕ
text_in t f = text_before_tag t f ++ tag_of t (text_before_tag t f)

-- the frames that are written today
abbrev pub payload_length_of : List LayerSize → ℕ
payload_length_of layers = 2 * length (plan_ends layers)

abbrev pub IsFrame : Fields → Type 0
IsFrame f = IsFrameIn FORMAT f

abbrev pub text : Fields → List ℕ
text f = text_in FORMAT f

-- the same fields, with a payload of `word` bytes for each stripe of the layers' plan
abbrev pub IsFrameBy : ℕ → Fields → Type 0
IsFrameBy word f = IsFrameIn (record FORMAT { word = word }) f

-- the frames of the first version
abbrev pub IsOldFrame : Fields → Type 0
IsOldFrame f = IsFrameIn OLD_FORMAT f

abbrev pub old_text : Fields → List ℕ
old_text f = text_in OLD_FORMAT f

-- the frames of the byte profile
abbrev pub IsByteFrame : Fields → Type 0
IsByteFrame f = IsFrameIn BYTE_FORMAT f

abbrev pub byte_text : Fields → List ℕ
byte_text f = text_in BYTE_FORMAT f
