-- The fields that stand in bytes, and why bytes are no frame: the first row of the table of refusals that holds.
-- This project's own format.
use Rattle.std.specs.Prelude.{ℕ, zero, suc, ◌+◌, ◌-◌, ◌*◌, Bool, not, ◌||◌, ◌==◌, nat_lt, List, [], ◌∷◌, ◌++◌, length}
use Rattle.std.specs.Prelude.{take, drop, slice_index, Option, None, Some, if◌then◌else◌, ◌≡◌}
use Rattle.std.specs.List.{list_any}
use Rattle.std.specs.Str.{bytes_eq}
use Rattle.std.specs.Int.{Width, w16, w32, byte_len, from_be_bytes}
use Rattle.pet_base.specs.declared.limits.TheConstants.{HEAD_LENGTH, LAYER_LENGTH, MAX_DATAGRAM, MAX_GROUPS}
use Rattle.stripe_plan.specs.declared.layer.LayerSize.{LayerSize}
use Rattle.stripe_plan.specs.Sizes.{bytes_of, length_over, planned}
use Rattle.packet_frame.specs.declared.format.Format.{Format}
use Rattle.packet_frame.specs.declared.format.TheConstants.{FORMAT, OLD_FORMAT, BYTE_FORMAT}
use Rattle.packet_frame.specs.Format.{bare_length, frame_length_in}
use Rattle.packet_frame.specs.Frame.{Fields, tag_of}
use Rattle.packet_frame.specs.declared.fault.Field1.TheVariants.{Groups, Group, Packets, Number, Layers, Lengths, Need}
use Rattle.packet_frame.specs.declared.fault.FrameFault.{FrameFault}
use Rattle.packet_frame.specs.declared.fault.FrameFault.TheVariants.{Short, Magic, Range, Length, Tag}

-- the number in the bytes from a place on
abbrev pub number : Width → ℕ → List ℕ → ℕ
number w at bytes = from_be_bytes w (take (byte_len w) (drop at bytes))

-- the layer at the front of the bytes: its length, then its need
abbrev pub layer_in : List ℕ → LayerSize
layer_in bytes = record { length = number w32 0 bytes; need = number w16 4 bytes }

-- so many layers from the front of the bytes
unfoldable pub layers_at : ℕ → List ℕ → List LayerSize
layers_at zero bytes = []
layers_at (suc count) bytes = layer_in bytes ∷ layers_at count (drop LAYER_LENGTH bytes)

-- how many layers the bytes name
abbrev pub count_of : List ℕ → ℕ
count_of bytes = slice_index bytes 24

-- the fields, each at its place
abbrev pub fields_in : Format → List ℕ → Fields
fields_in t bytes = record {
  session = take 8 (drop 4 bytes);
  groups = number w32 12 bytes;
  group = number w32 16 bytes;
  packets = number w16 20 bytes;
  number = number w16 22 bytes;
  layers = layers_at (count_of bytes) (drop HEAD_LENGTH bytes);
  payload =
      take (length bytes - bare_length t (count_of bytes)) (drop (HEAD_LENGTH + LAYER_LENGTH * count_of bytes) bytes);
}

-- a row of the table: where it holds, and its refusal
abbrev pub Row : Type 0
Row = Bool × FrameFault

-- the refusal of the first row that holds
abbrev pub first_of : List Row → Option FrameFault
first_of [] = None
first_of (row ∷ rows) = if row.0 then Some row.1 else first_of rows

abbrev pub head_rows : Format → List ℕ → Fields → List Row
head_rows t bytes f =
    (nat_lt (length bytes) (bare_length t 1), Short)
    ∷ (not (bytes_eq (take 4 bytes) t.mark), Magic)
    ∷ ((f.groups == 0) || nat_lt MAX_GROUPS f.groups, Range Groups)
    ∷ (not (nat_lt f.group f.groups), Range Group)
    ∷ ((f.packets == 0) || nat_lt t.bounds.packets f.packets, Range Packets)
    ∷ (not (nat_lt f.number f.packets), Range Number)
    ∷ ((count_of bytes == 0) || nat_lt t.bounds.layers (count_of bytes), Range Layers)
    ∷ (nat_lt (length bytes) (bare_length t (count_of bytes)), Length)
    ∷ []

-- a need is 0 or above the packets
abbrev pub has_wrong_need : ℕ → List LayerSize → Bool
has_wrong_need packets layers = list_any (λ layer. layer.need == 0 || nat_lt packets layer.need) layers

abbrev pub layer_rows : Format → ℕ → List LayerSize → List Row
layer_rows t packets layers =
    (has_wrong_need packets layers, Range Need)
    ∷ (nat_lt t.bounds.bytes (bytes_of layers), Range Lengths)
    ∷ []

-- the last bytes are the tag of those before them
abbrev pub ends_in_tag : Format → List ℕ → Bool
ends_in_tag t bytes = bytes_eq (drop (length bytes - t.tag) bytes) (tag_of t (take (length bytes - t.tag) bytes))

abbrev pub end_rows : Format → List ℕ → List LayerSize → List Row
end_rows t bytes layers = (
  not (length bytes == frame_length_in t layers) || nat_lt MAX_DATAGRAM
      (length_over t.bounds.bare (planned t.bounds layers)),
  Length,
)
    ∷ (not (ends_in_tag t bytes), Tag)
    ∷ []

abbrev pub rows : Format → List ℕ → Fields → List Row
rows t bytes f = head_rows t bytes f ++ layer_rows t f.packets f.layers ++ end_rows t bytes f.layers

-- the refusal of the bytes, or none
unfoldable pub first_fault_in : Format → List ℕ → Option FrameFault
first_fault_in t bytes = first_of (rows t bytes (fields_in t bytes))

-- of the frames that are written today
abbrev pub fields_of : List ℕ → Fields
fields_of bytes = fields_in FORMAT bytes

abbrev pub first_fault : List ℕ → Option FrameFault
first_fault bytes = first_fault_in FORMAT bytes

-- of the frames of the first version
abbrev pub old_fields_of : List ℕ → Fields
old_fields_of bytes = fields_in OLD_FORMAT bytes

abbrev pub first_old_fault : List ℕ → Option FrameFault
first_old_fault bytes = first_fault_in OLD_FORMAT bytes

-- of the frames of the byte profile
abbrev pub byte_fields_of : List ℕ → Fields
byte_fields_of bytes = fields_in BYTE_FORMAT bytes

abbrev pub first_byte_fault : List ℕ → Option FrameFault
first_byte_fault bytes = first_fault_in BYTE_FORMAT bytes

-- the bytes are accepted, and have these fields
pub record ReadsAsIn (t : Format) (bytes : List ℕ) (f : Fields) : Type 0 where
  pub accepted : first_fault_in t bytes ≡ None
  pub fields : fields_in t bytes ≡ f

abbrev pub ReadsAs : List ℕ → Fields → Type 0
ReadsAs bytes f = ReadsAsIn FORMAT bytes f
