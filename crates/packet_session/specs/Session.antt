-- A session, and the packets that a sender makes of it. A session is of a format, and its tables are those whose words the
-- plan cuts; names that tell no format are of the frames that are written today. This project's own.
use Rattle.std.specs.Prelude.{◌≡◌, ℕ, ◌+◌, ◌*◌, ◌<◌, ◌≤◌, min, List, [], ◌∷◌, ◌++◌, length, take, drop, map, All}
use Rattle.std.specs.Prelude.{sum_by, option_map, unwrap_or, slice_get, Some}
use Rattle.std.specs.List.{range_with_len}
use Rattle.pet_base.specs.declared.limits.TheConstants.{MAX_GROUPS}
use Rattle.field_elements.specs.Field.{Coding}
use Rattle.stripe_plan.specs.declared.layer.LayerSize.{LayerSize}
use Rattle.stripe_plan.specs.Layers.{needs_of, words_before, words_of}
use Rattle.stripe_plan.specs.Sizes.{IsTableIn, cost_by, planned}
use Rattle.packet_frame.specs.declared.format.Format.{Format}
use Rattle.packet_frame.specs.declared.format.TheConstants.{FORMAT}
use Rattle.packet_frame.specs.Frame.{Fields}
use Rattle.packet_frame.specs.Planned.{unplanned}
use Rattle.packet_session.specs.Payload.{payload_at}

-- a group: its table, and its message, the words of its layers on end
pub record SessionGroup : Type 0 where
  pub packets : ℕ
  pub layers : List LayerSize
  pub message : List ℕ

-- a session: its number, and its groups in order
pub record Session : Type 0 where
  pub number : List ℕ
  pub groups : List SessionGroup

-- a message has a word of `width` bytes for each word of the layers
pub record IsMessage (width : ℕ) (layers : List LayerSize) (message : List ℕ) : Type 0 where
  pub whole : length message ≡ length (needs_of layers) * width
  pub bytes : All (λ b. b < 256) message

-- its table is the plan's table of one of the format, and its message has the format's words
pub record IsSessionGroupIn (t : Format) (g : SessionGroup) : Type 0 where
  pub table : IsTableIn t.bounds g.packets (unplanned t.bounds g.layers)
  pub whole : planned t.bounds (unplanned t.bounds g.layers) ≡ g.layers
  pub message : IsMessage t.word g.layers g.message

pub record IsSessionIn (t : Format) (s : Session) : Type 0 where
  pub number : length s.number ≡ 8
  pub bytes : All (λ b. b < 256) s.number
  pub some : 0 < length s.groups
  pub few : length s.groups ≤ MAX_GROUPS
  pub groups : All (IsSessionGroupIn t) s.groups

-- its packets, all together, have at most so many bytes
abbrev pub FitsIn : Format → Session → ℕ → Type 0
FitsIn t s limit = sum_by (λ g. cost_by t.word g.packets g.layers) s.groups ≤ limit

-- of the frames that are written today, with words of `width` bytes
abbrev pub IsSessionGroup : ℕ → SessionGroup → Type 0
IsSessionGroup width g = IsSessionGroupIn (record FORMAT { word = width }) g

abbrev pub IsSession : ℕ → Session → Type 0
IsSession width s = IsSessionIn (record FORMAT { word = width }) s

abbrev pub Fits : Session → ℕ → Type 0
Fits s limit = FitsIn FORMAT s limit

-- how many bytes a layer has: those of its words, cut to its length
abbrev pub bytes_in_layer : ℕ → LayerSize → ℕ
bytes_in_layer width size = min size.length (words_of size * width)

-- the same of a layer by its number
abbrev pub length_of_layer : ℕ → List LayerSize → ℕ → ℕ
length_of_layer width layers layer = unwrap_or (option_map (bytes_in_layer width) (slice_get layers layer)) 0

-- the bytes of a layer: those of its words, cut to its length
abbrev pub bytes_of_layer : ℕ → List LayerSize → List ℕ → ℕ → List ℕ
bytes_of_layer width layers message layer =
    take (length_of_layer width layers layer) (drop (words_before layers layer * width) message)

module _ {E : Type 0} (c : Coding E) where
  -- packet `number` of the group `group` of a session
  abbrev pub packet_of : Session → ℕ → SessionGroup → ℕ → Fields
  packet_of s group g number = record {
    session = s.number;
    groups = length s.groups;
    group = group;
    packets = g.packets;
    number = number;
    layers = g.layers;
    payload = payload_at c g.layers g.message (c.point_of number);
  }

  -- the packets of one group, by number
  abbrev pub packets_of_group : Session → ℕ → SessionGroup → List Fields
  packets_of_group s group g = map (packet_of s group g) (range_with_len 0 g.packets)

  -- those of some groups on end, the first of which is the group `group`
  abbrev pub packets_from : Session → ℕ → List SessionGroup → List Fields
  packets_from s group [] = []
  packets_from s group (g ∷ groups) = packets_of_group s group g ++ packets_from s (group + 1) groups

  -- all the packets of a session, by group, then number
  abbrev pub packets_of : Session → List Fields
  packets_of s = packets_from s 0 s.groups

  -- the frame is one of them
  pub record IsPacketOf (s : Session) (f : Fields) : Type 0 where
    pub source : SessionGroup
    pub group : slice_get s.groups f.group ≡ Some source
    pub number : f.number < source.packets
    pub made : f ≡ packet_of s f.group source f.number
