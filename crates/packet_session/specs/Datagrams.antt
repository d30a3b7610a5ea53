-- The packets of a group and of a session as datagrams, and as the entries of a datagram file: of any format and coding,
-- and as the frames that are written today over the field of 65,536 elements. This project's own.
use Rattle.std.specs.Prelude.{◌≡◌, ℕ, List, length, map, take, None, slice_get, Some}
use Rattle.std.specs.List.{flat_map, range_with_len}
use Rattle.pet_base.specs.Entries.{entry_text}
use Rattle.field_elements.specs.Field.{Coding}
use Rattle.field_elements.specs.Gf16.{gf16_coding}
use Rattle.packet_frame.specs.declared.format.Format.{Format}
use Rattle.packet_frame.specs.declared.format.TheConstants.{FORMAT}
use Rattle.packet_frame.specs.Frame.{Fields}
use Rattle.packet_frame.specs.Planned.{planned_text, planned_fields}
use Rattle.packet_frame.specs.Refusals.{first_fault_in}
use Rattle.packet_session.specs.Encoding.{Encoding, IsGroupOf, frame_of}
use Rattle.packet_session.specs.Session.{Session, IsPacketOf, packets_from, packets_of}

-- the entries of some packets, on end
abbrev pub entries_text_in : Format → List Fields → List ℕ
entries_text_in t packets = flat_map (λ f. entry_text (planned_text t f)) packets

-- encoders of all groups of a session, in order
pub record AreEncoders (s : Session) (encoders : List Encoding) : Type 0 where
  pub many : length encoders ≡ length s.groups
  pub each : (group : ℕ) (e : Encoding) → slice_get encoders group ≡ Some e → IsGroupOf s e × (e.header.group ≡ group)

module _ {E : Type 0} (t : Format) (c : Coding E) where
  -- the datagrams of the packets `first` to `first + many - 1` of a group
  abbrev pub range_datagrams_in : Encoding → ℕ → ℕ → List (List ℕ)
  range_datagrams_in e first many = map (λ number. planned_text t (frame_of c e number)) (range_with_len first many)

  -- those of the first packets
  abbrev pub first_datagrams_in : Encoding → ℕ → List (List ℕ)
  first_datagrams_in e many = range_datagrams_in e 0 many

  -- those of all packets of a group, by number
  abbrev pub group_datagrams_in : Encoding → List (List ℕ)
  group_datagrams_in e = first_datagrams_in e e.header.table.packets

  -- the datagrams of a session: the texts of its packets
  abbrev pub session_datagrams_in : Session → List (List ℕ)
  session_datagrams_in s = map (planned_text t) (packets_of c s)

  -- the datagram file of a session: the entries of its packets
  abbrev pub datagrams_text_in : Session → List ℕ
  datagrams_text_in s = entries_text_in t (packets_of c s)

  -- the datagrams of the first groups
  abbrev pub first_groups_datagrams_in : Session → ℕ → List (List ℕ)
  first_groups_datagrams_in s many = map (planned_text t) (packets_from c s 0 (take many s.groups))

  -- The law of these words: the datagrams of the groups, in order, are those of the session.
  abbrev pub GroupsMakeDatagramsIn : Type 0
  GroupsMakeDatagramsIn =
      (s : Session) (encoders : List Encoding) → AreEncoders s encoders
      → flat_map group_datagrams_in encoders ≡ session_datagrams_in s

  -- a datagram is accepted, and is a packet of the session, with its number
  pub record IsItsDatagramIn (s : Session) (bytes : List ℕ) : Type 0 where
    pub accepted : first_fault_in t bytes ≡ None
    pub number : (planned_fields t bytes).session ≡ s.number
    pub packet : IsPacketOf c s (planned_fields t bytes)

-- as the frames that are written today
abbrev pub entries_text : List Fields → List ℕ
entries_text packets = entries_text_in FORMAT packets

-- packet `number` of the encoder's group
abbrev pub packet_in : Encoding → ℕ → Fields
packet_in e number = frame_of gf16_coding e number

abbrev pub range_datagrams : Encoding → ℕ → ℕ → List (List ℕ)
range_datagrams e first many = range_datagrams_in FORMAT gf16_coding e first many

abbrev pub first_datagrams : Encoding → ℕ → List (List ℕ)
first_datagrams e many = first_datagrams_in FORMAT gf16_coding e many

abbrev pub group_datagrams : Encoding → List (List ℕ)
group_datagrams e = group_datagrams_in FORMAT gf16_coding e

-- all packets of a session, by group, then number
abbrev pub session_packets : Session → List Fields
session_packets s = packets_of gf16_coding s

abbrev pub session_datagrams : Session → List (List ℕ)
session_datagrams s = session_datagrams_in FORMAT gf16_coding s

abbrev pub datagrams_text : Session → List ℕ
datagrams_text s = datagrams_text_in FORMAT gf16_coding s

abbrev pub first_groups_datagrams : Session → ℕ → List (List ℕ)
first_groups_datagrams s many = first_groups_datagrams_in FORMAT gf16_coding s many

abbrev pub GroupsMakeDatagrams : Type 0
GroupsMakeDatagrams = GroupsMakeDatagramsIn FORMAT gf16_coding

-- the frame is one of the session's packets
abbrev pub IsItsPacket : Session → Fields → Type 0
IsItsPacket s f = IsPacketOf gf16_coding s f

abbrev pub IsItsDatagram : Session → List ℕ → Type 0
IsItsDatagram s bytes = IsItsDatagramIn FORMAT gf16_coding s bytes
