-- What the repair of a group, and of a store's groups, hands out. This project's own.
use Rattle.std.specs.Prelude.{◌≡◌, ℕ, ◌<◌, Bool, true, false, List, [], length, map, slice_index_or, count_by, None}
use Rattle.std.specs.Prelude.{is_none, if◌then◌else◌, Some}
use Rattle.std.specs.List.{flat_map, enumerate_from, range_with_len}
use Rattle.field_elements.specs.Field.{Coding}
use Rattle.packet_frame.specs.Frame.{Fields, text}
use Rattle.packet_session.specs.Encoding.{Encoding, frame_of}
use Rattle.packet_session.specs.Session.{Session, packets_of_group}
use Rattle.packet_verdicts.specs.KeptSet.{KeptSet}
use Rattle.pet_receive.specs.Arrivals.{ReceiverState, kept_set}
use Rattle.packet_met.specs.Met.{Pair}
use Rattle.pet_repair.specs.Relay.{all_layers}
use Rattle.packet_rebuild.specs.Repairs.{repair_fault, IsEncoderOf, first_unlike_of}

-- all layers of the group are shown
abbrev pub is_whole : KeptSet → ℕ → Bool
is_whole set group = is_none (repair_fault set group)

-- how many of the first groups are so
abbrev pub count_whole : KeptSet → ℕ → ℕ
count_whole set groups = count_by (is_whole set) (range_with_len 0 groups)

-- the datagrams of some groups, on end
abbrev pub on_end : List (List (List ℕ)) → List (List ℕ)
on_end groups = flat_map (λ g. g) groups

-- all packets of the encoder's group as datagrams, by number
abbrev pub all_datagrams : {E : Type 0} → Coding E → Encoding → List (List ℕ)
all_datagrams c e = map (λ number. text (frame_of c e number)) (range_with_len 0 e.header.table.packets)

module _ {E : Type 0} (is_element : E → Type 0) (c : Coding E) (r : ReceiverState E) where
  -- all packets of a group whose layers are all shown, as its encoder makes them, which makes what is kept
  pub record HasAll (group : ℕ) (sent : List (List ℕ)) : Type 0 where
    pub encoder : Encoding
    pub is_its : IsEncoderOf is_element c r group encoder
    pub like : first_unlike_of c (kept_set r) encoder ≡ None
    pub sent_is : sent ≡ all_datagrams c encoder

  -- these, and nothing of any other group
  pub record IsRepaired (group : ℕ) (sent : List (List ℕ)) : Type 0 where
    pub hidden : is_whole (kept_set r) group ≡ false → sent ≡ []
    pub shown : is_whole (kept_set r) group ≡ true → HasAll group sent

  -- those of the first groups
  pub record AreRepaired (count : ℕ) (groups : List (List (List ℕ))) : Type 0 where
    pub many : length groups ≡ count
    pub each : (group : ℕ) → group < count → IsRepaired group (slice_index_or groups group [])

  -- all layers of the group are shown, and this is the least number of a packet that is kept with another payload
  -- than
  -- its encoder's
  pub record IsUnlike (group number : ℕ) : Type 0 where
    pub shown : is_whole (kept_set r) group ≡ true
    pub encoder : Encoding
    pub is_its : IsEncoderOf is_element c r group encoder
    pub unlike : first_unlike_of c (kept_set r) encoder ≡ Some number

-- a session's packets of the groups all of whose layers are shown, by group, then number
abbrev pub complete_packets : {E : Type 0} → Coding E → Session → List Pair → List Fields
complete_packets c s pairs =
    flat_map (λ e. if all_layers pairs e.0 e.1 then packets_of_group c s e.0 e.1 else []) (enumerate_from 0 s.groups)

-- and how many groups these are
abbrev pub complete_groups : Session → List Pair → ℕ
complete_groups s pairs = count_by (λ e. all_layers pairs e.0 e.1) (enumerate_from 0 s.groups)
