-- Which groups of a kept set can be made again, and the encoder of one. This project's own.
use Rattle.std.specs.Prelude.{◌≡◌, ℕ, Bool, false, not, nat_le, List, [], ◌∷◌, length, map, filter, Option, None}
use Rattle.std.specs.Prelude.{Some, is_none, option_map}
use Rattle.std.specs.List.{find, range_with_len}
use Rattle.std.specs.Option.{option_map_or}
use Rattle.std.specs.Str.{bytes_eq}
use Rattle.field_elements.specs.Field.{Coding}
use Rattle.stripe_plan.specs.Layers.{count_of}
use Rattle.packet_frame.specs.Frame.{Fields}
use Rattle.packet_set.specs.Packets.{Packets, count_in}
use Rattle.packet_session.specs.Encoding.{Encoding, frame_of}
use Rattle.packet_verdicts.specs.KeptSet.{KeptSet, open_group, payload_of, keep}
use Rattle.pet_receive.specs.Arrivals.{ReceiverState, kept_set, layers_of}
use Rattle.packet_rebuild.specs.Making.{HasLayers}
use Rattle.packet_rebuild.specs.declared.fault.RepairFault.{RepairFault}
use Rattle.packet_rebuild.specs.declared.fault.RepairFault.TheVariants.{NotOpen, NotShown}

-- the layer of a group is not shown
abbrev pub is_hidden : Packets → ℕ → Bool
is_hidden p layer = not (nat_le (count_of (layers_of p) layer) (count_in p))

-- the least layer that is not shown
abbrev pub first_hidden : Packets → Option ℕ
first_hidden p = find (is_hidden p) (range_with_len 0 (length (layers_of p)))

-- why a group cannot be made again, or nothing
abbrev pub fault_in : Option Packets → Option RepairFault
fault_in None = Some NotOpen
fault_in (Some p) = option_map NotShown (first_hidden p)

unfoldable pub repair_fault : KeptSet → ℕ → Option RepairFault
repair_fault set group = fault_in (open_group set group)

module _ {E : Type 0} (is_element : E → Type 0) (c : Coding E) where
  -- the encoder of a group by what a receiver has kept of it: its header, and as the message its layers' bytes, each
  -- layer in
  -- whole words
  pub record IsEncoderOf (r : ReceiverState E) (group : ℕ) (e : Encoding) : Type 0 where
    pub header : option_map (λ p. p.header) (open_group (kept_set r) group) ≡ Some e.header
    pub layers : HasLayers is_element c r group (length e.header.table.layers) e.message

-- the numbers of some packets of the encoder's group that are not kept
abbrev pub not_kept : KeptSet → Encoding → ℕ → ℕ → List ℕ
not_kept set e first count = filter (λ number. is_none (payload_of set e.header.group number))
    (range_with_len first count)

module _ {E : Type 0} (c : Coding E) where
  -- the packet of this number is kept with another payload than the encoder's
  abbrev pub is_unlike : KeptSet → Encoding → ℕ → Bool
  is_unlike set e number = option_map_or (λ payload. not (bytes_eq payload (frame_of c e number).payload))
      (payload_of set e.header.group number) false

  -- the least such number of some
  abbrev pub unlike_in : KeptSet → Encoding → ℕ → ℕ → Option ℕ
  unlike_in set e first count = find (is_unlike set e) (range_with_len first count)

  -- the least of all
  unfoldable pub first_unlike_of : KeptSet → Encoding → Option ℕ
  first_unlike_of set e = unlike_in set e 0 e.header.table.packets

  -- those packets
  abbrev pub made_again : KeptSet → Encoding → ℕ → ℕ → List Fields
  made_again set e first count = map (frame_of c e) (not_kept set e first count)

-- the set with some frames more
unfoldable pub keep_all : KeptSet → List Fields → KeptSet
keep_all set [] = set
keep_all set (f ∷ fs) = keep_all (keep set f) fs
