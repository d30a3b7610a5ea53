-- What a receiver of one session has kept: a finite map from the pairs of a group and a packet number to frames of one
-- session number. This project's own.
use Rattle.std.specs.Prelude.{◌≡◌, ℕ, ◌<◌, ◌≤◌, List, [], length, Option, Some, IsSome, option_map, option_and_then}
use Rattle.std.specs.Prelude.{unwrap_or, sum_by, slice_get}
use Rattle.std.specs.Ordering.{nat_cmp}
use Rattle.std.specs.BTreeMap.{is_at, insert_entry}
use Rattle.std.specs.Map.{lookup, keys_of}
use Rattle.std.specs.List.Sorted.{IsStrictlySortedBy}
use Rattle.packet_frame.specs.Frame.{Fields, IsFrameBy}
use Rattle.packet_frame.specs.View.{fields_with}
use Rattle.packet_frame.specs.declared.frame.Header.{Header}
use Rattle.packet_set.specs.Packets.{Packets, slot_at, with_packet, no_packets_of, count_in}
use Rattle.stripe_plan.specs.Sizes.{cost_by}

pub record KeptSet : Type 0 where
  -- the session number whose frames are kept
  pub session : List ℕ
  -- how many bytes the open groups may cost
  pub limit : ℕ
  -- the open groups by number, in rising order, each with its packets
  pub groups : List (ℕ × Packets)

-- nothing is kept
abbrev pub empty_set : List ℕ → ℕ → KeptSet
empty_set session limit = record { session = session; limit = limit; groups = [] }

-- the packets of a group, where it is open
abbrev pub open_group : KeptSet → ℕ → Option Packets
open_group set group = lookup (is_at (nat_cmp group)) set.groups

-- the payload of a kept frame
abbrev pub payload_of : KeptSet → ℕ → ℕ → Option (List ℕ)
payload_of set group number = option_and_then (λ p. slot_at p number) (open_group set group)

-- the frame is kept
abbrev pub Keeps : KeptSet → ℕ → ℕ → Type 0
Keeps set group number = IsSome (payload_of set group number)

-- how many packets are kept of a group
abbrev pub count_kept : KeptSet → ℕ → ℕ
count_kept set group = unwrap_or (option_map count_in (open_group set group)) 0

-- how many packets are kept
abbrev pub kept_in_all : KeptSet → ℕ
kept_in_all set = sum_by (λ e. count_in e.1) set.groups

-- packets times datagram length
abbrev pub cost_in : Packets → ℕ
cost_in p = cost_by p.word p.header.table.packets p.header.table.layers

-- the same, summed over the open groups
abbrev pub cost_kept : KeptSet → ℕ
cost_kept set = sum_by (λ e. cost_in e.1) set.groups

-- the number of groups that the kept frames tell, where one is kept
abbrev pub told_by : KeptSet → Option ℕ
told_by set = option_map (λ e. e.1.header.groups) (slice_get set.groups 0)

-- what the frame shares with all frames of its group
abbrev pub header_of : Fields → Header
header_of f = record {
  session = f.session;
  groups = f.groups;
  group = f.group;
  table = record { packets = f.packets; layers = f.layers };
}

-- the packets of the frame's group, the frame among them, where a payload has `word` bytes for each stripe
abbrev pub group_with_by : ℕ → KeptSet → Fields → Packets
group_with_by word set f =
    with_packet (unwrap_or (open_group set f.group) (no_packets_of word (header_of f))) f.number f.payload

abbrev pub group_with : KeptSet → Fields → Packets
group_with set f = group_with_by 2 set f

-- the set with one frame more
unfoldable pub keep_by : ℕ → KeptSet → Fields → KeptSet
keep_by word set f = record set { groups = insert_entry nat_cmp set.groups f.group (group_with_by word set f) }

abbrev pub keep : KeptSet → Fields → KeptSet
keep set f = keep_by 2 set f

-- of an open group some packet is kept, and all that is kept are frames of its header
pub record IsKeptGroupBy (word : ℕ) (session : List ℕ) (group : ℕ) (p : Packets) : Type 0 where
  pub word_is : p.word ≡ word
  pub same_session : p.header.session ≡ session
  pub same_group : p.header.group ≡ group
  pub slots : length p.slots ≡ p.header.table.packets
  pub some : 0 < count_in p
  pub frames : (number : ℕ) (payload : List ℕ) → slot_at p number ≡ Some payload
      → IsFrameBy word (fields_with p.header number payload)

-- what every kept set is: frames of one session number, with one number of groups, one table a group, within the limit
pub record IsKeptSetBy (word : ℕ) (set : KeptSet) : Type 0 where
  pub rising : IsStrictlySortedBy nat_cmp (keys_of set.groups)
  pub groups : (group : ℕ) (p : Packets) → open_group set group ≡ Some p → IsKeptGroupBy word set.session group p
  pub one_count : (a b : ℕ) (p q : Packets) → open_group set a ≡ Some p → open_group set b ≡ Some q
      → p.header.groups ≡ q.header.groups
  pub within : cost_kept set ≤ set.limit

-- the same of frames of two bytes a stripe
abbrev pub IsKeptGroup : List ℕ → ℕ → Packets → Type 0
IsKeptGroup session group p = IsKeptGroupBy 2 session group p

abbrev pub IsKeptSet : KeptSet → Type 0
IsKeptSet set = IsKeptSetBy 2 set
