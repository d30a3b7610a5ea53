-- The union of two kept sets, and what a receiver answers that takes in all that another has kept. This project's own.
use Rattle.std.specs.Prelude.{ℕ, ◌+◌, not, ◌&&◌, nat_lt, if◌then◌else◌, Bool, List, [], ◌∷◌, length, map, filter}
use Rattle.std.specs.Prelude.{Option, None, Some, is_some, is_none, option_map}
use Rattle.std.specs.Option.{option_or}
use Rattle.std.specs.Ordering.{nat_cmp}
use Rattle.std.specs.BTreeMap.{is_at, insert_entry}
use Rattle.std.specs.Map.{lookup}
use Rattle.std.specs.Str.{bytes_eq}
use Rattle.std.specs.List.{find, flat_map, filter_map, range_with_len}
use Rattle.packet_frame.specs.Frame.{Fields}
use Rattle.packet_frame.specs.View.{fields_with}
use Rattle.packet_set.specs.Packets.{Packets, slot_at, layers_of}
use Rattle.packet_verdicts.specs.KeptSet.{KeptSet, open_group, count_kept, cost_in, cost_kept}
use Rattle.packet_verdicts.specs.Verdicts.{clashes, shown_between}
use Rattle.packet_verdicts.specs.declared.union.Absorb.{Absorb}
use Rattle.packet_verdicts.specs.declared.union.Absorb.TheVariants.{OtherSession, Clash, Full}

-- the frames that are kept of a group, by number
abbrev pub frames_in_group : Packets → List Fields
frames_in_group p =
    filter_map (λ number. option_map (fields_with p.header number) (slot_at p number))
    (range_with_len 0 (length p.slots))

-- the frames that are kept, by group, then number
abbrev pub frames_in : KeptSet → List Fields
frames_in set = flat_map (λ e. frames_in_group e.1) set.groups

-- for each number the payload that the one has, or else the other's
unfoldable pub join_slots : List (Option (List ℕ)) → List (Option (List ℕ)) → List (Option (List ℕ))
join_slots [] theirs = theirs
join_slots (mine ∷ more) [] = mine ∷ more
join_slots (mine ∷ more) (theirs ∷ rest) = option_or mine theirs ∷ join_slots more rest

-- the packets that are kept of a group here, where it is open, or there
abbrev pub join_group : Option Packets → Packets → Packets
join_group None theirs = theirs
join_group (Some mine) theirs =
    record { header = mine.header; word = mine.word; slots = join_slots mine.slots theirs.slots }

-- group by group
unfoldable pub join_groups : List (ℕ × Packets) → List (ℕ × Packets) → List (ℕ × Packets)
join_groups mine [] = mine
join_groups mine (theirs ∷ rest) =
    join_groups (insert_entry nat_cmp mine theirs.0 (join_group (lookup (is_at (nat_cmp theirs.0)) mine) theirs.1)) rest

-- the union: the frames that the one or the other has kept
abbrev pub union : KeptSet → KeptSet → KeptSet
union mine theirs = record mine { groups = join_groups mine.groups theirs.groups }

-- the first frame of the other's, by group, then number, that clashes with what is kept here
abbrev pub first_clash : KeptSet → KeptSet → Option Fields
first_clash mine theirs = find (clashes mine) (frames_in theirs)

-- the other's groups that are not open here
abbrev pub new_groups : KeptSet → KeptSet → List (ℕ × Packets)
new_groups mine theirs = filter (λ e. is_none (open_group mine e.0)) theirs.groups

-- the first of these groups with which the cost passes the limit
unfoldable pub first_past : ℕ → ℕ → List (ℕ × Packets) → Option ℕ
first_past limit cost [] = None
first_past limit cost (e ∷ rest) =
    if nat_lt limit (cost + cost_in e.1) then Some e.0 else first_past limit (cost + cost_in e.1) rest

abbrev pub first_full : KeptSet → KeptSet → Option ℕ
first_full mine theirs = first_past mine.limit (cost_kept mine) (new_groups mine theirs)

-- why the two cannot be joined: the first that holds
abbrev pub then_full : Option ℕ → Option Absorb
then_full None = None
then_full (Some group) = Some (Full group)

abbrev pub then_clash : Option Fields → Option Absorb → Option Absorb
then_clash None later = later
then_clash (Some f) later = Some (Clash f.group f.number)

unfoldable pub absorb_fault : KeptSet → KeptSet → Option Absorb
absorb_fault mine theirs =
    if not (bytes_eq mine.session theirs.session) then Some OtherSession
    else then_clash (first_clash mine theirs) (then_full (first_full mine theirs))

-- the numbers of a group that are kept there, and not here
abbrev pub is_new : Option Packets → Packets → ℕ → Bool
is_new None theirs number = is_some (slot_at theirs number)
is_new (Some mine) theirs number = is_some (slot_at theirs number) && is_none (slot_at mine number)

abbrev pub new_numbers : Option Packets → Packets → List ℕ
new_numbers mine theirs = filter (is_new mine theirs) (range_with_len 0 (length theirs.slots))

-- the pairs that are kept there and not here, by group, then number
abbrev pub new_pairs : KeptSet → KeptSet → List (ℕ × ℕ)
new_pairs mine theirs =
    flat_map (λ e. map (λ number. (e.0, number)) (new_numbers (open_group mine e.0) e.1)) theirs.groups

-- the layers that the union shows, and that what is kept here does not show, by group, then layer
abbrev pub shown_by_union : KeptSet → KeptSet → List (ℕ × ℕ)
shown_by_union mine theirs =
    flat_map (λ e. map (λ layer. (e.0, layer))
    (shown_between (layers_of e.1) (count_kept mine e.0) (count_kept (union mine theirs) e.0))) theirs.groups
