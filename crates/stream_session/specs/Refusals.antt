-- Why a stream that is accepted has no session under a priority: the first cause that holds. This project's own.
use Rattle.std.specs.Prelude.{ℕ, ◌+◌, nat_lt, Bool, if◌then◌else◌, List, [], ◌∷◌, length, map, Option, None, Some}
use Rattle.std.specs.Prelude.{option_map, position}
use Rattle.pet_base.specs.declared.limits.TheConstants.{MAX_DATAGRAM, MAX_SESSION}
use Rattle.mpeg_scan.specs.declared.piece.Piece.{Piece}
use Rattle.stripe_plan.specs.Sizes.{bytes_of, datagram_length_of, length_over, cost_of, cost_by, planned}
use Rattle.packet_frame.specs.declared.format.Format.{Format}
use Rattle.packet_frame.specs.declared.format.TheConstants.{FORMAT}
use Rattle.priority_file.specs.Priority.{Priorities, layer_of}
use Rattle.layer_split.specs.declared.fault.SplitFault.{SplitFault}
use Rattle.layer_split.specs.declared.fault.SplitFault.TheVariants as split
use Rattle.layer_split.specs.Groups.{groups_of}
use Rattle.layer_split.specs.Layers.{Cut}
use Rattle.layer_split.specs.Faults.{fault_of}
use Rattle.layer_split.specs.Splitting.{cuts_of}
use Rattle.stream_session.specs.declared.fault.SessionFault.{SessionFault}
use Rattle.stream_session.specs.declared.fault.SessionFault.TheVariants.{ManyPackets, GroupTooLong, TooManyGroups}
use Rattle.stream_session.specs.declared.fault.SessionFault.TheVariants.{ByteLong, TooWide, TooLarge, NoMemory}
use Rattle.stream_session.specs.Tables.{sizes_of}

-- a datagram of the group would be longer than a datagram may be
abbrev pub is_wide : Priorities → Cut → Bool
is_wide priority cut = nat_lt MAX_DATAGRAM (datagram_length_of (sizes_of priority cut))

-- the group's packets times its datagram length
abbrev pub cost_in : Priorities → Cut → ℕ
cost_in priority cut = cost_of priority.packets (sizes_of priority cut)

-- the same in a format, by the layers whose words its plan cuts
abbrev pub is_wide_in : Format → Priorities → Cut → Bool
is_wide_in t priority cut =
    nat_lt MAX_DATAGRAM (length_over t.bounds.bare (planned t.bounds (sizes_of priority cut)))

abbrev pub group_cost_in : Format → Priorities → Cut → ℕ
group_cost_in t priority cut = cost_by t.word priority.packets (planned t.bounds (sizes_of priority cut))

-- the layers of the group have more bytes than the format allows
abbrev pub is_long_in : Format → Priorities → Cut → Bool
is_long_in t priority cut = nat_lt t.bounds.bytes (bytes_of (sizes_of priority cut))

-- the first place at which the sum of these, after so much before, is above the limit
abbrev pub first_above : ℕ → ℕ → List ℕ → Option ℕ
first_above limit before [] = None
first_above limit before (cost ∷ costs) =
    if nat_lt limit (before + cost) then Some 0 else option_map (λ n. n + 1) (first_above limit (before + cost) costs)

-- the first group that would pass the limit of a session, and none
abbrev pub large_fault : Option ℕ → Option SessionFault
large_fault None = None
large_fault (Some group) = Some (TooLarge group)

-- the first group whose datagrams are too long, looked for over all groups; and else the first that passes the limit
abbrev pub size_fault : Option ℕ → Option ℕ → Option SessionFault
size_fault (Some group) large = Some (TooWide group)
size_fault None large = large_fault large

-- before them the first group that is longer than the format allows, looked for over all groups
abbrev pub long_fault : Option ℕ → Option SessionFault → Option SessionFault
long_fault (Some group) later = Some (ByteLong group)
long_fault None later = later

-- a fault of the groups comes before these
abbrev pub fault_after : Option SplitFault → Option SessionFault → Option SessionFault
fault_after None later = later
fault_after (Some (split.GroupTooLong group)) later = Some (GroupTooLong group)
fault_after (Some split.TooManyGroups) later = Some TooManyGroups
fault_after (Some split.NoMemory) later = Some NoMemory

-- and more packets than the format allows before all
abbrev pub many_fault : Format → Priorities → Option SessionFault → Option SessionFault
many_fault t priority later =
    if nat_lt t.bounds.packets priority.packets then Some (ManyPackets priority.packets) else later

-- what refuses the cuts of all groups in a format, where a session may have so many bytes
abbrev pub fault_of_cuts_in : Format → ℕ → Priorities → List Cut → Option SessionFault
fault_of_cuts_in t limit priority cuts =
    long_fault (position (is_long_in t priority) cuts)
    (size_fault (position (is_wide_in t priority) cuts) (first_above limit 0 (map (group_cost_in t priority) cuts)))

-- in the format that is written today
abbrev pub fault_of_cuts_within : ℕ → Priorities → List Cut → Option SessionFault
fault_of_cuts_within limit priority cuts = fault_of_cuts_in FORMAT limit priority cuts

abbrev pub fault_of_cuts : Priorities → List Cut → Option SessionFault
fault_of_cuts priority cuts = fault_of_cuts_within MAX_SESSION priority cuts

-- why these pieces of an accepted stream have no session of so many bytes in a format, and None where they have one
unfoldable pub session_fault_in : Format → ℕ → Priorities → List Piece → Option SessionFault
session_fault_in t limit priority pieces =
    many_fault t priority
    (fault_after (fault_of (layer_of priority) (length priority.layers) (groups_of pieces))
    (fault_of_cuts_in t limit priority (cuts_of priority (groups_of pieces))))

-- in the format that is written today, where the packets of a priority and the groups of a stream are never too many and
-- too long for the format (the law `fault_today`)
abbrev pub session_fault_within : ℕ → Priorities → List Piece → Option SessionFault
session_fault_within limit priority pieces = session_fault_in FORMAT limit priority pieces

-- the same of a session of the most bytes that one may have
abbrev pub session_fault : Priorities → List Piece → Option SessionFault
session_fault priority pieces = session_fault_within MAX_SESSION priority pieces
