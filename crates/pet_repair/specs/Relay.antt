-- What a relay sends at the arrivals of a session's packets, by pairs of a group and a packet number. Nothing here
-- speaks of
-- payloads, polynomials or buffers. This project's own.
use Rattle.std.specs.Prelude.{ℕ, Bool, not, ◌&&◌, if◌then◌else◌, List, [], ◌∷◌, ◌++◌, length, map, filter, Option}
use Rattle.std.specs.Prelude.{None, Some, option_map, slice_get}
use Rattle.std.specs.List.{list_all, range_with_len, filter_map}
use Rattle.std.specs.Option.{option_map_or}
use Rattle.field_elements.specs.Field.{Coding}
use Rattle.packet_frame.specs.Frame.{Fields}
use Rattle.packet_session.specs.Session.{Session, SessionGroup, packet_of}
use Rattle.packet_met.specs.Met.{Pair, pair_in, has_pair, shows}

-- every layer of the group is shown
abbrev pub all_layers : List Pair → ℕ → SessionGroup → Bool
all_layers set group g = list_all (λ layer. shows set group g layer) (range_with_len 0 (length g.layers))

-- the numbers of the group's packets that are not in the set
abbrev pub lacking : List Pair → ℕ → SessionGroup → List ℕ
lacking set group g = filter (λ number. not (has_pair set group number)) (range_with_len 0 g.packets)

-- the remaining packets of the group, by number
abbrev pub remaining : List Pair → ℕ → SessionGroup → List Pair
remaining set group g = map (λ number. (group, number)) (lacking set group g)

-- the packet, if its pair is not in the set
abbrev pub itself : List Pair → Pair → List Pair
itself set pair = if has_pair set pair.0 pair.1 then [] else pair ∷ []

-- then, if all layers of its group are shown now and were not before, the remaining packets of the group
abbrev pub rebuilt : List Pair → List Pair → ℕ → SessionGroup → List Pair
rebuilt before now group g =
    if all_layers now group g && not (all_layers before group g) then remaining now group g else []

-- what the arrival of a pair sends
abbrev pub pair_sends : Session → List Pair → Pair → List Pair
pair_sends s set pair =
    itself set pair ++ option_map_or (rebuilt set (set ++ itself set pair) pair.0) (slice_get s.groups pair.0) []

-- an arrival that is no packet of the session sends nothing
abbrev pub sends_at : Session → List Pair → Option Pair → List Pair
sends_at s set None = []
sends_at s set (Some pair) = pair_sends s set pair

-- the output, arrival by arrival; the set gains all that was sent
unfoldable pub output_from : Session → List Pair → List (Option Pair) → List Pair
output_from s set [] = []
output_from s set (arrival ∷ arrivals) =
    sends_at s set arrival ++ output_from s (set ++ sends_at s set arrival) arrivals

-- the arrivals of some datagrams
abbrev pub arrivals_of : Session → List (List ℕ) → List (Option Pair)
arrivals_of s datagrams = map (pair_in s.number) datagrams

-- the pairs of the arrivals that are packets of the session
abbrev pub pairs_of : List (Option Pair) → List Pair
pairs_of arrivals = filter_map (λ a. a) arrivals

-- the packets of some pairs
abbrev pub packet_at : {E : Type 0} → Coding E → Session → Pair → Option Fields
packet_at c s pair = option_map (λ g. packet_of c s pair.0 g pair.1) (slice_get s.groups pair.0)

abbrev pub packets_at : {E : Type 0} → Coding E → Session → List Pair → List Fields
packets_at c s pairs = filter_map (packet_at c s) pairs
