-- The received sets of some receivers of one session: which packets each receiver has met, and which layers an event
-- shows. A list of pairs stands for the set of the pairs that it has. Nothing here speaks of payloads, polynomials or
-- buffers. This project's own.
use Rattle.std.specs.Prelude.{◌≡◌, ⊤, ◌⊎◌, ℕ, ◌<◌, Bool, true, false, not, ◌&&◌, nat_lt, if◌then◌else◌, List, [], ◌∷◌}
use Rattle.std.specs.Prelude.{◌++◌, map, set, slice_index_or, slice_get, replicate, Option, None, Some, All}
use Rattle.std.specs.Option.{option_map_or}
use Rattle.packet_session.specs.Session.{Session}
use Rattle.packet_met.specs.Met.{Pair, newly_shown_in}
use Rattle.pet_base.specs.declared.event.Event.{Event}
use Rattle.pet_base.specs.declared.event.Event.TheVariants.{Give, Join, Reopen}
use Rattle.pet_base.specs.declared.event.Shown.{Shown}
use Rattle.pet_world.specs.declared.fault.WorldFault.{WorldFault}
use Rattle.pet_world.specs.declared.fault.WorldFault.TheVariants.{UnknownReceiver, OutOfRange}

-- for each receiver the pairs of a group and a number that it has met
abbrev pub Sets : Type 0
Sets = List (List Pair)

abbrev pub set_of : Sets → ℕ → List Pair
set_of sets receiver = slice_index_or sets receiver []

-- nothing is met yet
abbrev pub nothing_met : ℕ → Sets
nothing_met receivers = replicate receivers []

-- whose set an event may change
abbrev pub receiver_of : Event → ℕ
receiver_of (Give receiver group number) = receiver
receiver_of (Join receiver other) = receiver
receiver_of (Reopen receiver) = receiver

-- what this receiver has met then: one pair more, that of either, or what it had
abbrev pub met_then : Sets → Event → List Pair
met_then sets (Give receiver group number) = set_of sets receiver ++ (group, number) ∷ []
met_then sets (Join receiver other) = set_of sets receiver ++ set_of sets other
met_then sets (Reopen receiver) = set_of sets receiver

-- the sets after an event, and after some
unfoldable pub sets_after : Sets → Event → Sets
sets_after sets event = set sets (receiver_of event) (met_then sets event)

unfoldable pub sets_after_all : Sets → List Event → Sets
sets_after_all sets [] = sets
sets_after_all sets (event ∷ events) = sets_after_all (sets_after sets event) events

-- what a receiver is shown
abbrev pub shown_to : ℕ → List (ℕ × ℕ) → List Shown
shown_to receiver layers = map (λ p. record { receiver = receiver; group = p.0; layer = p.1 }) layers

-- what an event shows: the layers that are shown to its receiver after it, and were not before
unfoldable pub shown_by_event : Session → Sets → Event → List Shown
shown_by_event s sets event =
    shown_to (receiver_of event) (newly_shown_in s (set_of sets (receiver_of event)) (met_then sets event))

-- what each of some events shows
unfoldable pub shown_by_events : Session → Sets → List Event → List (List Shown)
shown_by_events s sets [] = []
shown_by_events s sets (event ∷ events) = shown_by_event s sets event ∷ shown_by_events s (sets_after sets event) events

-- one layer stands before another: by group, then layer
abbrev pub IsBefore : Shown → Shown → Type 0
IsBefore x y = (x.group < y.group) ⊎ ((x.group ≡ y.group) × (x.layer < y.layer))

-- each stands before all that follow it, so none stands twice
unfoldable pub AreInOrder : List Shown → Type 0
AreInOrder [] = ⊤
AreInOrder (x ∷ rest) = All (IsBefore x) rest × AreInOrder rest

-- all receivers that an event names are there
abbrev pub has_receivers : ℕ → Event → Bool
has_receivers many (Give receiver group number) = nat_lt receiver many
has_receivers many (Join receiver other) = nat_lt receiver many && nat_lt other many
has_receivers many (Reopen receiver) = nat_lt receiver many

-- the packet that an event gives is one of the session's
abbrev pub is_in_session : Session → Event → Bool
is_in_session s (Give receiver group number) =
    option_map_or (λ g. nat_lt number g.packets) (slice_get s.groups group) false
is_in_session s (Join receiver other) = true
is_in_session s (Reopen receiver) = true

-- why an event cannot be carried out, whatever memory there is: the first that holds
unfoldable pub event_refusal : ℕ → Session → Event → Option WorldFault
event_refusal many s event =
    if not (has_receivers many event) then Some UnknownReceiver
    else if not (is_in_session s event) then Some OutOfRange
    else None
