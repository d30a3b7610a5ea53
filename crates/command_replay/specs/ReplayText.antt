-- What `replay` prints of some events of a session, by plain sets of pairs. Nothing here speaks of packets that were
-- kept. This project's own; the digest is SHA-256 (FIPS 180-4).
use Rattle.std.specs.Prelude.{ℕ, ◌+◌, ◌==◌, List, [], ◌∷◌, ◌++◌, length, take, if◌then◌else◌, slice_get}
use Rattle.std.specs.List.{flat_map, enumerate_from}
use Rattle.std.specs.Option.{option_map_or}
use Rattle.sha2.specs.Sha256.{sha256}
use Rattle.pet_base.specs.declared.event.Event.{Event}
use Rattle.pet_base.specs.declared.event.Shown.{Shown}
use Rattle.packet_session.specs.Session.{Session, bytes_of_layer}
use Rattle.packet_met.specs.Met.{Pair, count_met}
use Rattle.packet_met.specs.MetStore.{pairs_store}
use Rattle.pet_world.specs.declared.world.TheConstants.{MAX_RECEIVERS}
use Rattle.pet_world.specs.ReceivedSets.{Sets, nothing_met, sets_after, sets_after_all, shown_by_event}
use Rattle.text_world.specs.ReplayLines.{shown_text, kept_text}

-- the begin of the digest of these bytes
unfoldable pub digest_of : List ℕ → List ℕ
digest_of bytes = take 8 (sha256 bytes)

-- the bytes that a layer has in the session, whose words have two bytes
abbrev pub layer_in : Session → Shown → List ℕ
layer_in s x = option_map_or (λ g. bytes_of_layer 2 g.layers g.message x.layer) (slice_get s.groups x.group) []

-- the line of a layer that an event shows
abbrev pub layer_line : Session → ℕ → Shown → List ℕ
layer_line s number x =
    shown_text number x.receiver x.group x.layer (length (layer_in s x)) (digest_of (layer_in s x))

-- the lines of an event, before which the receivers have met these sets
abbrev pub event_lines : Session → Sets → ℕ → Event → List ℕ
event_lines s sets number event = flat_map (layer_line s number) (shown_by_event s sets event)

-- those of some events, the first of which has this number
unfoldable pub events_lines : Session → Sets → ℕ → List Event → List ℕ
events_lines s sets number [] = []
events_lines s sets number (event ∷ events) =
    event_lines s sets number event ++ events_lines s (sets_after sets event) (number + 1) events

-- the line of a receiver that has met these pairs, where it has met something: over the store of the packets met
abbrev pub store_line_of : Session → ℕ → List Pair → List ℕ
store_line_of s receiver pairs =
    if count_met s pairs == 0 then []
    else kept_text receiver (count_met s pairs) (digest_of (pairs_store s pairs))

-- those of receivers in order, the first of which has this number
abbrev pub store_lines_from : Session → ℕ → Sets → List ℕ
store_lines_from s receiver sets = flat_map (λ e. store_line_of s e.0 e.1) (enumerate_from receiver sets)

-- The text: the lines of all events, numbered from 1, and then those of the receivers, who have met nothing before.
unfoldable pub replay_text : Session → List Event → List ℕ
replay_text s events =
    events_lines s (nothing_met MAX_RECEIVERS) 1 events
    ++ store_lines_from s 0 (sets_after_all (nothing_met MAX_RECEIVERS) events)
