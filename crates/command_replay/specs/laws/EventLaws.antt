-- What callers know of the layers that an event shows: each is one of the session, for the event's receiver, and the
-- pairs that this has met then show it. And the lines of one event more.
use Rattle.std.proofs.Common.{◌≡◌, ℕ, suc, ◌+◌, ◌<◌, true, List, [], ◌∷◌, ◌++◌, All, length, map, Some, refl, sym, ap}
use Rattle.std.proofs.Common.{◌∙◌, arith, get_or, append_assoc}
use Rattle.std.specs.Prelude.{slice_get, filter, not, ◌&&◌}
use Rattle.std.specs.List.{range_with_len}
use Rattle.std.proofs.lemmas.Bool.{and_parts}
use Rattle.std.proofs.lemmas.List.{append-nil}
use Rattle.std.proofs.lemmas.List.Elements.{All-map, All-filter, filter_passes}
use Rattle.std.proofs.lemmas.List.FromFn.{length-range_with_len, get_or-range_with_len}
use Rattle.packet_session.specs.Session.{Session, SessionGroup}
use Rattle.packet_met.specs.Met.{Pair, shows, newly_shown_by, newly_shown_in}
use Rattle.pet_base.specs.declared.event.Event.{Event}
use Rattle.pet_base.specs.declared.event.Shown.{Shown}
use Rattle.pet_world.specs.ReceivedSets.{Sets, set_of, receiver_of, met_then, sets_after, sets_after_all, shown_by_event}
use Rattle.pet_world.specs.laws.ShownOnce.{flat_all}
use Rattle.command_replay.specs.ReplayText.{event_lines, events_lines}

-- the layer of the group is one of the session, and the pairs show it
pub record IsLayerOf (s : Session) (pairs : List Pair) (p : ℕ × ℕ) : Type 0 where
  pub source : SessionGroup
  pub group : slice_get s.groups p.0 ≡ Some source
  pub layer : p.1 < length source.layers
  pub shown : shows pairs p.0 source p.1 ≡ true

module _ (s : Session) (a b : List Pair) where
  in_group : (n : ℕ) (g : SessionGroup) → slice_get s.groups n ≡ Some g
      → All (IsLayerOf s b) (map (λ layer. (n, layer)) (newly_shown_by a b n g))
  in_group n g is =
      let q = λ (layer : ℕ). shows b n g layer && not (shows a n g layer) in
      let range : List ℕ = range_with_len 0 (length g.layers) in
      let inside : All (λ layer. layer < length g.layers) (filter q range) =
      All-filter q (λ layer. layer < length g.layers) range
      (λ k d lt. omega (
        arith,
        lt,
        length-range_with_len 0 (length g.layers),
        get_or-range_with_len 0 (length g.layers) k d (omega (arith, lt, length-range_with_len 0 (length g.layers))),
      )) in
      All-map (IsLayerOf s b) (λ (layer : ℕ). (n, layer)) (filter q range)
      (λ k d lt.
      let layer = get_or (filter q range) k d in
      record {
        source = g;
        group = is;
        layer = inside k d lt;
        shown = (and_parts (shows b n g layer) (not (shows a n g layer)) (filter_passes q range k d lt)).0;
      })

  layers_of_session : All (IsLayerOf s b) (newly_shown_in s a b)
  layers_of_session =
      flat_all (IsLayerOf s b) (λ (e : ℕ × SessionGroup). map (λ layer. (e.0, layer)) (newly_shown_by a b e.0 e.1))
      s.groups 0
      (λ i n g at is. let n_is : i ≡ n = omega arith in in_group n g (ap (slice_get s.groups) (sym n_is) ∙ is))

-- so is what an event shows
pub record IsShownBy (s : Session) (receiver : ℕ) (pairs : List Pair) (x : Shown) : Type 0 where
  pub to : x.receiver ≡ receiver
  pub layer_of : IsLayerOf s pairs (x.group, x.layer)

pub event_shows : (s : Session) (sets : Sets) (event : Event)
    → All (IsShownBy s (receiver_of event) (met_then sets event)) (shown_by_event s sets event)
unfolding shown_by_event
event_shows s sets event =
    let r = receiver_of event in
    let a = set_of sets r in
    let b = met_then sets event in
    let named : ℕ × ℕ → Shown = λ p. record { receiver = r; group = p.0; layer = p.1 } in
    All-map (IsShownBy s r b) named (newly_shown_in s a b)
    (λ k d lt. record { to = refl; layer_of = layers_of_session s a b k d lt })

-- one event more
pub sets_more : (sets : Sets) (events : List Event) (event : Event)
    → sets_after_all sets (events ++ event ∷ []) ≡ sets_after (sets_after_all sets events) event
unfolding sets_after_all
sets_more sets [] event = refl
sets_more sets (first ∷ events) event = sets_more (sets_after sets first) events event

pub lines_more : (s : Session) (sets : Sets) (number : ℕ) (events : List Event) (event : Event)
    → events_lines s sets number (events ++ event ∷ [])
    ≡ events_lines s sets number events ++ event_lines s (sets_after_all sets events) (number + length events) event
unfolding events_lines sets_after_all
lines_more s sets number [] event =
    append-nil (event_lines s sets number event)
    ∙ ap (λ n. event_lines s sets n event) (let same : number ≡ number + 0 = omega arith in same)
lines_more s sets number (first ∷ events) event =
    let here = event_lines s sets number first in
    let next = sets_after sets first in
    let later = events_lines s next (number + 1) events in
    let at : (number + 1) + length events ≡ number + suc (length events) = omega arith in
    ap (λ (t : List ℕ). here ++ t)
    (lines_more s next (number + 1) events event
    ∙ ap (λ n. later ++ event_lines s (sets_after_all next events) n event) at)
    ∙ sym (append_assoc here later (event_lines s (sets_after_all next events) (number + suc (length events)) event))
