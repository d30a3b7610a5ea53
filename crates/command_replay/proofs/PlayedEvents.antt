-- One event of a script more.
use Rattle.std.proofs.Common.{◌≡◌, ℕ, ◌+◌, ◌<◌, Bool, true, false, List, [], ◌∷◌, ◌++◌, length, All, None, Some}
use Rattle.std.proofs.Common.{refl, sym, ap, subst, ◌∙◌, arith, get_or, take, append_assoc, length-take}
use Rattle.std.specs.Prelude.{not, nat_lt, slice_get, if◌then◌else◌}
use Rattle.std.specs.List.{flat_map}
use Rattle.std.proofs.lemmas.Bool.{ltb-true, and_parts}
use Rattle.std.proofs.lemmas.Grind.{get_or-set_at}
use Rattle.std.proofs.lemmas.List.{length-set, take_more, append-nil}
use Rattle.field_elements.specs.Gf16.{gf16_coding}
use Rattle.packet_session.specs.Session.{Session}
use Rattle.packet_session.specs.Encoding.{Encoding}
use Rattle.packet_met.specs.EncodedSession.{encoded_session}
use Rattle.packet_met.specs.Met.{Pair, shows}
use Rattle.pet_base.specs.declared.event.Event.{Event}
use Rattle.pet_base.specs.declared.event.Event.TheVariants.{Give, Join, Reopen}
use Rattle.pet_base.specs.declared.event.Shown.{Shown}
use Rattle.pet_world.specs.declared.fault.WorldFault.TheVariants.{UnknownReceiver, OutOfRange}
use Rattle.pet_world.specs.ReceivedSets.{Sets, set_of, receiver_of, met_then, sets_after, sets_after_all, shown_by_event}
use Rattle.pet_world.specs.ReceivedSets.{nothing_met, has_receivers, is_in_session, event_refusal}
use Rattle.pet_world.specs.declared.world.TheConstants.{MAX_RECEIVERS}
use Rattle.pet_world.specs.World.{WorldState, HaveMet, IsCarriedOut, refusal_in}
use Rattle.command_replay.specs.ReplayText.{layer_line, event_lines, events_lines, store_lines_from}
use Rattle.command_replay.specs.ReplayText.{replay_text}
use Rattle.command_replay.specs.inside.Playing.{IsPlayed, ArePlayed, IsShownIn, session_in}
use Rattle.command_replay.specs.laws.EventLaws.{IsShownBy, event_shows, sets_more, lines_more}

-- the receiver of an event that is not refused is there
there_by : (a b : Bool) → (if not a then Some UnknownReceiver else if not b then Some OutOfRange else None) ≡ None
    → a ≡ true
there_by false b e = absurd (cc)
there_by true b e = refl

has_its : (many : ℕ) (event : Event) → has_receivers many event ≡ true → receiver_of event < many
has_its many (Give receiver group number) e = ltb-true receiver many e
has_its many (Join receiver other) e =
    ltb-true receiver many (and_parts (nat_lt receiver many) (nat_lt other many) e).0
has_its many (Reopen receiver) e = ltb-true receiver many e

there : (many : ℕ) (s : Session) (event : Event) → event_refusal many s event ≡ None → receiver_of event < many
unfolding event_refusal
there many s event e = has_its many event (there_by (has_receivers many event) (is_in_session s event) e)

many_after : (w v : WorldState ℕ) (sets : Sets) (event : Event) → HaveMet gf16_coding w sets
    → HaveMet gf16_coding v (sets_after sets event) → length v.receivers ≡ length w.receivers
unfolding sets_after
many_after w v sets event met now =
    now.many ∙ length-set sets (receiver_of event) (met_then sets event) ∙ sym met.many

set_after : (sets : Sets) (event : Event) → receiver_of event < length sets
    → set_of (sets_after sets event) (receiver_of event) ≡ met_then sets event
unfolding sets_after
set_after sets event lt =
    get_or-set_at sets (receiver_of event) (receiver_of event) (met_then sets event) [] refl lt

module _ (w v : WorldState ℕ) (event : Event) (shown : List Shown) (step : IsCarriedOut gf16_coding w event shown v)
    (sets : Sets) (met : HaveMet gf16_coding w sets) (known : refusal_in w event ≡ None) where
  now : HaveMet gf16_coding v (sets_after sets event)
  now = (step.stepped sets met).0

  pub many_same : length v.receivers ≡ length w.receivers
  many_same = many_after w v sets event met now

  same_session : session_in v ≡ session_in w
  same_session = ap (λ (es : List Encoding). encoded_session es) step.encoders

  one_shown : (x : Shown) → IsShownBy (session_in w) (receiver_of event) (met_then sets event) x → IsShownIn v x
  one_shown x by =
      let here = there (length w.receivers) (session_in w) event known in
      let its : set_of (sets_after sets event) x.receiver ≡ met_then sets event =
      ap (set_of (sets_after sets event)) by.to ∙ set_after sets event (omega (arith, here, met.many)) in
      record {
        sets = sets_after sets event;
        met = now;
        there = omega (arith, here, many_same, by.to);
        source = by.layer_of.source;
        group = ap (λ (s : Session). slice_get s.groups x.group) same_session ∙ by.layer_of.group;
        layer = by.layer_of.layer;
        shown =
            ap (λ (p : List Pair). shows p x.group by.layer_of.source x.layer) its ∙ by.layer_of.shown;
      }

  -- each layer that the event showed is shown
  pub all_shown : All (IsShownIn v) shown
  all_shown =
      subst (λ (xs : List Shown). All (IsShownIn v) xs) (sym (step.stepped sets met).1)
      (λ k d lt. one_shown (get_or (shown_by_event (session_in w) sets event) k d)
      (event_shows (session_in w) sets event k d lt))

  -- so its lines were appended
  pub played : (number : ℕ) (before after : List ℕ)
      → after ≡ before ++ flat_map (layer_line (session_in v) number) shown
      → IsPlayed w number event before v after
  played number before after lines = record {
    encoders = step.encoders;
    many = many_same;
    played =
        λ other stood.
        let one = step.stepped other stood in (
          one.0,
          lines
              ∙ ap (λ (s : Session). before ++ flat_map (layer_line s number) shown) same_session
              ∙ ap (λ (xs : List Shown). before ++ flat_map (layer_line (session_in w) number) xs) one.1,
        );
  }

-- none of the events yet
pub none_played : (w : WorldState ℕ) (text : List ℕ) → ArePlayed w [] text w text
unfolding sets_after_all events_lines
none_played w text = record {
  encoders = refl;
  many = refl;
  played = λ sets met. (met, sym (append-nil text));
}

-- one more
pub one_more : (w u v : WorldState ℕ) (events : List Event) (event : Event) (number : ℕ) (first before after : List ℕ)
    → number ≡ 1 + length events → ArePlayed w events first u before → IsPlayed u number event before v after
    → ArePlayed w (events ++ event ∷ []) first v after
one_more w u v events event number first before after at so one = record {
  encoders = one.encoders ∙ so.encoders;
  many = one.many ∙ so.many;
  played =
      λ sets met.
      let s = session_in w in
      let told = so.played sets met in
      let here = one.played (sets_after_all sets events) told.0 in
      let lines = events_lines s sets 1 events in
      let its = event_lines s (sets_after_all sets events) (1 + length events) event in (
        subst (λ (x : Sets). HaveMet gf16_coding v x) (sym (sets_more sets events event)) here.0,
        here.1
            ∙ ap (λ (t : List ℕ). t ++ event_lines (session_in u) (sets_after_all sets events) number event) told.1
            ∙ ap (λ (x : Session). (first ++ lines) ++ event_lines x (sets_after_all sets events) number event)
            (ap (λ (es : List Encoding). encoded_session es) so.encoders)
            ∙ ap (λ n. (first ++ lines) ++ event_lines s (sets_after_all sets events) n event) at
            ∙ append_assoc first lines its ∙ ap (λ (t : List ℕ). first ++ t) (sym (lines_more s sets 1 events event)),
      );
}

-- that of a list, by its places
pub next_played : (w u v : WorldState ℕ) (events : List Event) (i number : ℕ) (d : Event) (first before after : List ℕ)
    → i < length events → number ≡ i + 1 → ArePlayed w (take i events) first u before
    → IsPlayed u number (get_or events i d) before v after → ArePlayed w (take (i + 1) events) first v after
next_played w u v events i number d first before after lt at so one =
    let long : length (take i events) ≡ i = omega (arith, length-take i events, lt) in
    subst (λ (xs : List Event). ArePlayed w xs first v after) (sym (take_more events i d lt))
    (one_more w u v (take i events) (get_or events i d) number first before after (omega (arith, long, at)) so one)

-- What all of them print, and then the receivers, of whom none had met anything before.
pub whole_text : (s : Session) (w v : WorldState ℕ) (events : List Event) (text after : List ℕ) → session_in w ≡ s
    → HaveMet gf16_coding w (nothing_met MAX_RECEIVERS) → ArePlayed w events [] v text
    → ((sets : Sets) → HaveMet gf16_coding v sets → after ≡ text ++ store_lines_from (session_in v) 0 sets)
    → after ≡ replay_text s events
unfolding replay_text
whole_text s w v events text after same met so stored =
    let first = nothing_met MAX_RECEIVERS in
    let last = sets_after_all first events in
    let told = so.played first met in
    let its : session_in v ≡ s = ap (λ (es : List Encoding). encoded_session es) so.encoders ∙ same in
    stored last told.0
    ∙ ap (λ (x : Session). text ++ store_lines_from x 0 last) its
    ∙ ap (λ (t : List ℕ). t ++ store_lines_from s 0 last)
    (told.1 ∙ ap (λ (x : Session). events_lines x first 1 events) same)
