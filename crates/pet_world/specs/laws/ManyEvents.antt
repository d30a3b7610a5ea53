-- A world after some events that were answered Ok, one after the other: the receivers have the sets after these events,
-- each answer is what its event shows, and each store is that of the session's packets of the receiver's set.
use Rattle.std.proofs.Common.{◌≡◌, ◌≢◌, ℕ, zero, suc, ◌<◌, List, [], ◌∷◌, length, set, Some, refl, sym, ap, ap₂, subst}
use Rattle.std.proofs.Common.{◌∙◌, arith, inl, inr}
use Rattle.std.specs.Prelude.{slice_get}
use Rattle.std.proofs.lemmas.Bool.{cases_eq}
use Rattle.std.proofs.lemmas.List.{length-set, get_or-set_other}
use Rattle.std.proofs.lemmas.Grind.{get_or-set_at}
use Rattle.std.proofs.lemmas.Option.{get_or_from_slice_get}
use Rattle.field_elements.specs.Field.{Coding}
use Rattle.packet_session.specs.Encoding.{Encoding}
use Rattle.pet_receive.specs.Arrivals.{ReceiverState, kept_set}
use Rattle.store_text.specs.Store.{store_of, store_text}
use Rattle.packet_met.specs.Met.{Pair}
use Rattle.packet_met.specs.MetFrames.{met_frames}
use Rattle.pet_base.specs.declared.event.Event.{Event}
use Rattle.pet_base.specs.declared.event.Shown.{Shown}
use Rattle.pet_world.specs.ReceivedSets.{Sets, set_of, sets_after, sets_after_all, shown_by_events}
use Rattle.pet_world.specs.World.{WorldState, HaveMet, AreCarriedOut}
use Rattle.packet_met.specs.laws.ExactlyKept.{KeepsExactly, store_is}
use Rattle.packet_met.specs.EncodedSession.{encoded_session}

pub slice_set_other : {A : Type 0} (xs : List A) (i j : ℕ) (y : A) → j ≢ i → slice_get (set xs i y) j ≡ slice_get xs j
slice_set_other [] i j y apart = refl
slice_set_other (x ∷ xs) zero zero y apart = absurd (apart refl)
slice_set_other (x ∷ xs) zero (suc j) y apart = refl
slice_set_other (x ∷ xs) (suc i) zero y apart = refl
slice_set_other (x ∷ xs) (suc i) (suc j) y apart = slice_set_other xs i j y (λ same. apart (ap suc same))

module _ {E : Type 0} (c : Coding E) where
  -- one receiver is another, and its set too
  pub met_set : (w : WorldState E) (sets : Sets) (i : ℕ) (r : ReceiverState E) (pairs : List Pair) → HaveMet c w sets
      → i < length w.receivers → KeepsExactly c (encoded_session w.encoders) w.limit pairs (kept_set r)
      → HaveMet c (record w { receivers = set w.receivers i r }) (set sets i pairs)
  met_set w sets i r pairs met lt is = record {
    many = length-set w.receivers i r ∙ met.many ∙ sym (length-set sets i pairs);
    each =
        λ j x at.
        elim (cases_eq j i) [
          | inl same ↦
              let r_is : r ≡ x = sym (get_or-set_at w.receivers i j r r same lt)
              ∙ get_or_from_slice_get (set w.receivers i r) j x r at in
              let pairs_are : pairs ≡ set_of (set sets i pairs) j =
              sym (get_or-set_at sets i j pairs [] same (omega (arith, lt, met.many))) in
              subst (λ (p : List Pair). KeepsExactly c (encoded_session w.encoders) w.limit p (kept_set x)) pairs_are
              (subst (λ (y : ReceiverState E). KeepsExactly c (encoded_session w.encoders) w.limit pairs (kept_set y))
              r_is
              is)
          | inr other ↦
              let pairs_are : set_of sets j ≡ set_of (set sets i pairs) j =
              sym (get_or-set_other sets i j pairs [] other) in
              subst (λ (p : List Pair). KeepsExactly c (encoded_session w.encoders) w.limit p (kept_set x)) pairs_are
              (met.each j x (sym (slice_set_other w.receivers i j r other) ∙ at))
        ];
  }

  -- what some events leave
  pub record AllMet (w : WorldState E) (sets : Sets) (events : List Event) (answers : List (List Shown))
      (v : WorldState E) : Type 0 where
    pub encoders : v.encoders ≡ w.encoders
    pub met : HaveMet c v (sets_after_all sets events)
    pub shown : answers ≡ shown_by_events (encoded_session w.encoders) sets events

  pub all_met : (w : WorldState E) (sets : Sets) (events : List Event) (answers : List (List Shown)) (v : WorldState E)
      → HaveMet c w sets → AreCarriedOut c w events answers v → AllMet w sets events answers v
  unfolding sets_after_all shown_by_events AreCarriedOut
  all_met w sets [] answers v met steps = record {
    encoders = ap (λ (u : WorldState E). u.encoders) (sym steps.1);
    met = subst (λ (u : WorldState E). HaveMet c u sets) steps.1 met;
    shown = steps.0;
  }
  all_met w sets (event ∷ events) answers v met steps =
      let shown = steps.0 in
      let rest = steps.1 in
      let u = steps.2 in
      let one = steps.4 in
      let here = one.stepped sets met in
      let later = all_met u (sets_after sets event) events rest v here.0 steps.5 in
      let encoders : shown_by_events (encoded_session u.encoders) (sets_after sets event) events
      ≡ shown_by_events (encoded_session w.encoders) (sets_after sets event) events =
      ap (λ (es : List Encoding). shown_by_events (encoded_session es) (sets_after sets event) events) one.encoders in
      record {
        encoders = later.encoders ∙ one.encoders;
        met = later.met;
        shown = steps.3 ∙ ap₂ (λ (a : List Shown) (b : List (List Shown)). a ∷ b) here.1 (later.shown ∙ encoders);
      }

  -- the store of each receiver is that of the session's packets of its set
  pub stores_are : (w : WorldState E) (sets : Sets) (events : List Event) (answers : List (List Shown))
      (v : WorldState E) → HaveMet c w sets → AreCarriedOut c w events answers v
      → (i : ℕ) (r : ReceiverState E) → slice_get v.receivers i ≡ Some r
      → store_text (kept_set r)
      ≡ store_of (encoded_session w.encoders).number
      (met_frames c (encoded_session w.encoders) (set_of (sets_after_all sets events) i))
  stores_are w sets events answers v met steps i r at =
      let all = all_met w sets events answers v met steps in
      let pairs = set_of (sets_after_all sets events) i in
      store_is c (encoded_session v.encoders) v.limit pairs (kept_set r) (all.met.each i r at)
      ∙ ap (λ (es : List Encoding). store_of (encoded_session es).number (met_frames c (encoded_session es) pairs))
      all.encoders
