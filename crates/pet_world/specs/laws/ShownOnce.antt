-- What an event shows was not shown before, is shown after it, and is not shown again by a later one.
use Rattle.std.proofs.Common.{◌≡◌, ◌≢◌, ℕ, suc, ◌+◌, ◌<◌, ◌≤◌, Bool, true, false, cond, List, [], ◌∷◌, ◌++◌, All}
use Rattle.std.proofs.Common.{length, set, get_or, Some, refl, sym, ap, subst, ◌∙◌, arith, inl, inr}
use Rattle.std.specs.Prelude.{slice_get, map, filter, flat_map, count_by, not, ◌&&◌, ◌||◌}
use Rattle.std.specs.Option.{option_map_or}
use Rattle.std.specs.List.{enumerate_from, range_with_len}
use Rattle.std.proofs.lemmas.Bool.{cases_eq, and_parts, leb-true, le-leb}
use Rattle.std.proofs.lemmas.Grind.{get_or-set_at}
use Rattle.std.proofs.lemmas.List.{length-set, get_or-set_other}
use Rattle.std.proofs.lemmas.List.Elements.{All-nil, All-append, All-map, All-head, All-tail, All-cons, filter_passes}
use Rattle.std.proofs.lemmas.List.Sums.{sum_by-cons}
use Rattle.stripe_plan.specs.Layers.{count_of}
use Rattle.packet_session.specs.Session.{Session, SessionGroup}
use Rattle.packet_met.specs.Met.{Pair, has_pair, distinct_met, shows, newly_shown_by, newly_shown_in}
use Rattle.packet_met.specs.laws.PairLaws.{has_either}
use Rattle.packet_met.specs.laws.SamePairs.{none_shown, with_itself}
use Rattle.pet_base.specs.declared.event.Event.{Event}
use Rattle.pet_base.specs.declared.event.Event.TheVariants.{Give, Join, Reopen}
use Rattle.pet_base.specs.declared.event.Shown.{Shown}
use Rattle.pet_world.specs.ReceivedSets.{Sets, set_of, receiver_of, met_then, sets_after, shown_to, shown_by_event}
use Rattle.pet_world.specs.ReceivedSets.{shown_by_events}

-- the pairs show the layer of the group
abbrev pub shows_pair : Session → List Pair → ℕ × ℕ → Bool
shows_pair s pairs p = option_map_or (λ g. shows pairs p.0 g p.1) (slice_get s.groups p.0) false

-- the layer is shown to its receiver
abbrev pub is_shown : Session → Sets → Shown → Bool
is_shown s sets x = shows_pair s (set_of sets x.receiver) (x.group, x.layer)

-- all that is made of the numbered elements of a list
pub flat_all : {A B : Type 0} (P : B → Type 0) (f : ℕ × A → List B) (xs : List A) (k : ℕ)
    → ((i n : ℕ) (y : A) → k + i ≡ n → slice_get xs i ≡ Some y → All P (f (n, y)))
    → All P (flat_map f (enumerate_from k xs))
flat_all P f [] k each = All-nil P
flat_all P f (y ∷ ys) k each =
    let rest : All P (flat_map f (enumerate_from (k + 1) ys)) =
    flat_all P f ys (k + 1) (λ i n z at is. each (suc i) n z (omega arith) is) in
    All-append P (f (k, y)) (flat_map f (enumerate_from (k + 1) ys)) (each 0 k y (omega arith) refl) rest

not_true : (b : Bool) → not b ≡ true → b ≡ false
not_true true e = cc
not_true false e = refl

-- ---- what is newly shown

module _ (s : Session) (a b : List Pair) where
  abbrev IsNew : ℕ × ℕ → Type 0
  IsNew p = (shows_pair s a p ≡ false) × (shows_pair s b p ≡ true)

  new_in : (n : ℕ) (g : SessionGroup) → slice_get s.groups n ≡ Some g
      → All IsNew (map (λ layer. (n, layer)) (newly_shown_by a b n g))
  new_in n g is =
      let q = λ (layer : ℕ). shows b n g layer && not (shows a n g layer) in
      All-map IsNew (λ (layer : ℕ). (n, layer)) (filter q (range_with_len 0 (length g.layers)))
      (λ k d lt.
      let layer = get_or (filter q (range_with_len 0 (length g.layers))) k d in
      let both = and_parts (shows b n g layer) (not (shows a n g layer))
      (filter_passes q (range_with_len 0 (length g.layers)) k d lt) in (
        ap (λ o. option_map_or (λ (x : SessionGroup). shows a n x layer) o false) is
            ∙ not_true (shows a n g layer) both.1,
        ap (λ o. option_map_or (λ (x : SessionGroup). shows b n x layer) o false) is ∙ both.0,
      ))

  pub all_new : All IsNew (newly_shown_in s a b)
  all_new =
      flat_all IsNew (λ (e : ℕ × SessionGroup). map (λ layer. (e.0, layer)) (newly_shown_by a b e.0 e.1)) s.groups 0
      (λ i n g at is. let n_is : i ≡ n = omega arith in new_in n g (ap (slice_get s.groups) (sym n_is) ∙ is))

-- ---- what is shown stays so

abbrev Grows : List Pair → List Pair → Type 0
Grows a b = (group number : ℕ) → has_pair a group number ≡ true → has_pair b group number ≡ true

count_grows : (p q : ℕ → Bool) (xs : List ℕ) → ((x : ℕ) → p x ≡ true → q x ≡ true) → count_by p xs ≤ count_by q xs
count_grows p q [] more = omega arith
count_grows p q (x ∷ xs) more =
    let rest : count_by p xs ≤ count_by q xs = count_grows p q xs more in
    omega (
      arith,
      sum_by-cons (λ (y : ℕ). cond {A = ℕ} (p y) 1 0) x xs,
      sum_by-cons (λ (y : ℕ). cond {A = ℕ} (q y) 1 0) x xs,
      by (p x) (q x) (more x),
      rest,
    )
  where
    by : (u v : Bool) → (u ≡ true → v ≡ true) → cond {A = ℕ} u 1 0 ≤ cond {A = ℕ} v 1 0
    by true v m = rw (m refl) (omega arith)
    by false v m = omega arith

stays_shown : (s : Session) (a b : List Pair) (p : ℕ × ℕ) → Grows a b → shows_pair s a p ≡ true
    → shows_pair s b p ≡ true
stays_shown s a b p grows shown = by (slice_get s.groups p.0) shown
  where
    by : (o : _) → option_map_or (λ (g : SessionGroup). shows a p.0 g p.1) o false ≡ true
        → option_map_or (λ (g : SessionGroup). shows b p.0 g p.1) o false ≡ true
    by Rattle.std.proofs.Common.None e = e
    by (Some g) e =
        let reached = leb-true (count_of g.layers p.1) (distinct_met a p.0 g.packets) e in
        le-leb (count_of g.layers p.1) (distinct_met b p.0 g.packets)
        (omega (arith, reached, count_grows (has_pair a p.0) (has_pair b p.0) (range_with_len 0 g.packets) (grows p.0)))

or_left : (a b : Bool) → a ≡ true → (a || b) ≡ true
or_left true b e = refl
or_left false b e = cc

then_grows : (sets : Sets) (event : Event) → Grows (set_of sets (receiver_of event)) (met_then sets event)
then_grows sets (Give receiver group number) g n e =
    has_either (set_of sets receiver) ((group, number) ∷ []) g n ∙ or_left _ _ e
then_grows sets (Join receiver other) g n e = has_either (set_of sets receiver) (set_of sets other) g n ∙ or_left _ _ e
then_grows sets (Reopen receiver) g n e = e

module _ (s : Session) where
  pub stays : (sets : Sets) (event : Event) (x : Shown) → receiver_of event < length sets → is_shown s sets x ≡ true
      → is_shown s (sets_after sets event) x ≡ true
  unfolding sets_after
  stays sets event x lt shown =
      let r = receiver_of event in
      elim (cases_eq x.receiver r) [
        | inl same ↦
            let was : shows_pair s (set_of sets r) (x.group, x.layer) ≡ true =
            subst (λ (i : ℕ). shows_pair s (set_of sets i) (x.group, x.layer) ≡ true) same shown in
            let now : set_of (set sets r (met_then sets event)) x.receiver ≡ met_then sets event =
            get_or-set_at sets r x.receiver (met_then sets event) [] same lt in
            ap (λ (p : List Pair). shows_pair s p (x.group, x.layer)) now
            ∙ stays_shown s (set_of sets r) (met_then sets event) (x.group, x.layer) (then_grows sets event) was
        | inr other ↦ ap (λ (p : List Pair). shows_pair s p (x.group, x.layer))
            (get_or-set_other sets r x.receiver (met_then sets event) [] other) ∙ shown
      ]

  -- what an event shows: not before, and from then on
  abbrev IsFirst : Sets → Event → Shown → Type 0
  IsFirst sets event x = (is_shown s sets x ≡ false) × (is_shown s (sets_after sets event) x ≡ true)

  pub shown_first : (sets : Sets) (event : Event) → receiver_of event < length sets
      → All (IsFirst sets event) (shown_by_event s sets event)
  unfolding sets_after shown_by_event
  shown_first sets event lt =
      let r = receiver_of event in
      let a = set_of sets r in
      let b = met_then sets event in
      let now : set_of (set sets r b) r ≡ b = get_or-set_at sets r r b [] refl lt in
      All-map (IsFirst sets event) (λ (p : ℕ × ℕ). record { receiver = r; group = p.0; layer = p.1 })
      (newly_shown_in s a b)
      (λ k d lt.
      let p = get_or (newly_shown_in s a b) k d in
      let new = all_new s a b k d lt in
      (new.0, ap (λ (q : List Pair). shows_pair s q p) now ∙ new.1))

  abbrev NotAgain : Shown → List Shown → Type 0
  NotAgain x later = All (λ y. y ≢ x) later

  -- what is shown is shown by no later event
  pub not_again : (sets : Sets) (events : List Event) (x : Shown) → All (λ e. receiver_of e < length sets) events
      → is_shown s sets x ≡ true → All (NotAgain x) (shown_by_events s sets events)
  unfolding shown_by_events sets_after
  not_again sets [] x known shown = All-nil (NotAgain x)
  not_again sets (event ∷ events) x known shown =
      let here = All-head (λ e. receiver_of e < length sets) event events known in
      let first = shown_first sets event here in
      let long : length (sets_after sets event) ≡ length sets =
      length-set sets (receiver_of event) (met_then sets event) in
      All-cons (NotAgain x) (shown_by_event s sets event) (shown_by_events s (sets_after sets event) events)
      (λ k d lt same.
      let e : false ≡ true = sym (first k d lt).0 ∙ ap (is_shown s sets) same ∙ shown in cc)
      (not_again (sets_after sets event) events x (subst (λ (n : ℕ). All (λ e. receiver_of e < n) events) (sym long)
      (All-tail (λ e. receiver_of e < length sets) event events known)) (stays sets event x here shown))

-- a reopening shows nothing, and a join with itself neither
pub reopening_shows_none : (s : Session) (sets : Sets) (receiver : ℕ) → shown_by_event s sets (Reopen receiver) ≡ []
unfolding shown_by_event
reopening_shows_none s sets receiver =
    ap (shown_to receiver) (none_shown s (set_of sets receiver) (set_of sets receiver) (λ g n. refl))

pub itself_shows_none : (s : Session) (sets : Sets) (receiver : ℕ) → shown_by_event s sets (Join receiver receiver) ≡ []
unfolding shown_by_event
itself_shows_none s sets receiver =
    let pairs = set_of sets receiver in
    ap (shown_to receiver) (none_shown s pairs (pairs ++ pairs) (with_itself pairs))
