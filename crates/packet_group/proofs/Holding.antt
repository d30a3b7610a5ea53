-- What is held of a group, after one packet more.
use Rattle.std.specs.Prelude.{false, true, IsSome, is_some, count_by, map, unwrap_or, Contains}
use Rattle.std.proofs.Common.{◌≡◌, ◌≢◌, ◌↔◌, ℕ, suc, ◌+◌, ◌<◌, ◌≤◌, List, [], ◌∷◌, ◌++◌, Option, None, Some}
use Rattle.std.proofs.Common.{length, get_or, take, replicate, All, refl, sym, ap, ap₂, ◌∙◌, arith, subst, inl}
use Rattle.std.proofs.Common.{inr}
use Rattle.std.proofs.lemmas.Bool.{cases_eq, cases_lt}
use Rattle.std.proofs.Math.ListN as M
use Rattle.std.proofs.lemmas.List.{length-map, length_push, map_push, get_or-set_same, get_or-set_other, get_or_past}
use Rattle.std.proofs.lemmas.List.{get_or_push, take-append-le}
use Rattle.std.proofs.lemmas.List.Elements.{All-nil, All-head, All-tail, All-map, Contains-get_or, Contains-push}
use Rattle.std.proofs.lemmas.List.Elements.{Contains-push_cases, Contains-append_left}
use Rattle.field_elements.specs.Field.{Coding, ArePoints, AreSpellings}
use Rattle.pet_poly.specs.Value.{AreDistinct}
use Rattle.pet_interp.specs.Points.{IsOnlyThrough}
use Rattle.pet_interp.specs.Progressive.{Held, StandsFor, stripe_of, lengths_of, column}
use Rattle.pet_poly.specs.Rows.{words}
use Rattle.stripe_plan.specs.Layers.{plan_ends, plan_stripes, needs_of}
use Rattle.stripe_plan.specs.Stripes.{IsPlan}
use Rattle.packet_set.specs.Packets.{Packets, TellsSlot, slot_at, with_packet, put_in}
use Rattle.packet_set.specs.declared.set.Put.{Put}
use Rattle.packet_session.specs.Payload.{stripes_in}
use Rattle.packet_session.specs.Session.{IsMessage}
use Rattle.packet_group.specs.OpenGroup.{GroupState, HoldsAfter, points_of, layers_of, stripe_lengths}
use Rattle.packet_group.specs.Stored.{state_of}
use Rattle.packet_group.proofs.Cuts.{sizes_are}
use Rattle.packet_group.proofs.Told.{told_is, told_words}
use Rattle.packet_set.specs.laws.SlotCounts.{count_set, count_none, none_in}

-- ---- lists

pub distinct_push : {E : Type 0} (xs : List E) (y : E) → AreDistinct xs
    → ((k : ℕ) (d : E) → k < length xs → get_or xs k d ≢ y) → AreDistinct (xs ++ (y ∷ []))
distinct_push [] y h other = (All-nil (λ t. y ≢ t), tt)
distinct_push (x ∷ xs) y h other = (
  λ k d l.
      elim (cases_lt k (length xs)) [
        | inl m ↦ λ e. h.0 k d m (e ∙ M.get_or-append xs (y ∷ []) d k m)
        | inr past ↦
            let last : k ≡ length xs = omega (arith, length_push xs y) in
            let here : get_or (xs ++ (y ∷ [])) k d ≡ y = get_or_push xs y d k (sym last) in
            λ e. other 0 x (omega arith) (e ∙ here)
      ],
  distinct_push xs y h.1 (λ k d l. other (suc k) d (omega arith)),
)

pub some_inside : {A : Type 0} (xs : List (Option A)) (i : ℕ) → IsSome (get_or xs i None) → i < length xs
some_inside xs i h =
    elim (cases_lt i (length xs)) [
      | inl l ↦ l
      | inr past ↦ let e : false ≡ true = sym (ap is_some (get_or_past xs i None past)) ∙ h in absurd (cc)
    ]

map_same : {A B : Type 0} (f g : A → B) (xs : List A) → All (λ x. f x ≡ g x) xs → map f xs ≡ map g xs
map_same f g [] h = refl
map_same f g (x ∷ xs) h =
    ap₂ ◌∷◌ (All-head (λ x. f x ≡ g x) x xs h) (map_same f g xs (All-tail (λ x. f x ≡ g x) x xs h))

-- a packet that was put where none was is there
pub puts_new : (old : Packets) (number : ℕ) (payload : List ℕ) (told : Put) (new : Packets) → slot_at old number ≡ None
    → TellsSlot (slot_at old number) payload told → new ≡ put_in old number payload told
    → new ≡ with_packet old number payload
puts_new old number payload told new none t p =
    p ∙ ap (put_in old number payload) (subst (λ s. TellsSlot s payload told) none t)

-- ---- a group that has kept nothing

pub holds_none : {E : Type 0} (P : E → Type 0) (c : Coding E) (laws : AreSpellings P c.width c.spelt c.spelling)
    (p : Packets) (held : Held E) (bytes : List ℕ) (n : ℕ)
    → IsPlan (needs_of (layers_of p)) 0 (plan_ends (layers_of p))
    → p.slots ≡ replicate n None → lengths_of held ≡ stripe_lengths (layers_of p) → StandsFor P c.ops held []
    → HoldsAfter P c (state_of c p bytes (Some held)) []
holds_none P c laws p held bytes n plan none lengths stands =
    let empty : (i : ℕ) → slot_at p i ≡ None = λ i. ap (λ s. get_or s i None) none ∙ none_in (List ℕ) n i in
    record {
      once = tt;
      kept = λ i. (
        λ some. let e : false ≡ true = sym (ap is_some (empty i)) ∙ some in absurd (cc),
        λ in'. absurd (omega (arith, in'.1)),
      );
      many = sym (ap (count_by is_some) none ∙ count_none (List ℕ) n);
      lengths = lengths;
      stands = stands;
      message = told_is P c laws (layers_of p) plan held [] lengths stands;
      known =
          λ j l m. told_words P c laws (layers_of p) plan held [] lengths stands j l (omega (arith, m, stands.met));
    }

-- ---- what the steps of keeping a packet did

pub record IsKeeping {E : Type 0} (P : E → Type 0) (c : Coding E) (p : Packets) (held held' : Held E) (number : ℕ)
    (payload : List ℕ) (x : E) : Type 0 where
  pub inside : number < length p.slots
  pub absent : slot_at p number ≡ None
  pub stands : (points : List (E × List E)) → StandsFor P c.ops held points → All (λ q. x ≢ q.0) points
      → StandsFor P c.ops held' (points ++ ((x, words c.spelt c.width (length held.stripes) payload) ∷ []))
  pub met : held'.met ≡ held.met + 1
  pub lengths : lengths_of held' ≡ lengths_of held

module _ {E : Type 0} (P : E → Type 0) (count : ℕ) (c : Coding E) (laws : ArePoints P count c.point_of)
    (g : GroupState E) (numbers : List ℕ) (h : HoldsAfter P c g numbers) (few : length g.packets.slots ≤ count) where
  -- a number that is not kept has another point than each that is
  pub apart : (number : ℕ) → number < length g.packets.slots → slot_at g.packets number ≡ None
      → All (λ q. c.point_of number ≢ q.0) (points_of c g.packets numbers)
  apart number l none =
      All-map (λ (q : E × List E). c.point_of number ≢ q.0)
      (λ i. (
        c.point_of i,
        words c.spelt c.width (length (plan_stripes (layers_of g.packets))) (unwrap_or (slot_at g.packets i) []),
      )) numbers
      (λ k d inside same.
      let i = get_or numbers k d in
      let kept : IsSome (slot_at g.packets i) = (h.kept i).1 (Contains-get_or numbers k d inside) in
      let low : i < length g.packets.slots = some_inside g.packets.slots i kept in
      let is : number ≡ i = laws.distinct number i (omega arith) (omega arith) same in
      let e : false ≡ true = sym (ap is_some (ap (slot_at g.packets) (sym is) ∙ none)) ∙ kept in absurd (cc))

  pub met_is : g.held.met ≡ length numbers
  met_is =
      h.stands.met
      ∙ length-map numbers (λ i. (
        c.point_of i,
        words c.spelt c.width (length (plan_stripes (layers_of g.packets))) (unwrap_or (slot_at g.packets i) []),
      ))

  module _ (held' : Held E) (number : ℕ) (payload : List ℕ)
      (k : IsKeeping P c g.packets g.held held' number payload (c.point_of number)) where
    abbrev pub new : List ℕ → GroupState E
    new message = record { packets = with_packet g.packets number payload; message = message; held = held' }

    slot_here : slot_at (with_packet g.packets number payload) number ≡ Some payload
    slot_here = get_or-set_same g.packets.slots number (Some payload) None k.inside

    slot_other : (i : ℕ) → i ≢ number → slot_at (with_packet g.packets number payload) i ≡ slot_at g.packets i
    slot_other i ne = get_or-set_other g.packets.slots number i (Some payload) None ne

    not_there : (i : ℕ) → Contains numbers i → i ≢ number
    not_there i in' e =
        let no : false ≡ true = sym (ap is_some (ap (slot_at g.packets) e ∙ k.absent)) ∙ (h.kept i).1 in' in absurd (cc)

    kept_after : (i : ℕ)
        → IsSome (slot_at (with_packet g.packets number payload) i) ↔ Contains (numbers ++ (number ∷ [])) i
    kept_after i =
        elim (cases_eq i number) [
          | inl e ↦ (
            λ _. subst (Contains (numbers ++ (number ∷ []))) (sym e) (Contains-push numbers number),
            λ _. subst (λ t. IsSome (slot_at (with_packet g.packets number payload) t)) (sym e) (ap is_some slot_here),
          )
          | inr ne ↦ (
            λ some. Contains-append_left numbers (number ∷ []) i ((h.kept i).0 (subst IsSome (slot_other i ne) some)),
            λ in'. subst IsSome (sym (slot_other i ne))
                ((h.kept i).1
                (elim (Contains-push_cases numbers number i in') [ inl a ↦ a | inr e ↦ absurd (ne (sym e)) ])),
          )
        ]

    points_after : points_of c (with_packet g.packets number payload) (numbers ++ (number ∷ []))
        ≡ points_of c g.packets numbers
        ++ ((c.point_of number, words c.spelt c.width (length g.held.stripes) payload) ∷ [])
    points_after =
        let layers = layers_of g.packets in
        let stripes = length (plan_stripes layers) in
        let f : ℕ → E
        × List E = λ i. (c.point_of i, words c.spelt c.width stripes (unwrap_or (slot_at g.packets i) [])) in
        let f' : ℕ → E
        × List E = λ i. (
          c.point_of i,
          words c.spelt c.width stripes (unwrap_or (slot_at (with_packet g.packets number payload) i) []),
        ) in
        let each : All (λ i. f' i ≡ f i) numbers =
        λ n d l. ap (λ t. (c.point_of (get_or numbers n d), words c.spelt c.width stripes (unwrap_or t [])))
        (slot_other (get_or numbers n d) (not_there (get_or numbers n d) (Contains-get_or numbers n d l))) in
        let last : f' number ≡ (c.point_of number, words c.spelt c.width (length g.held.stripes) payload) =
        ap (λ t. (c.point_of number, words c.spelt c.width stripes (unwrap_or t []))) slot_here
        ∙ ap (λ t. (c.point_of number, words c.spelt c.width t payload))
        (sym (sizes_are g.held layers h.lengths).count) in
        map_push f' numbers number ∙ ap₂ (λ s t. s ++ (t ∷ [])) (map_same f' f numbers each) last

    pub stands_after : StandsFor P c.ops held'
        (points_of c (with_packet g.packets number payload) (numbers ++ (number ∷ [])))
    stands_after =
        subst (StandsFor P c.ops held') (sym points_after)
        (k.stands (points_of c g.packets numbers) h.stands (apart number k.inside k.absent))

    same_count : length held'.stripes ≡ length g.held.stripes
    same_count = sym (length-map held'.stripes length) ∙ ap length k.lengths ∙ length-map g.held.stripes length

    same_length : (j : ℕ) → length (stripe_of held' j) ≡ length (stripe_of g.held j)
    same_length j =
        sym (M.get_or-map length held'.stripes j []) ∙ ap (λ l. get_or l j 0) k.lengths
        ∙ M.get_or-map length g.held.stripes j []

    -- a stripe that was known stays as it was
    pub same_stripe : (j : ℕ) → j < length g.held.stripes → length (stripe_of g.held j) ≤ length numbers
        → stripe_of g.held j ≡ stripe_of held' j
    same_stripe j l m =
        let points = points_of c g.packets numbers in
        let more = points ++ ((c.point_of number, words c.spelt c.width (length g.held.stripes) payload) ∷ []) in
        let stands = k.stands points h.stands (apart number k.inside k.absent) in
        let long : length points ≡ length numbers = sym h.stands.met ∙ met_is in
        let room : length (stripe_of g.held j) ≤ length points = omega arith in
        let old = h.stands.others j l room in
        let front : take (length (stripe_of held' j)) more ≡ take (length (stripe_of g.held j)) points =
        ap (λ n. take n more) (same_length j)
        ∙ take-append-le (length (stripe_of g.held j)) points
        ((c.point_of number, words c.spelt c.width (length g.held.stripes) payload) ∷ []) room in
        let now = stands.others j (omega (arith, same_count))
        (omega (
          arith,
          same_length j,
          length_push points (c.point_of number, words c.spelt c.width (length g.held.stripes) payload),
        )) in
        let now' = subst (λ t. IsOnlyThrough P c.ops (column c.ops j t) (stripe_of held' j)) front now in
        now'.only (stripe_of g.held j) old.long old.elements old.through

    pub holds_more : (message : List ℕ) → IsMessage c.width (layers_of g.packets) message
        → ((j : ℕ) → j < length held'.stripes → length (stripe_of held' j) ≤ held'.met
        → get_or (stripes_in c (layers_of g.packets) message) j [] ≡ stripe_of held' j)
        → HoldsAfter P c (new message) (numbers ++ (number ∷ []))
    holds_more message is known = record {
      once =
          distinct_push numbers number h.once (λ n d l. not_there (get_or numbers n d) (Contains-get_or numbers n d l));
      kept = kept_after;
      many =
          length_push numbers number
          ∙ omega (arith, h.many, count_set (List ℕ) g.packets.slots number payload k.inside k.absent);
      lengths = k.lengths ∙ h.lengths;
      stands = stands_after;
      message = is;
      known = λ j l m. known j l (omega (arith, m, k.met, met_is, length_push numbers number));
    }
