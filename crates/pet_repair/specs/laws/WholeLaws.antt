-- A relay has all layers of a group exactly where the arrivals alone show them: what it makes again shows nothing
-- more.
use Rattle.std.proofs.Common.{◌≡◌, ◌≢◌, ◌⊎◌, ℕ, Bool, true, false, cond, List, [], ◌∷◌, ◌++◌, length, Option, None}
use Rattle.std.proofs.Common.{Some, refl, sym, ap, ap₂, subst, ◌∙◌, append_assoc, inl, inr, eqb, leb}
use Rattle.std.specs.Prelude.{not, ◌||◌, ◌&&◌, map, slice_get}
use Rattle.std.specs.List.{list_all, range_with_len}
use Rattle.std.specs.Option.{option_map_or}
use Rattle.std.proofs.lemmas.Bool.{cases_eq, ne_eqb}
use Rattle.std.proofs.lemmas.List.{append-nil}
use Rattle.stripe_plan.specs.Layers.{count_of}
use Rattle.packet_session.specs.Session.{Session, SessionGroup}
use Rattle.packet_met.specs.Met.{Pair, has_pair, shows}
use Rattle.packet_met.specs.laws.PairLaws.{met_here, met_other_group, met_other_number, has_either, or_false}
use Rattle.packet_met.specs.laws.SumLaws.{count_same}
use Rattle.pet_repair.specs.Relay.{all_layers, lacking, remaining, itself, rebuilt, pair_sends, output_from}
use Rattle.pet_repair.specs.Relay.{pairs_of}
use Rattle.pet_repair.specs.laws.RelayLaws.{Within, more_within, shows_more, keeps_up}

abbrev pub SameIn : List Pair → List Pair → ℕ → Type 0
SameIn a b group = (n : ℕ) → has_pair a group n ≡ has_pair b group n

-- the same of the group, or all of it shown by what came
abbrev pub SameOrWhole : List Pair → List Pair → ℕ → SessionGroup → Type 0
SameOrWhole met set group g = SameIn met set group ⊎ (all_layers met group g ≡ true)

all_same : (a b : List Pair) (group : ℕ) (g : SessionGroup) → SameIn a b group
    → all_layers a group g ≡ all_layers b group g
all_same a b group g same =
    ap (λ (n : ℕ). list_all (λ layer. leb (count_of g.layers layer) n) (range_with_len 0 (length g.layers)))
    (count_same (has_pair a group) (has_pair b group) (range_with_len 0 g.packets) same)

all_more : (p q : ℕ → Bool) (xs : List ℕ) → ((x : ℕ) → p x ≡ true → q x ≡ true) → list_all p xs ≡ true
    → list_all q xs ≡ true
all_more p q [] each all = refl
all_more p q (x ∷ xs) each all =
    let parts = both (p x) (list_all p xs) all in
    ap₂ (λ (a b : Bool). a && b) (each x parts.0) (all_more p q xs each parts.1)
  where
    both : (a b : Bool) → (a && b) ≡ true → (a ≡ true) × (b ≡ true)
    both true true e = (refl, refl)
    both true false e = absurd cc
    both false b e = absurd cc

whole_more : (a b : List Pair) (group : ℕ) (g : SessionGroup) → Within a b → all_layers a group g ≡ true
    → all_layers b group g ≡ true
whole_more a b group g within all =
    all_more (λ layer. shows a group g layer) (λ layer. shows b group g layer) (range_with_len 0 (length g.layers))
    (λ layer here. shows_more a b group g layer within here) all

-- of another group nothing is sent
none_of_other : (h group : ℕ) (ns : List ℕ) (n : ℕ) → h ≢ group → has_pair (map (λ m. (h, m)) ns) group n ≡ false
none_of_other h group [] n apart = refl
none_of_other h group (m ∷ ns) n apart = ap (λ (b : Bool). (b && eqb m n) || has_pair (map (λ m. (h, m)) ns) group n)
    (ne_eqb h group apart) ∙ none_of_other h group ns n apart

none_sent : (s : Session) (set : List Pair) (p : Pair) (group n : ℕ) → p.0 ≢ group
    → has_pair (pair_sends s set p) group n ≡ false
none_sent s set p group n apart =
    has_either (itself set p) (option_map_or (rebuilt set (set ++ itself set p) p.0) (slice_get s.groups p.0) [])
    group n
    ∙ ap₂ (λ (a b : Bool). a || b) (own (has_pair set p.0 p.1)) (others (slice_get s.groups p.0))
  where
    own : (b : Bool) → has_pair (cond b [] (p ∷ [])) group n ≡ false
    own true = refl
    own false = ap (λ (b : Bool). (b && eqb p.1 n) || false) (ne_eqb p.0 group apart)

    rest : (g : SessionGroup) (b : Bool)
        → has_pair (cond b (remaining (set ++ itself set p) p.0 g) []) group n ≡ false
    rest g true = none_of_other p.0 group (lacking (set ++ itself set p) p.0 g) n apart
    rest g false = refl

    others : (o : Option SessionGroup)
        → has_pair (option_map_or (rebuilt set (set ++ itself set p) p.0) o []) group n ≡ false
    others None = refl
    others (Some g) = rest g (all_layers (set ++ itself set p) p.0 g && not (all_layers set p.0 g))

-- the packet itself makes the same of both
same_itself : (met set : List Pair) (p : Pair) → SameIn met set p.0 → SameIn (met ++ p ∷ []) (set ++ itself set p) p.0
same_itself met set p same n = by (has_pair set p.0 p.1) refl
  where
    by : (b : Bool) → has_pair set p.0 p.1 ≡ b
        → has_pair (met ++ p ∷ []) p.0 n ≡ has_pair (set ++ cond b [] (p ∷ [])) p.0 n
    by false e = has_either met (p ∷ []) p.0 n ∙ ap (λ (b : Bool). b || has_pair (p ∷ []) p.0 n) (same n)
        ∙ sym (has_either set (p ∷ []) p.0 n)
    by true e =
        elim (cases_eq p.1 n) [
          | inr other ↦ met_other_number met p.0 p.1 p.0 n other ∙ same n
              ∙ ap (λ (t : List Pair). has_pair t p.0 n) (sym (append-nil set))
          | inl here ↦
              ap (has_pair (met ++ p ∷ []) p.0) (sym here) ∙ met_here met p.0 p.1 ∙ sym e ∙ ap (has_pair set p.0) here
              ∙ ap (λ (t : List Pair). has_pair t p.0 n) (sym (append-nil set))
        ]

-- one arrival
step_same : (s : Session) (met set : List Pair) (p : Pair) (group : ℕ) (g : SessionGroup)
    → slice_get s.groups group ≡ Some g → SameOrWhole met set group g
    → SameOrWhole (met ++ p ∷ []) (set ++ pair_sends s set p) group g
step_same s met set p group g at (inr whole) =
    inr (whole_more met (met ++ p ∷ []) group g (more_within met (p ∷ [])) whole)
step_same s met set p group g at (inl same) =
    elim (cases_eq p.0 group) [
      | inr apart ↦
          inl (λ n.
          met_other_group met p.0 p.1 group n apart ∙ same n ∙ sym (or_false (has_pair set group n))
          ∙ ap (λ (b : Bool). has_pair set group n || b) (sym (none_sent s set p group n apart))
          ∙ sym (has_either set (pair_sends s set p) group n))
      | inl here ↦ own here
    ]
  where
    mid : List Pair
    mid = set ++ itself set p

    mid_same : p.0 ≡ group → SameIn (met ++ p ∷ []) mid group
    mid_same here = subst (SameIn (met ++ p ∷ []) mid) here
        (same_itself met set p (subst (SameIn met set) (sym here) same))

    -- nothing more is sent, or all is shown
    by : (b : Bool) → (all_layers mid group g && not (all_layers set group g)) ≡ b → p.0 ≡ group
        → SameIn (met ++ p ∷ []) (mid ++ cond b (remaining mid p.0 g) []) group ⊎
        (all_layers (met ++ p ∷ []) group g ≡ true)
    by false e here = inl (λ n. mid_same here n ∙ ap (λ (t : List Pair). has_pair t group n) (sym (append-nil mid)))
    by true e here = inr (all_same (met ++ p ∷ []) mid group g (mid_same here)
        ∙ first (all_layers mid group g) (not (all_layers set group g)) e)
      where
        first : (a b : Bool) → (a && b) ≡ true → a ≡ true
        first true b e = refl
        first false b e = absurd cc

    own : p.0 ≡ group → SameOrWhole (met ++ p ∷ []) (set ++ pair_sends s set p) group g
    own here =
        let at_p : slice_get s.groups p.0 ≡ Some g = ap (slice_get s.groups) here ∙ at in
        let more = rebuilt set mid p.0 g in
        let sends : set ++ pair_sends s set p ≡ mid ++ more =
        sym (append_assoc set (itself set p) (option_map_or (rebuilt set mid p.0) (slice_get s.groups p.0) []))
        ∙ ap (λ (o : Option SessionGroup). mid ++ option_map_or (rebuilt set mid p.0) o []) at_p in
        let is : more ≡ cond (all_layers mid group g && not (all_layers set group g)) (remaining mid p.0 g) [] =
        ap (λ (k : ℕ). cond (all_layers mid k g && not (all_layers set k g)) (remaining mid p.0 g) []) here in
        subst (λ (t : List Pair). SameOrWhole (met ++ p ∷ []) t group g)
        (sym (sends ∙ ap (λ (t : List Pair). mid ++ t) is))
        (by (all_layers mid group g && not (all_layers set group g)) refl here)

pub stays_same : (s : Session) (met set : List Pair) (arrivals : List (Option Pair)) (group : ℕ) (g : SessionGroup)
    → slice_get s.groups group ≡ Some g → SameOrWhole met set group g
    → SameOrWhole (met ++ pairs_of arrivals) (set ++ output_from s set arrivals) group g
unfolding output_from
stays_same s met set [] group g at same =
    subst (λ (t : List Pair). SameOrWhole t (set ++ []) group g) (sym (append-nil met))
    (subst (λ (t : List Pair). SameOrWhole met t group g) (sym (append-nil set)) same)
stays_same s met set (None ∷ arrivals) group g at same =
    subst (λ (t : List Pair). SameOrWhole (met ++ pairs_of arrivals) t group g)
    (append_assoc set [] (output_from s (set ++ []) arrivals))
    (stays_same s met (set ++ []) arrivals group g at (subst (λ (t : List Pair). SameOrWhole met t group g)
    (sym (append-nil set)) same))
stays_same s met set (Some p ∷ arrivals) group g at same =
    let next = set ++ pair_sends s set p in
    subst (λ (t : List Pair). SameOrWhole t (set ++ (pair_sends s set p ++ output_from s next arrivals)) group g)
    (append_assoc met (p ∷ []) (pairs_of arrivals))
    (subst (λ (t : List Pair). SameOrWhole ((met ++ p ∷ []) ++ pairs_of arrivals) t group g)
    (append_assoc set (pair_sends s set p) (output_from s next arrivals))
    (stays_same s (met ++ p ∷ []) next arrivals group g at (step_same s met set p group g at same)))

-- so the relay is done with a group exactly where a receiver is
pub whole_alike : (s : Session) (arrivals : List (Option Pair)) (group : ℕ) (g : SessionGroup)
    → slice_get s.groups group ≡ Some g
    → all_layers (output_from s [] arrivals) group g ≡ all_layers (pairs_of arrivals) group g
whole_alike s arrivals group g at = by (stays_same s [] [] arrivals group g at (inl (λ n. refl)))
  where
    by : SameOrWhole (pairs_of arrivals) (output_from s [] arrivals) group g
        → all_layers (output_from s [] arrivals) group g ≡ all_layers (pairs_of arrivals) group g
    by (inl same) = sym (all_same (pairs_of arrivals) (output_from s [] arrivals) group g same)
    by (inr whole) =
        whole_more (pairs_of arrivals) (output_from s [] arrivals) group g
        (keeps_up s [] [] arrivals (λ a b here. here)) whole ∙ sym whole
