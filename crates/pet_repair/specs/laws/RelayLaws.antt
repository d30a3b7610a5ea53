-- What a relay sends: each pair at most once, packets of the session alone, and never less than came.
use Rattle.std.proofs.Common.{◌≡◌, ℕ, zero, suc, ◌+◌, ◌<◌, ◌≤◌, Bool, true, false, cond, List, [], ◌∷◌, ◌++◌, All}
use Rattle.std.proofs.Common.{Option, None, Some, refl, sym, ap, subst, ◌∙◌, arith, append_assoc, eqb}
use Rattle.std.specs.Prelude.{⊤, not, ◌||◌, ◌&&◌, IfSome, map, filter, slice_get, count_by}
use Rattle.std.specs.List.{range_with_len}
use Rattle.std.specs.Option.{option_map_or}
use Rattle.std.proofs.lemmas.List.{append-nil}
use Rattle.std.proofs.lemmas.List.Elements.{All-nil, All-cons, All-head, All-tail, All-append, All-filter}
use Rattle.std.proofs.lemmas.List.FromFn.{length-range_with_len, get_or-range_with_len}
use Rattle.std.proofs.lemmas.Bool.{cases_Bool}
use Rattle.packet_session.specs.Session.{Session, SessionGroup}
use Rattle.packet_met.specs.Met.{Pair, has_pair, distinct_met, shows}
use Rattle.packet_met.specs.laws.PairLaws.{met_here, met_other_number, has_either}
use Rattle.pet_repair.specs.Relay.{itself, rebuilt, remaining, all_layers, pair_sends, sends_at, output_from}
use Rattle.pet_repair.specs.Relay.{pairs_of}

-- none of the pairs is in the set, and none comes twice
unfoldable pub AreNew : List Pair → List Pair → Type 0
AreNew set [] = ⊤
AreNew set (p ∷ ps) = (has_pair set p.0 p.1 ≡ false) × AreNew (set ++ p ∷ []) ps

-- the pair is that of one of the session's packets
abbrev pub IsPairOf : Session → Pair → Type 0
IsPairOf s pair = (g : SessionGroup) × (slice_get s.groups pair.0 ≡ Some g) × (pair.1 < g.packets)

-- one set has what the other has
abbrev pub Within : List Pair → List Pair → Type 0
Within a b = (group number : ℕ) → has_pair a group number ≡ true → has_pair b group number ≡ true

-- ---- each once

new_append : (set a b : List Pair) → AreNew set a → AreNew (set ++ a) b → AreNew set (a ++ b)
unfolding AreNew
new_append set [] b first then = subst (λ (t : List Pair). AreNew t b) (append-nil set) then
new_append set (p ∷ ps) b first then = (
  first.0,
  new_append (set ++ p ∷ []) ps b first.1
      (subst (λ (t : List Pair). AreNew t b) (sym (append_assoc set (p ∷ []) ps)) then),
)

new_itself : (set : List Pair) (p : Pair) → AreNew set (itself set p)
unfolding AreNew
new_itself set p = by (has_pair set p.0 p.1) refl
  where
    by : (b : Bool) → has_pair set p.0 p.1 ≡ b → AreNew set (cond b [] (p ∷ []))
    by true e = tt
    by false e = (e, tt)

new_numbers : (q : ℕ → Bool) (group a n : ℕ) (set : List Pair)
    → ((m : ℕ) → a ≤ m → q m ≡ true → has_pair set group m ≡ false)
    → AreNew set (map (λ m. (group, m)) (filter q (range_with_len a n)))
unfolding AreNew
new_numbers q group a zero set each = tt
new_numbers q group a (suc n) set each =
    by (q a) refl (λ t same. new_numbers q group (a + 1) n t (λ m low passes. same m low
    ∙ each m (omega (arith, low)) passes))
  where
    by : (b : Bool) → q a ≡ b
        → ((t : List Pair) → ((m : ℕ) → a + 1 ≤ m → has_pair t group m ≡ has_pair set group m)
        → AreNew t (map (λ m. (group, m)) (filter q (range_with_len (a + 1) n))))
        → AreNew set (map (λ m. (group, m))
        (cond b (a ∷ filter q (range_with_len (a + 1) n)) (filter q (range_with_len (a + 1) n))))
    by true e rest = (
      each a (omega arith) e,
      rest (set ++ (group, a) ∷ [])
          (λ m low. met_other_number set group a group m (λ same. omega (arith, low, same))),
    )
    by false e rest = rest set (λ m low. refl)

not_true : (b : Bool) → not b ≡ true → b ≡ false
not_true true e = absurd cc
not_true false e = refl

new_rebuilt : (before now : List Pair) (group : ℕ) (g : SessionGroup) → AreNew now (rebuilt before now group g)
unfolding AreNew
new_rebuilt before now group g = by (all_layers now group g && not (all_layers before group g))
  where
    by : (b : Bool) → AreNew now (cond b (remaining now group g) [])
    by true = new_numbers (λ number. not (has_pair now group number)) group 0 g.packets now
        (λ m low passes. not_true (has_pair now group m) passes)
    by false = tt

new_pair : (s : Session) (set : List Pair) (p : Pair) → AreNew set (pair_sends s set p)
unfolding AreNew
new_pair s set p =
    new_append set (itself set p) (option_map_or (rebuilt set (set ++ itself set p) p.0) (slice_get s.groups p.0) [])
    (new_itself set p) (by (slice_get s.groups p.0))
  where
    by : (o : Option SessionGroup)
        → AreNew (set ++ itself set p) (option_map_or (rebuilt set (set ++ itself set p) p.0) o [])
    by None = tt
    by (Some g) = new_rebuilt set (set ++ itself set p) p.0 g

new_at : (s : Session) (set : List Pair) (a : Option Pair) → AreNew set (sends_at s set a)
unfolding AreNew
new_at s set None = tt
new_at s set (Some p) = new_pair s set p

-- each pair is sent at most once, and none that was in the set before
pub each_once : (s : Session) (set : List Pair) (arrivals : List (Option Pair))
    → AreNew set (output_from s set arrivals)
unfolding AreNew output_from
each_once s set [] = tt
each_once s set (a ∷ arrivals) =
    new_append set (sends_at s set a) (output_from s (set ++ sends_at s set a) arrivals) (new_at s set a)
    (each_once s (set ++ sends_at s set a) arrivals)

-- ---- packets of the session alone

-- the numbers of a range that pass stand within it
numbers_below : (p : ℕ → Bool) (a n : ℕ) → All (λ m. m < a + n) (filter p (range_with_len a n))
numbers_below p a n =
    All-filter p (λ m. m < a + n) (range_with_len a n)
    (λ k d lt. let inside : k < n = omega (arith, lt, length-range_with_len a n) in
    omega (arith, inside, get_or-range_with_len a n k d inside))

of_numbers : (P : ℕ → Type 0) (Q : Pair → Type 0) (group : ℕ) (ns : List ℕ) → ((n : ℕ) → P n → Q (group, n))
    → All P ns → All Q (map (λ n. (group, n)) ns)
of_numbers P Q group [] each all = All-nil Q
of_numbers P Q group (n ∷ ns) each all = All-cons Q (group, n) (map (λ n. (group, n)) ns)
    (each n (All-head P n ns all)) (of_numbers P Q group ns each (All-tail P n ns all))

of_pair : (s : Session) (set : List Pair) (p : Pair) → IsPairOf s p → All (IsPairOf s) (pair_sends s set p)
of_pair s set p is = All-append (IsPairOf s) (itself set p) (option_map_or (rebuilt set (set ++ itself set p) p.0)
    (slice_get s.groups p.0) []) (own (has_pair set p.0 p.1)) (others (slice_get s.groups p.0) refl)
  where
    own : (b : Bool) → All (IsPairOf s) (cond b [] (p ∷ []))
    own true = All-nil (IsPairOf s)
    own false = All-cons (IsPairOf s) p [] is (All-nil (IsPairOf s))

    rest : (g : SessionGroup) → slice_get s.groups p.0 ≡ Some g → (b : Bool)
        → All (IsPairOf s) (cond b (remaining (set ++ itself set p) p.0 g) [])
    rest g at true =
        of_numbers (λ n. n < 0 + g.packets) (IsPairOf s) p.0
        (filter (λ number. not (has_pair (set ++ itself set p) p.0 number)) (range_with_len 0 g.packets))
        (λ n lt. (g, at, omega (arith, lt)))
        (numbers_below (λ number. not (has_pair (set ++ itself set p) p.0 number)) 0 g.packets)
    rest g at false = All-nil (IsPairOf s)

    others : (o : Option SessionGroup) → slice_get s.groups p.0 ≡ o
        → All (IsPairOf s) (option_map_or (rebuilt set (set ++ itself set p) p.0) o [])
    others None e = All-nil (IsPairOf s)
    others (Some g) e = rest g e (all_layers (set ++ itself set p) p.0 g && not (all_layers set p.0 g))

of_at : (s : Session) (set : List Pair) (a : Option Pair) → IfSome a (IsPairOf s)
    → All (IsPairOf s) (sends_at s set a)
of_at s set None is = All-nil (IsPairOf s)
of_at s set (Some p) is = of_pair s set p is

pub each_of_session : (s : Session) (set : List Pair) (arrivals : List (Option Pair))
    → All (λ a. IfSome a (IsPairOf s)) arrivals → All (IsPairOf s) (output_from s set arrivals)
unfolding output_from
each_of_session s set [] are = All-nil (IsPairOf s)
each_of_session s set (a ∷ arrivals) are =
    All-append (IsPairOf s) (sends_at s set a) (output_from s (set ++ sends_at s set a) arrivals)
    (of_at s set a (All-head (λ (a : Option Pair). IfSome a (IsPairOf s)) a arrivals are))
    (each_of_session s (set ++ sends_at s set a) arrivals
    (All-tail (λ (a : Option Pair). IfSome a (IsPairOf s)) a arrivals are))

-- ---- never less than came

or_left : (a b : Bool) → a ≡ true → (a || b) ≡ true
or_left true b e = refl
or_left false b e = absurd cc

pub more_within : (a b : List Pair) → Within a (a ++ b)
more_within a b group number here = has_either a b group number
    ∙ or_left (has_pair a group number) (has_pair b group number) here

-- the packet of an arrival is in the set afterwards
pub sent_here : (s : Session) (set : List Pair) (p : Pair) → has_pair (set ++ pair_sends s set p) p.0 p.1 ≡ true
sent_here s set p =
    let more = option_map_or (rebuilt set (set ++ itself set p) p.0) (slice_get s.groups p.0) [] in
    subst (λ (t : List Pair). has_pair t p.0 p.1 ≡ true) (append_assoc set (itself set p) more)
    (more_within (set ++ itself set p) more p.0 p.1 (by (has_pair set p.0 p.1) refl))
  where
    by : (b : Bool) → has_pair set p.0 p.1 ≡ b → has_pair (set ++ cond b [] (p ∷ [])) p.0 p.1 ≡ true
    by true e = ap (λ (t : List Pair). has_pair t p.0 p.1) (append-nil set) ∙ e
    by false e = met_here set p.0 p.1

-- one pair more is within, where it is there
pub pair_within : (a b : List Pair) (p : Pair) → Within a b → has_pair b p.0 p.1 ≡ true → Within (a ++ p ∷ []) b
pair_within a b p within there group number here =
    by (has_pair a group number) refl (sym (has_either a (p ∷ []) group number) ∙ here)
  where
    one : (x y z : Bool) → x ≡ y → ((x && y) || false) ≡ true → y ≡ true
    one true y z e f = sym e
    one false y z e f = absurd cc

    same : (eqb p.0 group && eqb p.1 number) ≡ true → has_pair b group number ≡ true
    same e = let parts = both (eqb p.0 group) (eqb p.1 number) e in
        ap (λ (i : ℕ). has_pair b i number)
        (sym (Rattle.std.proofs.lemmas.Map.Views.exact_unsigned_eq p.0 group parts.0))
        ∙ ap (λ (i : ℕ). has_pair b p.0 i)
        (sym (Rattle.std.proofs.lemmas.Map.Views.exact_unsigned_eq p.1 number parts.1)) ∙ there
      where
        both : (x y : Bool) → (x && y) ≡ true → (x ≡ true) × (y ≡ true)
        both true true e = (refl, refl)
        both true false e = absurd cc
        both false y e = absurd cc

    or_none : (x : Bool) → (x || false) ≡ true → x ≡ true
    or_none true e = refl
    or_none false e = absurd cc

    by : (x : Bool) → has_pair a group number ≡ x → (x || has_pair (p ∷ []) group number) ≡ true
        → has_pair b group number ≡ true
    by true e or = within group number e
    by false e or = same (or_none (eqb p.0 group && eqb p.1 number) or)

-- what the arrivals brought is in the set that the relay has then
pub keeps_up : (s : Session) (met set : List Pair) (arrivals : List (Option Pair)) → Within met set
    → Within (met ++ pairs_of arrivals) (set ++ output_from s set arrivals)
unfolding output_from
keeps_up s met set [] within =
    subst (λ (t : List Pair). Within t (set ++ [])) (sym (append-nil met))
    (subst (Within met) (sym (append-nil set)) within)
keeps_up s met set (None ∷ arrivals) within =
    subst (Within (met ++ pairs_of arrivals)) (append_assoc set [] (output_from s (set ++ []) arrivals))
    (keeps_up s met (set ++ []) arrivals (λ group number here. more_within set [] group number
    (within group number here)))
keeps_up s met set (Some p ∷ arrivals) within =
    let next = set ++ pair_sends s set p in
    subst (λ (t : List Pair). Within t (set ++ (pair_sends s set p ++ output_from s next arrivals)))
    (append_assoc met (p ∷ []) (pairs_of arrivals))
    (subst (Within ((met ++ p ∷ []) ++ pairs_of arrivals))
    (append_assoc set (pair_sends s set p) (output_from s next arrivals))
    (keeps_up s (met ++ p ∷ []) next arrivals
    (pair_within met next p (λ group number here. more_within set (pair_sends s set p) group number
    (within group number here)) (sent_here s set p))))

count_within : (p q : ℕ → Bool) (ns : List ℕ) → ((n : ℕ) → p n ≡ true → q n ≡ true) → count_by p ns ≤ count_by q ns
count_within p q [] each = omega arith
count_within p q (n ∷ ns) each = by (p n) refl (q n) refl (count_within p q ns each)
  where
    by : (x : Bool) → p n ≡ x → (y : Bool) → q n ≡ y → count_by p ns ≤ count_by q ns
        → count_by p (n ∷ ns) ≤ count_by q (n ∷ ns)
    by true e true f le = omega (
      arith,
      le,
      ap {B = ℕ} (λ (b : Bool). cond b 1 0) e,
      ap {B = ℕ} (λ (b : Bool). cond b 1 0) f,
      Rattle.std.proofs.lemmas.List.Sums.sum_by-cons
          (λ (n : ℕ). cond (p n) 1 0) n ns,
      Rattle.std.proofs.lemmas.List.Sums.sum_by-cons
          (λ (n : ℕ). cond (q n) 1 0) n ns,
    )
    by true e false f le = let no : true ≡ false = sym (each n e) ∙ f in absurd cc
    by false e y f le = omega (
      arith,
      le,
      ap {B = ℕ} (λ (b : Bool). cond b 1 0) e,
      Rattle.std.proofs.lemmas.List.Sums.sum_by-cons (λ (n : ℕ). cond (p n) 1 0) n ns,
      Rattle.std.proofs.lemmas.List.Sums.sum_by-cons (λ (n : ℕ). cond (q n) 1 0) n ns,
    )

-- and with a set all layers are shown that a smaller one shows
pub shows_more : (a b : List Pair) (group : ℕ) (g : SessionGroup) (layer : ℕ) → Within a b
    → shows a group g layer ≡ true → shows b group g layer ≡ true
shows_more a b group g layer within here =
    let most = count_within (has_pair a group) (has_pair b group) (range_with_len 0 g.packets) (within group) in
    let low = Rattle.std.proofs.lemmas.Bool.leb-true (Rattle.stripe_plan.specs.Layers.count_of g.layers layer)
    (distinct_met a group g.packets) here in
    Rattle.std.proofs.lemmas.Bool.le-leb (Rattle.stripe_plan.specs.Layers.count_of g.layers layer)
    (distinct_met b group g.packets) (omega (arith, most, low))

-- the output of the first arrivals is a front of the output
pub output_append : (s : Session) (set : List Pair) (a b : List (Option Pair))
    → output_from s set (a ++ b) ≡ output_from s set a ++ output_from s (set ++ output_from s set a) b
unfolding output_from
output_append s set [] b = ap (λ (t : List Pair). output_from s t b) (sym (append-nil set))
output_append s set (x ∷ a) b =
    let sent = sends_at s set x in
    let later = output_from s (set ++ sent) a in
    ap (λ (t : List Pair). sent ++ t) (output_append s (set ++ sent) a b
    ∙ ap (λ (t : List Pair). later ++ output_from s t b) (append_assoc set sent later))
    ∙ sym (append_assoc sent later (output_from s (set ++ (sent ++ later)) b))
