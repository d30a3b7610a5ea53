-- What holds of listed stripe lengths and the starts that they make.
use Rattle.std.proofs.Common.{drop, ◌≡◌, ℕ, zero, suc, ◌+◌, ◌*◌, ◌<◌, ◌≤◌, Bool, true, false, List, [], ◌∷◌, ◌++◌}
use Rattle.std.proofs.Common.{length, replicate, get_or, take, All, refl, sym, ap, subst, ◌∙◌, arith, true≢false, ◌||◌}
use Rattle.std.proofs.Common.{◌⊎◌, inl, inr}
use Rattle.std.specs.Prelude.{sum}
use Rattle.std.specs.List.{list_any}
use Rattle.std.proofs.Math.Nat.{le-mul_of_pos_right, mul-le-mul_right, suc-mul}
use Rattle.std.proofs.lemmas.Bool.{cases_lt}
use Rattle.std.proofs.lemmas.List.{length-append, length-replicate, take_more, append-nil, replicate_more}
use Rattle.std.proofs.lemmas.List.Elements.{All-cons, All-nil, All-tail}
use Rattle.std.proofs.lemmas.List.Sums.{sum_by-cons, sum_by-append, sum_by_more_le}
use Rattle.std.proofs.lemmas.List.Folds.{sum_by-replicate}
use Rattle.std.proofs.lemmas.Grind.{flat_map-append}
use Rattle.stripe_plan.specs.Stripes.{IsPartition}
use Rattle.plan_cert.specs.Certificates.{IsCertificate, starts_of}
use Rattle.command_plan.specs.Least.{lengths_in, listed_words, starts_by, has_empty}
use Rattle.text_plan.specs.declared.plan_file.Repeat.{Repeat}

-- the stripes' lengths, summed, are the rows'
pub sum_lengths : (repeats : List Repeat) → sum (lengths_in repeats) ≡ listed_words repeats
sum_lengths [] = refl
sum_lengths (r ∷ repeats) =
    sum_by-append (λ (n : ℕ). n) (replicate r.times r.length) (lengths_in repeats)
    ∙ ap (λ n. n + sum (lengths_in repeats)) (sum_by-replicate (λ (n : ℕ). n) r.times r.length)
    ∙ ap (λ n. r.times * r.length + n) (sum_lengths repeats)
    ∙ sym (sum_by-cons (λ (x : Repeat). x.times * x.length) r repeats)

pub starts_by-append : (at : ℕ) (a b : List ℕ) → starts_by at (a ++ b) ≡ starts_by at a ++ starts_by (at + sum a) b
starts_by-append at [] b = ap (λ n. starts_by n b) (omega arith)
starts_by-append at (x ∷ a) b =
    let along : at + x + sum a ≡ at + sum (x ∷ a) = omega (arith, sum_by-cons (λ (n : ℕ). n) x a) in
    ap (◌∷◌ at) (starts_by-append (at + x) a b ∙ ap (λ n. starts_by (at + x) a ++ starts_by n b) along)

pub length-starts_by : (at : ℕ) (lengths : List ℕ) → length (starts_by at lengths) ≡ length lengths
length-starts_by at [] = refl
length-starts_by at (x ∷ lengths) = ap suc (length-starts_by (at + x) lengths)

-- the starts of one row more
pub starts_more : (repeats : List Repeat) (i : ℕ) (d : Repeat) → i < length repeats
    → starts_by 0 (lengths_in (take (i + 1) repeats))
    ≡ starts_by 0 (lengths_in (take i repeats))
    ++ starts_by (listed_words (take i repeats)) (replicate (get_or repeats i d).times (get_or repeats i d).length)
starts_more repeats i d lt =
    let row = λ (r : Repeat). replicate r.times r.length in
    let one = row (get_or repeats i d) in
    let along : 0 + sum (lengths_in (take i repeats)) ≡ listed_words (take i repeats) =
    omega (arith, sum_lengths (take i repeats)) in
    ap (λ (t : List Repeat). starts_by 0 (lengths_in t)) (take_more repeats i d lt)
    ∙ ap (starts_by 0) (flat_map-append row (take i repeats) (get_or repeats i d ∷ [])
    ∙ ap (◌++◌ (lengths_in (take i repeats))) (append-nil one))
    ∙ starts_by-append 0 (lengths_in (take i repeats)) one
    ∙ ap (λ n. starts_by 0 (lengths_in (take i repeats)) ++ starts_by n one) along

-- a row's words and those of the rows before it are no more than all
pub row_within : (repeats : List Repeat) (i : ℕ) (d : Repeat) → i < length repeats
    → listed_words (take i repeats) + (get_or repeats i d).times * (get_or repeats i d).length ≤ listed_words repeats
row_within = sum_by_more_le (λ (r : Repeat). r.times * r.length)

-- a stripe's words and those of the row's stripes before it are no more than the row's
pub stripe_within : (turn times len : ℕ) → turn < times → turn * len + len ≤ times * len
stripe_within turn times len lt = omega (arith, mul-le-mul_right {m = suc turn} {n = times} len lt, suc-mul turn len)

-- the starts of one stripe more
pub row_more : (first turn len : ℕ)
    → starts_by first (replicate (turn + 1) len) ≡ starts_by first (replicate turn len) ++ (first + turn * len) ∷ []
row_more first turn len =
    ap (starts_by first) (sym (replicate_more turn len))
    ∙ starts_by-append first (replicate turn len) (len ∷ [])
    ∙ ap (λ n. starts_by first (replicate turn len) ++ (first + n) ∷ []) (sum_by-replicate (λ (n : ℕ). n) turn len)

some_or_none : (len times : ℕ) → has_empty (record { length = len; times = times }) ≡ false → (0 < len) ⊎ (times ≡ 0)
some_or_none len times e = elim (cases_lt 0 len) [
  | inl some ↦ inl some
  | inr none ↦ inr (grind (arith, e))
]

empty_cases : (len times : ℕ) → has_empty (record { length = len; times = times }) ≡ false → times ≤ times * len
empty_cases len times e = elim (some_or_none len times e) [
  | inl some ↦ le-mul_of_pos_right times some
  | inr none ↦ omega (arith, none)
]

none_first : (a b : Bool) → (a || b) ≡ false → (a ≡ false) × (b ≡ false)
none_first false b e = (refl, e)
none_first true b e = absurd (true≢false e)

-- where no row lists a stripe without words, there are no more stripes than words
pub few_stripes : (repeats : List Repeat) → list_any has_empty repeats ≡ false
    → length (lengths_in repeats) ≤ listed_words repeats
few_stripes [] none = omega arith
few_stripes (r ∷ repeats) none =
    let e = none_first (has_empty r) (list_any has_empty repeats) none in
    omega (
      arith,
      length-append (replicate r.times r.length) (lengths_in repeats),
      length-replicate r.times r.length,
      empty_cases r.length r.times e.0,
      few_stripes repeats e.1,
      sum_by-cons (λ (x : Repeat). x.times * x.length) r repeats,
    )

abbrev is_some : ℕ → Type 0
is_some n = 0 < n

-- each stripe of a partition has a word
pub some_words : (needs : List ℕ) (at : ℕ) (lengths ends : List ℕ) → IsPartition needs at ends
    → starts_by at lengths ≡ starts_of at ends → at + sum lengths ≡ length needs → All is_some lengths
some_words needs at [] ends part same whole = All-nil is_some
some_words needs at (x ∷ lengths) [] part same whole = absurd (omega (arith, ap length same))
some_words needs at (x ∷ []) (end ∷ []) part same whole =
    All-cons is_some x [] (omega (arith, part.0.begun, part.1, whole, sum_by-cons (λ (n : ℕ). n) x []))
    (All-nil is_some)
some_words needs at (x ∷ []) (end ∷ next ∷ ends) part same whole = absurd (omega (arith, ap length same))
some_words needs at (x ∷ y ∷ lengths) (end ∷ []) part same whole = absurd (omega (arith, ap length same))
some_words needs at (x ∷ y ∷ lengths) (end ∷ next ∷ ends) part same whole =
    let here : at + x ≡ end = ap (λ (l : List ℕ). get_or l 1 0) same in
    let rest : starts_by (at + x) (y ∷ lengths) ≡ starts_of (at + x) (next ∷ ends) =
    ap (drop 1) same ∙ ap (λ n. starts_of n (next ∷ ends)) (sym here) in
    let sum_is = sum_by-cons (λ (n : ℕ). n) x (y ∷ lengths) in
    All-cons is_some x (y ∷ lengths) (omega (arith, part.0.begun, here))
    (some_words needs (at + x) (y ∷ lengths) (next ∷ ends)
    (subst (λ n. IsPartition needs n (next ∷ ends)) (sym here) part.1) rest (omega (arith, whole, sum_is)))

has_one : (len times : ℕ) → has_empty (record { length = len; times = times }) ≡ true → (len ≡ 0) × (0 < times)
has_one len times e = (grind (arith, e), grind (arith, e))

-- a row that lists a stripe without words
empty_row : (len times : ℕ) (more : List ℕ) → len ≡ 0 → 0 < times → All is_some (replicate times len ++ more) → ⊥
empty_row len zero more e some h = omega (arith, some)
empty_row len (suc times) more e some h = omega (arith, e, h 0 0 (omega arith))

All-right : (a b : List ℕ) → All is_some (a ++ b) → All is_some b
All-right [] b h = h
All-right (x ∷ a) b h = All-right a b (All-tail is_some x (a ++ b) h)

one_of : (b rest : Bool) → (b || rest) ≡ true → (b ≡ true) ⊎ (rest ≡ true)
one_of true rest e = inl refl
one_of false rest e = inr e

listed : (repeats : List Repeat) → list_any has_empty repeats ≡ true → All is_some (lengths_in repeats) → ⊥
listed [] e h = true≢false (sym e)
listed (r ∷ repeats) e h = elim (one_of (has_empty r) (list_any has_empty repeats) e) [
  | inl here ↦
      (let one = has_one r.length r.times here in empty_row r.length r.times (lengths_in repeats) one.0 one.1 h)
  | inr later ↦ listed repeats later (All-right (replicate r.times r.length) (lengths_in repeats) h)
]

-- a list of stripes one of which has no words is no certificate's
pub empty_refused : (needs : List ℕ) (repeats : List Repeat) → list_any has_empty repeats ≡ true
    → sum (lengths_in repeats) ≡ length needs → IsCertificate needs (starts_by 0 (lengths_in repeats)) → ⊥
empty_refused needs repeats e whole c =
    listed repeats e (some_words needs 0 (lengths_in repeats) c.ends c.partition c.starts_are (omega (arith, whole)))
