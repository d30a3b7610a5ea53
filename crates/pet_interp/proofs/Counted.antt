-- How many steps one more point takes, by the longest of the stripes.
use Rattle.std.proofs.Common.{◌≡◌, ℕ, zero, suc, ◌+◌, ◌<◌, ◌≤◌, Bool, true, false, List, [], ◌∷◌, All, length, map, refl}
use Rattle.std.proofs.Common.{sym, ap, ap₂, ◌∙◌, arith, cond, inl, inr, if◌then◌else◌, slice_index_or}
use Rattle.std.specs.Prelude.{nat_lt}
use Rattle.std.proofs.lemmas.Bool.{cases_lt, lt-ltb, le-ltb, cond-true, cond-false}
use Rattle.std.proofs.lemmas.List.Sums.{sum_by-cons}
use Rattle.pet_interp.specs.Progressive.{longer_than, step_bound, point_steps}
use Rattle.pet_interp.specs.Blocks.{IsLongest}

longer_cons : (r n : ℕ) (ns : List ℕ) → longer_than r (n ∷ ns) ≡ cond (nat_lt r n) 1 0 + longer_than r ns
longer_cons r n ns = sum_by-cons (λ x. cond (nat_lt r x) 1 0) n ns

pub longer_none : {E : Type 0} (r k : ℕ) (ss : List (List E)) → k ≤ r → All (λ s. length s ≤ k) ss
    → longer_than r (map length ss) ≡ 0
longer_none r k [] l h = refl
longer_none r k (s ∷ ss) l h =
    let short : length s ≤ r = omega (arith, h 0 s (omega arith)) in
    longer_cons r (length s) (map length ss)
    ∙ ap₂ ◌+◌ (cond-false (nat_lt r (length s)) 1 0 (le-ltb r (length s) short))
    (longer_none r k ss l (λ c t m. h (suc c) t (omega arith)))

longer_some : {E : Type 0} (r j : ℕ) (ss : List (List E)) → j < length ss → r < length (slice_index_or ss j [])
    → 0 < longer_than r (map length ss)
longer_some r j [] i l = absurd (omega arith)
longer_some r zero (s ∷ ss) i l =
    let more = longer_than r (map length ss) in
    let one : longer_than r (map length (s ∷ ss)) ≡ 1 + more =
    longer_cons r (length s) (map length ss)
    ∙ ap (λ t. t + more) (cond-true (nat_lt r (length s)) 1 0 (lt-ltb r (length s) l)) in
    omega (arith, one)
longer_some r (suc j) (s ∷ ss) i l =
    let more = longer_some r j ss (omega arith) l in
    omega (arith, longer_cons r (length s) (map length ss), more)

when : {A : Type 0} {b : Bool} (x y : A) → b ≡ true → (if b then x else y) ≡ x
when x y e = rw e refl

unless : {A : Type 0} {b : Bool} (x y : A) → b ≡ false → (if b then x else y) ≡ y
unless x y e = rw e refl

-- what is counted where the product may grow, and nothing where it may not
pub counted : {E : Type 0} (before after met top : ℕ) (ss : List (List E)) → IsLongest ss top
    → (met < top → after ≡ before + step_bound met (map length ss)) → (top ≤ met → after ≡ before)
    → after ≡ before + point_steps met (map length ss)
counted before after met top ss longest more none =
    let q = longer_than met (map length ss) in
    elim (cases_lt met top) [
      | inl l ↦
          let at = longest.reached (omega arith) in
          let some : 0 < q = longer_some met at.0 ss at.1 (omega (arith, at.2)) in
          more l ∙ ap (λ t. before + t) (sym (when (step_bound met (map length ss)) 0 (lt-ltb 0 q some)))
      | inr l ↦
          let nothing : q ≡ 0 = longer_none met top ss l longest.above in
          let still : before ≡ before + 0 = omega arith in
          none l ∙ still
          ∙ ap (λ t. before + t) (sym (unless (step_bound met (map length ss)) 0 (le-ltb 0 q (omega arith))))
    ]

-- which is no more than the bound
pub at_most : (before after r : ℕ) (lengths : List ℕ) → after ≡ before + point_steps r lengths
    → after ≤ before + step_bound r lengths
at_most before after r lengths e =
    let q = longer_than r lengths in
    elim (cases_lt 0 q) [
      | inl l ↦ omega (arith, e, when (step_bound r lengths) 0 (lt-ltb 0 q l))
      | inr l ↦ omega (arith, e, unless (step_bound r lengths) 0 (le-ltb 0 q l))
    ]
