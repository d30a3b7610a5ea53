-- Start codes and openers in a longer stream. This project's own.
use Rattle.std.proofs.Common.{◌≡◌, ℕ, zero, suc, ◌+◌, ◌-◌, ◌/◌, ◌%◌, ◌<◌, ◌≤◌, true, List, [], ◌∷◌, ◌++◌, length}
use Rattle.std.proofs.Common.{get_or, refl, sym, ◌∙◌, ap, arith, length-append, inl, inr}
use Rattle.std.specs.Prelude.{slice_index, nat_lt, ◌==◌}
use Rattle.std.specs.List.{filter, range_with_len}
use Rattle.std.proofs.lemmas.List.{get_or_append_left}
use Rattle.std.proofs.lemmas.Bool.{cond-true, cond-false, cases_eq, cases_lt, and_parts, and_from, ltb-true, lt-ltb}
use Rattle.std.proofs.lemmas.Bool.{eqb-true, eq-eqb, ne_eqb, false_from_ne_true}
use Rattle.mpeg_scan.specs.StartCodes.{is_start_code, is_opener, is_opener_code, code_at}
use Rattle.mpeg_scan.specs.Pieces.{kind_at, kind_of_type}
use Rattle.mpeg_scan.specs.Scanning.{openers_from}

-- a start code by its parts
pub record HasStartCode (s : List ℕ) (p : ℕ) : Type 0 where
  pub within : p + 3 < length s
  pub zero1 : slice_index s p ≡ 0
  pub zero2 : slice_index s (p + 1) ≡ 0
  pub one : slice_index s (p + 2) ≡ 1

pub stands : (s : List ℕ) (p : ℕ) → is_start_code s p ≡ true → HasStartCode s p
stands s p h =
    let a = and_parts (nat_lt (p + 3) (length s)) _ h in
    let b = and_parts (slice_index s p == 0) _ a.1 in
    let c = and_parts (slice_index s (p + 1) == 0) _ b.1 in
    record { within = ltb-true _ _ a.0; zero1 = eqb-true _ _ b.0; zero2 = eqb-true _ _ c.0; one = eqb-true _ _ c.1 }

pub is_standing : (s : List ℕ) (p : ℕ) → HasStartCode s p → is_start_code s p ≡ true
is_standing s p h =
    and_from _ _ (lt-ltb _ _ h.within)
    (and_from _ _ (eq-eqb _ _ h.zero1) (and_from _ _ (eq-eqb _ _ h.zero2) (eq-eqb _ _ h.one)))

pub stands_more : (s t : List ℕ) (p : ℕ) → HasStartCode s p → HasStartCode (s ++ t) p
stands_more s t p h =
    let w : p + 3 < length s = h.within in
    record {
      within = omega (arith, length-append s t);
      zero1 = get_or_append_left s t 0 p (omega arith) ∙ h.zero1;
      zero2 = get_or_append_left s t 0 (p + 1) (omega arith) ∙ h.zero2;
      one = get_or_append_left s t 0 (p + 2) (omega arith) ∙ h.one;
    }

pub stands_less : (s t : List ℕ) (p : ℕ) → p + 3 < length s → HasStartCode (s ++ t) p → HasStartCode s p
stands_less s t p w h =
    record {
      within = w;
      zero1 = sym (get_or_append_left s t 0 p (omega arith)) ∙ h.zero1;
      zero2 = sym (get_or_append_left s t 0 (p + 1) (omega arith)) ∙ h.zero2;
      one = sym (get_or_append_left s t 0 (p + 2) (omega arith)) ∙ h.one;
    }

pub code_more : (s t : List ℕ) (p : ℕ) → p + 3 < length s → code_at (s ++ t) p ≡ code_at s p
code_more s t p w = get_or_append_left s t 0 (p + 3) w

-- two start codes don't overlap
pub apart : (s : List ℕ) (p q : ℕ) → HasStartCode s p → HasStartCode s q → p < q → p + 3 ≤ q
apart s p q h k lt =
    elim (cases_lt q (p + 3)) [
      | inr le ↦ le
      | inl near ↦ elim (cases_lt (p + 1) q) [
        | inl far ↦ absurd (let e : q ≡ p + 2 = omega arith in
            let z : slice_index s (p + 2) ≡ 0 = ap (λ i. get_or s i 0) (sym e) ∙ k.zero1 in let o = h.one in
            omega arith)
        | inr next ↦ absurd (let e : q + 1 ≡ p + 2 = omega arith in
            let z : slice_index s (p + 2) ≡ 0 = ap (λ i. get_or s i 0) (sym e) ∙ k.zero2 in let o = h.one in
            omega arith)
      ]
    ]

-- an opener in a longer stream
pub opener_more : (s t : List ℕ) (p : ℕ) → is_opener s p ≡ true → is_opener (s ++ t) p ≡ true
opener_more s t p h =
    let a = and_parts (is_start_code s p) _ h in
    let st = stands s p a.0 in
    and_from _ _ (is_standing (s ++ t) p (stands_more s t p st)) (ap is_opener_code (code_more s t p st.within) ∙ a.1)

pub opener_less : (s t : List ℕ) (p : ℕ) → p + 3 < length s → is_opener (s ++ t) p ≡ true → is_opener s p ≡ true
opener_less s t p w h =
    let a = and_parts (is_start_code (s ++ t) p) _ h in
    let st = stands_less s t p w (stands (s ++ t) p a.0) in
    and_from _ _ (is_standing s p st) (sym (ap is_opener_code (code_more s t p w)) ∙ a.1)

pub opener_within : (s : List ℕ) (p : ℕ) → is_opener s p ≡ true → p + 3 < length s
opener_within s p h = (stands s p (and_parts (is_start_code s p) _ h).0).within

pub kind_more : (s t : List ℕ) (p : ℕ) → p + 3 < length s → (code_at s p ≡ 0 → p + 5 < length s)
    → kind_at (s ++ t) p ≡ kind_at s p
kind_more s t p w known =
    let code = code_more s t p w in
    elim (cases_eq (code_at s p) 0) [
      | inl picture ↦
          cond-true (code_at (s ++ t) p == 0) _ _ (eq-eqb _ _ (code ∙ picture))
          ∙ (ap kind_of_type (ap (λ y. (y / 8) % 8) (get_or_append_left s t 0 (p + 5) (known picture)))
          ∙ sym (cond-true (code_at s p == 0) _ _ (eq-eqb _ _ picture)))
      | inr other ↦ cond-false (code_at (s ++ t) p == 0) _ _ (ne_eqb _ _ (λ is. other (sym code ∙ is)))
          ∙ sym (cond-false (code_at s p == 0) _ _ (ne_eqb _ _ other))
    ]

-- no opener stands in the last three bytes
pub last_openers : (s : List ℕ) (k n : ℕ) → length s ≤ k + 3 → filter (is_opener s) (range_with_len k n) ≡ []
last_openers s k zero le = refl
last_openers s k (suc n) le =
    cond-false (is_opener s k) (k ∷ filter (is_opener s) (range_with_len (k + 1) n))
    (filter (is_opener s) (range_with_len (k + 1) n))
    (false_from_ne_true _ (λ is. let w = opener_within s k is in omega arith))
    ∙ last_openers s (k + 1) n (omega arith)

pub none_after : (s : List ℕ) → openers_from s (length s - 3) ≡ []
unfolding openers_from
none_after s = last_openers s (length s - 3) (length s - (length s - 3)) (omega arith)
