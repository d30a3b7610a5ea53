-- A finite check that a polynomial is irreducible: it has no factor of degree 1 to h, where h is at least half its
-- degree.
use Rattle.std.proofs.Common.{◌≡◌, ℕ, zero, suc, ◌+◌, ◌-◌, ◌*◌, ◌^◌, ◌<◌, ◌≤◌, inl, inr, Bool, true, not, ◌&&◌, ◌≢◌}
use Rattle.std.proofs.Common.{eqb, sym, ap, ◌∙◌, subst, arith}
use Rattle.std.proofs.lemmas.Bool.{and_parts, cases_eq, cases_lt, both_ways, not-true, eq-eqb}
use lib.Bits.{bit_xor}
use lib.Pow.{pow_pos}
use native.Mathlib.Nat.{pow-suc}
use Rattle.field_elements.specs.Carryless.{carryless, remainder_of_bits, IsMultiple, HasDegree, IsIrreducible}
use Rattle.field_elements.specs.laws.Xor.{xor_cancel}
use Rattle.field_elements.specs.laws.CarrylessLaws.{carryless_comm, carryless-zero_l}
use Rattle.field_elements.specs.laws.Degrees.{degree_of, degree_product, pow_order}
use Rattle.field_elements.specs.laws.Division.{remainder_below, remainder_same, small_multiple, IsMultiple-xor}

-- none of the n numbers from 2 ^ e on divides m, of degree d
unfoldable pub no_factor : ℕ → ℕ → ℕ → ℕ → Bool
no_factor d m e zero = true
no_factor d m e (suc n) = not (eqb (remainder_of_bits (suc d - e) e (2 ^ e + n) m) 0) && no_factor d m e n

-- no number of degree 1 to h divides m, of degree d
unfoldable pub no_factor_to : ℕ → ℕ → ℕ → Bool
no_factor_to d m zero = true
no_factor_to d m (suc h) = no_factor d m (suc h) (2 ^ suc h) && no_factor_to d m h

module _ (d m : ℕ) (degree : HasDegree m d) where
  no_factor_at : (e n i : ℕ) → no_factor d m e n ≡ true → i < n → remainder_of_bits (suc d - e) e (2 ^ e + i) m ≢ 0
  unfolding no_factor
  no_factor_at e zero i h l = absurd (omega arith)
  no_factor_at e (suc n) i h l =
      let p = and_parts (not (eqb (remainder_of_bits (suc d - e) e (2 ^ e + n) m) 0)) (no_factor d m e n) h in
      elim (cases_eq i n) [
        | inl q ↦
            subst (λ j. remainder_of_bits (suc d - e) e (2 ^ e + j) m ≢ 0) (sym q)
            (λ z. both_ways (eqb (remainder_of_bits (suc d - e) e (2 ^ e + n) m) 0)
            (not-true (eqb (remainder_of_bits (suc d - e) e (2 ^ e + n) m) 0) p.0)
            (eq-eqb (remainder_of_bits (suc d - e) e (2 ^ e + n) m) 0 z))
        | inr q ↦ no_factor_at e n i p.1 (omega arith)
      ]

  no_factor_to_at : (h e : ℕ) → no_factor_to d m h ≡ true → 1 ≤ e → e ≤ h → no_factor d m e (2 ^ e) ≡ true
  unfolding no_factor_to
  no_factor_to_at zero e c lo hi = absurd (omega arith)
  no_factor_to_at (suc h) e c lo hi =
      let p = and_parts (no_factor d m (suc h) (2 ^ suc h)) (no_factor_to d m h) c in
      elim (cases_eq e (suc h)) [
        | inl q ↦ subst (λ j. no_factor d m j (2 ^ j) ≡ true) (sym q) p.0
        | inr q ↦ no_factor_to_at h e p.1 lo (omega arith)
      ]

  small_factor : (h e a : ℕ) → no_factor_to d m h ≡ true → 1 ≤ e → e ≤ h → e ≤ d → HasDegree a e → IsMultiple a m → ⊥
  small_factor h e a c lo hi few top x =
      let r = remainder_of_bits (suc d - e) e a m in
      let width : e + (suc d - e) ≡ suc d = omega arith in
      let small : r < 2 ^ e = remainder_below (suc d - e) e a m top (rw width degree.1) in
      let y : IsMultiple a r = subst (IsMultiple a) (xor_cancel m r)
      (IsMultiple-xor a m (bit_xor m r) x (remainder_same (suc d - e) e a m)) in
      let z : r ≡ 0 = small_multiple e a r top y small in
      let i : 2 ^ e + (a - 2 ^ e) ≡ a = omega (arith, top) in
      no_factor_at e (2 ^ e) (a - 2 ^ e) (no_factor_to_at h e c lo hi) (omega (arith, top, pow-suc 2 e)) (rw i z)

  -- of two factors the one of lower degree has at most half the degree
  pub irreducible : (h : ℕ) → d < 2 * suc h → no_factor_to d m h ≡ true → IsIrreducible d m
  irreducible h half c q a lo hi e =
      elim (cases_lt 0 q) [
        | inl l ↦
            let i = degree_of q l in
            let j = degree_of a (omega arith) in
            let p : HasDegree (carryless q a) (i.0 + j.0) = degree_product i.0 j.0 q a i.1 j.1 in
            let up : i.0 + j.0 < suc d = pow_order (i.0 + j.0) (suc d) (omega (arith, p, degree)) in
            let down : d < suc (i.0 + j.0) = pow_order d (suc (i.0 + j.0)) (omega (arith, p, degree)) in
            let j1 : 1 < suc j.0 = pow_order 1 (suc j.0) (omega (arith, j.1)) in
            let j2 : j.0 < d = pow_order j.0 d (omega (arith, j.1)) in
            elim (cases_lt h j.0) [
              | inl g ↦ small_factor h i.0 q c (omega arith) (omega arith) (omega arith) i.1 (a, e ∙ carryless_comm q a)
              | inr g ↦ small_factor h j.0 a c (omega arith) g (omega arith) j.1 (q, e)
            ]
        | inr g ↦
            let z : q ≡ 0 = omega arith in
            let n : m ≡ 0 = e ∙ ap (λ x. carryless x a) z ∙ carryless-zero_l a in
            absurd (omega (arith, degree, pow_pos d))
      ]
