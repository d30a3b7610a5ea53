-- For callers: a binary field has subspaces where its constants, checked level by level, are right.
use Rattle.std.proofs.Common.{◌≡◌, ◌<◌, ◌≤◌, ◌^◌, ◌&&◌, ℕ, zero, suc, Bool, true, inl, inr, eqb, refl, sym, subst, arith}
use Rattle.std.proofs.lemmas.Bool.{and_parts, cases_eq, eqb-true, ltb-true}
use Rattle.std.specs.Prelude.{nat_lt}
use lib.Bits.{xor_self}
use lib.Pow.{pow_mono, pow_pos}
use native.Mathlib.Nat.{pow-suc}
use Rattle.field_elements.specs.Field.{IsField}
use Rattle.field_elements.specs.BinaryField.{residues, times}
use Rattle.field_transform.specs.Basis.{hats}
use Rattle.field_transform.specs.Subspaces.{AreFactors, HasSubspaces}

module _ (d m : ℕ) (factor inverse : ℕ → ℕ) where
  unfoldable pub are_right : ℕ → Bool
  are_right zero = true
  are_right (suc n) =
      (eqb (times d m (factor n) (inverse n)) 1 && eqb (hats (residues d m) inverse (suc n) (2 ^ suc n)) 1)
      && ((nat_lt (factor n) (2 ^ d) && nat_lt (inverse n) (2 ^ d)) && are_right n)

  right_at : (k n : ℕ) → are_right k ≡ true → n < k
      → ((times d m (factor n) (inverse n) ≡ 1) × (hats (residues d m) inverse (suc n) (2 ^ suc n) ≡ 1))
      × ((factor n < 2 ^ d) × (inverse n < 2 ^ d))
  unfolding are_right
  right_at zero n h l = absurd (omega arith)
  right_at (suc k) n h l =
      let t = eqb (times d m (factor k) (inverse k)) 1 in
      let u = eqb (hats (residues d m) inverse (suc k) (2 ^ suc k)) 1 in
      let a = and_parts (t && u) ((nat_lt (factor k) (2 ^ d) && nat_lt (inverse k) (2 ^ d)) && are_right k) h in
      let b = and_parts t u a.0 in
      let c = and_parts (nat_lt (factor k) (2 ^ d) && nat_lt (inverse k) (2 ^ d)) (are_right k) a.1 in
      let e = and_parts (nat_lt (factor k) (2 ^ d)) (nat_lt (inverse k) (2 ^ d)) c.0 in
      elim (cases_eq n k) [
        | inl same ↦
            subst (λ j. ((times d m (factor j) (inverse j) ≡ 1)
            × (hats (residues d m) inverse (suc j) (2 ^ suc j) ≡ 1))
            × ((factor j < 2 ^ d) × (inverse j < 2 ^ d))) (sym same) (
              (
                eqb-true (times d m (factor k) (inverse k)) 1 b.0,
                eqb-true (hats (residues d m) inverse (suc k) (2 ^ suc k)) 1 b.1,
              ),
              (ltb-true (factor k) (2 ^ d) e.0, ltb-true (inverse k) (2 ^ d) e.1),
            )
        | inr other ↦ right_at k n c.1 (omega arith)
      ]

  base_is : (k n : ℕ) → suc k ≤ d → n < suc k → 2 ^ n < 2 ^ d
  base_is k n enough l = omega (arith, pow_mono {i = suc n} {j = d} (omega arith), pow-suc 2 n, pow_pos n)

  factors : (k : ℕ) → suc k ≤ d → are_right k ≡ true
      → AreFactors (λ a. a < 2 ^ d) (residues d m) (λ n. 2 ^ n) (suc k) factor inverse
  factors k enough right = record {
    base = λ n l. base_is k n enough l;
    first = refl;
    factor_is = λ n l. (right_at k n right (omega arith)).1.0;
    inverse_is = λ n l. (right_at k n right (omega arith)).1.1;
    inverts = λ n l. (right_at k n right (omega arith)).0.0;
    one = λ n l. (right_at k n right (omega arith)).0.1;
  }

  pub has_subspaces : (k : ℕ) → IsField (λ a. a < 2 ^ d) (residues d m) → suc k ≤ d → d ≤ 32 → are_right k ≡ true
      → HasSubspaces (λ a. a < 2 ^ d) (residues d m) (2 ^ d) (λ i. i) (suc k) factor inverse
  has_subspaces k field enough few right = record {
    two = λ a h. xor_self a;
    sums = record { closed = λ i j h g. field.plus_is i j h g; sum = λ i j h g. refl };
    room = λ n l. base_is k n enough l;
    few = pow_mono {i = d} {j = 32} few;
    constants = factors k enough right;
  }
