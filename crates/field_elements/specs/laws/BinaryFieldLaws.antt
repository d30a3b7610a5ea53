-- Polynomials over GF(2) modulo an irreducible one are a lawful field.
use Rattle.std.proofs.Common.{◌≡◌, ◌≢◌, ℕ, ◌^◌, ◌<◌, ◌≤◌, refl, sym, ap, subst, ◌∙◌, arith}
use lib.Bits.{bit_xor, xor_lt, xor_comm, xor_assoc, xor_self, xor_zero_r}
use lib.Pow.{pow_pos}
use Rattle.field_elements.specs.Field.{IsField}
use Rattle.field_elements.specs.Carryless.{HasDegree, IsIrreducible}
use Rattle.field_elements.specs.BinaryField.{IsProduct, IsBinaryField, times, residues}
use Rattle.field_elements.specs.laws.ResidueLaws as R
use Rattle.field_elements.specs.laws.Inverses.{has_inverse}

one≢zero : ◌≢◌ {A = ℕ} 1 0
one≢zero e = absurd (omega arith)

minus_plus : (a b : ℕ) → bit_xor (bit_xor a b) b ≡ a
minus_plus a b = xor_assoc a b b ∙ ap (bit_xor a) (xor_self b) ∙ xor_zero_r a

module _ (d m : ℕ) (some : 1 ≤ d) (degree : HasDegree m d) where
  pub is_field : IsIrreducible d m → IsField (λ a. a < 2 ^ d) (residues d m)
  is_field irreducible =
      record {
        zero_is = pow_pos d;
        one_is = R.one_below d m some degree;
        plus_is = xor_lt d;
        minus_is = xor_lt d;
        times_is = R.times_below d m some degree;
        one≢zero = one≢zero;
        plus_comm = λ a b _ _. xor_comm a b;
        plus_assoc = λ a b c _ _ _. xor_assoc a b c;
        plus-zero = λ a _. xor_zero_r a;
        minus-plus = λ a b _ _. minus_plus a b;
        times_comm = R.times_comm d m some degree;
        times_assoc = R.times_assoc d m some degree;
        times-one = R.times-one d m some degree;
        times-plus = R.times_xor d m some degree;
        inverse = has_inverse d m some degree irreducible;
      }

  pub is_binary : IsBinaryField d m (λ a. a < 2 ^ d) (residues d m) (λ i. i)
  is_binary =
      record {
        elements = λ a. (λ h. h, λ h. h);
        zero_is_0 = refl;
        one_is_1 = refl;
        sum = λ a b. refl;
        difference = λ a b. refl;
        product = λ a b c h g. (
          λ e. subst (IsProduct d m a b) e (R.times_is d m some degree a b h g),
          λ x. sym (R.is_times d m some degree a b c h g x),
        );
        points = λ i h. refl;
      }
