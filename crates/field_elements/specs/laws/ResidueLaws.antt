-- The ring of polynomials over GF(2) of degree below d, modulo one of degree d, from the relation that says what a
-- product is.
use Rattle.std.proofs.Common.{◌≡◌, ℕ, ◌-◌, ◌^◌, ◌<◌, ◌≤◌, sym, arith}
use lib.Bits.{bit_xor, xor_lt}
use lib.Pow.{pow_mono}
use Rattle.field_elements.specs.Carryless.{carryless, product_of_bits, IsMultiple, HasDegree}
use Rattle.field_elements.specs.BinaryField.{IsModulus, IsProduct, times}
use Rattle.field_elements.specs.laws.CarrylessLaws.{carryless_bits, carryless_comm, carryless_assoc, carryless-one_r}
use Rattle.field_elements.specs.laws.CarrylessLaws.{carryless_xor_r}
use Rattle.field_elements.specs.laws.Degrees.{carryless_below}
use Rattle.field_elements.specs.laws.Division.{remainder_below, remainder_same, same_below, Same-refl, Same-sym}
use Rattle.field_elements.specs.laws.Division.{Same-trans, Same-xor, Same-times, Same-times_l}

module _ (d m : ℕ) (some : 1 ≤ d) (degree : HasDegree m d) where
  pub one_below : 1 < 2 ^ d
  one_below = omega (arith, pow_mono {i = 1} {j = d} some)

  -- ---- what is computed is the product, and it is the only one

  pub times_is : (a b : ℕ) → a < 2 ^ d → b < 2 ^ d → IsProduct d m a b (times d m a b)
  unfolding times
  times_is a b h g =
      let e : carryless a b ≡ product_of_bits d a b = carryless_bits d a b h in
      record {
        below = remainder_below (d - 1) d m (product_of_bits d a b) degree (rw (← e) (carryless_below d a b h g));
        congruent = rw e (remainder_same (d - 1) d m (product_of_bits d a b));
      }

  pub product_unique : (a b c c' : ℕ) → IsProduct d m a b c → IsProduct d m a b c' → c ≡ c'
  product_unique a b c c' x y =
      same_below d m c c' degree
      (Same-trans m c (carryless a b) c' (Same-sym m (carryless a b) c x.congruent) y.congruent) x.below y.below

  pub is_times : (a b c : ℕ) → a < 2 ^ d → b < 2 ^ d → IsProduct d m a b c → c ≡ times d m a b
  is_times a b c h g product = product_unique a b c (times d m a b) product (times_is a b h g)

  pub times_below : (a b : ℕ) → a < 2 ^ d → b < 2 ^ d → times d m a b < 2 ^ d
  times_below a b h g = (times_is a b h g).below

  same : (a b : ℕ) → a < 2 ^ d → b < 2 ^ d → IsMultiple m (bit_xor (carryless a b) (times d m a b))
  same a b h g = (times_is a b h g).congruent

  -- ---- the laws

  pub times_comm : (a b : ℕ) → a < 2 ^ d → b < 2 ^ d → times d m a b ≡ times d m b a
  times_comm a b h g =
      product_unique a b (times d m a b) (times d m b a) (times_is a b h g)
      (record { below = times_below b a g h; congruent = rw (carryless_comm a b) (same b a g h) })

  pub times_assoc : (a b c : ℕ) → a < 2 ^ d → b < 2 ^ d → c < 2 ^ d
      → times d m (times d m a b) c ≡ times d m a (times d m b c)
  times_assoc a b c ha hb hc =
      let ab = times_below a b ha hb in
      let bc = times_below b c hb hc in
      let p = Same-trans m (carryless (carryless a b) c) (carryless (times d m a b) c) (times d m (times d m a b) c)
      (Same-times_l m c (carryless a b) (times d m a b) (same a b ha hb)) (same (times d m a b) c ab hc) in
      let q = Same-trans m (carryless a (carryless b c)) (carryless a (times d m b c)) (times d m a (times d m b c))
      (Same-times m a (carryless b c) (times d m b c) (same b c hb hc)) (same a (times d m b c) ha bc) in
      let r = Same-trans m (times d m (times d m a b) c) (carryless (carryless a b) c) (times d m a (times d m b c))
      (Same-sym m (carryless (carryless a b) c) (times d m (times d m a b) c) p) (rw (carryless_assoc a b c) q) in
      same_below d m (times d m (times d m a b) c) (times d m a (times d m b c)) degree r
      (times_below (times d m a b) c ab hc) (times_below a (times d m b c) ha bc)

  pub times_xor : (a b c : ℕ) → a < 2 ^ d → b < 2 ^ d → c < 2 ^ d
      → times d m a (bit_xor b c) ≡ bit_xor (times d m a b) (times d m a c)
  times_xor a b c ha hb hc =
      let bc = xor_lt d b c hb hc in
      product_unique a (bit_xor b c) (times d m a (bit_xor b c)) (bit_xor (times d m a b) (times d m a c))
      (times_is a (bit_xor b c) ha bc)
      (record {
        below = xor_lt d (times d m a b) (times d m a c) (times_below a b ha hb) (times_below a c ha hc);
        congruent =
            rw (carryless_xor_r a b c) (Same-xor m (carryless a b) (times d m a b) (carryless a c) (times d m a c)
            (same a b ha hb) (same a c ha hc));
      })

  pub times-one : (a : ℕ) → a < 2 ^ d → times d m a 1 ≡ a
  times-one a h =
      product_unique a 1 (times d m a 1) a (times_is a 1 h one_below)
      (record { below = h; congruent = rw (carryless-one_r a) (Same-refl m a) })

-- what was computed of an element's number, modulo a modulus of a field
pub multiplies : {d m a b x y c : ℕ} → IsModulus d m → x ≡ a → y ≡ b → a < 2 ^ d → b < 2 ^ d → IsProduct d m x y c
    → c ≡ times d m a b
multiplies {d} {m} {a} {b} {x} {y} {c} modulus first second h g product =
    is_times d m modulus.some modulus.degree a b c h g (rw (first, second) at product)

pub inverts : {d m a x c : ℕ} → IsModulus d m → x ≡ a → a < 2 ^ d → c < 2 ^ d → IsProduct d m x c 1
    → times d m a c ≡ 1
inverts {d} {m} {a} {x} {c} modulus is h g product =
    sym (is_times d m modulus.some modulus.degree a c 1 h g (rw is at product))
