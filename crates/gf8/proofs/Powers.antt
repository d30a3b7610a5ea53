-- The tables are those of the powers of x and of their exponents.
use Rattle.std.proofs.Common.{◌≡◌, ℕ, zero, suc, ◌+◌, ◌<◌, ◌&&◌, Bool, true, eqb, ltb, List, [], ◌∷◌, length, get_or}
use Rattle.std.proofs.Common.{drop, refl, sym, ap, ◌∙◌, arith}
use Rattle.std.proofs.lemmas.Bool.{and_parts, eqb-true, ltb-true}
use Rattle.field_elements.specs.Carryless.{product_of_bits, remainder_of_bits}
use Rattle.field_elements.specs.BinaryField.{times}
use Rattle.pet_field.specs.laws.PowerLaws.{powers_add}
use Rattle.gf8.specs.Gf8.{gf8}
use Rattle.gf8.specs.inside.Powers.{power_of_x}
use Rattle.gf8.specs.laws.Gf8Laws.{gf8_field}
use Rattle.gf8.specs.declared.tables.TheConstants.{POWERS, EXPONENTS}

-- each entry is x times the one before it
follow : ℕ → List ℕ → Bool
follow before [] = true
follow before (p ∷ ps) = eqb p (times 8 0x11D 2 before) && follow p ps

powers_follow : (k before : ℕ) (ps : List ℕ) → before ≡ power_of_x k → follow before ps ≡ true
    → (i : ℕ) → i < length ps → get_or ps i 0 ≡ power_of_x (k + 1 + i)
unfolding follow power_of_x
powers_follow k before [] e h i l = absurd (omega arith)
powers_follow k before (p ∷ ps) e h zero l =
    let here = and_parts (eqb p (times 8 0x11D 2 before)) (follow p ps) h in
    let s : suc k ≡ k + 1 + 0 = omega arith in
    eqb-true p (times 8 0x11D 2 before) here.0 ∙ ap (times 8 0x11D 2) e ∙ ap power_of_x s
powers_follow k before (p ∷ ps) e h (suc i) l =
    let here = and_parts (eqb p (times 8 0x11D 2 before)) (follow p ps) h in
    let s : suc k ≡ k + 1 = omega arith in
    let is : p ≡ power_of_x (k + 1) =
    eqb-true p (times 8 0x11D 2 before) here.0 ∙ ap (times 8 0x11D 2) e ∙ ap power_of_x s in
    let t : k + 1 + 1 + i ≡ k + 1 + suc i = omega arith in
    powers_follow (k + 1) p ps is here.1 i (omega arith) ∙ ap power_of_x t

checked : follow 1 (drop 1 POWERS) ≡ true
unfolding follow times product_of_bits remainder_of_bits
checked = refl

pub power_is : (k : ℕ) → k < 510 → get_or POWERS k 0 ≡ power_of_x k
unfolding power_of_x
power_is zero l = refl
power_is (suc k) l =
    let s : 0 + 1 + k ≡ suc k = omega arith in
    powers_follow 0 1 (drop 1 POWERS) refl checked k (omega arith) ∙ ap power_of_x s

-- each exponent is that of its element
right : ℕ → List ℕ → Bool
right a [] = true
right a (e ∷ es) = (ltb e 255 && eqb (get_or POWERS e 0) a) && right (suc a) es

each_right : (a : ℕ) (es : List ℕ) → right a es ≡ true → (i : ℕ) → i < length es
    → (get_or es i 0 < 255) × (get_or POWERS (get_or es i 0) 0 ≡ a + i)
unfolding right
each_right a [] h i l = absurd (omega arith)
each_right a (e ∷ es) h zero l =
    let here = and_parts (ltb e 255 && eqb (get_or POWERS e 0) a) (right (suc a) es) h in
    let two = and_parts (ltb e 255) (eqb (get_or POWERS e 0) a) here.0 in
    (ltb-true e 255 two.0, eqb-true (get_or POWERS e 0) a two.1 ∙ omega arith)
each_right a (e ∷ es) h (suc i) l =
    let here = and_parts (ltb e 255 && eqb (get_or POWERS e 0) a) (right (suc a) es) h in
    let more = each_right (suc a) es here.1 i (omega arith) in
    (more.0, more.1 ∙ omega arith)

exponents_checked : right 1 (drop 1 EXPONENTS) ≡ true
unfolding right
exponents_checked = refl

pub exponent_is : (a : ℕ) → 0 < a → a < 256 → (get_or EXPONENTS a 0 < 255) × (power_of_x (get_or EXPONENTS a 0) ≡ a)
exponent_is zero some few = absurd (omega arith)
exponent_is (suc a) some few =
    let is = each_right 1 (drop 1 EXPONENTS) exponents_checked a (omega arith) in
    let small : get_or EXPONENTS (suc a) 0 < 510 = omega (arith, is.0) in
    (is.0, sym (power_is (get_or EXPONENTS (suc a) 0) small) ∙ is.1 ∙ omega arith)

-- ---- sums of exponents

power-one : power_of_x 0 ≡ 1
unfolding power_of_x
power-one = refl

power-suc : (k : ℕ) → power_of_x (suc k) ≡ gf8.times 2 (power_of_x k)
unfolding power_of_x
power-suc k = refl

pub power_sum : (k l : ℕ) → gf8.times (power_of_x k) (power_of_x l) ≡ power_of_x (k + l)
power_sum k l = sym (powers_add (λ a. a < 256) gf8 gf8_field 2 (omega arith) power_of_x power-one power-suc k l)

pub power_order : power_of_x 255 ≡ 1
power_order = sym (power_is 255 (omega arith))
