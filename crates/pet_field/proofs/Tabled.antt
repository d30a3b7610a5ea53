-- Products and inverses by exponents of x, and tables that are filled power by power.
use Rattle.std.proofs.Common.{◌≡◌, ℕ, suc, ◌+◌, ◌-◌, ◌<◌, ◌≤◌, inl, inr, List, length, get_or, set, refl, sym, ap, ◌∙◌}
use Rattle.std.proofs.Common.{subst, arith}
use Rattle.std.proofs.lemmas.Bool.{cases_eq}
use Rattle.std.proofs.lemmas.List.{get_or-set_same, get_or-set_other, get_or_read}
use Rattle.field_elements.specs.laws.FieldLaws.{times-zero}
use Rattle.field_elements.specs.laws.Gf16Laws.{gf16_field}
use Rattle.field_elements.specs.Gf16.{gf16}
use Rattle.pet_field.specs.Powers.{AreTables, power_of_x}
use Rattle.pet_field.proofs.Order.{power-add, power-turn, turn, logarithm}

pub zero_right : (a : ℕ) → a < 65536 → gf16.times a 0 ≡ 0
zero_right = times-zero (λ a. a < 65536) gf16 gf16_field

pub zero_left : (a : ℕ) → a < 65536 → gf16.times 0 a ≡ 0
zero_left a h = gf16_field.times_comm 0 a (omega arith) h ∙ zero_right a h

-- the sum of exponents of two elements is one of their product
pub product_at : (a b i j s : ℕ) → power_of_x i ≡ a → power_of_x j ≡ b → power_of_x s ≡ power_of_x (i + j)
    → power_of_x s ≡ gf16.times a b
product_at a b i j s x y z = z ∙ power-add i j ∙ ap (λ c. gf16.times c (power_of_x j)) x ∙ ap (gf16.times a) y

module _ (n : ℕ) (n_is : n ≡ 65535) where
  pub around_same : (e : ℕ) → n ≤ e → power_of_x (e - n) ≡ power_of_x e
  around_same e l =
      let back : n + (e - n) ≡ e = omega arith in
      sym (power-turn n n_is (e - n)) ∙ ap power_of_x back

  -- what an exponent lacks of the order is one of the inverse
  pub inverse_at : (a i : ℕ) → i ≤ n → power_of_x i ≡ a → gf16.times a (power_of_x (n - i)) ≡ 1
  inverse_at a i l x =
      let whole : i + (n - i) ≡ n = omega arith in
      ap (λ c. gf16.times c (power_of_x (n - i))) (sym x) ∙ sym (power-add i (n - i)) ∙ ap power_of_x whole
      ∙ turn n n_is

-- ---- filling

-- the first k powers and their exponents stand in the tables
pub record AreFilled (k : ℕ) (powers exponents : List ℕ) : Type 0 where
  pub powers_are : (i : ℕ) → i < k → get_or powers i 0 ≡ power_of_x i
  pub exponents_are : (i : ℕ) → i < k → power_of_x (get_or exponents (power_of_x i) 0) ≡ power_of_x i

pub filled_none : (powers exponents : List ℕ) → AreFilled 0 powers exponents
filled_none powers exponents =
    record { powers_are = λ i h. absurd (omega arith); exponents_are = λ i h. absurd (omega arith) }

pub filled_more : (k p : ℕ) (powers exponents : List ℕ) → AreFilled k powers exponents → p ≡ power_of_x k
    → k < length powers → p < length exponents
    → AreFilled (suc k) (set powers k p) (set exponents p k)
filled_more k p powers exponents so_far is there room =
    record {
      powers_are = λ i h.
          elim (cases_eq i k) [
            | inl e ↦ rw e (get_or-set_same powers k p 0 there ∙ is)
            | inr ne ↦ get_or-set_other powers k i p 0 ne ∙ so_far.powers_are i (omega arith)
          ];
      exponents_are = λ i h.
          elim (cases_eq (power_of_x i) p) [
            | inl e ↦ rw e (ap power_of_x (get_or-set_same exponents p k 0 room) ∙ sym is)
            | inr ne ↦
                ap power_of_x (get_or-set_other exponents p (power_of_x i) k 0 ne)
                ∙ so_far.exponents_are i
                (elim (cases_eq i k) [ inl e ↦ absurd (ne (ap power_of_x e ∙ sym is)) | inr d ↦ omega arith ])
          ];
    }

pub filled_all : (powers exponents : List ℕ) → length powers ≡ 65536 → length exponents ≡ 65536
    → AreFilled 65536 powers exponents → AreTables powers exponents
filled_all powers exponents many full filled =
    record {
      many = many;
      full = full;
      powers_are = filled.powers_are;
      exponents_are = λ a lo hi.
          let i = logarithm 65535 refl a lo hi in
          subst (λ b. power_of_x (get_or exponents b 0) ≡ b) i.2 (filled.exponents_are i.0 (omega (arith, i.1)));
    }

-- ---- reading

pub power_read : (powers exponents : List ℕ) (k x : ℕ) → AreTables powers exponents → k < 65536 → x ≡ get_or powers k x
    → x ≡ power_of_x k
power_read powers exponents k x tables below read =
    let inside : k < length powers = omega (arith, tables.many) in
    get_or_read powers k x inside read 0 ∙ tables.powers_are k below

pub exponent_read : (powers exponents : List ℕ) (a x : ℕ) → AreTables powers exponents → 0 < a → a < 65536
    → x ≡ get_or exponents a x → power_of_x x ≡ a
exponent_read powers exponents a x tables lo hi read =
    let inside : a < length exponents = omega (arith, tables.full) in
    ap power_of_x (get_or_read exponents a x inside read 0) ∙ tables.exponents_are a lo hi
