-- The conversion and the whole over the rows of one column.
use Rattle.std.proofs.Common.{◌≡◌, ◌<◌, ◌≤◌, ◌+◌, ◌-◌, ◌*◌, ◌^◌, ◌++◌, ℕ, zero, suc, List, [], ◌∷◌, All, length, take}
use Rattle.std.proofs.Common.{drop, get_or, map, refl, sym, ap, ap₂, ◌∙◌, arith, add-one, subst}
use Rattle.std.specs.List.{AllByRecursion as Each}
use Rattle.std.proofs.Math.Seq.{take-append_seam, drop-append_seam}
use Rattle.std.proofs.lemmas.List.{length-append, map-append, get_or-map, length-take-le, length-drop, take-append-drop}
use Rattle.std.proofs.lemmas.List.Elements.{recursion_from_All}
use native.Mathlib.Nat.{pow-suc}
use Rattle.field_elements.specs.Field.{Operations, IsField, ArePoints}
use Rattle.pet_poly.specs.Value.{value}
use Rattle.field_transform.specs.Basis.{squared, value_in_basis}
use Rattle.field_transform.specs.Subspaces.{HasSubspaces}
use Rattle.field_transform.specs.inside.Columnwise.{along, Flies, Expands, Scales, Converts}
use Rattle.field_transform.specs.inside.Trees.{Tree, flat, spread, add, each, scaled, expanded}
use Rattle.field_transform.proofs.Leaves.{Holds}
use Rattle.field_transform.proofs.Factors.{points_from, points_at, length-points, all_converted, all_flown}
use Rattle.field_transform.proofs.Places.{along_append, length-flat, flat_add}

length-spread : (E : Type 0) (j n : ℕ) (t : Tree (Tree E j) n) → length (spread {E = E} j n t) ≡ 2 ^ (j + n)
length-spread E j zero t = let e : j ≡ j + 0 = omega arith in length-flat E j t ∙ ap (λ k. 2 ^ k) e
length-spread E j (suc n) t =
    let e : suc (j + n) ≡ j + suc n = omega arith in
    length-append (spread {E = E} j n t.low) (spread {E = E} j n t.high)
    ∙ ap₂ ◌+◌ (length-spread E j n t.low) (length-spread E j n t.high)
    ∙ omega (arith, pow-suc 2 (j + n)) ∙ ap (λ k. 2 ^ k) e

module _ {E : Type 0} where
  spread_add : (plus : E → E → E) (j n : ℕ) (s t : Tree (Tree E j) n)
      → spread {E = E} j n (add (add plus j) n s t) ≡ along plus (spread {E = E} j n s) (spread {E = E} j n t)
  spread_add plus j zero s t = flat_add E plus j s t
  spread_add plus j (suc n) s t =
      ap₂ ◌++◌ (spread_add plus j n s.low t.low) (spread_add plus j n s.high t.high)
      ∙ sym (along_append plus (spread {E = E} j n s.low) (spread {E = E} j n t.low) (spread {E = E} j n s.high)
      (spread {E = E} j n t.high)
      (length-spread E j n s.low ∙ sym (length-spread E j n t.low)))

  spread_halves : (j n : ℕ) (t : Tree (Tree E j) (suc n)) (rows : List E) → spread {E = E} j (suc n) t ≡ rows
      → (spread {E = E} j n t.low ≡ take (2 ^ (j + n)) rows) × (spread {E = E} j n t.high ≡ drop (2 ^ (j + n)) rows)
  spread_halves j n t rows e = (
    sym (take-append_seam (spread {E = E} j n t.low) (spread {E = E} j n t.high))
        ∙ ap₂ take (length-spread E j n t.low) e,
    sym (drop-append_seam (spread {E = E} j n t.low) (spread {E = E} j n t.high))
        ∙ ap₂ drop (length-spread E j n t.low) e,
  )

  tree_of : (n : ℕ) (l : List E) → length l ≡ 2 ^ n → (t : Tree E n) × (flat {B = E} n t ≡ l)
  tree_of zero [] e = absurd (omega arith)
  tree_of zero (x ∷ []) e = (x, refl)
  tree_of zero (x ∷ y ∷ l) e = absurd (omega arith)
  tree_of (suc n) l e =
      let p : 2 ^ suc n ≡ 2 ^ n + 2 ^ n = omega (arith, pow-suc 2 n) in
      let a = tree_of n (take (2 ^ n) l) (length-take-le (2 ^ n) l (omega (arith, p))) in
      let b = tree_of n (drop (2 ^ n) l) (length-drop (2 ^ n) l ∙ omega (arith, p)) in
      (record { low = a.0; high = b.0 }, ap₂ ◌++◌ a.1 b.1 ∙ take-append-drop (2 ^ n) l)

  each_front : (P : E → Type 0) (xs ys : List E) → Each P (xs ++ ys) → Each P xs × Each P ys
  each_front P [] ys h = (tt, h)
  each_front P (x ∷ xs) ys h = let r = each_front P xs ys h.1 in ((h.0, r.0), r.1)

  holds_flat : (P : E → Type 0) (n : ℕ) (t : Tree E n) → Each P (flat {B = E} n t) → Holds P n t
  holds_flat P zero t h = h.0
  holds_flat P (suc n) t h =
      let r = each_front P (flat {B = E} n t.low) (flat {B = E} n t.high) h in
      (holds_flat P n t.low r.0, holds_flat P n t.high r.1)

  spread_flat : (n : ℕ) (t : Tree E n) → spread {E = E} 0 n t ≡ flat {B = E} n t
  spread_flat zero t = refl
  spread_flat (suc n) t = ap₂ ◌++◌ (spread_flat n t.low) (spread_flat n t.high)

module _ {E : Type 0} (o : Operations E) where
  -- ---- expansion

  pub expands_zero : (j : ℕ) (rows : List E) → Expands o j 0 rows rows
  unfolding Expands
  expands_zero j rows t e = sym e

  pub expands_suc : (j n : ℕ) (rows low high low1 high1 new_low new_high : List E)
      → low ≡ take (2 ^ (j + suc n)) rows → high ≡ drop (2 ^ (j + suc n)) rows
      → low1 ≡ take (2 ^ (j + n)) low
      ++ along o.plus (drop (2 ^ (j + n)) low) (along o.plus (take (2 ^ (j + n)) high) (drop (2 ^ (j + n)) high))
      → high1 ≡ along o.plus (take (2 ^ (j + n)) high) (drop (2 ^ (j + n)) high) ++ drop (2 ^ (j + n)) high
      → Expands o j n low1 new_low → Expands o j n high1 new_high → Expands o j (suc n) rows (new_low ++ new_high)
  unfolding Expands
  expands_suc j n rows low high low1 high1 new_low new_high l h l1 h1 f g t e =
      let p = spread_halves j (suc n) t rows e in
      let a = spread_halves j n t.low low (p.0 ∙ sym l) in
      let b = spread_halves j n t.high high (p.1 ∙ sym h) in
      let s = add (add o.plus j) n t.high.low t.high.high in
      let es : spread {E = E} j n s ≡ along o.plus (take (2 ^ (j + n)) high) (drop (2 ^ (j + n)) high) =
      spread_add o.plus j n t.high.low t.high.high ∙ ap₂ (along o.plus) b.0 b.1 in
      ap₂ ◌++◌
      (f (record { low = t.low.low; high = add (add o.plus j) n t.low.high s })
      (ap₂ ◌++◌ a.0 (spread_add o.plus j n t.low.high s ∙ ap₂ (along o.plus) a.1 es) ∙ sym l1))
      (g (record { low = s; high = t.high.high }) (ap₂ ◌++◌ es b.1 ∙ sym h1))

  -- ---- scaling

  flat_each : (by : E → E) (j : ℕ) (t : Tree E j) → flat {B = E} j (each by j t) ≡ map by (flat {B = E} j t)
  flat_each by zero t = refl
  flat_each by (suc j) t =
      ap₂ ◌++◌ (flat_each by j t.low) (flat_each by j t.high)
      ∙ sym (map-append by (flat {B = E} j t.low) (flat {B = E} j t.high))

  pub scales_zero : (j : ℕ) (g a : E) (rows : List E) → Scales o j 0 g a rows (map (o.times a) rows)
  unfolding Scales
  scales_zero j g a rows t e = sym (flat_each (o.times a) j t ∙ ap (map (o.times a)) e)

  pub scales_suc : (j n : ℕ) (g a : E) (rows low high new_low new_high : List E) → low ≡ take (2 ^ (j + n)) rows
      → high ≡ drop (2 ^ (j + n)) rows
      → Scales o j n g a low new_low → Scales o j n g (o.times a (squared o n g)) high new_high
      → Scales o j (suc n) g a rows (new_low ++ new_high)
  unfolding Scales
  scales_suc j n g a rows low high new_low new_high l h f k t e =
      let p = spread_halves j n t rows e in
      ap₂ ◌++◌ (f t.low (p.0 ∙ sym l)) (k t.high (p.1 ∙ sym h))

  -- ---- for the calls

  pub expands_step : (level n j m : ℕ) (rows low high low1 high1 new_low new_high : List E) → level ≡ suc n
      → m ≡ 2 ^ (j + level)
      → low ≡ take m rows → high ≡ drop m rows
      → low1 ≡ take (2 ^ (j + n)) low
      ++ along o.plus (drop (2 ^ (j + n)) low) (along o.plus (take (2 ^ (j + n)) high) (drop (2 ^ (j + n)) high))
      → high1 ≡ along o.plus (take (2 ^ (j + n)) high) (drop (2 ^ (j + n)) high) ++ drop (2 ^ (j + n)) high
      → Expands o j n low1 new_low → Expands o j n high1 new_high → Expands o j level rows (new_low ++ new_high)
  expands_step level n j m rows low high low1 high1 new_low new_high e em l h l1 h1 f g =
      let q : m ≡ 2 ^ (j + suc n) = em ∙ ap (λ k. 2 ^ (j + k)) e in
      subst (λ k. Expands o j k rows (new_low ++ new_high)) (sym e)
      (expands_suc j n rows low high low1 high1 new_low new_high (l ∙ ap (λ k. take k rows) q)
      (h ∙ ap (λ k. drop k rows) q) l1 h1 f g)

  pub expands_none : (level j : ℕ) (rows : List E) → level ≡ 0 → Expands o j level rows rows
  expands_none level j rows e = subst (λ k. Expands o j k rows rows) (sym e) (expands_zero j rows)

  pub scales_step : (level n j : ℕ) (g a b : E) (m : ℕ) (rows low high new_low new_high : List E) → level ≡ suc n
      → m ≡ 2 ^ (j + n) → low ≡ take m rows → high ≡ drop m rows
      → b ≡ o.times a (squared o n g) → Scales o j n g a low new_low → Scales o j n g b high new_high
      → Scales o j level g a rows (new_low ++ new_high)
  scales_step level n j g a b m rows low high new_low new_high e em l h eb f k =
      subst (λ i. Scales o j i g a rows (new_low ++ new_high)) (sym e)
      (scales_suc j n g a rows low high new_low new_high (l ∙ ap (λ i. take i rows) em)
      (h ∙ ap (λ i. drop i rows) em) f (subst (λ z. Scales o j n g z high new_high) eb k))

  pub scales_none : (level j : ℕ) (g a : E) (rows new : List E) → level ≡ 0 → new ≡ map (o.times a) rows
      → Scales o j level g a rows new
  scales_none level j g a rows new e p =
      subst (λ i. Scales o j i g a rows new) (sym e) (subst (Scales o j 0 g a rows) (sym p) (scales_zero j g a rows))

  pub square_next : (n i : ℕ) (v w : E) → i < n → w ≡ o.times v v → squared o (n - (i + 1)) w ≡ squared o (n - i) v
  square_next n i v w l e =
      let q : n - i ≡ suc (n - (i + 1)) = omega arith in
      ap (squared o (n - (i + 1))) e ∙ ap (λ k. squared o k v) (sym q)

module _ {E : Type 0} (o : Operations E) (factor : ℕ → E) where
  -- ---- conversion

  pub converts_zero : (j : ℕ) (rows : List E) → Converts o factor j 0 rows rows
  unfolding Converts
  converts_zero j rows t e = sym e

  pub converts_suc : (j n : ℕ) (rows r1 r2 r3 : List E) → Expands o j n rows r1
      → Scales o (suc j) n (factor j) o.unit r1 r2 → Converts o factor (suc j) n r2 r3
      → Converts o factor j (suc n) rows r3
  unfolding Expands Scales Converts
  converts_suc j n rows r1 r2 r3 f g h t e =
      let x = expanded (add o.plus j) n t in
      h (scaled {B = Tree E (suc j)} o (λ s. each (o.times s) (suc j)) (factor j) n o.unit x) (sym (g x (sym (f t e))))

  pub converts_step : (level n j : ℕ) (g : E) (rows r1 r2 r3 : List E) → level ≡ suc n → g ≡ factor j
      → Expands o j n rows r1 → Scales o (j + 1) n g o.unit r1 r2 → Converts o factor (j + 1) n r2 r3
      → Converts o factor j level rows r3
  converts_step level n j g rows r1 r2 r3 e q f s h =
      subst (λ i. Converts o factor j i rows r3) (sym e)
      (converts_suc j n rows r1 r2 r3 f
      (subst (λ i. Scales o i n (factor j) o.unit r1 r2) (add-one j)
      (subst (λ z. Scales o (j + 1) n z o.unit r1 r2) q s))
      (subst (λ i. Converts o factor i n r2 r3) (add-one j) h))

  pub converts_none : (level j : ℕ) (rows : List E) → level ≡ 0 → Converts o factor j level rows rows
  converts_none level j rows e = subst (λ k. Converts o factor j k rows rows) (sym e) (converts_zero j rows)

-- ---- the whole

module _ {E : Type 0} (P : E → Type 0) (o : Operations E) (f : IsField P o) (count : ℕ) (point : ℕ → E)
    (points : ArePoints P count point)
    (m : ℕ) (factor inverse : ℕ → E) (S : HasSubspaces P o count point m factor inverse) where
  -- the conversion leaves the same value at each point
  pub converts_value : (n : ℕ) (x : E) (old new : List E) → n < m → P x → length old ≡ 2 ^ n → All P old
      → Converts o factor 0 n old new
      → value_in_basis o inverse n new x ≡ value o old x
  unfolding Converts
  converts_value n x old new l hx e h g =
      let t = tree_of n old e in
      let hold : Holds P n t.0 = holds_flat P n t.0 (subst (Each P) (sym t.1) (recursion_from_All P old h)) in
      ap (λ r. value_in_basis o inverse n r x) (g t.0 (spread_flat n t.0 ∙ t.1))
      ∙ all_converted P o f count point points m factor inverse S n x t.0 l hx hold
      ∙ ap (λ r. value o r x) t.1

  -- the butterflies leave the values
  pub flies_value : (n a k p : ℕ) (old new : List E) → n < m → a * 2 ^ n < count → p < k → k ≤ 2 ^ n
      → length old ≡ 2 ^ n → All P old
      → Flies o inverse point n (a * 2 ^ n) k old new
      → get_or new p o.nought ≡ value_in_basis o inverse n old (point (a * 2 ^ n + p))
  unfolding Flies
  flies_value n a k p old new l small s few e h g =
      let r : p < 2 ^ n = omega arith in
      let t = tree_of n old e in
      let c = a * 2 ^ n in
      let hold : Holds P n t.0 = holds_flat P n t.0 (subst (Each P) (sym t.1) (recursion_from_All P old h)) in
      let V = value_in_basis o inverse n (flat {B = E} n t.0) in
      g t.0 t.1 p s
      ∙ ap (λ s. get_or s p o.nought) (all_flown P o f count point points m factor inverse S n a t.0 l small hold)
      ∙ get_or-map V (points_from point c (2 ^ n)) p o.nought o.nought (omega (arith, length-points point c (2 ^ n)))
      ∙ ap₂ (λ r x. value_in_basis o inverse n r x) t.1 (points_at o.nought point c (2 ^ n) p r)

pub power_sum : (k : ℕ) → k < 16 → 2 ^ (k + 1) ≡ 2 ^ k + 2 ^ k
power_sum k l = ap (λ i. 2 ^ i) (add-one k) ∙ omega (arith, pow-suc 2 k)

pub two_halves : (w l : ℕ) → 0 < l → 2 ^ (w + l) ≡ 2 ^ (w + (l - 1)) + 2 ^ (w + (l - 1))
two_halves w l h =
    let e : w + l ≡ suc (w + (l - 1)) = omega arith in
    ap (λ k. 2 ^ k) e ∙ omega (arith, pow-suc 2 (w + (l - 1)))
