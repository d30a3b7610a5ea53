-- Rows place by place, and trees as rows.
use Rattle.std.proofs.Common.{◌≡◌, ◌<◌, ◌≤◌, ◌+◌, ◌*◌, ◌%◌, ◌^◌, ◌++◌, ◌-◌, ℕ, zero, suc, List, [], ◌∷◌, length, take}
use Rattle.std.proofs.Common.{drop, set, get_or, inl, inr, refl, sym, ap, ap₂, ◌∙◌, arith, pred, add-one, bit_xor}
use Rattle.std.proofs.Common.{subst}
use Rattle.std.proofs.lemmas.Bool.{cases_lt}
use Rattle.std.proofs.Math.Seq.{take-append_seam, drop-append_seam}
use Rattle.std.proofs.lemmas.List.{length-append, get_or_append_left, get_or-append_right}
use native.Mathlib.Nat.{pow-suc}
use lib.Pow.{pow_mono}
use Rattle.field_elements.specs.Field.{Operations}
use Rattle.field_transform.specs.Basis.{hats}
use Rattle.field_transform.specs.inside.Columnwise.{along, Flies}
use Rattle.field_transform.specs.inside.Trees.{Tree, flat, add, each, flown}

pub along_more : {E : Type 0} (g : E → E → E) (xs ys : List E) (i : ℕ) (d : E) → i < length ys → length ys ≤ length xs
    → set (along g xs (take i ys)) i (g (get_or (along g xs (take i ys)) i d) (get_or ys i d))
    ≡ along g xs (take (suc i) ys)
along_more g [] [] i d l m = absurd (omega arith)
along_more g [] (z ∷ ys) i d l m = absurd (omega arith)
along_more g (x ∷ xs) [] i d l m = absurd (omega arith)
along_more g (x ∷ xs) (z ∷ ys) zero d l m = refl
along_more g (x ∷ xs) (z ∷ ys) (suc i) d l m = ap (λ r. g x z ∷ r) (along_more g xs ys i d (omega arith) (omega arith))

-- one more place of a loop
pub along_next : {E : Type 0} (d : E) (g : E → E → E) (xs ys now : List E) (i : ℕ) → i < length ys
    → length xs ≡ length ys → now ≡ along g xs (take i ys)
    → set now i (g (get_or now i d) (get_or ys i d)) ≡ along g xs (take (i + 1) ys)
along_next d g xs ys now i l m e =
    ap (λ r. set r i (g (get_or r i d) (get_or ys i d))) e ∙ along_more g xs ys i d l (omega arith)
    ∙ ap (λ k. along g xs (take k ys)) (sym (add-one i))

pub length-along : {E : Type 0} (g : E → E → E) (xs ys : List E) → length (along g xs ys) ≡ length xs
length-along g xs [] = refl
length-along g [] (y ∷ ys) = refl
length-along g (x ∷ xs) (y ∷ ys) = ap suc (length-along g xs ys)

pub along_append : {E : Type 0} (g : E → E → E) (xs ys xs' ys' : List E) → length xs ≡ length ys
    → along g (xs ++ xs') (ys ++ ys') ≡ along g xs ys ++ along g xs' ys'
along_append g [] [] xs' ys' e = refl
along_append g [] (y ∷ ys) xs' ys' e = absurd (cc)
along_append g (x ∷ xs) [] xs' ys' e = absurd (cc)
along_append g (x ∷ xs) (y ∷ ys) xs' ys' e = ap (λ r. g x y ∷ r) (along_append g xs ys xs' ys' (ap pred e))

pub length-flat : (E : Type 0) (n : ℕ) (t : Tree E n) → length (flat n t) ≡ 2 ^ n
length-flat E zero t = refl
length-flat E (suc n) t =
    length-append (flat n t.low) (flat n t.high) ∙ ap₂ ◌+◌ (length-flat E n t.low) (length-flat E n t.high)
    ∙ omega (arith, pow-suc 2 n)

pub flat_add : (E : Type 0) (plus : E → E → E) (n : ℕ) (s t : Tree E n)
    → flat n (add plus n s t) ≡ along plus (flat n s) (flat n t)
flat_add E plus zero s t = refl
flat_add E plus (suc n) s t =
    ap₂ ◌++◌ (flat_add E plus n s.low t.low) (flat_add E plus n s.high t.high)
    ∙ sym (along_append plus (flat n s.low) (flat n t.low) (flat n s.high) (flat n t.high)
    (length-flat E n s.low ∙ sym (length-flat E n t.low)))

pub flat_add_each : (E : Type 0) (plus : E → E → E) (by : E → E) (n : ℕ) (s t : Tree E n)
    → flat n (add plus n s (each by n t)) ≡ along (λ x y. plus x (by y)) (flat n s) (flat n t)
flat_add_each E plus by zero s t = refl
flat_add_each E plus by (suc n) s t =
    ap₂ ◌++◌ (flat_add_each E plus by n s.low t.low) (flat_add_each E plus by n s.high t.high)
    ∙ sym (along_append (λ x y. plus x (by y)) (flat n s.low) (flat n t.low) (flat n s.high) (flat n t.high)
    (length-flat E n s.low ∙ sym (length-flat E n t.low)))

-- the halves of a tree are those of its rows
pub halves : (E : Type 0) (n : ℕ) (t : Tree E (suc n)) (rows : List E) → flat (suc n) t ≡ rows
    → (flat n t.low ≡ take (2 ^ n) rows) × (flat n t.high ≡ drop (2 ^ n) rows)
halves E n t rows e = (
  sym (take-append_seam (flat n t.low) (flat n t.high)) ∙ ap₂ take (length-flat E n t.low) e,
  sym (drop-append_seam (flat n t.low) (flat n t.high)) ∙ ap₂ drop (length-flat E n t.low) e,
)

-- a place of two lists on end
two_places : {E : Type 0} (d : E) (m p : ℕ) (xs ys us vs : List E) → length xs ≡ m → length us ≡ m
    → (p < m → get_or xs p d ≡ get_or us p d)
    → (m ≤ p → get_or ys (p - m) d ≡ get_or vs (p - m) d) → get_or (xs ++ ys) p d ≡ get_or (us ++ vs) p d
two_places d m p xs ys us vs nx nu front back =
    elim (cases_lt p m) [
      | inl s ↦ get_or_append_left xs ys d p (omega arith) ∙ front s ∙ sym (get_or_append_left us vs d p (omega arith))
      | inr s ↦ get_or-append_right xs ys m p d nx s ∙ back s ∙ sym (get_or-append_right us vs m p d nu s)
    ]

module _ {E : Type 0} (o : Operations E) (inverse point : ℕ → E) where
  -- one more level of a hat
  pub hat_next : (i : ℕ) (x v s q : E) → q ≡ inverse i → v ≡ hats o inverse i x → s ≡ o.times v v
      → o.times q (o.plus s v) ≡ hats o inverse (i + 1) x
  hat_next i x v s q e p r =
      ap₂ o.times e (ap₂ o.plus (r ∙ ap₂ o.times p p) p) ∙ ap (λ k. hats o inverse k x) (sym (add-one i))

  -- the sums of a node and what is left of them: of the first m places of the lower half, and of the first r of the
  -- higher half
  flies_suc : (k c : ℕ) (by : E) (m r : ℕ) (rows low high low1 high1 new_low new_high : List E)
      → low ≡ take (2 ^ k) rows → high ≡ drop (2 ^ k) rows → by ≡ hats o inverse k (point c)
      → low1 ≡ along (λ x y. o.plus x (o.times by y)) low high → length new_low ≡ 2 ^ k
      → Flies o inverse point k c m low1 new_low
      → (0 < r → (m ≡ 2 ^ k) × (high1 ≡ along o.plus low1 high)
      × (point (bit_xor c (2 ^ k)) ≡ o.plus (point c) (point (2 ^ k)))
      × Flies o inverse point k (bit_xor c (2 ^ k)) r high1 new_high)
      → m ≤ 2 ^ k → Flies o inverse point (suc k) c (m + r) rows (new_low ++ new_high)
  unfolding Flies
  flies_suc k c by m r rows low high low1 high1 new_low new_high l h b l1 nl f g few t e p lp =
      let s = hats o inverse k (point c) in
      let u = add o.plus k t.low (each (o.times s) k t.high) in
      let w = add o.plus k u t.high in
      let two = halves E k t rows e in
      let pl : flat k t.low ≡ low = two.0 ∙ sym l in
      let ph : flat k t.high ≡ high = two.1 ∙ sym h in
      let pu : flat k u ≡ low1 =
      flat_add_each E o.plus (o.times s) k t.low t.high ∙ ap₂ (along (λ x y. o.plus x (o.times s y))) pl ph
      ∙ ap (λ z. along (λ x y. o.plus x (o.times z y)) low high) (sym b) ∙ sym l1 in
      let pw : flat k w ≡ along o.plus low1 high = flat_add E o.plus k u t.high ∙ ap₂ (along o.plus) pu ph in
      let F = λ (x : E) (v : Tree E k). flat {B = E} k
      (flown o (λ i x. hats o inverse i x) (λ i. point (2 ^ i)) k x v) in
      let a = flown o (λ i x. hats o inverse i x) (λ i. point (2 ^ i)) k (point c) u in
      two_places o.nought (2 ^ k) p new_low new_high (flat {B = E} k a) (F (o.plus (point c) (point (2 ^ k))) w) nl
      (length-flat E k a)
      (λ q.
      elim (cases_lt p m) [
        | inl x ↦ f u pu p x
        | inr x ↦ absurd (omega (arith, (g (omega arith)).0))
      ])
      (λ q.
      let some = g (omega arith) in
      some.3 w (pw ∙ sym some.1) (p - 2 ^ k) (omega (arith, some.0))
      ∙ ap (λ x. get_or (F x w) (p - 2 ^ k) o.nought) some.2)

  -- both halves
  pub flies_more : (level k c : ℕ) (by : E) (m s count : ℕ) (rows low high low1 high1 new_low new_high : List E)
      → level ≡ suc k → m ≡ 2 ^ k → s ≡ 2 ^ k → 2 ^ k < count
      → low ≡ take m rows → high ≡ drop m rows → by ≡ hats o inverse k (point c)
      → low1 ≡ along (λ x y. o.plus x (o.times by y)) low high → high1 ≡ along o.plus low1 high
      → point (bit_xor c (2 ^ k)) ≡ o.plus (point c) (point (2 ^ k)) → length new_low ≡ 2 ^ k
      → Flies o inverse point k c m low1 new_low → Flies o inverse point k (bit_xor c s) (count - m) high1 new_high
      → Flies o inverse point level c count rows (new_low ++ new_high)
  flies_more level k c by m s count rows low high low1 high1 new_low new_high e em es some l h b l1 h1 hp nl f g =
      let q : m + (count - m) ≡ count = omega arith in
      subst (λ n. Flies o inverse point n c count rows (new_low ++ new_high)) (sym e)
      (subst (λ n. Flies o inverse point (suc k) c n rows (new_low ++ new_high)) q
      (flies_suc k c by m (count - m) rows low high low1 high1 new_low new_high (l ∙ ap (λ i. take i rows) em)
      (h ∙ ap (λ i. drop i rows) em) b l1 nl f
      (λ _. (em, h1, hp, subst (λ p. Flies o inverse point k (bit_xor c p) (count - m) high1 new_high) es g))
      (omega arith)))

  -- the lower half alone
  pub flies_fewer : (level k c : ℕ) (by : E) (m count : ℕ) (rows low high low1 new_low : List E) → level ≡ suc k
      → m ≡ 2 ^ k → count ≤ 2 ^ k
      → low ≡ take m rows → high ≡ drop m rows → by ≡ hats o inverse k (point c)
      → low1 ≡ along (λ x y. o.plus x (o.times by y)) low high → length new_low ≡ 2 ^ k
      → Flies o inverse point k c count low1 new_low → Flies o inverse point level c count rows (new_low ++ high)
  flies_fewer level k c by m count rows low high low1 new_low e em few l h b l1 nl f =
      let q : count + 0 ≡ count = omega arith in
      subst (λ n. Flies o inverse point n c count rows (new_low ++ high)) (sym e)
      (subst (λ n. Flies o inverse point (suc k) c n rows (new_low ++ high)) q
      (flies_suc k c by count 0 rows low high low1 high new_low high (l ∙ ap (λ i. take i rows) em)
      (h ∙ ap (λ i. drop i rows) em) b l1 nl f
      (λ z. absurd (omega arith)) few))

  -- at one place, or at none
  pub flies_none : (level c count : ℕ) (rows : List E) → (0 < count → level ≡ 0)
      → Flies o inverse point level c count rows rows
  unfolding Flies
  flies_none zero c count rows e t g p l = ap (λ r. get_or r p o.nought) (sym g)
  flies_none (suc n) c count rows e t g p l = absurd (omega (arith, e (omega arith)))

pub shift_64 : (k : ℕ) → k < 32 → 1 * 2 ^ k % 18446744073709551616 ≡ 2 ^ k
shift_64 k l = omega (arith, pow_mono {i = k} {j = 31} (omega arith))

pub shift_32 : (k : ℕ) → k < 32 → 1 * 2 ^ k % 4294967296 ≡ 2 ^ k
shift_32 k l = omega (arith, pow_mono {i = k} {j = 31} (omega arith))
