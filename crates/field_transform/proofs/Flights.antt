-- The butterflies give all values on a coset.
use Rattle.std.proofs.Common.{◌≡◌, ◌<◌, ◌≤◌, ◌++◌, ℕ, zero, suc, List, [], ◌∷◌, map, refl, sym, ap, ap₂, ◌∙◌, arith}
use Rattle.std.specs.List.{AllByRecursion as Each}
use Rattle.field_elements.specs.Field.{Operations, IsField}
use Rattle.field_elements.specs.laws.FieldLaws as A
use Rattle.field_transform.specs.inside.Trees.{Tree, flat, add, each, flown}
use Rattle.field_transform.proofs.Leaves.{Holds, weighed, points}
use Rattle.field_transform.proofs.Readings.{IsReading, trees_read}

-- the hats on the span of b 0 .. b (m - 1)
pub record AreHats {E : Type 0} (P : E → Type 0) (o : Operations E) (b : ℕ → E) (m : ℕ) (hat : ℕ → E → E) : Type 0 where
  pub base : (n : ℕ) → n < m → P (b n)
  pub is : (n : ℕ) (x : E) → n < m → P x → P (hat n x)
  pub sum : (n : ℕ) (x y : E) → n < m → P x → P y → hat n (o.plus x y) ≡ o.plus (hat n x) (hat n y)
  pub below : (n i : ℕ) → n < m → i < n → hat n (b i) ≡ o.nought
  pub here : (n : ℕ) → n < m → hat n (b n) ≡ o.unit

map_append : {A B : Type 0} (g : A → B) (xs ys : List A) → map g (xs ++ ys) ≡ map g xs ++ map g ys
map_append g [] ys = refl
map_append g (x ∷ xs) ys = ap (λ r. g x ∷ r) (map_append g xs ys)

pub map_same : {A B : Type 0} (g h : A → B) (xs : List A) → Each (λ x. g x ≡ h x) xs → map g xs ≡ map h xs
map_same g h [] e = refl
map_same g h (x ∷ xs) e = ap₂ ◌∷◌ e.0 (map_same g h xs e.1)

pub each_append : {A : Type 0} (P : A → Type 0) (xs ys : List A) → Each P xs → Each P ys → Each P (xs ++ ys)
each_append P [] ys h g = g
each_append P (x ∷ xs) ys h g = (h.0, each_append P xs ys h.1 g)

pub each_map : {A : Type 0} (P Q : A → Type 0) (k : (x : A) → P x → Q x) (xs : List A) → Each P xs → Each Q xs
each_map P Q k [] h = tt
each_map P Q k (x ∷ xs) h = (k x h.0, each_map P Q k xs h.1)

pub each_all : {A : Type 0} (P : A → Type 0) → ((x : A) → P x) → (xs : List A) → Each P xs
each_all P k [] = tt
each_all P k (x ∷ xs) = (k x, each_all P k xs)

each_both : {A : Type 0} (P Q : A → Type 0) (xs : List A) → Each P xs → Each Q xs → Each (λ x. P x × Q x) xs
each_both P Q [] h g = tt
each_both P Q (x ∷ xs) h g = ((h.0, g.0), each_both P Q xs h.1 g.1)

module _ {E : Type 0} (P : E → Type 0) (o : Operations E) (f : IsField P o)
    (two : (a : E) → P a → o.plus a a ≡ o.nought)
    (b : ℕ → E) (m : ℕ) (hat : ℕ → E → E) (H : AreHats P o b m hat) where
  -- the value at x of what stands in the basis of products of hats
  abbrev pub value_at : (n : ℕ) → Tree E n → E → E
  value_at n t x = weighed o (λ a. a) (λ i. hat i x) n t

  pub elements_read : IsReading P o P o.plus o.times (λ a. a)
  elements_read =
      record {
        plus_ok = f.plus_is;
        by_ok = f.times_is;
        is = λ b h. h;
        sum = λ a b h g. refl;
        multiple = λ s b h g. refl;
      }

  pub reads : (n : ℕ) (x : E) → n ≤ m → P x
      → IsReading P o (Holds P n) (add o.plus n) (λ a. each (o.times a) n) (λ t. value_at n t x)
  reads n x l hx =
      trees_read P o f two P o.plus o.times (λ a. a) elements_read (λ i. hat i x) n (λ i k. H.is i x (omega arith) hx)

  pub points_are : (n : ℕ) (c : E) → n ≤ m → P c → Each P (points o b n c)
  points_are zero c l h = (h, tt)
  points_are (suc n) c l h =
      each_append P (points o b n c) (points o b n (o.plus c (b n))) (points_are n c (omega arith) h)
      (points_are n (o.plus c (b n)) (omega arith) (f.plus_is c (b n) h (H.base n (omega arith))))

  -- a hat is the same all over a coset of the span of the ones before it
  pub constant : (n k : ℕ) (c : E) → n < m → k ≤ n → P c → Each (λ x. hat n x ≡ hat n c) (points o b k c)
  constant n zero c l g h = (refl, tt)
  constant n (suc k) c l g h =
      let hb : P (b k) = H.base k (omega arith) in
      let e : hat n (o.plus c (b k)) ≡ hat n c =
      H.sum n c (b k) l h hb ∙ ap (o.plus (hat n c)) (H.below n k l (omega arith))
      ∙ f.plus-zero (hat n c) (H.is n c l h) in
      each_append (λ x. hat n x ≡ hat n c) (points o b k c) (points o b k (o.plus c (b k)))
      (constant n k c l (omega arith) h)
      (each_map (λ x. hat n x ≡ hat n (o.plus c (b k))) (λ x. hat n x ≡ hat n c) (λ x q. q ∙ e)
      (points o b k (o.plus c (b k)))
      (constant n k (o.plus c (b k)) l (omega arith) (f.plus_is c (b k) h hb)))

  -- the butterflies give all values on the coset
  pub flown_values : (n : ℕ) (c : E) (t : Tree E n) → n ≤ m → P c → Holds P n t
      → flat n (flown o hat b n c t) ≡ map (value_at n t) (points o b n c)
  flown_values zero c t l hc h = refl
  flown_values (suc n) c t l hc h =
      let k : n < m = omega arith in
      let hb : P (b n) = H.base n k in
      let s = hat n c in
      let hs : P s = H.is n c k hc in
      let u = add o.plus n t.low (each (o.times s) n t.high) in
      let w = add o.plus n u t.high in
      let d = o.plus c (b n) in
      let hd : P d = f.plus_is c (b n) hc hb in
      let R = λ (x : E) (hx : P x). reads n x (omega arith) hx in
      let hm : Holds P n (each (o.times s) n t.high) = (R c hc).by_ok s t.high hs h.1 in
      let hu : Holds P n u = (R c hc).plus_ok t.low (each (o.times s) n t.high) h.0 hm in
      let hw : Holds P n w = (R c hc).plus_ok u t.high hu h.1 in
      let at_u : (x : E) → P x → value_at n u x ≡ o.plus (value_at n t.low x) (o.times s (value_at n t.high x)) =
      λ x hx. (R x hx).sum t.low (each (o.times s) n t.high) h.0 hm
      ∙ ap (o.plus (value_at n t.low x)) ((R x hx).multiple s t.high hs h.1) in
      let first : (x : E) → (P x × (hat n x ≡ hat n c)) → value_at n u x ≡ value_at (suc n) t x =
      λ x q. at_u x q.0 ∙ ap (λ z. o.plus (value_at n t.low x) (o.times z (value_at n t.high x))) (sym q.1) in
      let one_more : hat n d ≡ o.plus s o.unit = H.sum n c (b n) k hc hb ∙ ap (o.plus s) (H.here n k) in
      let second : (x : E) → (P x × (hat n x ≡ hat n d)) → value_at n w x ≡ value_at (suc n) t x =
      λ x q.
      let lo = value_at n t.low x in
      let hi = value_at n t.high x in
      let hlo : P lo = (R x q.0).is t.low h.0 in
      let hhi : P hi = (R x q.0).is t.high h.1 in
      (R x q.0).sum u t.high hu h.1 ∙ ap (λ z. o.plus z hi) (at_u x q.0)
      ∙ f.plus_assoc lo (o.times s hi) hi hlo (f.times_is s hi hs hhi) hhi
      ∙ ap (o.plus lo) (ap (o.plus (o.times s hi)) (sym (f.times_comm o.unit hi f.one_is hhi ∙ f.times-one hi hhi))
      ∙ sym (A.plus-times P o f s o.unit hi hs f.one_is hhi))
      ∙ ap (λ z. o.plus lo (o.times z hi)) (sym (q.1 ∙ one_more)) in
      ap₂ ◌++◌ (flown_values n c u (omega arith) hc hu) (flown_values n d w (omega arith) hd hw)
      ∙ ap₂ ◌++◌
      (map_same (value_at n u) (value_at (suc n) t) (points o b n c)
      (each_map (λ x. P x × (hat n x ≡ hat n c)) (λ x. value_at n u x ≡ value_at (suc n) t x) first (points o b n c)
      (each_both P (λ x. hat n x ≡ hat n c) (points o b n c) (points_are n c (omega arith) hc)
      (constant n n c k (omega arith) hc))))
      (map_same (value_at n w) (value_at (suc n) t) (points o b n d)
      (each_map (λ x. P x × (hat n x ≡ hat n d)) (λ x. value_at n w x ≡ value_at (suc n) t x) second (points o b n d)
      (each_both P (λ x. hat n x ≡ hat n d) (points o b n d) (points_are n d (omega arith) hd)
      (constant n n d k (omega arith) hd))))
      ∙ sym (map_append (value_at (suc n) t) (points o b n c) (points o b n d))
