-- A tree whose leaves are read linearly is read linearly, and what the expansion and the scaling leave it worth.
use Rattle.std.proofs.Common.{◌≡◌, ◌<◌, ℕ, zero, suc, refl, sym, ap, ap₂, ◌∙◌, arith}
use Rattle.field_elements.specs.Field.{Operations, IsField}
use Rattle.field_elements.specs.laws.FieldLaws as A
use Rattle.field_transform.specs.Basis.{squared}
use Rattle.field_transform.specs.inside.Trees.{Two, Tree, add, each, expanded, scaled}
use Rattle.field_transform.proofs.Leaves.{Holds, weighed}

-- v reads a vector as an element, and is linear
pub record IsReading {E B : Type 0} (P : E → Type 0) (o : Operations E) (ok : B → Type 0) (plus : B → B → B)
    (by : E → B → B) (v : B → E) : Type 0 where
  pub plus_ok : (a b : B) → ok a → ok b → ok (plus a b)
  pub by_ok : (s : E) (b : B) → P s → ok b → ok (by s b)
  pub is : (b : B) → ok b → P (v b)
  pub sum : (a b : B) → ok a → ok b → v (plus a b) ≡ o.plus (v a) (v b)
  pub multiple : (s : E) (b : B) → P s → ok b → v (by s b) ≡ o.times s (v b)

module _ {E : Type 0} (P : E → Type 0) (o : Operations E) (f : IsField P o)
    (two : (a : E) → P a → o.plus a a ≡ o.nought) where
  pub lin_plus : (a a' h b b' : E) → P a → P a' → P h → P b → P b'
      → o.plus (o.plus a a') (o.times h (o.plus b b')) ≡ o.plus (o.plus a (o.times h b)) (o.plus a' (o.times h b'))
  lin_plus a a' h b b' ha ha' hh hb hb' =
      ap (o.plus (o.plus a a')) (f.times-plus h b b' hh hb hb')
      ∙ A.plus_swap P o f a a' (o.times h b) (o.times h b') ha ha' (f.times_is h b hh hb) (f.times_is h b' hh hb')

  pub lin_times : (s a h b : E) → P s → P a → P h → P b
      → o.plus (o.times s a) (o.times h (o.times s b)) ≡ o.times s (o.plus a (o.times h b))
  lin_times s a h b hs ha hh hb =
      ap (o.plus (o.times s a)) (A.times_left_comm P o f h s b hh hs hb)
      ∙ sym (f.times-plus s a (o.times h b) hs ha (f.times_is h b hh hb))

  -- ---- characteristic two
  pub twice : (a b : E) → P a → P b → o.plus a (o.plus a b) ≡ b
  twice a b ha hb = sym (f.plus_assoc a a b ha ha hb) ∙ ap (λ z. o.plus z b) (two a ha) ∙ A.zero-plus P o f b hb

  pub square_plus : (a b : E) → P a → P b → o.times (o.plus a b) (o.plus a b) ≡ o.plus (o.times a a) (o.times b b)
  square_plus a b ha hb =
      let ab : P (o.times a b) = f.times_is a b ha hb in
      let aa : P (o.times a a) = f.times_is a a ha ha in
      let bb : P (o.times b b) = f.times_is b b hb hb in
      A.plus-times P o f a b (o.plus a b) ha hb (f.plus_is a b ha hb)
      ∙ ap₂ o.plus (f.times-plus a a b ha ha hb)
      (f.times-plus b a b hb ha hb ∙ ap (λ z. o.plus z (o.times b b)) (f.times_comm b a hb ha))
      ∙ f.plus_assoc (o.times a a) (o.times a b) (o.plus (o.times a b) (o.times b b)) aa ab
      (f.plus_is (o.times a b) (o.times b b) ab bb)
      ∙ ap (o.plus (o.times a a)) (twice (o.times a b) (o.times b b) ab bb)

  pub square_times : (a b : E) → P a → P b → o.times (o.times a b) (o.times a b) ≡ o.times (o.times a a) (o.times b b)
  square_times a b ha hb =
      f.times_assoc a b (o.times a b) ha hb (f.times_is a b ha hb)
      ∙ ap (o.times a) (A.times_left_comm P o f b a b hb ha hb)
      ∙ sym (f.times_assoc a a (o.times b b) ha ha (f.times_is b b hb hb))

  pub squared_is : (n : ℕ) (y : E) → P y → P (squared o n y)
  squared_is zero y h = h
  squared_is (suc n) y h = squared_is n (o.times y y) (f.times_is y y h h)

  pub squared_plus : (n : ℕ) (a b : E) → P a → P b → squared o n (o.plus a b) ≡ o.plus (squared o n a) (squared o n b)
  squared_plus zero a b ha hb = refl
  squared_plus (suc n) a b ha hb =
      ap (squared o n) (square_plus a b ha hb)
      ∙ squared_plus n (o.times a a) (o.times b b) (f.times_is a a ha ha) (f.times_is b b hb hb)

  pub squared_times : (n : ℕ) (a b : E) → P a → P b
      → squared o n (o.times a b) ≡ o.times (squared o n a) (squared o n b)
  squared_times zero a b ha hb = refl
  squared_times (suc n) a b ha hb =
      ap (squared o n) (square_times a b ha hb)
      ∙ squared_times n (o.times a a) (o.times b b) (f.times_is a a ha ha) (f.times_is b b hb hb)

  -- ---- a tree is read linearly, where its leaves are
  module _ {B : Type 0} (ok : B → Type 0) (plus : B → B → B) (by : E → B → B) (v : B → E)
      (r : IsReading P o ok plus by v)
      (w : ℕ → E) where
    add_ok : (n : ℕ) (s t : Tree B n) → Holds ok n s → Holds ok n t → Holds ok n (add plus n s t)
    add_ok zero s t hs ht = r.plus_ok s t hs ht
    add_ok (suc n) s t hs ht = (add_ok n s.low t.low hs.0 ht.0, add_ok n s.high t.high hs.1 ht.1)

    each_ok : (n : ℕ) (a : E) (t : Tree B n) → P a → Holds ok n t → Holds ok n (each (by a) n t)
    each_ok zero a t ha ht = r.by_ok a t ha ht
    each_ok (suc n) a t ha ht = (each_ok n a t.low ha ht.0, each_ok n a t.high ha ht.1)

    weighed_is : (n : ℕ) (t : Tree B n) → ((i : ℕ) → i < n → P (w i)) → Holds ok n t → P (weighed o v w n t)
    weighed_is zero t hw h = r.is t h
    weighed_is (suc n) t hw h =
        let hw' : (i : ℕ) → i < n → P (w i) = λ i l. hw i (omega arith) in
        f.plus_is (weighed o v w n t.low) (o.times (w n) (weighed o v w n t.high)) (weighed_is n t.low hw' h.0)
        (f.times_is (w n) (weighed o v w n t.high) (hw n (omega arith)) (weighed_is n t.high hw' h.1))

    weighed_add : (n : ℕ) (s t : Tree B n) → ((i : ℕ) → i < n → P (w i)) → Holds ok n s → Holds ok n t
        → weighed o v w n (add plus n s t) ≡ o.plus (weighed o v w n s) (weighed o v w n t)
    weighed_add zero s t hw hs ht = r.sum s t hs ht
    weighed_add (suc n) s t hw hs ht =
        let hw' : (i : ℕ) → i < n → P (w i) = λ i l. hw i (omega arith) in
        ap₂ (λ a b. o.plus a (o.times (w n) b)) (weighed_add n s.low t.low hw' hs.0 ht.0)
        (weighed_add n s.high t.high hw' hs.1 ht.1)
        ∙ lin_plus (weighed o v w n s.low) (weighed o v w n t.low) (w n) (weighed o v w n s.high)
        (weighed o v w n t.high)
        (weighed_is n s.low hw' hs.0) (weighed_is n t.low hw' ht.0) (hw n (omega arith)) (weighed_is n s.high hw' hs.1)
        (weighed_is n t.high hw' ht.1)

    weighed_each : (n : ℕ) (a : E) (t : Tree B n) → ((i : ℕ) → i < n → P (w i)) → P a → Holds ok n t
        → weighed o v w n (each (by a) n t) ≡ o.times a (weighed o v w n t)
    weighed_each zero a t hw ha ht = r.multiple a t ha ht
    weighed_each (suc n) a t hw ha ht =
        let hw' : (i : ℕ) → i < n → P (w i) = λ i l. hw i (omega arith) in
        ap₂ (λ p q. o.plus p (o.times (w n) q)) (weighed_each n a t.low hw' ha ht.0)
        (weighed_each n a t.high hw' ha ht.1)
        ∙ lin_times a (weighed o v w n t.low) (w n) (weighed o v w n t.high) ha (weighed_is n t.low hw' ht.0)
        (hw n (omega arith)) (weighed_is n t.high hw' ht.1)

    -- so the trees of one height are again such vectors
    pub trees_read : (n : ℕ) → ((i : ℕ) → i < n → P (w i))
        → IsReading P o (Holds ok n) (add plus n) (λ a. each (by a) n) (weighed o v w n)
    trees_read n hw = record {
      plus_ok = add_ok n;
      by_ok = each_ok n;
      is = λ t h. weighed_is n t hw h;
      sum = λ s t hs ht. weighed_add n s t hw hs ht;
      multiple = λ a t ha ht. weighed_each n a t hw ha ht;
    }

  -- ---- one step of the expansion: f0 .. f3 are the values of the quarters, p and p p the weights
  pub expansion_step : (p a b c d : E) → P p → P a → P b → P c → P d
      → o.plus (o.plus a (o.times p b)) (o.times (o.times p p) (o.plus c (o.times p d)))
      ≡ o.plus (o.plus a (o.times p (o.plus b (o.plus c d))))
      (o.times (o.plus (o.times p p) p) (o.plus (o.plus c d) (o.times p d)))
  expansion_step p a b c d hp ha hb hc hd =
      let q = o.times p p in
      let g = o.plus c d in
      let pd = o.times p d in
      let s = o.plus g pd in
      let m = o.plus a (o.times p b) in
      let hq : P q = f.times_is p p hp hp in
      let hg : P g = f.plus_is c d hc hd in
      let hpd : P pd = f.times_is p d hp hd in
      let hs : P s = f.plus_is g pd hg hpd in
      let hpb : P (o.times p b) = f.times_is p b hp hb in
      let hm : P m = f.plus_is a (o.times p b) ha hpb in
      let hpg : P (o.times p g) = f.times_is p g hp hg in
      let hqd : P (o.times q d) = f.times_is q d hq hd in
      let hqs : P (o.times q s) = f.times_is q s hq hs in
      let left : o.plus a (o.times p (o.plus b g)) ≡ o.plus m (o.times p g) =
      ap (o.plus a) (f.times-plus p b g hp hb hg) ∙ sym (f.plus_assoc a (o.times p b) (o.times p g) ha hpb hpg) in
      let ps : o.times p s ≡ o.plus (o.times p g) (o.times q d) =
      f.times-plus p g pd hp hg hpd ∙ ap (o.plus (o.times p g)) (sym (f.times_assoc p p d hp hp hd)) in
      let right : o.times (o.plus q p) s ≡ o.plus (o.times p g) (o.plus (o.times q d) (o.times q s)) =
      A.plus-times P o f q p s hq hp hs ∙ f.plus_comm (o.times q s) (o.times p s) hqs (f.times_is p s hp hs)
      ∙ ap (λ z. o.plus z (o.times q s)) ps ∙ f.plus_assoc (o.times p g) (o.times q d) (o.times q s) hpg hqd hqs in
      let inner : o.plus d s ≡ o.plus c pd =
      sym (f.plus_assoc d g pd hd hg hpd)
      ∙ ap (λ z. o.plus z pd) (ap (o.plus d) (f.plus_comm c d hc hd) ∙ twice d c hd hc) in
      let rest = o.plus (o.times q d) (o.times q s) in
      let hrest : P rest = f.plus_is (o.times q d) (o.times q s) hqd hqs in
      let all : rest ≡ o.times q (o.plus c pd) = sym (f.times-plus q d s hq hd hs) ∙ ap (o.times q) inner in
      sym (ap₂ o.plus left right
      ∙ f.plus_assoc m (o.times p g) (o.plus (o.times p g) rest) hm hpg (f.plus_is (o.times p g) rest hpg hrest)
      ∙ ap (o.plus m) (twice (o.times p g) rest hpg hrest ∙ all))

  module _ {B : Type 0} (ok : B → Type 0) (plus : B → B → B) (by : E → B → B) (v : B → E)
      (r : IsReading P o ok plus by v) where
    -- two vectors, read at y
    abbrev pub at : E → Two B → E
    at y t = o.plus (v t.low) (o.times y (v t.high))

    abbrev pub powers : E → ℕ → E
    powers y n = squared o n y

    powers_are : (y : E) → P y → (n i : ℕ) → i < n → P (powers y i)
    powers_are y hy n i l = squared_is i y hy

    pub expanded_value : (n : ℕ) (t : Tree B (suc n)) (y : E) → P y → Holds ok (suc n) t
        → weighed o v (powers y) (suc n) t ≡ weighed o (at y) (powers (o.plus (o.times y y) y)) n (expanded plus n t)
    expanded_value zero t y hy h = refl
    expanded_value (suc n) t y hy h =
        let hw = powers_are y hy n in
        let w = weighed o v (powers y) n in
        let p = squared o n y in
        let f0 = t.low.low in
        let f1 = t.low.high in
        let f2 = t.high.low in
        let f3 = t.high.high in
        let T = trees_read ok plus by v r (powers y) n hw in
        let g = add plus n f2 f3 in
        let hg : Holds ok n g = T.plus_ok f2 f3 h.1.0 h.1.1 in
        let hf1 : Holds ok n (add plus n f1 g) = T.plus_ok f1 g h.0.1 hg in
        let sums : o.plus (o.plus (w f0) (o.times p (w (add plus n f1 g))))
        (o.times (o.plus (o.times p p) p) (o.plus (w g) (o.times p (w f3))))
        ≡ o.plus (o.plus (w f0) (o.times p (o.plus (w f1) (o.plus (w f2) (w f3)))))
        (o.times (o.plus (o.times p p) p) (o.plus (o.plus (w f2) (w f3)) (o.times p (w f3)))) =
        ap₂ (λ a b. o.plus (o.plus (w f0) (o.times p a))
        (o.times (o.plus (o.times p p) p) (o.plus b (o.times p (w f3)))))
        (T.sum f1 g h.0.1 hg ∙ ap (o.plus (w f1)) (T.sum f2 f3 h.1.0 h.1.1)) (T.sum f2 f3 h.1.0 h.1.1) in
        let weight : squared o n (o.plus (o.times y y) y) ≡ o.plus (o.times p p) p =
        squared_plus n (o.times y y) y (f.times_is y y hy hy) hy ∙ ap (λ z. o.plus z p) (squared_times n y y hy hy) in
        ap (λ z. o.plus (o.plus (w f0) (o.times p (w f1))) (o.times z (o.plus (w f2) (o.times p (w f3)))))
        (squared_times n y y hy hy)
        ∙ expansion_step p (w f0) (w f1) (w f2) (w f3) (squared_is n y hy) (T.is f0 h.0.0) (T.is f1 h.0.1)
        (T.is f2 h.1.0) (T.is f3 h.1.1)
        ∙ sym sums
        ∙ ap₂ (λ a b. o.plus a (o.times (o.plus (o.times p p) p) b))
        (expanded_value n (record { low = f0; high = add plus n f1 g }) y hy (h.0.0, hf1))
        (expanded_value n (record { low = g; high = f3 }) y hy (hg, h.1.1))
        ∙ ap (λ z. o.plus (weighed o (at y) (powers (o.plus (o.times y y) y)) n
        (expanded plus n (record { low = f0; high = add plus n f1 g })))
        (o.times z (weighed o (at y) (powers (o.plus (o.times y y) y)) n
        (expanded plus n (record { low = g; high = f3 }))))) (sym weight)

    -- the leaf i times g to the power i: the powers of g z become those of z
    pub scaled_value : (n : ℕ) (t : Tree B n) (a g z : E) → P a → P g → P z → Holds ok n t
        → weighed o v (powers z) n (scaled o by g n a t) ≡ o.times a (weighed o v (powers (o.times g z)) n t)
    scaled_value zero t a g z ha hg hz h = r.multiple a t ha h
    scaled_value (suc n) t a g z ha hg hz h =
        let u = squared o n g in
        let hu : P u = squared_is n g hg in
        let x = squared o n z in
        let hx : P x = squared_is n z hz in
        let gz : P (o.times g z) = f.times_is g z hg hz in
        let T = trees_read ok plus by v r (powers (o.times g z)) n (powers_are (o.times g z) gz n) in
        let l = weighed o v (powers (o.times g z)) n t.low in
        let m = weighed o v (powers (o.times g z)) n t.high in
        let hl : P l = T.is t.low h.0 in
        let hm : P m = T.is t.high h.1 in
        ap₂ (λ p q. o.plus p (o.times x q)) (scaled_value n t.low a g z ha hg hz h.0)
        (scaled_value n t.high (o.times a u) g z (f.times_is a u ha hu) hg hz h.1)
        ∙ ap (λ q. o.plus (o.times a l) (o.times x q)) (f.times_assoc a u m ha hu hm)
        ∙ lin_times a l x (o.times u m) ha hl hx (f.times_is u m hu hm)
        ∙ ap (λ q. o.times a (o.plus l q)) (A.times_left_comm P o f x u m hx hu hm ∙ sym (f.times_assoc u x m hu hx hm)
        ∙ ap (λ q. o.times q m) (sym (squared_times n g z hg hz)))
