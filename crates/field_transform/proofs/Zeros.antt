-- Words that are zero from a place on: what is done with them leaves them zero, and so may be left out.
use Rattle.std.proofs.Common.{◌≡◌, ◌<◌, ◌≤◌, ◌+◌, ◌-◌, ◌*◌, ◌/◌, ◌^◌, ◌++◌, ℕ, zero, suc, List, [], ◌∷◌, All, length}
use Rattle.std.proofs.Common.{take, drop, get_or, map, inl, inr, refl, sym, ap, ap₂, ◌∙◌, arith, subst}
use Rattle.std.proofs.lemmas.Bool.{cases_lt}
use Rattle.std.proofs.lemmas.List.Elements.{All-take, All-drop}
use Rattle.std.proofs.lemmas.List.{get_or-drop, get_or-take, get_or_past, get_or_default, get_or_append_left}
use Rattle.std.proofs.lemmas.List.{get_or-append_right, length-take-le, take-append-drop}
use Rattle.field_elements.specs.Field.{Operations, IsField}
use Rattle.field_elements.specs.laws.FieldLaws.{times-zero}
use Rattle.field_rows.specs.Columns.{column}
use Rattle.field_rows.specs.laws.ColumnLaws.{column_elements}
use Rattle.field_transform.specs.Basis.{squared}
use Rattle.field_transform.specs.inside.Columnwise.{Columnwise, along, Lifts, Expands, Scales}
use Rattle.field_transform.proofs.Columns.{along_at, expands_pairs, pairs_low, scales_columns}
use Rattle.field_transform.proofs.OneColumn.{expands_zero, expands_suc, scales_zero, scales_suc}

module _ {E : Type 0} (d : E) where
  abbrev pub Zeros : List E → Type 0
  Zeros xs = (i : ℕ) → get_or xs i d ≡ d

  abbrev pub ZerosFrom : ℕ → List E → Type 0
  ZerosFrom k xs = (i : ℕ) → k ≤ i → get_or xs i d ≡ d

  -- ---- parts of such words

  pub zeros_take : (m : ℕ) (xs : List E) → Zeros xs → Zeros (take m xs)
  zeros_take zero xs z i = refl
  zeros_take (suc m) [] z i = refl
  zeros_take (suc m) (x ∷ xs) z zero = z 0
  zeros_take (suc m) (x ∷ xs) z (suc i) = zeros_take m xs (λ k. z (suc k)) i

  pub zeros_drop : (m : ℕ) (xs : List E) → Zeros xs → Zeros (drop m xs)
  zeros_drop m xs z i = get_or-drop m xs i d ∙ z (m + i)

  pub from_take : (m k : ℕ) (xs : List E) → ZerosFrom k xs → ZerosFrom k (take m xs)
  from_take zero k xs z i l = refl
  from_take (suc m) k [] z i l = refl
  from_take (suc m) k (x ∷ xs) z zero l = z 0 l
  from_take (suc m) k (x ∷ xs) z (suc i) l = from_take m (k - 1) xs (λ j h. z (suc j) (omega arith)) i (omega arith)

  pub from_drop : (m k : ℕ) (xs : List E) → ZerosFrom k xs → ZerosFrom (k - m) (drop m xs)
  from_drop m k xs z i l = get_or-drop m xs i d ∙ z (m + i) (omega arith)

  pub from_front : (m k : ℕ) (xs front : List E) → front ≡ take m xs → ZerosFrom k xs → ZerosFrom k front
  from_front m k xs front e z = subst (ZerosFrom k) (sym e) (from_take m k xs z)

  pub from_back : (m k : ℕ) (xs back : List E) → back ≡ drop m xs → ZerosFrom k xs → ZerosFrom (k - m) back
  from_back m k xs back e z = subst (ZerosFrom (k - m)) (sym e) (from_drop m k xs z)

  -- behind the words that may be others, or behind the end
  pub back_zeros : (known k : ℕ) (xs back : List E) → back ≡ drop k xs → (k < known → length xs ≤ k)
      → ZerosFrom known xs → Zeros back
  back_zeros known k xs back e all z i =
      ap (λ r. get_or r i d) e ∙ get_or-drop k xs i d
      ∙ elim (cases_lt k known) [
        | inl s ↦ get_or_past xs (k + i) d (omega (arith, all s))
        | inr s ↦ z (k + i) (omega arith)
      ]

  pub from_append : (k : ℕ) (xs ys : List E) → ZerosFrom k xs → ZerosFrom (k - length xs) ys → ZerosFrom k (xs ++ ys)
  from_append k xs ys zx zy i l =
      elim (cases_lt i (length xs)) [
        | inl s ↦ get_or_append_left xs ys d i s ∙ zx i l
        | inr s ↦ get_or-append_right xs ys (length xs) i d refl s ∙ zy (i - length xs) (omega arith)
      ]

  -- no place is past the end
  pub from_end : (k : ℕ) (xs : List E) → length xs ≤ k → ZerosFrom k xs
  from_end k xs h i l = get_or_past xs i d (omega arith)

  column_zeros : (w k c : ℕ) (rows : List E) → Zeros rows → Zeros (column d w k c rows)
  column_zeros w zero c rows z i = refl
  column_zeros w (suc k) c rows z zero = z c
  column_zeros w (suc k) c rows z (suc i) = column_zeros w k c (drop w rows) (zeros_drop w rows z) i

-- ---- sums

module _ {E : Type 0} (P : E → Type 0) (o : Operations E) (f : IsField P o) where
  element_at : (xs : List E) (i : ℕ) → All P xs → P (get_or xs i o.nought)
  element_at xs i h =
      elim (cases_lt i (length xs)) [
        | inl l ↦ h i o.nought l
        | inr l ↦ rw (get_or_past xs i o.nought l) f.zero_is
      ]

  zeros_are : (xs : List E) → Zeros o.nought xs → All P xs
  zeros_are xs z i d l = rw (get_or_default xs i d o.nought l ∙ z i) f.zero_is

  along_zeros : (xs ys : List E) → ((i : ℕ) → P (get_or xs i o.nought)) → Zeros o.nought ys → along o.plus xs ys ≡ xs
  along_zeros xs [] h z = refl
  along_zeros [] (y ∷ ys) h z = refl
  along_zeros (x ∷ xs) (y ∷ ys) h z =
      ap₂ ◌∷◌ (ap (o.plus x) (z 0) ∙ f.plus-zero x (h 0)) (along_zeros xs ys (λ i. h (suc i)) (λ i. z (suc i)))

  along_past : (xs ys : List E) (i : ℕ) → length ys ≤ i → get_or (along o.plus xs ys) i o.nought ≡ get_or xs i o.nought
  along_past xs [] i l = refl
  along_past [] (y ∷ ys) i l = refl
  along_past (x ∷ xs) (y ∷ ys) zero l = absurd (omega arith)
  along_past (x ∷ xs) (y ∷ ys) (suc i) l = along_past xs ys i (omega arith)

  -- at the end of a loop along the words that are not known to be zero
  pub along_known : (xs ys now : List E) (n i : ℕ) → n ≤ length ys → length xs ≡ length ys → All P xs
      → now ≡ along o.plus xs (take n ys) → ZerosFrom o.nought n ys
      → i < length ys → get_or now i o.nought ≡ o.plus (get_or xs i o.nought) (get_or ys i o.nought)
  along_known xs ys now n i few m h is z l =
      let d = o.nought in
      let long : length (take n ys) ≡ n = length-take-le n ys few in
      elim (cases_lt i n) [
        | inl s ↦
            ap (λ r. get_or r i d) is ∙ along_at d o.plus xs (take n ys) i (omega arith) (omega arith)
            ∙ ap (o.plus (get_or xs i d)) (get_or-take n ys i d s)
        | inr s ↦
            ap (λ r. get_or r i d) is ∙ along_past xs (take n ys) i (omega arith)
            ∙ sym (ap (o.plus (get_or xs i d)) (z i s) ∙ f.plus-zero (get_or xs i d) (element_at xs i h))
      ]

  pub sum_from : (k : ℕ) (xs ys new : List E) → length new ≡ length xs → length xs ≡ length ys
      → ((i : ℕ) → i < length ys → get_or new i o.nought ≡ o.plus (get_or xs i o.nought) (get_or ys i o.nought))
      → ZerosFrom o.nought k xs → ZerosFrom o.nought k ys
      → ZerosFrom o.nought k new
  sum_from k xs ys new e m is zx zy i l =
      elim (cases_lt i (length ys)) [
        | inl s ↦ is i s ∙ ap₂ o.plus (zx i l) (zy i l) ∙ f.plus-zero o.nought f.zero_is
        | inr s ↦ get_or_past new i o.nought (omega arith)
      ]

  -- ---- the expansion

  -- the third quarter with the fourth added, and both
  module _ (k m : ℕ) (high third fourth new : List E) (front : third ≡ take m high) (back : fourth ≡ drop m high)
      (long : length new ≡ length third)
      (same : length third ≡ length fourth)
      (is : (i : ℕ) → i < length fourth
      → get_or new i o.nought ≡ o.plus (get_or third i o.nought) (get_or fourth i o.nought))
      (z : ZerosFrom o.nought k high) where
    pub third_zeros : ZerosFrom o.nought k new
    third_zeros =
        sum_from k third fourth new long same is (from_front o.nought m k high third front z)
        (λ i l. from_back o.nought m k high fourth back z i (omega arith))

    pub lifted_zeros : length third ≡ m → ZerosFrom o.nought k (new ++ fourth)
    lifted_zeros e =
        from_append o.nought k new fourth third_zeros (λ i l. from_back o.nought m k high fourth back z i (omega arith))

  lifts_nothing : (m : ℕ) (low high : List E) → All P low → Zeros o.nought high → Lifts o m low high low high
  lifts_nothing m low high h z =
      let hh : All P high = zeros_are high z in
      let e : along o.plus (take m high) (drop m high) ≡ take m high =
      along_zeros (take m high) (drop m high) (λ i. element_at (take m high) i (All-take P m high hh))
      (zeros_drop o.nought m high z) in
      record {
        front =
            sym (ap (λ r. take m low ++ along o.plus (drop m low) r) e
            ∙ ap (λ r. take m low ++ r) (along_zeros (drop m low) (take m high)
            (λ i. element_at (drop m low) i (All-drop P m low h)) (zeros_take o.nought m high z))
            ∙ take-append-drop m low);
        back = sym (ap (λ r. r ++ drop m high) e ∙ take-append-drop m high);
      }

  expands_zeros : (j n : ℕ) (rows : List E) → Zeros o.nought rows → Expands o j n rows rows
  expands_zeros j zero rows z = expands_zero o j rows
  expands_zeros j (suc n) rows z =
      let m = 2 ^ (j + suc n) in
      let low : List E = take m rows in
      let high : List E = drop m rows in
      let zl = zeros_take o.nought m rows z in
      let zh = zeros_drop o.nought m rows z in
      let l = lifts_nothing (2 ^ (j + n)) low high (zeros_are low zl) zh in
      subst (Expands o j (suc n) rows) (take-append-drop m rows)
      (expands_suc o j n rows low high low high low high refl refl l.front l.back (expands_zeros j n low zl)
      (expands_zeros j n high zh))

  -- rows of which the higher half is zero
  pub expands_low : (j level w m : ℕ) (rows low high new_low : List E) → 0 < level
      → length rows ≡ 2 ^ (j + level + 1) * w → m ≡ length rows / 2
      → low ≡ take m rows → high ≡ drop m rows → length new_low ≡ length low → All P rows → Zeros o.nought high
      → Columnwise o.nought (Expands o j (level - 1)) w (2 ^ (j + (level - 1) + 1)) low new_low
      → Columnwise o.nought (Expands o j level) w (2 ^ (j + level + 1)) rows (new_low ++ high)
  expands_low j level w m rows low high new_low s long em l h nl hr z g =
      let d = o.nought in
      let k = 2 ^ (j + (level - 1) + 1) in
      let ol : length low ≡ k * w = pairs_low j level w m rows s long em low l in
      let hl : All P low = subst (All P) (sym l) (All-take P m rows hr) in
      expands_pairs o j level w m rows low high low high new_low high s long em l h (nl ∙ ol)
      (λ i li.
      lifts_nothing (2 ^ (j + (level - 1))) (column d w k i low) (column d w k i high)
      (column_elements P d w k i low li (omega arith) hl) (column_zeros d w k i high z)) g
      (λ i li. expands_zeros j (level - 1) (column d w k i high) (column_zeros d w k i high z))

  -- ---- the scaling

  squared_is : (n : ℕ) (g : E) → P g → P (squared o n g)
  squared_is zero g h = h
  squared_is (suc n) g h = squared_is n (o.times g g) (f.times_is g g h h)

  map_zeros : (by : E → E) (xs : List E) → by o.nought ≡ o.nought → Zeros o.nought xs → map by xs ≡ xs
  map_zeros by [] e z = refl
  map_zeros by (x ∷ xs) e z = ap₂ ◌∷◌ (ap by (z 0) ∙ e ∙ sym (z 0)) (map_zeros by xs e (λ i. z (suc i)))

  scales_zeros : (j n : ℕ) (g a : E) (rows : List E) → P a → P g → Zeros o.nought rows → Scales o j n g a rows rows
  scales_zeros j zero g a rows ha hg z =
      subst (Scales o j 0 g a rows) (map_zeros (o.times a) rows (times-zero P o f a ha) z) (scales_zero o j g a rows)
  scales_zeros j (suc n) g a rows ha hg z =
      let m = 2 ^ (j + n) in
      let low : List E = take m rows in
      let high : List E = drop m rows in
      let b = squared o n g in
      subst (Scales o j (suc n) g a rows) (take-append-drop m rows)
      (scales_suc o j n g a rows low high low high refl refl
      (scales_zeros j n g a low ha hg (zeros_take o.nought m rows z))
      (scales_zeros j n g (o.times a b) high (f.times_is a b ha (squared_is n g hg)) hg (zeros_drop o.nought m rows z)))

  pub scales_low : (w level n j : ℕ) (g a : E) (m k r : ℕ) (rows low high new_low : List E) → level ≡ suc n
      → k ≡ 2 ^ (j + n) → r ≡ k + k → length rows ≡ r * w
      → m ≡ length rows / 2 → low ≡ take m rows → high ≡ drop m rows → length new_low ≡ k * w → P a → P g
      → Zeros o.nought high
      → Columnwise o.nought (Scales o j n g a) w k low new_low
      → Columnwise o.nought (Scales o j level g a) w r rows (new_low ++ high)
  scales_low w level n j g a m k r rows low high new_low e ek er long em l h nl ha hg z q =
      let d = o.nought in
      let b = o.times a (squared o n g) in
      scales_columns o w level n j g a b m k r rows low high new_low high e ek er long em l h nl refl q
      (λ i li. scales_zeros j n g b (column d w k i high) (f.times_is a (squared o n g) ha (squared_is n g hg)) hg
      (column_zeros d w k i high z))

  -- words of which the first k are multiplied, and the others are zero
  pub products_known : (a : E) (k : ℕ) (rows front back new : List E) → P a → front ≡ take k rows → back ≡ drop k rows
      → length front ≡ k → length new ≡ k
      → Zeros o.nought back → ((i : ℕ) → i < length front → get_or new i o.nought ≡ o.times a (get_or front i o.nought))
      → (i : ℕ) → i < length rows → get_or (new ++ back) i o.nought ≡ o.times a (get_or rows i o.nought)
  products_known a k rows front back new ha ef eb nf nn z is i l =
      let d = o.nought in
      elim (cases_lt i k) [
        | inl s ↦
            get_or_append_left new back d i (omega arith) ∙ is i (omega arith) ∙ ap (λ r. o.times a (get_or r i d)) ef
            ∙ ap (o.times a) (get_or-take k rows i d s)
        | inr s ↦
            let e : k + (i - k) ≡ i = omega arith in
            let nothing : get_or rows i d ≡ d =
            ap (λ t. get_or rows t d) (sym e) ∙ sym (get_or-drop k rows (i - k) d)
            ∙ ap (λ r. get_or r (i - k) d) (sym eb) ∙ z (i - k) in
            get_or-append_right new back k i d nn s ∙ z (i - k) ∙ sym (ap (o.times a) nothing ∙ times-zero P o f a ha)
      ]

  -- what is added without a product, and what is multiplied without one
  pub nothing_added : (by a b : E) → by ≡ o.nought → P a → P b → a ≡ o.plus a (o.times by b)
  nothing_added by a b e ha hb =
      let z : o.times by b ≡ o.nought = ap (λ t. o.times t b) e ∙ f.times_comm o.nought b f.zero_is hb
      ∙ times-zero P o f b hb in
      sym (ap (o.plus a) z ∙ f.plus-zero a ha)

  pub once : (by b : E) → by ≡ o.unit → P b → b ≡ o.times by b
  once by b e hb = sym (ap (λ t. o.times t b) e ∙ f.times_comm o.unit b f.one_is hb ∙ f.times-one b hb)
