-- The columns of a block's rows, when rows are written.
use Rattle.std.proofs.Common.{◌≡◌, ℕ, zero, suc, ◌+◌, ◌-◌, ◌*◌, ◌<◌, ◌≤◌, inl, inr, List, [], ◌∷◌, ◌++◌, All, length}
use Rattle.std.proofs.Common.{get_or, take, drop, refl, sym, ap, ap₂, ◌∙◌, arith, append_assoc}
use Rattle.std.specs.Prelude.{nat_lt}
use Rattle.std.proofs.lemmas.Bool.{cases_lt, lt-ltb, cond-true}
use Rattle.std.proofs.lemmas.List.{get_or_append_left, get_or-append_right, length-take-le, length-drop, length-append}
use Rattle.std.proofs.lemmas.List.{drop-append-le, take-append-drop, take_at, drop_at, drop_all, append-nil, ext_get_or}
use borrow.Rule.Slice.PartMut.{put_mid}
use Rattle.field_elements.specs.Field.{Operations, IsField}
use Rattle.pet_poly.specs.Value.{value}
use Rattle.pet_poly.specs.InPlace.{scaled_sum}
use Rattle.pet_poly.specs.laws.InPlaceLaws as I
use Rattle.field_rows.specs.Columns.{column}
use Rattle.field_rows.specs.laws.ColumnLaws.{length-column, column_at}
use Rattle.field_rows.specs.laws.PlaceLaws.{more_rows, rows_le}
use Rattle.field_rows.proofs.Parts.{scaled_entry}
use Rattle.pet_interp.specs.inside.Lifted.{begun, grown}

pub parts : (a b w : ℕ) → (a + b) * w ≡ a * w + b * w
parts a b w = omega arith

pub back : (a b : ℕ) → a ≤ b → b ≡ a + (b - a)
back a b l = omega arith

-- rows behind rows
pub column_append : {E : Type 0} (d : E) (w k m n c : ℕ) (first rest : List E) → k ≡ m + n → length first ≡ m * w
    → c < w
    → column d w k c (first ++ rest) ≡ column d w m c first ++ column d w n c rest
column_append d w k zero n c [] rest e long l = ap (λ j. column d w j c rest) (omega arith)
column_append d w k zero n c (x ∷ first) rest e long l = absurd (omega arith)
column_append d w zero (suc m) n c first rest e long l = absurd (omega arith)
column_append d w (suc k) (suc m) n c first rest e long l =
    let room : w ≤ length first = omega (arith, long, more_rows m w) in
    ap₂ ◌∷◌ (get_or_append_left first rest d c (omega arith))
    (ap (column d w k c) (drop-append-le w first rest room)
    ∙ column_append d w k m n c (drop w first) rest (omega arith)
    (length-drop w first ∙ omega (arith, long, more_rows m w)) l)

-- ---- a sum with multiples, place by place

pub scaled_high : {E : Type 0} (o : Operations E) (by d : E) (xs ys : List E) (c : ℕ) → length ys ≤ c
    → length ys ≤ length xs
    → get_or (scaled_sum o by xs ys) c d ≡ get_or xs c d
scaled_high o by d xs [] c l m = refl
scaled_high o by d [] (y ∷ ys) c l m = absurd (omega arith)
scaled_high o by d (x ∷ xs) (y ∷ ys) zero l m = absurd (omega arith)
scaled_high o by d (x ∷ xs) (y ∷ ys) (suc c) l m = scaled_high o by d xs ys c (omega arith) (omega arith)

pub scaled_front : {E : Type 0} (o : Operations E) (by : E) (xs zs ys : List E) → length ys ≤ length xs
    → scaled_sum o by (xs ++ zs) ys ≡ scaled_sum o by xs ys ++ zs
scaled_front o by xs zs [] l = refl
scaled_front o by [] zs (y ∷ ys) l = absurd (omega arith)
scaled_front o by (x ∷ xs) zs (y ∷ ys) l =
    ap (λ t. o.plus x (o.times by y) ∷ t) (scaled_front o by xs zs ys (omega arith))

-- ---- rows that are split before row `met`

module _ {E : Type 0} (d : E) (w k met c : ℕ) (low rest : List E) (long : length low ≡ met * w) (few : met < k)
    (l : c < w) where
  abbrev pub behind : List E
  behind = column d w (k - met - 1) c (drop w rest)

  pub split_column : column d w k c (low ++ rest)
      ≡ column d w met c low ++ (get_or rest c d ∷ column d w (k - met - 1) c (drop w rest))
  split_column = column_append d w k met (suc (k - met - 1)) c low rest (omega arith) long l

  pub column_front : take met (column d w k c (low ++ rest)) ≡ column d w met c low
  column_front =
      ap (take met) split_column
      ∙ take_at (column d w met c low) (get_or rest c d ∷ behind) met (length-column d w met c low)

  pub column_back : drop (met + 1) (column d w k c (low ++ rest)) ≡ behind
  column_back =
      let e : (column d w met c low ++ (get_or rest c d ∷ [])) ++ behind
      ≡ column d w met c low ++ (get_or rest c d ∷ behind) =
      append_assoc (column d w met c low) (get_or rest c d ∷ []) behind in
      ap (drop (met + 1)) (split_column ∙ sym e)
      ∙ drop_at (column d w met c low ++ (get_or rest c d ∷ [])) behind (met + 1)
      (length-append (column d w met c low) (get_or rest c d ∷ []) ∙ ap (λ n. n + 1) (length-column d w met c low))

  pub column_here : get_or (column d w k c (low ++ rest)) met d ≡ get_or rest c d
  column_here =
      let z : met - met ≡ 0 = omega arith in
      ap (λ t. get_or t met d) split_column
      ∙ get_or-append_right (column d w met c low) (get_or rest c d ∷ behind) met met d (length-column d w met c low)
      (omega arith)
      ∙ ap (λ n. get_or (get_or rest c d ∷ behind) n d) z

-- ---- row `met` is written

module _ {E : Type 0} (P : E → Type 0) (o : Operations E) (f : IsField P o) (w k met c : ℕ)
    (rows low rest row : List E) (x inverse y v e b : E)
    (front : low ≡ take (met * w) rows) (back : rest ≡ drop (met * w) rows) (whole : length rows ≡ k * w)
    (few : met < k) (l : c < w) (long_row : length row ≡ w)
    (v_is : v ≡ value o (column o.nought w met c low) x) (e_is : e ≡ o.minus y v)
    (b_is : get_or row c o.nought ≡ o.times inverse e) (hi : P inverse) (he : P e) where
  long_low : length low ≡ met * w
  long_low = ap length front ∙ length-take-le (met * w) rows (omega (arith, whole, rows_le met k w (omega arith)))

  rows_are : rows ≡ low ++ rest
  rows_are = sym (take-append-drop (met * w) rows) ∙ sym (ap₂ ◌++◌ front back)

  pub begun_column : column o.nought w k c (low ++ (row ++ drop w rest))
      ≡ begun o met x inverse (column o.nought w k c rows) y
  begun_column =
      let z = o.nought in
      let S = column z w k c rows in
      let same : S ≡ column z w k c (low ++ rest) = ap (column z w k c) rows_are in
      let here : get_or (row ++ drop w rest) c z ≡ o.times (o.minus y (value o (take met S) x)) inverse =
      get_or_append_left row (drop w rest) z c (omega arith) ∙ b_is ∙ f.times_comm inverse e hi he
      ∙ ap (λ t. o.times t inverse) (e_is
      ∙ ap (o.minus y)
      (v_is ∙ ap (λ s. value o s x) (sym (ap (take met) same ∙ column_front z w k met c low rest long_low few l)))) in
      let after : drop w (row ++ drop w rest) ≡ drop w rest = drop_at row (drop w rest) w long_row in
      split_column z w k met c low (row ++ drop w rest) long_low few l
      ∙ ap₂ ◌++◌ (sym (ap (take met) same ∙ column_front z w k met c low rest long_low few l))
      (ap₂ ◌∷◌ here (ap (column z w (k - met - 1) c) after
      ∙ sym (ap (drop (met + 1)) same ∙ column_back z w k met c low rest long_low few l)))
      ∙ sym (cond-true (nat_lt met (length S))
      (take met S ++ (o.times (o.minus y (value o (take met S) x)) inverse ∷ drop (met + 1) S)) S
      (lt-ltb met (length S) (omega (arith, length-column z w k c rows))))

-- ---- multiples of row `met` are added from row `from` on

module _ {E : Type 0} (P : E → Type 0) (o : Operations E) (f : IsField P o) (w k met from c : ℕ)
    (rows low rest part factors : List E)
    (front : low ≡ take (met * w) rows) (back : rest ≡ drop (met * w) rows) (whole : length rows ≡ k * w)
    (few : met < k) (l : c < w)
    (room : from + length factors ≤ met) (long_part : length part ≡ (met - from) * w) (hf : All P factors)
    (hr : P (get_or rest c o.nought))
    (sums : (j : ℕ) → j < length factors
    → get_or part (j * w + c) o.nought
    ≡ o.plus (get_or (drop (from * w) low) (j * w + c) o.nought)
    (o.times (get_or factors j o.nought) (get_or rest c o.nought)))
    (others : (j : ℕ) → length factors ≤ j → j < met - from
    → get_or part (j * w + c) o.nought ≡ get_or (drop (from * w) low) (j * w + c) o.nought) where
  abbrev z : E
  z = o.nought

  size_low : length low ≡ met * w
  size_low = ap length front ∙ length-take-le (met * w) rows (omega (arith, whole, rows_le met k w (omega arith)))

  rows_split : rows ≡ low ++ rest
  rows_split = sym (take-append-drop (met * w) rows) ∙ sym (ap₂ ◌++◌ front back)

  long_first : length (take (from * w) low) ≡ from * w
  long_first = length-take-le (from * w) low (omega (arith, size_low, rows_le from met w (omega arith)))

  abbrev old_part : List E
  old_part = drop (from * w) low

  abbrev A : List E
  A = column o.nought w (met - from) c (drop (from * w) low)

  long_A : length A ≡ met - from
  long_A = length-column z w (met - from) c old_part

  part_is : column z w (met - from) c part ≡ scaled_sum o (get_or rest c z) A factors
  part_is =
      let size : length (scaled_sum o (get_or rest c z) A factors) ≡ met - from =
      I.length-scaled_sum o (get_or rest c z) A factors ∙ long_A in
      let fit : length factors ≤ length A = omega (arith, long_A) in
      ext_get_or z (column z w (met - from) c part) (scaled_sum o (get_or rest c z) A factors)
      (length-column z w (met - from) c part ∙ sym size)
      (λ j n.
      let m : j < met - from = omega (arith, length-column z w (met - from) c part) in
      column_at z z w (met - from) c j part m
      ∙ elim (cases_lt j (length factors)) [
        | inl h ↦
            sums j h
            ∙ ap₂ o.plus (sym (column_at z z w (met - from) c j old_part m))
            (f.times_comm (get_or factors j z) (get_or rest c z) (hf j z h) hr)
            ∙ sym (scaled_entry o (get_or rest c z) z A factors j h fit)
        | inr h ↦ others j h m ∙ sym (column_at z z w (met - from) c j old_part m)
            ∙ sym (scaled_high o (get_or rest c z) z A factors j h fit)
      ])

  pub grown_column : column z w k c ((take (from * w) low ++ part) ++ rest)
      ≡ grown o met from factors (column z w k c rows)
  grown_column =
      let S = column z w k c rows in
      let r = get_or rest c z in
      let T = r ∷ column z w (k - met - 1) c (drop w rest) in
      let F = column z w from c (take (from * w) low) in
      let both : met ≡ from + (met - from) = omega arith in
      let long_new : length (take (from * w) low ++ part) ≡ met * w =
      length-append (take (from * w) low) part
      ∙ omega (arith, long_first, long_part, parts from (met - from) w, ap (λ n. n * w) both) in
      let low_is : column z w met c low ≡ F ++ A =
      ap (column z w met c) (sym (take-append-drop (from * w) low))
      ∙ column_append z w met from (met - from) c (take (from * w) low) old_part both long_first l in
      let S_is : S ≡ F ++ (A ++ T) =
      ap (column z w k c) rows_split ∙ split_column z w k met c low rest size_low few l ∙ ap (λ t. t ++ T) low_is
      ∙ append_assoc F A T in
      let long_F : length F ≡ from = length-column z w from c (take (from * w) low) in
      let here : get_or S met z ≡ r = ap (λ t. get_or (column z w k c t) met z) rows_split
      ∙ column_here z w k met c low rest size_low few l in
      let first : take from S ≡ F = ap (take from) S_is ∙ take_at F (A ++ T) from long_F in
      let later : drop from S ≡ A ++ T = ap (drop from) S_is ∙ drop_at F (A ++ T) from long_F in
      split_column z w k met c (take (from * w) low ++ part) rest long_new few l
      ∙ ap (λ t. t ++ T) (column_append z w met from (met - from) c (take (from * w) low) part both long_first l
      ∙ ap (λ t. F ++ t) part_is)
      ∙ append_assoc F (scaled_sum o r A factors) T
      ∙ ap (λ t. F ++ t) (sym (scaled_front o r A T factors (omega (arith, long_A))))
      ∙ ap₂ ◌++◌ (sym first) (ap₂ (λ a b. scaled_sum o a b factors) (sym here) (sym later))
      ∙ sym (cond-true (nat_lt met (length S)) (take from S ++ scaled_sum o (get_or S met z) (drop from S) factors) S
      (lt-ltb met (length S) (omega (arith, length-column z w k c rows))))

-- the last places are written
pub put_end : {E : Type 0} (a k : ℕ) (xs ys : List E) → k ≡ length xs - a → put_mid a k xs ys ≡ take a xs ++ ys
put_end a k xs ys e =
    let none : drop k (drop a xs) ≡ [] = drop_all k (drop a xs) (omega (arith, e, length-drop a xs)) in
    ap (λ t. take a xs ++ (ys ++ t)) none ∙ ap (λ t. take a xs ++ t) (append-nil ys)
