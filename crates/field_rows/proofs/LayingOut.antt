-- Stripes that are written as columns.
use borrow.Rule.Slice.PartMut.{put_mid, post_of}
use Rattle.std.proofs.Common.{◌≡◌, ◌≢◌, ℕ, zero, suc, ◌+◌, ◌-◌, ◌*◌, ◌<◌, ◌≤◌, inl, inr, List, [], ◌∷◌, ◌++◌, length}
use Rattle.std.proofs.Common.{get_or, set, take, drop, refl, sym, ap, ap₂, ◌∙◌, arith, append_assoc, add-one}
use native.Mathlib.Nat.{mul_comm}
use Rattle.std.proofs.lemmas.Bool.{cases_lt}
use Rattle.std.proofs.lemmas.Nat.{same_from_place}
use Rattle.std.proofs.lemmas.List.{get_or-take, get_or-set_same, get_or-set_other, get_or_default, length-drop}
use Rattle.std.proofs.lemmas.List.{length-take-le, drop-drop, drop-take, append-nil, take_at, drop_at, length-append}
use Rattle.std.proofs.lemmas.Slice.{take-put_mid_below}
use Rattle.field_rows.specs.declared.blocks.Block.{Block}
use Rattle.field_rows.specs.Columns.{block_columns}
use Rattle.field_rows.specs.laws.ColumnLaws.{block_columns_take, columns_are_stripes}
use Rattle.field_rows.specs.laws.BlockLaws.{stripes_cons}
use Rattle.field_rows.specs.Blocks.{size_of, stripes_of, columns_of}
use Rattle.field_rows.specs.Stripes.{cut}
use Rattle.field_rows.specs.laws.PlaceLaws.{place_below}
use Rattle.field_rows.proofs.FirstBlocks.{b0, room_size, more_columns}

-- ---- one element of a column

module _ {E : Type 0} (from into : List E) (w c j : ℕ) (v d : E) (column_is : c < w) (l : j < length from)
    (room : length into ≡ length from * w) (read : v ≡ get_or from j v) where
  pub place : j * w + c < length into
  place = rw room (place_below j (length from) w c l column_is)

  pub written_more : ((i : ℕ) → i < j → get_or into (i * w + c) d ≡ get_or from i d) → (i : ℕ) → i < j + 1
      → get_or (set into (j * w + c) v) (i * w + c) d ≡ get_or from i d
  written_more h i m =
      elim (cases_lt i j) [
        | inl n ↦ get_or-set_other into (j * w + c) (i * w + c) v d
            (λ q. absurd (omega (arith, place_below i j w c n column_is))) ∙ h i n
        | inr n ↦
            let e : i ≡ j = omega arith in
            ap (λ t. get_or (set into (j * w + c) v) (t * w + c) d) e ∙ get_or-set_same into (j * w + c) v d place
            ∙ read ∙ get_or_default from j v d l
            ∙ ap (λ t. get_or from t d) (sym e)
      ]

  pub others_same : (i n : ℕ) → n < w → n ≢ c
      → get_or (set into (j * w + c) v) (i * w + n) d ≡ get_or into (i * w + n) d
  others_same i n m ne =
      get_or-set_other into (j * w + c) (i * w + n) v d (λ q. ne (same_from_place i n j c w m column_is q).1)

-- ---- blocks one after another

pub more_stripes : {E : Type 0} (bs : List Block) (i : ℕ) (row : List E) → i < length bs
    → stripes_of (take (suc i) bs) row
    ≡ stripes_of (take i bs) row ++ cut (get_or bs i b0).width (get_or bs i b0).length (drop (size_of (take i bs)) row)
more_stripes [] i row l = absurd (omega arith)
more_stripes (b ∷ bs) zero row l = stripes_cons b [] row ∙ append-nil (cut b.width b.length row)
more_stripes (b ∷ bs) (suc i) row l =
    let first = cut b.width b.length row in
    let rest = drop (b.length * b.width) row in
    let last = cut (get_or bs i b0).width (get_or bs i b0).length
    (drop (b.length * b.width + size_of (take i bs)) row) in
    stripes_cons b (take (suc i) bs) row
    ∙ ap (λ t. first ++ t)
    (more_stripes bs i rest (omega arith)
    ∙ ap (λ t. stripes_of (take i bs) rest ++ cut (get_or bs i b0).width (get_or bs i b0).length t)
    (drop-drop (size_of (take i bs)) (b.length * b.width) row))
    ∙ sym (append_assoc first (stripes_of (take i bs) rest) last)
    ∙ ap (λ t. t ++ last) (sym (stripes_cons b (take i bs) row))

columns_take : {E : Type 0} (d : E) (bs : List Block) (n : ℕ) (laid : List E) → size_of bs ≤ n
    → columns_of d bs (take n laid) ≡ columns_of d bs laid
columns_take d [] n laid l = refl
columns_take d (b ∷ bs) n laid l =
    let e : drop (b.length * b.width) (take n laid) ≡ take (n - b.length * b.width) (drop (b.length * b.width) laid) =
    ap (λ t. drop (b.length * b.width) (take t laid)) (omega arith)
    ∙ drop-take (b.length * b.width) (n - b.length * b.width) laid in
    ap₂ ◌++◌ (block_columns_take d b.width b.length n laid (omega arith))
    (ap (columns_of d bs) e ∙ columns_take d bs (n - b.length * b.width) (drop (b.length * b.width) laid) (omega arith))

module _ {E : Type 0} (d : E) (bs : List Block) (i at : ℕ) (row laid t : List E) (l : i < length bs)
    (place : at ≡ size_of (take i bs)) (whole : length row ≡ size_of bs) (long : length laid ≡ size_of bs) where
  abbrev w : ℕ
  w = (get_or bs i b0).width

  abbrev k : ℕ
  k = (get_or bs i b0).length

  pub end_row : at + k * w ≤ length row
  end_row = omega (arith, room_size bs i l)

  pub end_laid : at + k * w ≤ length laid
  end_laid = omega (arith, room_size bs i l)

  pub laid_more : length t ≡ length (take (at + k * w - at) (drop at laid))
      → ((c j : ℕ) → c < w → j < k
      → get_or t (j * w + c) d ≡ get_or (take (at + k * w - at) (drop at row)) (c * k + j) d)
      → columns_of d (take i bs) laid ≡ stripes_of (take i bs) row
      → columns_of d (take (i + 1) bs) (put_mid at (at + k * w - at) laid t) ≡ stripes_of (take (i + 1) bs) row
  laid_more n is done =
      let new : List E = put_mid at (at + k * w - at) laid t in
      let long_t : length t ≡ k * w = n
      ∙ length-take-le (at + k * w - at) (drop at laid) (omega (arith, length-drop at laid, end_laid)) ∙ omega arith in
      let front : take at new ≡ take at laid =
      take-put_mid_below at (at + k * w - at) laid t at (omega arith) (omega (arith, end_laid)) in
      let back : drop at new ≡ t ++ post_of at (at + k * w - at) laid =
      drop_at (take at laid) (t ++ post_of at (at + k * w - at) laid) at
      (length-take-le at laid (omega (arith, end_laid))) in
      let part : take (k * w) (t ++ post_of at (at + k * w - at) laid) ≡ t =
      take_at t (post_of at (at + k * w - at) laid) (k * w) long_t in
      let fronts : columns_of d (take i bs) new ≡ stripes_of (take i bs) row =
      sym (columns_take d (take i bs) at new (omega arith)) ∙ ap (columns_of d (take i bs)) front
      ∙ columns_take d (take i bs) at laid (omega arith) ∙ done in
      let block : block_columns d w k (drop at new) ≡ cut w k (drop at row) =
      ap (block_columns d w k) back
      ∙ sym (block_columns_take d w k (k * w) (t ++ post_of at (at + k * w - at) laid) (omega arith))
      ∙ ap (block_columns d w k) part
      ∙ columns_are_stripes d w k t (drop at row) (omega (arith, length-drop at row, end_row))
      (λ c j m h. is c j m h
      ∙ get_or-take (at + k * w - at) (drop at row) (c * k + j) d
      (omega (arith, place_below c w k j m h, mul_comm k w))) in
      ap (λ j. columns_of d (take j bs) new) (add-one i) ∙ more_columns d bs i new l
      ∙ ap₂ ◌++◌ fronts
      (ap (λ p. block_columns d w k (drop p new)) (sym place) ∙ block ∙ ap (λ p. cut w k (drop p row)) place)
      ∙ sym (ap (λ j. stripes_of (take j bs) row) (add-one i) ∙ more_stripes bs i row l)

pub long_put : {E : Type 0} (a k : ℕ) (xs ys : List E) → a + k ≤ length xs → length ys ≡ k
    → length (put_mid a k xs ys) ≡ length xs
long_put a k xs ys room long =
    length-append (take a xs) (ys ++ post_of a k xs)
    ∙ omega (
      arith,
      length-take-le a xs (omega arith),
      length-append ys (post_of a k xs),
      length-drop k (drop a xs),
      length-drop a xs,
    )
