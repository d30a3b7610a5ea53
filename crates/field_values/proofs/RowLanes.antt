-- Rows that are written into the lanes of wider rows.
use borrow.Rule.Slice.PartMut.{put_mid}
use Rattle.std.proofs.Common.{◌≡◌, ℕ, inl, inr, ◌+◌, ◌-◌, ◌*◌, ◌<◌, ◌≤◌, List, [], ◌++◌, length, get_or, take, drop}
use Rattle.std.proofs.Common.{replicate, sym, ap, ◌∙◌, arith, add-one}
use Rattle.std.proofs.lemmas.Bool.{cases_lt}
use Rattle.std.proofs.lemmas.List.{get_or-take, get_or-drop, length-take-le, length-drop, get_or_append_left}
use Rattle.std.proofs.lemmas.List.{get_or-append_right, take_all, length-map, get_or-replicate, length-replicate}
use Rattle.field_rows.specs.declared.blocks.Block.{Block}
use Rattle.field_rows.specs.Columns.{column, block_columns}
use Rattle.field_rows.specs.Blocks.{size_of, width_of, columns_of}
use Rattle.field_rows.specs.laws.BlockLaws.{column_lengths, width_is_count}
use Rattle.field_rows.specs.laws.ColumnLaws.{length-column, column_at, block_column_at}
use Rattle.field_rows.proofs.FirstBlocks.{b0, more_columns, room_width}
use Rattle.field_rows.proofs.LayingOut.{long_put}
use Rattle.field_rows.proofs.Parts.{part_before, part_inside, part_behind}
use Rattle.field_values.specs.Wide.{AreSideBySide}
use Rattle.field_values.specs.laws.WideLaws.{past_end}
use Rattle.field_values.proofs.RowAfterRow.{row_within}

-- where a block is that comes after the first ones
module _ (bs : List Block) (i : ℕ) (l : i < length bs) where
  pub lanes_within : (lane n : ℕ) → lane ≡ width_of (take i bs) → n ≡ width_of bs → lane + (get_or bs i b0).width ≤ n
  lanes_within lane n until wide = omega (arith, room_width bs i l)

-- one row more of `width` elements is written from `lane` on into rows of `stripes`
module _ {E : Type 0} (count width stripes lane size q from at : ℕ) (rows into piece : List E) (l : q < count)
    (fewer : count ≤ size) (room : lane + width ≤ stripes)
    (rows_long : length rows ≡ count * width) (into_long : length into ≡ size * stripes) (from_is : from ≡ q * width)
    (at_is : at ≡ q * stripes)
    (copied : piece ≡ take (from + width - from) (drop from rows)) where
  from_within : from + width ≤ length rows
  from_within = omega (arith, row_within q count width l)

  pub to_within : at + lane + width ≤ length into
  to_within = omega (arith, row_within q size stripes (omega arith))

  piece_long : length piece ≡ width
  piece_long =
      ap length copied
      ∙ length-take-le (from + width - from) (drop from rows) (omega (arith, length-drop from rows, from_within))
      ∙ omega arith

  abbrev new : List E
  new = put_mid (at + lane) (at + lane + width - (at + lane)) into piece

  size_is : at + lane + width - (at + lane) ≡ width
  size_is = omega arith

  within : at + lane + (at + lane + width - (at + lane)) ≤ length into
  within = omega (arith, to_within)

  long_piece : length piece ≡ at + lane + width - (at + lane)
  long_piece = piece_long ∙ sym size_is

  pub new_long : length new ≡ length into
  new_long = long_put (at + lane) (at + lane + width - (at + lane)) into piece within long_piece

  module _ (d : E) where
    earlier : (p n : ℕ) → p < q → n < stripes → get_or new (p * stripes + n) d ≡ get_or into (p * stripes + n) d
    earlier p n m k =
        part_before d (at + lane) (at + lane + width - (at + lane)) into piece within long_piece (p * stripes + n)
        (omega (arith, row_within p q stripes m))

    later : (p n : ℕ) → q < p → get_or new (p * stripes + n) d ≡ get_or into (p * stripes + n) d
    later p n m =
        part_behind d (at + lane) (at + lane + width - (at + lane)) into piece within long_piece (p * stripes + n)
        (omega (arith, row_within q p stripes m))

    before : (n : ℕ) → n < lane → get_or new (q * stripes + n) d ≡ get_or into (q * stripes + n) d
    before n k =
        part_before d (at + lane) (at + lane + width - (at + lane)) into piece within long_piece (q * stripes + n)
        (omega arith)

    behind : (n : ℕ) → lane + width ≤ n → get_or new (q * stripes + n) d ≡ get_or into (q * stripes + n) d
    behind n k =
        part_behind d (at + lane) (at + lane + width - (at + lane)) into piece within long_piece (q * stripes + n)
        (omega arith)

    here : (c : ℕ) → c < width → get_or new (q * stripes + (lane + c)) d ≡ get_or rows (q * width + c) d
    here c k =
        let place : q * stripes + (lane + c) ≡ at + lane + c = omega arith in
        ap (λ i. get_or new i d) place
        ∙ part_inside d (at + lane) (at + lane + width - (at + lane)) into piece within long_piece c (omega arith)
        ∙ ap (λ xs. get_or xs c d) copied ∙ get_or-take (from + width - from) (drop from rows) c d (omega arith)
        ∙ get_or-drop from rows c d
        ∙ ap (λ i. get_or rows (i + c) d) from_is

    pub placed_more : ((p c : ℕ) → p < q → c < width
        → get_or into (p * stripes + (lane + c)) d ≡ get_or rows (p * width + c) d)
        → (p c : ℕ) → p < q + 1 → c < width → get_or new (p * stripes + (lane + c)) d ≡ get_or rows (p * width + c) d
    placed_more h p c m k =
        elim (cases_lt p q) [
          | inl n ↦ earlier p (lane + c) n (omega arith) ∙ h p c n k
          | inr n ↦
              let e : p ≡ q = omega arith in
              ap (λ i. get_or new (i * stripes + (lane + c)) d) e ∙ here c k
              ∙ ap (λ i. get_or rows (i * width + c) d) (sym e)
        ]

    pub others_more : (old : List E)
        → ((p n : ℕ) → n < stripes → (p < q → lane ≤ n → lane + width ≤ n)
        → get_or into (p * stripes + n) d ≡ get_or old (p * stripes + n) d)
        → (p n : ℕ) → n < stripes → (p < q + 1 → lane ≤ n → lane + width ≤ n)
        → get_or new (p * stripes + n) d ≡ get_or old (p * stripes + n) d
    others_more old h p n m out =
        let same : get_or into (p * stripes + n) d ≡ get_or old (p * stripes + n) d =
        h p n m (λ a b. out (omega arith) b) in
        elim (cases_lt p q) [
          | inl a ↦ earlier p n a m ∙ same
          | inr a ↦
              elim (cases_lt q p) [
                | inl b ↦ later p n b ∙ same
                | inr b ↦
                    let e : p ≡ q = omega arith in
                    let there : get_or new (q * stripes + n) d ≡ get_or into (q * stripes + n) d =
                    elim (cases_lt n lane) [
                      | inl f ↦ before n f
                      | inr f ↦ behind n (out (omega arith) f)
                    ] in
                    ap (λ i. get_or new (i * stripes + n) d) e ∙ there
                    ∙ ap (λ i. get_or into (i * stripes + n) d) (sym e) ∙ same
              ]
        ]

-- there are as many columns as the blocks are wide
pub columns_wide : {E : Type 0} (d : E) (bs : List Block) (laid : List E) → length (columns_of d bs laid) ≡ width_of bs
columns_wide d bs laid =
    sym (length-map (columns_of d bs laid) length) ∙ ap length (column_lengths d bs laid) ∙ sym (width_is_count bs)

pub wide_is : {E : Type 0} (d : E) (w : ℕ) (bs : List Block) (laid : List E) → w ≡ width_of bs
    → w ≡ length (columns_of d bs laid)
wide_is d w bs laid is = is ∙ sym (columns_wide d bs laid)

-- the stripes of one block more
module _ {E : Type 0} (d : E) (bs : List Block) (i size stripes lane at : ℕ) (laid into new : List E)
    (l : i < length bs) (place : at ≡ size_of (take i bs)) (until : lane ≡ width_of (take i bs)) where
  abbrev w : ℕ
  w = (get_or bs i b0).width

  abbrev k : ℕ
  k = (get_or bs i b0).length

  abbrev rows : List E
  rows = take (at + k * w - at) (drop at laid)

  abbrev stripe : ℕ → ℕ → List E
  stripe j c = get_or (columns_of d (take j bs) laid) c []

  module _ (wide : lane + w ≤ stripes)
      (placed : (p c : ℕ) → p < k → c < w → get_or new (p * stripes + (lane + c)) d ≡ get_or rows (p * w + c) d)
      (others : (p n : ℕ) → n < stripes → (p < k → lane ≤ n → lane + w ≤ n)
      → get_or new (p * stripes + n) d ≡ get_or into (p * stripes + n) d)
      (done : (p c : ℕ) → p < size → c < lane → get_or into (p * stripes + c) d ≡ get_or (stripe i c) p d)
      (rest : (p c : ℕ) → p < size → lane ≤ c → c < stripes → get_or into (p * stripes + c) d ≡ d) where
    both : columns_of d (take (i + 1) bs) laid ≡ columns_of d (take i bs) laid ++ block_columns d w k (drop at laid)
    both =
        ap (λ j. columns_of d (take j bs) laid) (add-one i) ∙ more_columns d bs i laid l
        ∙ ap (λ s. columns_of d (take i bs) laid ++ block_columns d w k (drop s laid)) (sym place)

    first_long : length (columns_of d (take i bs) laid) ≡ lane
    first_long = columns_wide d (take i bs) laid ∙ sym until

    old_stripe : (c : ℕ) → c < lane → stripe (i + 1) c ≡ stripe i c
    old_stripe c m =
        ap (λ xs. get_or xs c []) both
        ∙ get_or_append_left (columns_of d (take i bs) laid) (block_columns d w k (drop at laid)) [] c
        (omega (arith, first_long))

    new_stripe : (c : ℕ) → c < w → stripe (i + 1) (lane + c) ≡ column d w k c (drop at laid)
    new_stripe c m =
        let e : lane + c - lane ≡ c = omega arith in
        ap (λ xs. get_or xs (lane + c) []) both
        ∙ get_or-append_right (columns_of d (take i bs) laid) (block_columns d w k (drop at laid)) lane
        (lane + c) [] first_long (omega arith)
        ∙ ap (λ j. get_or (block_columns d w k (drop at laid)) j []) e ∙ block_column_at d w k c (drop at laid) m

    here_more : (p c : ℕ) → p < size → c < w
        → get_or new (p * stripes + (lane + c)) d ≡ get_or (stripe (i + 1) (lane + c)) p d
    here_more p c m n =
        elim (cases_lt p k) [
          | inl s ↦
              placed p c s n
              ∙ get_or-take (at + k * w - at) (drop at laid) (p * w + c) d (omega (arith, row_within p k w s))
              ∙ sym (column_at d d w k c p (drop at laid) s) ∙ sym (ap (λ xs. get_or xs p d) (new_stripe c n))
          | inr s ↦
              others p (lane + c) (omega arith) (λ a b. absurd (omega arith))
              ∙ rest p (lane + c) m (omega arith) (omega arith)
              ∙ sym (ap (λ xs. get_or xs p d) (new_stripe c n)
              ∙ past_end (column d w k c (drop at laid)) p d (omega (arith, length-column d w k c (drop at laid))))
        ]

    pub stripes_more : (p c : ℕ) → p < size → c < lane + w
        → get_or new (p * stripes + c) d ≡ get_or (stripe (i + 1) c) p d
    stripes_more p c m n =
        elim (cases_lt c lane) [
          | inl a ↦ others p c (omega arith) (λ x y. absurd (omega arith)) ∙ done p c m a
              ∙ sym (ap (λ xs. get_or xs p d) (old_stripe c a))
          | inr a ↦
              let e : c ≡ lane + (c - lane) = omega arith in
              ap (λ j. get_or new (p * stripes + j) d) e ∙ here_more p (c - lane) m (omega arith)
              ∙ sym (ap (λ j. get_or (stripe (i + 1) j) p d) e)
        ]

    pub rest_more : (p c : ℕ) → p < size → lane + w ≤ c → c < stripes → get_or new (p * stripes + c) d ≡ d
    rest_more p c m n s = others p c s (λ a b. n) ∙ rest p c m (omega arith) s

-- when no block is left, all stripes are there
pub all_placed : {E : Type 0} (d : E) (bs : List Block) (i lane size stripes : ℕ) (laid items : List E) → length bs ≤ i
    → lane ≡ width_of (take i bs) → stripes ≡ width_of bs → length items ≡ size * stripes
    → ((p c : ℕ) → p < size → c < lane
    → get_or items (p * stripes + c) d ≡ get_or (get_or (columns_of d (take i bs) laid) c []) p d)
    → AreSideBySide d size (columns_of d bs laid) items
all_placed d bs i lane size stripes laid items last until wide long done =
    let e : take i bs ≡ bs = take_all i bs last in
    let n : length (columns_of d bs laid) ≡ stripes = columns_wide d bs laid ∙ sym wide in
    let same : lane ≡ stripes = until ∙ ap width_of e ∙ sym wide in
    record {
      long = long ∙ ap (λ k. size * k) (sym n);
      each =
          λ p c l m.
          ap (λ k. get_or items (p * k + c) d) n ∙ done p c l (omega (arith, same, n))
          ∙ ap (λ b. get_or (get_or (columns_of d b laid) c []) p d) e;
    }

-- a list of one element alone, and that behind its end
pub none_but : {E : Type 0} (n i : ℕ) (d : E) → get_or (replicate n d) i d ≡ d
none_but n i d =
    elim (cases_lt i n) [
      | inl l ↦ get_or-replicate n i d d l
      | inr l ↦ past_end (replicate n d) i d (omega (arith, length-replicate n d))
    ]
