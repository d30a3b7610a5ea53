-- What callers may conclude about the columns of rows.
use Rattle.std.proofs.Common.{◌≡◌, ℕ, zero, suc, inl, inr, ◌+◌, ◌-◌, ◌*◌, ◌/◌, ◌%◌, ◌<◌, ◌≤◌, List, [], ◌∷◌, All}
use Rattle.std.proofs.Common.{length, get_or, take, drop, refl, sym, ap, ap₂, ◌∙◌, arith}
use Rattle.std.specs.List.{range_with_len}
use Rattle.std.proofs.lemmas.List.{get_or-drop, get_or-map, get_or-take, length-drop, length-map, length-take-le}
use Rattle.std.proofs.lemmas.List.{drop-take, ext_get_or, get_or_default}
use Rattle.std.proofs.lemmas.List.FromFn.{get_or-range_with_len, length-range_with_len}
use Rattle.std.proofs.lemmas.List.Elements.{All-cons, All-nil, All-drop}
use Rattle.std.proofs.lemmas.Bool.{cases_lt}
use Rattle.std.proofs.lemmas.Nat.{mul-le, div-add-mod'}
use Rattle.std.proofs.Math.Nat.{mod-lt}
use native.Mathlib.Nat.{mul_comm}
use Rattle.field_rows.specs.Columns.{column, block_columns}
use Rattle.field_rows.specs.Stripes.{cut}
use Rattle.field_rows.specs.laws.StripeLaws.{length-cut, cut_at}

pub length-column : {E : Type 0} (d : E) (w k c : ℕ) (rows : List E) → length (column d w k c rows) ≡ k
length-column d w zero c rows = refl
length-column d w (suc k) c rows = ap suc (length-column d w k c (drop w rows))

pub column_at : {E : Type 0} (d e : E) (w k c i : ℕ) (rows : List E) → i < k
    → get_or (column d w k c rows) i e ≡ get_or rows (i * w + c) d
column_at d e w zero c i rows l = absurd (omega arith)
column_at d e w (suc k) c zero rows l = ap (λ n. get_or rows n d) (omega arith)
column_at d e w (suc k) c (suc i) rows l =
    column_at d e w k c i (drop w rows) (omega arith) ∙ get_or-drop w rows (i * w + c) d
    ∙ ap (λ n. get_or rows n d) (omega arith)

pub column_elements : {E : Type 0} (P : E → Type 0) (d : E) (w k c : ℕ) (rows : List E) → c < w → k * w ≤ length rows
    → All P rows → All P (column d w k c rows)
column_elements P d w zero c rows l room h = All-nil P
column_elements P d w (suc k) c rows l room h =
    let here : c < length rows = omega arith in
    All-cons P (get_or rows c d) (column d w k c (drop w rows)) (h c d here)
    (column_elements P d w k c (drop w rows) l (omega (arith, length-drop w rows)) (All-drop P w rows h))

-- a column needs no more than its block
pub column_take : {E : Type 0} (d : E) (w k c n : ℕ) (rows : List E) → c < w → k * w ≤ n
    → column d w k c (take n rows) ≡ column d w k c rows
column_take d w zero c n rows l m = refl
column_take d w (suc k) c n rows l m =
    let e : drop w (take n rows) ≡ take (n - w) (drop w rows) =
    ap (λ t. drop w (take t rows)) (omega arith) ∙ drop-take w (n - w) rows in
    ap₂ ◌∷◌ (get_or-take n rows c d (omega arith))
    (ap (column d w k c) e ∙ column_take d w k c (n - w) (drop w rows) l (omega arith))

-- the first rows of a column
pub column_front : {E : Type 0} (d : E) (w k r c : ℕ) (rows : List E) → r ≤ k
    → column d w r c rows ≡ take r (column d w k c rows)
column_front d w k zero c rows l = refl
column_front d w zero (suc r) c rows l = absurd (omega arith)
column_front d w (suc k) (suc r) c rows l =
    ap (λ t. get_or rows c d ∷ t) (column_front d w k r c (drop w rows) (omega arith))

-- ---- all columns

pub length-block_columns : {E : Type 0} (d : E) (w k : ℕ) (rows : List E) → length (block_columns d w k rows) ≡ w
length-block_columns d w k rows = length-map (range_with_len 0 w) (λ c. column d w k c rows) ∙ length-range_with_len 0 w

pub block_column_at : {E : Type 0} (d : E) (w k c : ℕ) (rows : List E) → c < w
    → get_or (block_columns d w k rows) c [] ≡ column d w k c rows
block_column_at d w k c rows l =
    get_or-map (λ i. column d w k i rows) (range_with_len 0 w) c 0 [] (omega (arith, length-range_with_len 0 w))
    ∙ ap (λ i. column d w k i rows) (get_or-range_with_len 0 w c 0 l ∙ omega arith)

pub block_columns_are : {E : Type 0} (P : List E → Type 0) (d : E) (w k : ℕ) (rows : List E)
    → ((c : ℕ) → c < w → P (column d w k c rows)) → All P (block_columns d w k rows)
block_columns_are P d w k rows h i e l =
    let m : i < w = omega (arith, length-block_columns d w k rows) in
    rw (get_or_default (block_columns d w k rows) i e [] l ∙ block_column_at d w k i rows m) (h i m)

pub block_columns_take : {E : Type 0} (d : E) (w k n : ℕ) (rows : List E) → k * w ≤ n
    → block_columns d w k (take n rows) ≡ block_columns d w k rows
block_columns_take d w k n rows room =
    ext_get_or [] (block_columns d w k (take n rows)) (block_columns d w k rows)
    (length-block_columns d w k (take n rows) ∙ sym (length-block_columns d w k rows))
    (λ c l.
    let m : c < w = omega (arith, length-block_columns d w k (take n rows)) in
    block_column_at d w k c (take n rows) m ∙ column_take d w k c n rows m room ∙ sym (block_column_at d w k c rows m))

-- what holds of the elements of all columns holds of those of the rows
pub elements_of_block : {E : Type 0} (P : E → Type 0) (d : E) (w k : ℕ) (rows : List E) → length rows ≡ k * w
    → All (All P) (block_columns d w k rows) → All P rows
elements_of_block P d zero k rows whole h i e l = absurd (omega arith)
elements_of_block P d (suc w) k rows whole h i e l =
    let c = i % suc w in
    let j = i / suc w in
    let at : j * suc w + c ≡ i = div-add-mod' i (suc w) in
    let column_is : c < suc w = mod-lt i {m = suc w} (omega arith) in
    let row_is : j < k =
    elim (cases_lt j k) [
      | inl m ↦ m
      | inr g ↦ absurd (omega (arith, at, mul-le k (suc w) j (suc w) g (omega arith)))
    ] in
    let here : All P (column d (suc w) k c rows) =
    rw (sym (block_column_at d (suc w) k c rows column_is))
    (h c [] (omega (arith, column_is, length-block_columns d (suc w) k rows))) in
    rw (get_or_default rows i e d l ∙ ap (λ n. get_or rows n d) (sym at)
    ∙ sym (column_at d d (suc w) k c j rows row_is))
    (here j d (omega (arith, row_is, length-column d (suc w) k c rows)))

-- the columns of a block are the stripes of a row that has them on end
pub columns_are_stripes : {E : Type 0} (d : E) (w k : ℕ) (rows row : List E) → k * w ≤ length row
    → ((c j : ℕ) → c < w → j < k → get_or rows (j * w + c) d ≡ get_or row (c * k + j) d)
    → block_columns d w k rows ≡ cut w k row
columns_are_stripes d w k rows row room is =
    ext_get_or [] (block_columns d w k rows) (cut w k row) (length-block_columns d w k rows ∙ sym (length-cut w k row))
    (λ c l.
    let m : c < w = omega (arith, length-block_columns d w k rows) in
    let long : length (take k (drop (c * k) row)) ≡ k =
    length-take-le k (drop (c * k) row)
    (omega (arith, length-drop (c * k) row, mul-le (suc c) k w k m (omega arith), mul_comm k w)) in
    block_column_at d w k c rows m
    ∙ ext_get_or d (column d w k c rows) (take k (drop (c * k) row)) (length-column d w k c rows ∙ sym long)
    (λ j n.
    let h : j < k = omega (arith, length-column d w k c rows) in
    column_at d d w k c j rows h ∙ is c j m h
    ∙ sym (get_or-take k (drop (c * k) row) j d h ∙ get_or-drop (c * k) row j d))
    ∙ sym (cut_at w k c row m))
