-- What callers may conclude about stripes in blocks.
use Rattle.std.specs.Prelude.{sum, replicate}
use Rattle.std.specs.List.{flat_map}
use Rattle.std.proofs.Common.{◌≡◌, ℕ, ◌+◌, ◌-◌, ◌*◌, ◌<◌, ◌≤◌, List, [], ◌∷◌, ◌++◌, All, length, get_or, take, drop}
use Rattle.std.proofs.Common.{map, refl, sym, ap, ap₂, ◌∙◌, arith}
use native.Mathlib.Nat.{mul_comm}
use Rattle.std.proofs.lemmas.List.{length-append, length-drop, length-map, length-replicate, length-take-le, map-append}
use Rattle.std.proofs.lemmas.List.{take-append-drop, get_or_append_left, get_or-append_right}
use Rattle.std.proofs.lemmas.List.Sums.{sum_by-append}
use Rattle.std.proofs.lemmas.List.Elements.{All-append, All-same, All-drop, All-nil}
use Rattle.std.proofs.lemmas.List.{ext_get_or, get_or-map, get_or-replicate}
use Rattle.field_rows.specs.declared.blocks.Block.{Block}
use Rattle.field_rows.specs.Columns.{block_columns}
use Rattle.field_rows.specs.Stripes.{cut}
use Rattle.field_rows.specs.Blocks.{size_of, width_of, lengths_of, stripes_of, columns_of}
use Rattle.field_rows.specs.laws.ColumnLaws.{length-column, column_elements, length-block_columns, block_column_at}
use Rattle.field_rows.specs.laws.ColumnLaws.{block_columns_are, block_columns_take, elements_of_block}
use Rattle.field_rows.specs.laws.StripeLaws.{stripes_by-append, stripes_on_end, stripe_lengths, sum-replicate}

-- ---- sizes

sum-append : (ms ns : List ℕ) → sum (ms ++ ns) ≡ sum ms + sum ns
sum-append ms ns = sum_by-append (λ n. n) ms ns

pub size_is_sum : (bs : List Block) → size_of bs ≡ sum (lengths_of bs)
size_is_sum [] = refl
size_is_sum (b ∷ bs) =
    ap₂ (λ x y. x + y) (mul_comm b.length b.width ∙ sym (sum-replicate b.width b.length)) (size_is_sum bs)
    ∙ sym (sum-append (replicate b.width b.length) (lengths_of bs))

pub width_is_count : (bs : List Block) → width_of bs ≡ length (lengths_of bs)
width_is_count [] = refl
width_is_count (b ∷ bs) =
    ap₂ (λ x y. x + y) (sym (length-replicate b.width b.length)) (width_is_count bs)
    ∙ sym (length-append (replicate b.width b.length) (lengths_of bs))

-- ---- one block and those behind it

pub stripes_cons : {E : Type 0} (b : Block) (bs : List Block) (row : List E)
    → stripes_of (b ∷ bs) row ≡ cut b.width b.length row ++ stripes_of bs (drop (b.length * b.width) row)
stripes_cons b bs row =
    stripes_by-append (replicate b.width b.length) (lengths_of bs) row
    ∙ ap (λ n. cut b.width b.length row ++ stripes_of bs (drop n row))
    (sum-replicate b.width b.length ∙ mul_comm b.width b.length)

-- ---- what columns are

same_lengths : {E : Type 0} (d : E) (w k : ℕ) (rows : List E) → map length (block_columns d w k rows) ≡ replicate w k
same_lengths d w k rows =
    let n : length (block_columns d w k rows) ≡ w = length-block_columns d w k rows in
    ext_get_or 0 (map length (block_columns d w k rows)) (replicate w k)
    (length-map (block_columns d w k rows) length ∙ n ∙ sym (length-replicate w k))
    (λ c l.
    let m : c < w = omega (arith, length-map (block_columns d w k rows) length) in
    get_or-map length (block_columns d w k rows) c [] 0 (omega arith) ∙ ap length (block_column_at d w k c rows m)
    ∙ length-column d w k c rows
    ∙ sym (get_or-replicate w c k 0 m))

pub column_lengths : {E : Type 0} (d : E) (bs : List Block) (laid : List E)
    → map length (columns_of d bs laid) ≡ lengths_of bs
column_lengths d [] laid = refl
column_lengths d (b ∷ bs) laid =
    let rest = drop (b.length * b.width) laid in
    map-append length (block_columns d b.width b.length laid) (columns_of d bs rest)
    ∙ ap₂ ◌++◌ (same_lengths d b.width b.length laid) (column_lengths d bs rest)

pub columns_are : {E : Type 0} (P : E → Type 0) (d : E) (bs : List Block) (laid : List E) → size_of bs ≤ length laid
    → All P laid → All (All P) (columns_of d bs laid)
columns_are P d [] laid room h = All-nil (All P)
columns_are P d (b ∷ bs) laid room h =
    let rest = drop (b.length * b.width) laid in
    All-append (All P) (block_columns d b.width b.length laid) (columns_of d bs rest)
    (block_columns_are (All P) d b.width b.length laid
    (λ c l. column_elements P d b.width b.length c laid l (omega arith) h))
    (columns_are P d bs rest (omega (arith, length-drop (b.length * b.width) laid))
    (All-drop P (b.length * b.width) laid h))

in_front : {X : Type 0} (P : X → Type 0) (xs ys : List X) → All P (xs ++ ys) → All P xs
in_front P xs ys h i d l = rw (sym (get_or_append_left xs ys d i l)) (h i d (omega (arith, length-append xs ys)))

behind : {X : Type 0} (P : X → Type 0) (xs ys : List X) → All P (xs ++ ys) → All P ys
behind P xs ys h i d l =
    let n : length xs + i - length xs ≡ i = omega arith in
    rw (sym (get_or-append_right xs ys (length xs) (length xs + i) d refl (omega arith) ∙ ap (λ k. get_or ys k d) n))
    (h (length xs + i) d (omega (arith, length-append xs ys)))

-- what holds of the elements of all stripes holds of all elements
pub elements_of_columns : {E : Type 0} (P : E → Type 0) (d : E) (bs : List Block) (laid : List E)
    → length laid ≡ size_of bs → All (All P) (columns_of d bs laid) → All P laid
elements_of_columns P d [] [] e h = All-nil P
elements_of_columns P d [] (x ∷ laid) e h = absurd (omega arith)
elements_of_columns P d (b ∷ bs) laid e h =
    let n = b.length * b.width in
    let first = block_columns d b.width b.length laid in
    let others = columns_of d bs (drop n laid) in
    let front : All P (take n laid) =
    elements_of_block P d b.width b.length (take n laid) (length-take-le n laid (omega arith))
    (rw (block_columns_take d b.width b.length n laid (omega arith)) (in_front (All P) first others h)) in
    let back : All P (drop n laid) = elements_of_columns P d bs (drop n laid) (length-drop n laid ∙ omega arith)
    (behind (All P) first others h) in
    All-same P laid (take n laid ++ drop n laid) (sym (take-append-drop n laid))
    (All-append P (take n laid) (drop n laid) front back)

-- ---- what stripes are

pub stripes_of_row : {E : Type 0} (bs : List Block) (row : List E) → length row ≡ size_of bs
    → flat_map (λ s. s) (stripes_of bs row) ≡ row
stripes_of_row bs row e = stripes_on_end (lengths_of bs) row (e ∙ size_is_sum bs)

pub stripe_lengths_of : {E : Type 0} (bs : List Block) (row : List E) → length row ≡ size_of bs
    → map length (stripes_of bs row) ≡ lengths_of bs
stripe_lengths_of bs row e = stripe_lengths (lengths_of bs) row (omega (arith, e, size_is_sum bs))
