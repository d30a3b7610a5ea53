-- Rows of values, of stripes side by side that a transform took to its values.
use Rattle.std.proofs.Common.{◌≡◌, ℕ, zero, suc, ◌+◌, ◌*◌, ◌/◌, ◌%◌, ◌^◌, ◌<◌, ◌≤◌, List, [], ◌∷◌, length, get_or, take}
use Rattle.std.proofs.Common.{drop, map, All, inl, inr, replicate, sym, ap, subst, ◌∙◌, arith}
use Rattle.std.proofs.lemmas.Bool.{cases_lt}
use Rattle.std.proofs.lemmas.Nat.{pow-add, div-add-mod', div_below, le-div, mod_below}
use Rattle.std.proofs.lemmas.List.{ext_get_or, get_or-take, get_or-drop, get_or-map, get_or_past, get_or-replicate}
use Rattle.std.proofs.lemmas.List.{length-take-le, length-drop, length-map, length-replicate}
use Rattle.std.proofs.lemmas.List.Elements.{All-nil, All-head, All-tail, All-append, All-from_get_or}
use Rattle.field_transform.proofs.Counting.{butterflies_are}
use Rattle.field_transform.specs.Steps.{butterflies}
use Rattle.field_elements.specs.Field.{Coding, IsCoding}
use Rattle.pet_poly.specs.Value.{value}
use Rattle.field_rows.specs.declared.blocks.Block.{Block}
use Rattle.field_rows.specs.Blocks.{columns_of, lengths_of}
use Rattle.field_rows.specs.Columns.{column}
use Rattle.field_rows.specs.laws.BlockLaws.{column_lengths}
use Rattle.field_rows.specs.laws.PlaceLaws.{more_rows, rows_le}
use Rattle.field_values.specs.Matrix.{HasRows}
use Rattle.field_values.specs.Wide.{AreSideBySide}
use Rattle.field_values.specs.laws.WideLaws.{value_is_stripe}
use Rattle.field_values.proofs.RowAfterRow.{row_within}

twice_by : (a b : ℕ) → 2 * (a * b) ≡ 2 * a * b
twice_by a b = grind arith

by_twice : (a b : ℕ) → a * (2 * b) ≡ 2 * (a * b)
by_twice a b = grind arith

regroup : (a b c : ℕ) → a * b * c ≡ a * (b * c)
regroup a b c = grind arith

-- a transform makes no more products than Horner's rule
pub cost_fits : (level size known stripes wide further words count : ℕ) → size ≡ 2 ^ level → wide ≡ size * stripes
    → 2 * (level * (known * stripes) + 2 * size) + (further + 1) * (level * wide + 4 * size) ≤ 2 * count * words
    → level * (known * stripes) + 2 ^ (level + 1) + (further + 1) * (butterflies level * stripes + 2 ^ (level + 1))
    ≤ count * words
cost_fits level size known stripes wide further words count is wide_is few =
    let b = butterflies level in
    let each : ℕ = b * stripes + 2 ^ (level + 1) in
    let two : 2 ^ (level + 1) ≡ 2 ^ level * 2 = pow-add 2 level 1 in
    let rows : 2 ^ level * stripes ≡ wide = ap (λ t. t * stripes) (sym is) ∙ sym wide_is in
    let converted : level * (2 ^ level * stripes) ≡ level * wide = ap (λ t. level * t) rows in
    let flown : 2 * (b * stripes) ≡ level * wide =
    twice_by b stripes ∙ ap (λ t. t * stripes) (butterflies_are level) ∙ regroup level (2 ^ level) stripes
    ∙ converted in
    let both : level * wide + 4 * size ≡ 2 * each = omega (arith, two, flown, is) in
    let cosets : (further + 1) * (level * wide + 4 * size) ≡ 2 * ((further + 1) * each) =
    ap (λ t. (further + 1) * t) both ∙ by_twice (further + 1) each in
    let all : 2 * count * words ≡ 2 * (count * words) = sym (twice_by count words) in
    let half : level * (known * stripes) + 2 * size + (further + 1) * each ≤ count * words =
    halved (level * (known * stripes) + 2 * size) ((further + 1) * each) (count * words)
    (omega (arith, cosets, all, few)) in
    omega (arith, two, is, half)
  where
    halved : (a b c : ℕ) → 2 * a + 2 * b ≤ 2 * c → a + b ≤ c
    halved a b c l = omega arith

-- what counts no more than a bound counts no more than what the bound is within
pub within_bound : (before after a b each all : ℕ) → after ≤ before + a + b + each → a + b + each ≤ all
    → after ≤ before + all
within_bound before after a b each all made few = omega arith

-- the coset of a number is none behind that of a later number
pub cosets_in_order : (from last size first end : ℕ) → from * size ≤ first → end < last * size + size → first ≤ end
    → from ≤ last
cosets_in_order from last size first end begins ends up =
    elim (cases_lt last from) [
      | inl m ↦ absurd (omega (arith, rows_le (last + 1) from size (omega arith), more_rows last size))
      | inr m ↦ m
    ]

lengths_short : (size : ℕ) (bs : List Block) → All (λ b. b.length ≤ size) bs → All (λ n. n ≤ size) (lengths_of bs)
lengths_short size [] h = All-nil (λ n. n ≤ size)
lengths_short size (b ∷ bs) h =
    All-append (λ n. n ≤ size) (replicate b.width b.length) (lengths_of bs)
    (λ i e l. rw (get_or-replicate b.width i b.length e (omega (arith, length-replicate b.width b.length)))
    (All-head (λ (a : Block). a.length ≤ size) b bs h))
    (lengths_short size bs (All-tail (λ (a : Block). a.length ≤ size) b bs h))

pub stripe_short : {E : Type 0} (d : E) (size : ℕ) (bs : List Block) (laid : List E) → All (λ b. b.length ≤ size) bs
    → (c : ℕ) → c < length (columns_of d bs laid)
    → length (get_or (columns_of d bs laid) c []) ≤ size
stripe_short d size bs laid h c l =
    let same : length (get_or (columns_of d bs laid) c []) ≡ get_or (lengths_of bs) c 0 =
    sym (get_or-map length (columns_of d bs laid) c [] 0 l) ∙ ap (λ ns. get_or ns c 0) (column_lengths d bs laid) in
    rw same (lengths_short size bs h c 0
    (omega (arith, ap length (column_lengths d bs laid), length-map (columns_of d bs laid) length)))

-- rows place by place
pub rows_are : {E : Type 0} (d : E) (w count : ℕ) (row : ℕ → List E) (items : List E) → length items ≡ count * w
    → ((p : ℕ) → p < count → length (row p) ≡ w)
    → ((p c : ℕ) → p < count → c < w → get_or items (p * w + c) d ≡ get_or (row p) c d) → HasRows w count row items
rows_are {E = E} d w count row items long wide is =
    record {
      long = long;
      each =
          λ p l.
          let here : List E = take w (drop (p * w) items) in
          let here_long : length here
          ≡ w =
          length-take-le w (drop (p * w) items)
          (omega (arith, length-drop (p * w) items, row_within p count w l, long)) in
          ext_get_or d here (row p) (here_long ∙ sym (wide p l))
          (λ c m.
          let k : c < w = omega arith in
          get_or-take w (drop (p * w) items) c d k ∙ get_or-drop (p * w) items c d ∙ is p c l k);
    }

-- the values of stripes side by side
module _ {E : Type 0} (P : E → Type 0) (points : ℕ) (f : Coding E) (laws : IsCoding P points f) where
  abbrev at : ℕ → List E → E
  at n s = value f.ops s (f.point_of n)

  pub values_are : (w size first count : ℕ) (columns : List (List E)) (old items : List E) → w ≡ length columns
      → AreSideBySide f.ops.nought size columns old
      → ((c : ℕ) → c < length columns → length (get_or columns c []) ≤ size) → first + count ≤ points
      → length items ≡ count * w
      → ((p c : ℕ) → p < count → c < w
      → get_or items (p * w + c) f.ops.nought ≡ at (first + p) (column f.ops.nought w size c old))
      → HasRows w count (λ p. map (at (first + p)) columns) items
  values_are w size first count columns old items wide h short few long is =
      rows_are f.ops.nought w count (λ p. map (at (first + p)) columns) items long
      (λ p l. length-map columns (at (first + p)) ∙ sym wide)
      (λ p c l m.
      is p c l m ∙ ap (λ k. at (first + p) (column f.ops.nought k size c old)) wide
      ∙ value_is_stripe P f.ops laws.field size c columns old (f.point_of (first + p)) h (omega arith)
      (short c (omega arith)) (laws.points.point_is (first + p) (omega arith))
      ∙ sym (get_or-map (at (first + p)) columns c [] f.ops.nought (omega arith)))

some_column : (n size i : ℕ) → i < size * n → 0 < n
some_column zero size i l = absurd (omega arith)
some_column (suc n) size i l = omega arith

-- each place of stripes side by side
side_at : {E : Type 0} (d : E) (size : ℕ) (columns : List (List E)) (rows : List E) → AreSideBySide d size columns rows
    → (i : ℕ) → i < length rows
    → (i % length columns < length columns)
    × (get_or rows i d ≡ get_or (get_or columns (i % length columns) []) (i / length columns) d)
side_at d size columns rows h i l =
    let n = length columns in
    let inside : i < size * n = omega (arith, h.long) in
    let some : 0 < n = some_column n size i inside in
    let c : i % n < n = mod_below i n some in
    (c, ap (λ k. get_or rows k d) (sym (div-add-mod' i n)) ∙ h.each (i / n) (i % n) (div_below i n size some inside) c)

-- rows past the longest stripe are all `d`
pub side_zeros : {E : Type 0} (d : E) (w size known : ℕ) (columns : List (List E)) (rows : List E) → w ≡ length columns
    → AreSideBySide d size columns rows
    → ((c : ℕ) → c < length columns → length (get_or columns c []) ≤ known) → (i : ℕ) → known * w ≤ i
    → get_or rows i d ≡ d
side_zeros d w size known columns rows wide h short i l =
    elim (cases_lt i (length rows)) [
      | inl s ↦
          let n = length columns in
          let at = side_at d size columns rows h i s in
          let past : known ≤ i / n = le-div known i n (omega (arith, at.0)) (omega (arith, ap (λ t. known * t) wide)) in
          at.1 ∙ get_or_past (get_or columns (i % n) []) (i / n) d (omega (arith, short (i % n) at.0))
      | inr s ↦ get_or_past rows i d s
    ]

-- they are elements, as those of the stripes are
pub side_elements : {E : Type 0} (P : E → Type 0) (d : E) (size : ℕ) (columns : List (List E)) (rows : List E) → P d
    → All (All P) columns → AreSideBySide d size columns rows → All P rows
side_elements P d size columns rows one all h =
    All-from_get_or P rows d
    (λ i l.
    let stripe = get_or columns (i % length columns) [] in
    let p = i / length columns in
    let at = side_at d size columns rows h i l in
    subst P (sym at.1)
    (elim (cases_lt p (length stripe)) [
      | inl m ↦ all (i % length columns) [] at.0 p d m
      | inr m ↦ subst P (sym (get_or_past stripe p d m)) one
    ]))

-- what is known of stripes side by side holds of equal rows
pub side_is : {E : Type 0} (d : E) (size s : ℕ) (columns : List (List E)) (old kept : List E) → s ≡ size → old ≡ kept
    → AreSideBySide d s columns kept → AreSideBySide d size columns old
side_is d size s columns old kept e f h =
    subst (λ t. AreSideBySide d t columns old) e (subst (λ xs. AreSideBySide d s columns xs) (sym f) h)
