-- The stripes of one block.
use Rattle.std.proofs.Common.{◌≡◌, ℕ, zero, suc, ◌+◌, ◌*◌, ◌/◌, ◌%◌, ◌<◌, ◌≤◌, Bool, true, false, List, [], ◌∷◌, ◌++◌}
use Rattle.std.proofs.Common.{All, length, get_or, drop, map, refl, sym, ap, ap₂, ◌∙◌, arith, cond, subst}
use Rattle.std.specs.Prelude.{nat_lt}
use Rattle.std.proofs.lemmas.Bool.{lt-ltb, le-ltb, cond-true, cond-false}
use Rattle.std.proofs.lemmas.List.{length-map, get_or-map, get_or_default, length-take-le, length-drop, ext_get_or}
use Rattle.std.proofs.lemmas.List.Elements.{All-take, All-drop, All-same}
use Rattle.std.proofs.lemmas.List.Sums.{sum_by-cons, sum_by-append}
use Rattle.field_elements.specs.Field.{Operations}
use Rattle.field_rows.specs.Columns.{column, block_columns}
use Rattle.field_rows.specs.Stripes.{cut}
use Rattle.field_rows.specs.laws.ColumnLaws.{length-column, column_elements, length-block_columns, block_column_at}
use Rattle.field_rows.specs.laws.ColumnLaws.{block_columns_are, columns_are_stripes}
use Rattle.field_rows.specs.laws.StripeLaws.{length-cut, cut_at}
use native.Mathlib.Nat.{mul_comm}
use Rattle.std.proofs.Math.Nat.{div-lt_iff_lt-mul}
use Rattle.std.proofs.lemmas.Nat.{div-add-mod'}
use Rattle.pet_interp.specs.Progressive.{longer_than}
use Rattle.pet_interp.proofs.Counted.{longer_none}
use Rattle.pet_interp.specs.Blocks.{HeldBlock, IsLaid, stripes_of}
use Rattle.pet_interp.specs.inside.Lifted.{begun, begun_all, grown}
use Rattle.field_rows.specs.laws.PlaceLaws.{more_rows, rows_le, place_below}

-- ---- lists of stripes

pub length-stripes : {E : Type 0} (d : E) (b : Bool) (w k : ℕ) (places : List E)
    → length (stripes_of d b w k places) ≡ w
length-stripes d true w k places = length-block_columns d w k places
length-stripes d false w k places = length-cut w k places

pub stripes_waiting : {E : Type 0} (d : E) (b : Bool) (w k : ℕ) (places : List E) → b ≡ true
    → stripes_of d b w k places ≡ block_columns d w k places
stripes_waiting d b w k places e = cond-true b (block_columns d w k places) (cut w k places) e

pub stripes_known : {E : Type 0} (d : E) (b : Bool) (w k : ℕ) (places : List E) → b ≡ false
    → stripes_of d b w k places ≡ cut w k places
stripes_known d b w k places e = cond-false b (block_columns d w k places) (cut w k places) e

pub columns_each : {E : Type 0} (P : E → Type 0) (d : E) (w k : ℕ) (rows : List E) → length rows ≡ k * w → All P rows
    → All (λ s. (length s ≡ k) × All P s) (block_columns d w k rows)
columns_each P d w k rows e h =
    block_columns_are (λ s. (length s ≡ k) × All P s) d w k rows
    (λ c l. (length-column d w k c rows, column_elements P d w k c rows l (omega (arith, e)) h))

pub inside_cut : (w k c n : ℕ) → c < w → n ≡ k * w → c * k + k ≤ n
inside_cut w k c n l e = omega (arith, more_rows c k, rows_le (c + 1) w k (omega arith), mul_comm k w)

pub cut_each : {E : Type 0} (P : E → Type 0) (w k : ℕ) (row : List E) → length row ≡ k * w → All P row
    → All (λ s. (length s ≡ k) × All P s) (cut w k row)
cut_each P w k row e h c t l =
    let m : c < w = omega (arith, length-cut w k row) in
    rw (get_or_default (cut w k row) c t [] l ∙ cut_at w k c row m) (
      length-take-le k (drop (c * k) row) (omega (arith, length-drop (c * k) row, inside_cut w k c (length row) m e)),
      All-take P k (drop (c * k) row) (All-drop P (c * k) row h),
    )

pub stripes_each : {E : Type 0} (P : E → Type 0) (d : E) (b : Bool) (w k : ℕ) (places : List E) → length places ≡ k * w
    → All P places
    → All (λ s. (length s ≡ k) × All P s) (stripes_of d b w k places)
stripes_each P d true w k places e h = columns_each P d w k places e h
stripes_each P d false w k places e h = cut_each P w k places e h

-- ---- the first pass

pub length-begun_all : {E : Type 0} (o : Operations E) (met : ℕ) (x i : E) (ss : List (List E)) (ys : List E)
    → length (begun_all o met x i ss ys) ≡ length ss
length-begun_all o met x i ss [] = refl
length-begun_all o met x i [] (y ∷ ys) = refl
length-begun_all o met x i (s ∷ ss) (y ∷ ys) = ap suc (length-begun_all o met x i ss ys)

pub begun_at : {E : Type 0} (o : Operations E) (met : ℕ) (x i : E) (ss : List (List E)) (ys : List E) (j : ℕ)
    (d : List E) (e : E)
    → j < length ss → j < length ys
    → get_or (begun_all o met x i ss ys) j d ≡ begun o met x i (get_or ss j d) (get_or ys j e)
begun_at o met x i [] ys j d e l m = absurd (omega arith)
begun_at o met x i (s ∷ ss) [] j d e l m = absurd (omega arith)
begun_at o met x i (s ∷ ss) (y ∷ ys) zero d e l m = refl
begun_at o met x i (s ∷ ss) (y ∷ ys) (suc j) d e l m = begun_at o met x i ss ys j d e (omega arith) (omega arith)

pub columns_begun : {E : Type 0} (o : Operations E) (w k met : ℕ) (x i : E) (rows new ys : List E) → length ys ≡ w
    → ((c : ℕ) → c < w
    → column o.nought w k c new ≡ begun o met x i (column o.nought w k c rows) (get_or ys c o.nought))
    → block_columns o.nought w k new ≡ begun_all o met x i (block_columns o.nought w k rows) ys
columns_begun o w k met x i rows new ys long is =
    let z = o.nought in
    let n : length (begun_all o met x i (block_columns z w k rows) ys) ≡ w =
    length-begun_all o met x i (block_columns z w k rows) ys ∙ length-block_columns z w k rows in
    ext_get_or [] (block_columns z w k new) (begun_all o met x i (block_columns z w k rows) ys)
    (length-block_columns z w k new ∙ sym n)
    (λ c l.
    let m : c < w = omega (arith, length-block_columns z w k new) in
    block_column_at z w k c new m ∙ is c m
    ∙ ap (λ s. begun o met x i s (get_or ys c z)) (sym (block_column_at z w k c rows m))
    ∙ sym (begun_at o met x i (block_columns z w k rows) ys c [] z (rw (length-block_columns z w k rows) m)
    (omega arith)))

pub begun_none : {E : Type 0} (o : Operations E) (met : ℕ) (x i : E) (ss : List (List E)) (ys : List E)
    (Q : List E → Type 0) (k : ℕ) → k ≤ met → All (λ s. (length s ≡ k) × Q s) ss → begun_all o met x i ss ys ≡ ss
begun_none o met x i ss [] Q k l h = refl
begun_none o met x i [] (y ∷ ys) Q k l h = refl
begun_none o met x i (s ∷ ss) (y ∷ ys) Q k l h =
    let short : length s ≤ met = omega (arith, (h 0 s (omega arith)).0) in
    ap₂ ◌∷◌ (cond-false (nat_lt met (length s)) _ s (le-ltb met (length s) short))
    (begun_none o met x i ss ys Q k l (λ c t m. h (suc c) t (omega arith)))

-- ---- the other passes

pub columns_grown : {E : Type 0} (G : List E → List E) (z : E) (w k : ℕ) (rows new : List E)
    → ((c : ℕ) → c < w → column z w k c new ≡ G (column z w k c rows))
    → block_columns z w k new ≡ map G (block_columns z w k rows)
columns_grown G z w k rows new is =
    let n : length (map G (block_columns z w k rows)) ≡ w =
    length-map (block_columns z w k rows) G ∙ length-block_columns z w k rows in
    ext_get_or [] (block_columns z w k new) (map G (block_columns z w k rows)) (length-block_columns z w k new ∙ sym n)
    (λ c l.
    let m : c < w = omega (arith, length-block_columns z w k new) in
    block_column_at z w k c new m ∙ is c m ∙ ap G (sym (block_column_at z w k c rows m))
    ∙ sym (get_or-map G (block_columns z w k rows) c [] [] (rw (length-block_columns z w k rows) m)))

pub grown_none : {E : Type 0} (o : Operations E) (met from : ℕ) (factors : List E) (ss : List (List E))
    (Q : List E → Type 0) (k : ℕ) → k ≤ met → All (λ s. (length s ≡ k) × Q s) ss
    → map (grown o met from factors) ss ≡ ss
grown_none o met from factors [] Q k l h = refl
grown_none o met from factors (s ∷ ss) Q k l h =
    let short : length s ≤ met = omega (arith, (h 0 s (omega arith)).0) in
    ap₂ ◌∷◌ (cond-false (nat_lt met (length s)) _ s (le-ltb met (length s) short))
    (grown_none o met from factors ss Q k l (λ c t m. h (suc c) t (omega arith)))

-- ---- how many are longer

pub longer_append : (r : ℕ) (xs ys : List ℕ) → longer_than r (xs ++ ys) ≡ longer_than r xs + longer_than r ys
longer_append r xs ys = sum_by-append (λ x. cond (nat_lt r x) 1 0) xs ys

pub longer_all : {E : Type 0} (r k : ℕ) (ss : List (List E)) (Q : List E → Type 0) → r < k
    → All (λ s. (length s ≡ k) × Q s) ss → longer_than r (map length ss) ≡ length ss
longer_all r k [] Q l h = refl
longer_all r k (s ∷ ss) Q l h =
    let long : r < length s = omega (arith, (h 0 s (omega arith)).0) in
    sum_by-cons (λ x. cond (nat_lt r x) 1 0) (length s) (map length ss)
    ∙ ap₂ ◌+◌ (cond-true (nat_lt r (length s)) 1 0 (lt-ltb r (length s) long))
    (longer_all r k ss Q l (λ c t m. h (suc c) t (omega arith))) ∙ omega arith

-- ---- a block that is turned back

pub turned_stripes : {E : Type 0} (d : E) (w k : ℕ) (rows new : List E) → length new ≡ k * w
    → ((c j : ℕ) → c < w → j < k → get_or new (c * k + j) d ≡ get_or rows (j * w + c) d)
    → cut w k new ≡ block_columns d w k rows
turned_stripes d w k rows new long is =
    sym (columns_are_stripes d w k rows new (omega arith) (λ c j l m. sym (is c j l m)))

pub turned_elements : {E : Type 0} (P : E → Type 0) (d : E) (w k : ℕ) (rows new : List E) → length new ≡ k * w
    → length rows ≡ k * w → All P rows
    → ((c j : ℕ) → c < w → j < k → get_or new (c * k + j) d ≡ get_or rows (j * w + c) d) → All P new
turned_elements P d w zero rows new long whole h is n e l = absurd (omega arith)
turned_elements P d w (suc k) rows new long whole h is n e l =
    let c = n / suc k in
    let j = n % suc k in
    let lj : j < suc k = omega arith in
    let at : n ≡ c * suc k + j = sym (div-add-mod' n (suc k)) in
    let lc : c < w = (div-lt_iff_lt-mul {k = suc k} {x = n} {y = w} (omega arith)).1
    (omega (arith, long, mul_comm (suc k) w)) in
    let read : get_or new n e ≡ get_or rows (j * w + c) d =
    get_or_default new n e d l ∙ ap (λ i. get_or new i d) at ∙ is c j lc lj in
    rw read (h (j * w + c) d (rw whole (place_below j (suc k) w c lj lc)))

-- ---- a block that is seen as its stripes

-- in which new places have come
pub laid_new : {E : Type 0} (P : E → Type 0) (w k : ℕ) (places new old before : List E) → places ≡ new
    → length new ≡ length old → old ≡ before → IsLaid P w k before → All P new → IsLaid P w k places
laid_new P w k places new old before kept long was laid elements = record {
  narrow = laid.narrow;
  whole = ap length kept ∙ long ∙ ap length was ∙ laid.whole;
  elements = All-same P places new kept elements;
}

pub each_new : {E : Type 0} (P : E → Type 0) (d : E) (b : Bool) (w k : ℕ) (places new old before : List E)
    → places ≡ new → length new ≡ length old → old ≡ before → IsLaid P w k before → All P new
    → All (λ s. (length s ≡ k) × All P s) (stripes_of d b w k places)
each_new P d b w k places new old before kept long was laid elements =
    let now = laid_new P w k places new old before kept long was laid elements in
    stripes_each P d b w k places now.whole now.elements

pub waits_here : {E : Type 0} (met : ℕ) (block seen : HeldBlock E) → block ≡ seen → seen.waits ≡ nat_lt met seen.size
    → met < block.size → block.waits ≡ true
waits_here met block seen is waits longer =
    ap (λ v. v.waits) is ∙ waits ∙ ap (λ v. nat_lt met v.size) (sym is) ∙ lt-ltb met block.size longer

-- a block of these places
abbrev block_of : {E : Type 0} → E → Bool → ℕ → ℕ → List E → HeldBlock E
block_of d b w k places = record { size = k; waits = b; stripes = stripes_of d b w k places }

pub count_seen : {E : Type 0} (d : E) (b : Bool) (w k : ℕ) (places : List E) (seen : HeldBlock E)
    → block_of d b w k places ≡ seen → length seen.stripes ≡ w
count_seen d b w k places seen is = ap (λ v. length v.stripes) (sym is) ∙ length-stripes d b w k places

-- where a stripe of it stands
pub stripe_room : {E : Type 0} {P : E → Type 0} (d : E) {b : Bool} {w k : ℕ} (i : ℕ) {places : List E}
    {seen : HeldBlock E} → block_of d b w k places ≡ seen → IsLaid P w k places → i < length seen.stripes
    → i * k + k ≤ length places
stripe_room {E} {P} d {b} {w} {k} i {places} {seen} is laid few =
    inside_cut w k i (length places) (omega (arith, count_seen d b w k places seen is)) laid.whole

pub each_seen : {E : Type 0} (P : E → Type 0) (d : E) (b : Bool) (w k : ℕ) (places : List E) (seen : HeldBlock E)
    → block_of d b w k places ≡ seen → length places ≡ k * w → All P places
    → All (λ s. (length s ≡ seen.size) × All P s) seen.stripes
each_seen P d b w k places seen is whole elements =
    subst (λ v. All (λ s. (length s ≡ v.size) × All P s) v.stripes) is (stripes_each P d b w k places whole elements)

pub longer_seen : {E : Type 0} (P : E → Type 0) (d : E) (b : Bool) (w k : ℕ) (places : List E) (seen : HeldBlock E)
    → block_of d b w k places ≡ seen → length places ≡ k * w → All P places
    → (met : ℕ) → met < k → longer_than met (map length seen.stripes) ≡ w
longer_seen P d b w k places seen is whole elements met longer =
    ap (λ v. longer_than met (map length v.stripes)) (sym is)
    ∙ longer_all met k (stripes_of d b w k places) (All P) longer (stripes_each P d b w k places whole elements)
    ∙ length-stripes d b w k places

pub none_longer : {E : Type 0} (P : E → Type 0) (d : E) (b : Bool) (w k : ℕ) (places : List E) (seen : HeldBlock E)
    → block_of d b w k places ≡ seen → length places ≡ k * w → All P places
    → (met : ℕ) → k ≤ met → longer_than met (map length seen.stripes) ≡ 0
none_longer P d b w k places seen is whole elements met short =
    let each = stripes_each P d b w k places whole elements in
    ap (λ v. longer_than met (map length v.stripes)) (sym is)
    ∙ longer_none met k (stripes_of d b w k places) short (λ c t m. omega (arith, (each c t m).0))
