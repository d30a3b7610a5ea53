-- One row more to which a multiple of a row was added.
use borrow.Rule.Slice.PartMut.{put_mid}
use Rattle.std.proofs.Common.{◌≡◌, ℕ, inl, inr, ◌+◌, ◌-◌, ◌*◌, ◌<◌, ◌≤◌, List, length, get_or, take, drop, ap, ap₂, sym}
use Rattle.std.proofs.Common.{All, refl, ◌∙◌, arith}
use Rattle.std.proofs.lemmas.Bool.{cases_lt}
use Rattle.std.proofs.lemmas.List.{get_or-take, get_or-drop, length-take-le, length-drop}
use Rattle.field_elements.specs.Field.{Operations}
use Rattle.pet_poly.specs.InPlace.{scaled_sum}
use Rattle.field_rows.specs.laws.PlaceLaws.{place_below, more_rows, rows_le}
use Rattle.field_rows.proofs.Parts.{part_before, part_inside, part_behind, scaled_entry}

-- ---- the part of a block from a place on

pub part_room : {E : Type 0} (at : ℕ) (row rows : List E) → at + length row ≤ length rows
    → at + (at + length row - at) ≤ length rows
part_room at row rows room = omega arith

pub part_long : {E : Type 0} (at : ℕ) (row rows : List E) → at + length row ≤ length rows
    → length (take (at + length row - at) (drop at rows)) ≡ at + length row - at
part_long at row rows room = length-take-le (at + length row - at) (drop at rows) (omega (arith, length-drop at rows))

module _ {E : Type 0} (o : Operations E) (at : ℕ) (row rows new : List E) (by : E)
    (room : at + length row ≤ length rows)
    (long : length new ≡ at + length row - at)
    (is : new ≡ scaled_sum o by (take (at + length row - at) (drop at rows)) row) where
  abbrev z : E
  z = o.nought

  abbrev k : ℕ
  k = at + length row - at

  pub added_inside : (c : ℕ) → c < length row
      → get_or (put_mid at k rows new) (at + c) z ≡ o.plus (get_or rows (at + c) z) (o.times by (get_or row c z))
  added_inside c l =
      part_inside z at k rows new (part_room at row rows room) long c (omega arith) ∙ ap (λ t. get_or t c z) is
      ∙ scaled_entry o by z (take k (drop at rows)) row c l (omega (arith, part_long at row rows room))
      ∙ ap (λ y. o.plus y (o.times by (get_or row c z)))
      (get_or-take k (drop at rows) c z (omega arith) ∙ get_or-drop at rows c z)

  pub added_before : (i : ℕ) → i < at → get_or (put_mid at k rows new) i z ≡ get_or rows i z
  added_before i l = part_before z at k rows new (part_room at row rows room) long i l

  pub added_behind : (i : ℕ) → at + length row ≤ i → get_or (put_mid at k rows new) i z ≡ get_or rows i z
  added_behind i l = part_behind z at k rows new (part_room at row rows room) long i (omega arith)

-- ---- numbers

pub next_room : (j k at w now old : ℕ) → j < k → at ≡ j * w → k * w ≤ old → now ≡ old → at + w ≤ now
next_room j k at w now old l place room long = omega (arith, rows_le (j + 1) k w (omega arith), more_rows j w)

pub next_cost : (j w old now new : ℕ) → now ≡ old + j * w → new ≡ now + w → new ≡ old + (j + 1) * w
next_cost j w old now new before more = omega (arith, more_rows j w)

-- ---- row j, from `at` on, of rows that were `old` at first; `factor` is that of each row

module _ {E : Type 0} (o : Operations E) (j at : ℕ) (row rows old new : List E) (by : E) (factor : ℕ → E)
    (place : at ≡ j * length row)
    (inside : (c : ℕ) → c < length row
    → get_or new (at + c) o.nought ≡ o.plus (get_or rows (at + c) o.nought) (o.times by (get_or row c o.nought)))
    (before : (i : ℕ) → i < at → get_or new i o.nought ≡ get_or rows i o.nought)
    (behind : (i : ℕ) → at + length row ≤ i → get_or new i o.nought ≡ get_or rows i o.nought) (by_is : by ≡ factor j)
    (rest : (i : ℕ) → j * length row ≤ i → get_or rows i o.nought ≡ get_or old i o.nought) where
  abbrev y : E
  y = o.nought

  abbrev w : ℕ
  w = length row

  pub sums_more : ((i c : ℕ) → i < j → c < w
      → get_or rows (i * w + c) y ≡ o.plus (get_or old (i * w + c) y) (o.times (factor i) (get_or row c y)))
      → (i c : ℕ) → i < j + 1 → c < w
      → get_or new (i * w + c) y ≡ o.plus (get_or old (i * w + c) y) (o.times (factor i) (get_or row c y))
  sums_more sums i n l m =
      elim (cases_lt i j) [
        | inl p ↦ before (i * w + n) (rw place (place_below i j w n p m)) ∙ sums i n p m
        | inr q ↦
            let s : i ≡ j = omega arith in
            let e : i * w + n ≡ at + n = ap (λ t. t * w + n) s ∙ ap (λ t. t + n) (sym place) in
            ap (λ t. get_or new t y) e ∙ inside n m
            ∙ ap₂ (λ u f. o.plus u (o.times f (get_or row n y)))
            (rest (at + n) (omega (arith, place)) ∙ ap (λ t. get_or old t y) (sym e)) (by_is ∙ ap factor (sym s))
      ]

  pub rest_more : (i : ℕ) → (j + 1) * w ≤ i → get_or new i y ≡ get_or old i y
  rest_more i l = behind i (omega (arith, place, more_rows j w)) ∙ rest i (omega (arith, more_rows j w))

-- The first j rows have the multiples of `row`, and the others are as they were; it took so many steps.
pub record HasAdded {E : Type 0} (P : E → Type 0) (o : Operations E) (j at : ℕ) (row old now : List E) (factor : ℕ → E)
    (begun steps : ℕ) : Type 0 where
  pub place : at ≡ j * length row
  pub long : length now ≡ length old
  pub elements : All P now
  pub sums : (i c : ℕ) → i < j → c < length row → get_or now (i * length row + c) o.nought
      ≡ o.plus (get_or old (i * length row + c) o.nought) (o.times (factor i) (get_or row c o.nought))
  pub rest : (i : ℕ) → j * length row ≤ i → get_or now i o.nought ≡ get_or old i o.nought
  pub cost : steps ≡ begun + j * length row

pub none_added : {E : Type 0} (P : E → Type 0) (o : Operations E) (row old : List E) (factor : ℕ → E) (steps : ℕ)
    → All P old → HasAdded P o 0 0 row old old factor steps steps
none_added P o row old factor steps elements = record {
  place = omega arith;
  long = refl;
  elements = elements;
  sums = λ i c l. absurd (omega arith);
  rest = λ i l. refl;
  cost = omega arith;
}

pub row_added : {E : Type 0} (P : E → Type 0) (o : Operations E) (j at : ℕ) (row old rows new : List E) (by : E)
    (factor : ℕ → E) (begun steps later : ℕ) → HasAdded P o j at row old rows factor begun steps
    → length new ≡ length rows → All P new
    → ((c : ℕ) → c < length row
    → get_or new (at + c) o.nought ≡ o.plus (get_or rows (at + c) o.nought) (o.times by (get_or row c o.nought)))
    → ((i : ℕ) → i < at → get_or new i o.nought ≡ get_or rows i o.nought)
    → ((i : ℕ) → at + length row ≤ i → get_or new i o.nought ≡ get_or rows i o.nought) → by ≡ factor j
    → later ≡ steps + length row → HasAdded P o (j + 1) (at + length row) row old new factor begun later
row_added P o j at row old rows new by factor begun steps later has same elements inside before behind by_is cost =
    record {
      place = ap (λ n. n + length row) has.place ∙ sym (more_rows j (length row));
      long = same ∙ has.long;
      elements = elements;
      sums = sums_more o j at row rows old new by factor has.place inside before behind by_is has.rest has.sums;
      rest = rest_more o j at row rows old new by factor has.place inside before behind by_is has.rest;
      cost = next_cost j (length row) begun steps later has.cost cost;
    }
