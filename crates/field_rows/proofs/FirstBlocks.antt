-- Blocks one after another.
use borrow.Rule.Slice.PartMut.{put_mid}
use Rattle.std.proofs.Common.{◌≡◌, ℕ, zero, suc, ◌+◌, ◌-◌, ◌*◌, ◌<◌, ◌≤◌, List, [], ◌∷◌, ◌++◌, length, get_or, take}
use Rattle.std.proofs.Common.{drop, map, sym, ap, ap₂, ◌∙◌, arith, append_assoc, add-one}
use Rattle.std.proofs.lemmas.List.{map-append, length-map, get_or-map, length-drop, length-take-le, drop-drop}
use Rattle.std.proofs.lemmas.List.{append-nil, ext_get_or}
use Rattle.std.proofs.lemmas.Slice.{take-put_mid}
use Rattle.field_rows.specs.declared.blocks.Block.{Block}
use Rattle.field_rows.specs.Columns.{column, block_columns}
use Rattle.field_rows.specs.Blocks.{size_of, width_of, columns_of}
use Rattle.field_rows.specs.laws.ColumnLaws.{column_take, length-block_columns, block_column_at}

abbrev pub b0 : Block
b0 = record { length = 0; width = 0 }

pub room_size : (bs : List Block) (i : ℕ) → i < length bs
    → size_of (take i bs) + (get_or bs i b0).length * (get_or bs i b0).width ≤ size_of bs
room_size [] i l = absurd (omega arith)
room_size (b ∷ bs) zero l = omega arith
room_size (b ∷ bs) (suc i) l = omega (arith, room_size bs i (omega arith))

pub room_width : (bs : List Block) (i : ℕ) → i < length bs → width_of (take i bs) + (get_or bs i b0).width ≤ width_of bs
room_width [] i l = absurd (omega arith)
room_width (b ∷ bs) zero l = omega arith
room_width (b ∷ bs) (suc i) l = omega (arith, room_width bs i (omega arith))

pub more_size : (bs : List Block) (i : ℕ) → i < length bs
    → size_of (take (suc i) bs) ≡ size_of (take i bs) + (get_or bs i b0).length * (get_or bs i b0).width
more_size [] i l = absurd (omega arith)
more_size (b ∷ bs) zero l = omega arith
more_size (b ∷ bs) (suc i) l = ap (λ n. b.length * b.width + n) (more_size bs i (omega arith)) ∙ omega arith

pub more_width : (bs : List Block) (i : ℕ) → i < length bs
    → width_of (take (suc i) bs) ≡ width_of (take i bs) + (get_or bs i b0).width
more_width [] i l = absurd (omega arith)
more_width (b ∷ bs) zero l = omega arith
more_width (b ∷ bs) (suc i) l = ap (λ n. b.width + n) (more_width bs i (omega arith)) ∙ omega arith

pub more_columns : {E : Type 0} (d : E) (bs : List Block) (i : ℕ) (laid : List E) → i < length bs
    → columns_of d (take (suc i) bs) laid
    ≡ columns_of d (take i bs) laid
    ++ block_columns d (get_or bs i b0).width (get_or bs i b0).length (drop (size_of (take i bs)) laid)
more_columns d [] i laid l = absurd (omega arith)
more_columns d (b ∷ bs) zero laid l = append-nil (block_columns d b.width b.length laid)
more_columns d (b ∷ bs) (suc i) laid l =
    ap (λ t. block_columns d b.width b.length laid ++ t)
    (more_columns d bs i (drop (b.length * b.width) laid) (omega arith)
    ∙ ap (λ t. columns_of d (take i bs) (drop (b.length * b.width) laid)
    ++ block_columns d (get_or bs i b0).width (get_or bs i b0).length t)
    (drop-drop (size_of (take i bs)) (b.length * b.width) laid))
    ∙ sym (append_assoc (block_columns d b.width b.length laid)
    (columns_of d (take i bs) (drop (b.length * b.width) laid))
    (block_columns d (get_or bs i b0).width (get_or bs i b0).length
    (drop (b.length * b.width + size_of (take i bs)) laid)))

-- the values of the columns of a block
pub values_are : {E : Type 0} (V : List E → E) (d : E) (w k n : ℕ) (rest values : List E) → length values ≡ w
    → k * w ≤ n
    → ((c : ℕ) → c < w → get_or values c d ≡ V (column d w k c (take n rest)))
    → values ≡ map V (block_columns d w k rest)
values_are V d w k n rest values long room is =
    let columns : List (List _) = block_columns d w k rest in
    let long_columns : length columns ≡ w = length-block_columns d w k rest in
    ext_get_or d values (map V columns) (long ∙ sym (length-map columns V ∙ long_columns))
    (λ c l.
    let m : c < w = omega arith in
    is c m ∙ ap V (column_take d w k c n rest m room)
    ∙ sym
    (get_or-map V columns c [] d (omega (arith, long_columns)) ∙ ap V (block_column_at d w k c rest m)))

-- one block more
module _ {E : Type 0} (V : List E → E) (d : E) (bs : List Block) (i at to : ℕ) (laid into new : List E)
    (l : i < length bs) (place : at ≡ size_of (take i bs)) (until : to ≡ width_of (take i bs))
    (whole : length laid ≡ size_of bs) (long : length into ≡ width_of bs) where
  abbrev w : ℕ
  w = (get_or bs i b0).width

  abbrev k : ℕ
  k = (get_or bs i b0).length

  pub end_within : at + k * w ≤ length laid
  end_within = omega (arith, room_size bs i l)

  pub till_within : to + w ≤ length into
  till_within = omega (arith, room_width bs i l)

  part_long : length (take (to + w - to) (drop to into)) ≡ w
  part_long =
      length-take-le (to + w - to) (drop to into) (omega (arith, length-drop to into, till_within)) ∙ omega arith

  pub step_done : length new ≡ length (take (to + w - to) (drop to into))
      → ((c : ℕ) → c < length (take (to + w - to) (drop to into))
      → get_or new c d
      ≡ V (column d (length (take (to + w - to) (drop to into))) k c (take (at + k * w - at) (drop at laid))))
      → take to into ≡ map V (columns_of d (take i bs) laid)
      → take (to + w) (put_mid to (to + w - to) into new) ≡ map V (columns_of d (take (i + 1) bs) laid)
  step_done n is done =
      let long_new : length new ≡ w = n ∙ part_long in
      let room : k * w ≤ at + k * w - at = omega arith in
      let values = values_are V d w k (at + k * w - at) (drop at laid) new long_new room
      (λ c m. is c (rw part_long m) ∙ ap (λ j. V (column d j k c (take (at + k * w - at) (drop at laid)))) part_long) in
      take-put_mid to (to + w - to) into new (to + w) (omega arith) (omega (arith, till_within))
      ∙ ap₂ ◌++◌ done (values ∙ ap (λ p. map V (block_columns d w k (drop p laid))) place)
      ∙ sym (map-append V (columns_of d (take i bs) laid) (block_columns d w k (drop (size_of (take i bs)) laid)))
      ∙ ap (map V) (sym (more_columns d bs i laid l) ∙ ap (λ j. columns_of d (take j bs) laid) (sym (add-one i)))
