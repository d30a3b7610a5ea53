-- Rows of values that are made coset after coset.
use borrow.Rule.Slice.PartMut.{put_mid}
use Rattle.std.proofs.Common.{◌≡◌, ℕ, inl, inr, ◌+◌, ◌-◌, ◌*◌, ◌<◌, ◌≤◌, List, length, get_or, take, drop, ap, sym, ◌∙◌}
use Rattle.std.proofs.Common.{arith}
use Rattle.std.proofs.lemmas.Bool.{cases_lt}
use Rattle.std.proofs.lemmas.List.{get_or-take, get_or-drop, length-take-le, length-drop}
use Rattle.field_rows.proofs.Parts.{part_before, part_inside}
use Rattle.std.specs.Prelude.{max, min}
use Rattle.field_rows.specs.laws.PlaceLaws.{place_below}
use Rattle.field_values.proofs.RowAfterRow.{row_within}

-- `count` rows are copied from row `from` on over those from row `to` on
module _ {E : Type 0} (width from to count start place words : ℕ) (rows into piece : List E)
    (source : (from + count) * width ≤ length rows) (target : (to + count) * width ≤ length into)
    (start_is : start ≡ from * width) (place_is : place ≡ to * width) (words_is : words ≡ count * width)
    (copied : piece ≡ take (start + words - start) (drop start rows)) where
  abbrev new : List E
  new = put_mid place (place + words - place) into piece

  pub source_within : start + words ≤ length rows
  source_within = omega (arith, source, start_is, words_is)

  pub target_within : place + words ≤ length into
  target_within = omega (arith, target, place_is, words_is)

  piece_long : length piece ≡ place + words - place
  piece_long =
      ap length copied
      ∙ length-take-le (start + words - start) (drop start rows) (omega (arith, length-drop start rows, source_within))
      ∙ omega arith

  within : place + (place + words - place) ≤ length into
  within = omega (arith, target_within)

  pub copied_at : (d : E) (p c : ℕ) → p < count → c < width
      → get_or new ((to + p) * width + c) d ≡ get_or rows ((from + p) * width + c) d
  copied_at d p c l m =
      let inside : p * width + c < words = omega (arith, row_within p count width l, words_is) in
      let there : (to + p) * width + c ≡ place + (p * width + c) = omega (arith, place_is) in
      let here : start + (p * width + c) ≡ (from + p) * width + c = omega (arith, start_is) in
      ap (λ i. get_or new i d) there
      ∙ part_inside d place (place + words - place) into piece within piece_long (p * width + c) (omega arith)
      ∙ ap (λ xs. get_or xs (p * width + c) d) copied
      ∙ get_or-take (start + words - start) (drop start rows) (p * width + c) d (omega arith)
      ∙ get_or-drop start rows (p * width + c) d ∙ ap (λ i. get_or rows i d) here

  pub before_at : (d : E) (i : ℕ) → i < to * width → get_or new i d ≡ get_or into i d
  before_at d i l = part_before d place (place + words - place) into piece within piece_long i (omega (arith, place_is))

-- a coset more
pub cosets_more : {E : Type 0} (d : E) (V : ℕ → ℕ → E) (w size coset first count : ℕ) (into after : List E)
    → ((p c : ℕ) → p < count → first + p < coset * size → c < w → get_or into (p * w + c) d ≡ V c (first + p))
    → ((p c : ℕ) → p < count → coset * size ≤ first + p → first + p < coset * size + size → c < w
    → get_or after (p * w + c) d ≡ V c (first + p))
    → ((p c : ℕ) → p < count → first + p < coset * size → c < w
    → get_or after (p * w + c) d ≡ get_or into (p * w + c) d)
    → (p c : ℕ) → p < count → first + p < coset * size + size → c < w → get_or after (p * w + c) d ≡ V c (first + p)
cosets_more d V w size coset first count into after done here before p c l m k =
    elim (cases_lt (first + p) (coset * size)) [
      | inl a ↦ before p c l a k ∙ done p c l a k
      | inr a ↦ here p c l a m k
    ]

-- one coset is counted more
pub cost_more : (from coset each : ℕ) → from ≤ coset → (coset + 1 - from) * each ≡ (coset - from) * each + each
cost_more from coset each l =
    let e : coset + 1 - from ≡ coset - from + 1 = omega arith in
    ap (λ n. n * each) e ∙ omega arith

-- the numbers `low` to `high - 1` are those of `first` to `first + count - 1` that lie in the coset of `size` numbers
-- from `start` on
module _ (first count begin width_of_coset low high start size : ℕ) (low_is : low ≡ max first begin)
    (high_is : high ≡ min (first + count) (begin + width_of_coset))
    (begin_is : begin ≡ start) (size_is : width_of_coset ≡ size) where
  pub up_to_high : high - begin ≤ size
  up_to_high = omega arith

  pub within_coset : start < first + count → first < start + size → low - begin + (high - low) ≤ size
  within_coset some near = omega arith

  pub within_rows : start < first + count → first < start + size → low - first + (high - low) ≤ count
  within_rows some near = omega arith

  pub coset_values : {E : Type 0} (d : E) (V : ℕ → ℕ → E) (w : ℕ) (rows into : List E)
      → ((p c : ℕ) → p < high - low → c < w
      → get_or into ((low - first + p) * w + c) d ≡ get_or rows ((low - begin + p) * w + c) d)
      → ((p c : ℕ) → p < high - begin → c < w → get_or rows (p * w + c) d ≡ V c (start + p))
      → (p c : ℕ) → p < count → start ≤ first + p → first + p < start + size → c < w
      → get_or into (p * w + c) d ≡ V c (first + p)
  coset_values d V w rows into copied made p c l a b m =
      let q = first + p - low in
      let here : low - first + q ≡ p = omega arith in
      let there : start + (low - begin + q) ≡ first + p = omega arith in
      ap (λ n. get_or into (n * w + c) d) (sym here) ∙ copied q c (omega arith) m
      ∙ made (low - begin + q) c (omega arith) m ∙ ap (V c) there

  pub before_coset : (w p c : ℕ) → first + p < start → c < w → p * w + c < (low - first) * w
  before_coset w p c l m = place_below p (low - first) w c (omega arith) m
