-- A vector that is written at a place of rows.
use borrow.Rule.Slice.PartMut.{put_mid}
use lib.Lanes.{put_chunk}
use Rattle.std.proofs.Common.{◌≡◌, ℕ, ◌+◌, ◌-◌, ◌<◌, ◌≤◌, inl, inr, List, length, take, drop, get_or, sym, ap, ◌∙◌, arith}
use Rattle.std.proofs.lemmas.Bool.{cases_lt}
use Rattle.std.proofs.lemmas.Simd.{get_or-put_chunk_at, get_or-put_chunk_above}
use Rattle.std.proofs.lemmas.List.{take_rest, length-drop, get_or-drop, get_or_past}
use Rattle.field_rows.proofs.Parts.{part_inside, part_length}

module _ {E : Type 0} (d : E) (at : ℕ) (rows new : List E) (place : at ≤ length rows)
    (same : length new ≡ length (take (length rows - at) (drop at rows))) where
  abbrev rest : List E
  rest = take (length rows - at) (drop at rows)

  long : length rest ≡ length rows - at
  long = ap length (take_rest rows at) ∙ length-drop at rows

  pub written : (c : ℕ) → at + c < length rows → get_or (put_mid at (length rows - at) rows new) (at + c) d ≡ get_or new c d
  written c l = part_inside d at (length rows - at) rows new (omega (arith, place)) (same ∙ long) c (omega (arith, l))

  module _ (v : List E) (size : length v ≡ 32) (room : 32 ≤ length rows - at) (is : new ≡ put_chunk 0 rest v) where
    pub vector_inside : (c : ℕ) → c < 32 → at + c < length rows
        → get_or (put_mid at (length rows - at) rows new) (at + c) d ≡ get_or v c d
    vector_inside c few l =
        let e : 0 + c ≡ c = omega arith in
        written c l ∙ ap (λ t. get_or t c d) is ∙ ap (λ i. get_or (put_chunk 0 rest v) i d) (sym e)
        ∙ get_or-put_chunk_at 0 rest v c d (omega (arith, size)) (omega (arith, size, long))

    pub vector_behind : (i : ℕ) → at + 32 ≤ i → get_or (put_mid at (length rows - at) rows new) i d ≡ get_or rows i d
    vector_behind i past =
        let e : at + (i - at) ≡ i = omega arith in
        elim (cases_lt i (length rows)) [
          | inl l ↦
              ap (λ k. get_or (put_mid at (length rows - at) rows new) k d) (sym e) ∙ written (i - at) (omega (arith, l))
              ∙ ap (λ t. get_or t (i - at) d) is ∙ get_or-put_chunk_above 0 rest v (i - at) d (omega (arith, size))
              ∙ ap (λ t. get_or t (i - at) d) (take_rest rows at) ∙ get_or-drop at rows (i - at) d
              ∙ ap (λ k. get_or rows k d) e
          | inr g ↦
              get_or_past (put_mid at (length rows - at) rows new) i d
              (omega (arith, part_length d at (length rows - at) rows new (omega (arith, place)) (same ∙ long)))
              ∙ sym (get_or_past rows i d g)
        ]
