-- Rows of one length, one behind another.
use borrow.Rule.Slice.PartMut.{put_mid, post_of}
use Rattle.std.proofs.Common.{◌≡◌, ℕ, inl, inr, ◌+◌, ◌*◌, ◌<◌, ◌≤◌, List, ◌++◌, length, take, drop, map, sym, ap, ◌∙◌}
use Rattle.std.proofs.Common.{arith}
use Rattle.std.proofs.lemmas.Bool.{cases_lt}
use Rattle.std.proofs.lemmas.List.{length-take-le, drop-take, take_at, drop_at}
use Rattle.std.proofs.lemmas.Slice.{take-put_mid_below}
use Rattle.field_rows.specs.laws.PlaceLaws.{more_rows, rows_le}

-- a row is within as many rows
pub row_within : (p count w : ℕ) → p < count → p * w + w ≤ count * w
row_within p count w l = omega (arith, rows_le (p + 1) count w (omega arith), more_rows p w)

-- where it ends
pub row_end : (p count w at n : ℕ) → p < count → at ≡ p * w → n ≡ count * w → at + w ≤ n
row_end p count w at n l place long = omega (arith, place, long, row_within p count w l)

-- the values at an element are those at an equal one
pub values_at : {E : Type 0} (V : E → List E → E) (x y z : E) (columns : List (List E)) (new : List E)
    → new ≡ map (V x) columns → x ≡ y → y ≡ z → new ≡ map (V z) columns
values_at V x y z columns new is first then = is ∙ ap (λ t. map (V t) columns) (first ∙ then)

-- one row more
pub row_more : {E : Type 0} (row : ℕ → List E) (w p at k : ℕ) (into new : List E) → at ≡ p * w → k ≡ w
    → at + k ≤ length into → length new ≡ k → new ≡ row p
    → ((q : ℕ) → q < p → take w (drop (q * w) into) ≡ row q) → (q : ℕ) → q < p + 1
    → take w (drop (q * w) (put_mid at k into new)) ≡ row q
row_more row w p at k into new place kw room long is done q l =
    elim (cases_lt q p) [
      | inl m ↦
          sym (drop-take (q * w) w (put_mid at k into new))
          ∙ ap (drop (q * w))
          (take-put_mid_below at k into new (q * w + w) (omega (arith, place, row_within q p w m)) (omega arith))
          ∙ drop-take (q * w) w into ∙ done q m
      | inr m ↦
          let e : q ≡ p = omega arith in
          ap (λ t. take w (drop (t * w) (put_mid at k into new))) e
          ∙ ap (λ t. take w (drop t (put_mid at k into new))) (sym place)
          ∙ ap (take w) (drop_at (take at into) (new ++ post_of at k into) at (length-take-le at into (omega arith)))
          ∙ take_at new (post_of at k into) w (long ∙ kw) ∙ is ∙ ap row (sym e)
    ]
