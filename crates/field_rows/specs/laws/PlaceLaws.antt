-- Laws of the places of rows, for callers: where a row of a block begins, and a list that is filled from the front.
use Rattle.std.proofs.Common.{◌≡◌, ℕ, zero, suc, ◌+◌, ◌-◌, ◌*◌, ◌<◌, ◌≤◌, inl, inr, List, length, get_or, set, sym, ap}
use Rattle.std.proofs.Common.{◌∙◌, arith}
use Rattle.std.proofs.lemmas.Bool.{cases_lt}
use Rattle.std.proofs.lemmas.List.{get_or-set_same, get_or-set_other}
use Rattle.std.proofs.lemmas.Nat.{mul-le}

pub place_below : (i j w c : ℕ) → i < j → c < w → i * w + c < j * w
place_below i j w c l m = omega (arith, mul-le (suc i) w j w l (omega arith))

pub more_rows : (j w : ℕ) → (j + 1) * w ≡ j * w + w
more_rows j w = omega arith

pub rows_le : (j k w : ℕ) → j ≤ k → j * w ≤ k * w
rows_le j k w l = mul-le j w k w l (omega arith)

-- a list that is filled from the front, with one place more
pub filled : {E : Type 0} (F : ℕ → E) (d : E) (xs : List E) (n : ℕ) (v : E) → n < length xs
    → ((k : ℕ) → k < n → get_or xs k d ≡ F k) → v ≡ F n
    → (k : ℕ) → k < n + 1 → get_or (set xs n v) k d ≡ F k
filled F d xs n v l h e k g =
    elim (cases_lt k n) [
      | inl m ↦ get_or-set_other xs n k v d (λ q. absurd (omega arith)) ∙ h k m
      | inr m ↦
          let q : k ≡ n = omega arith in
          ap (λ i. get_or (set xs n v) i d) q ∙ get_or-set_same xs n v d l ∙ e ∙ ap F (sym q)
    ]

-- the row before row j
pub row_place : (j w at : ℕ) → 0 < j → at ≡ j * w → at - w ≡ (j - 1) * w
row_place zero w at h e = absurd (omega arith)
row_place (suc j) w at h e = let q : suc j - 1 ≡ j = omega arith in rw q (omega arith)

pub row_room : (j w k i : ℕ) → 0 < j → j ≤ k → i < w → (j - 1) * w + i < k * w
row_room zero w k i h m l = absurd (omega arith)
row_room (suc j) w k i h m l =
    let q : suc j - 1 ≡ j = omega arith in rw q (omega (arith, mul-le (suc j) w k w m (omega arith)))
