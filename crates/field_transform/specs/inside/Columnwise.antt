-- What each step of the transform makes of each column of rows.
use Rattle.std.specs.Prelude.{◌≡◌, ◌<◌, ◌^◌, ℕ, suc, List, [], ◌∷◌, ◌++◌, take, drop, slice_index_or}
use Rattle.field_elements.specs.Field.{Operations}
use Rattle.field_rows.specs.Columns.{column}
use Rattle.field_transform.specs.Basis.{hats}
use Rattle.field_transform.specs.inside.Trees.{Tree, flat, spread, add, each, flown, expanded, scaled, up, converted}

-- R holds of each column of the first k rows before and after; `d` stands where a row is cut short
abbrev pub Columnwise : {E : Type 0} → E → (List E → List E → Type 0) → ℕ → ℕ → List E → List E → Type 0
Columnwise d R width k old new = (c : ℕ) → c < width → R (column d width k c old) (column d width k c new)

-- the second list, as far as it goes, joined to the first
abbrev pub along : {E : Type 0} → (E → E → E) → List E → List E → List E
along g xs [] = xs
along g [] (y ∷ ys) = []
along g (x ∷ xs) (y ∷ ys) = g x y ∷ along g xs ys

-- the butterflies on the coset of the number c, at the first k places
unfoldable pub Flies : {E : Type 0} → Operations E → (ℕ → E) → (ℕ → E) → ℕ → ℕ → ℕ → List E → List E → Type 0
Flies {E} o inverse point n c k old new =
    (t : Tree E n) → flat n t ≡ old → (p : ℕ) → p < k
    → slice_index_or new p o.nought
    ≡ slice_index_or (flat n (flown o (λ i x. hats o inverse i x) (λ i. point (2 ^ i)) n (point c) t)) p o.nought

-- the fourth quarter added to the third, and the new third to the second
pub record Lifts {E : Type 0} (o : Operations E) (m : ℕ) (low high new_low new_high : List E) : Type 0 where
  pub front : new_low ≡ take m low ++ along o.plus (drop m low) (along o.plus (take m high) (drop m high))
  pub back : new_high ≡ along o.plus (take m high) (drop m high) ++ drop m high

-- the expansion of blocks of 2 to the power j
unfoldable pub Expands : {E : Type 0} → Operations E → ℕ → ℕ → List E → List E → Type 0
Expands {E} o j n old new =
    (t : Tree (Tree E j) (suc n)) → spread {E = E} j (suc n) t ≡ old
    → new ≡ spread {E = E} (suc j) n (expanded (add o.plus j) n t)

-- block i of 2 to the power j times a and the power i of g
unfoldable pub Scales : {E : Type 0} → Operations E → ℕ → ℕ → E → E → List E → List E → Type 0
Scales {E} o j n g a old new =
    (t : Tree (Tree E j) n) → spread {E = E} j n t ≡ old
    → new ≡ spread {E = E} j n (scaled {B = Tree E j} o (λ s. each (o.times s) j) g n a t)

-- from powers of the hat j, over blocks of 2 to the power j, to products of hats
unfoldable pub Converts : {E : Type 0} → Operations E → (ℕ → E) → ℕ → ℕ → List E → List E → Type 0
Converts {E} o factor j n old new =
    (t : Tree (Tree E j) n) → spread {E = E} j n t ≡ old
    → new ≡ flat {B = E} (up j n) (converted {E = E} o factor j n t)
