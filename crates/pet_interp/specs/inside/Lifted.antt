-- What one more point does to the stripes: a multiple of the product is added to each that is longer than the product
-- (this project's own).
use Rattle.std.specs.Prelude.{◌≡◌, ℕ, ◌+◌, List, [], ◌∷◌, ◌++◌, length, take, drop, cond, nat_lt, slice_index_or}
use Rattle.field_elements.specs.Field.{Operations}
use Rattle.pet_poly.specs.Value.{value, value_monic}
use Rattle.pet_poly.specs.InPlace.{scaled_sum}

-- the multiple of the product that is added to a stripe; `inverse` is that of the product's value
abbrev pub factor : {E : Type 0} → Operations E → List E → E → E → List E → E → E
factor o low x inverse s y = o.times (o.minus y (value o (take (length low) s) x)) inverse

-- the stripe with this multiple of the product, whose highest coefficient is one
abbrev pub lifted : {E : Type 0} → Operations E → List E → E → E → List E → E → List E
lifted o low x inverse s y =
    cond (nat_lt (length low) (length s))
    (scaled_sum o (factor o low x inverse s y) (take (length low) s) low
    ++ (factor o low x inverse s y ∷ drop (length low + 1) s)) s

-- each stripe by its own value
abbrev pub lifted_all : {E : Type 0} → Operations E → List E → E → E → List (List E) → List E → List (List E)
lifted_all o low x inverse stripes [] = stripes
lifted_all o low x inverse [] (y ∷ ys) = []
lifted_all o low x inverse (s ∷ stripes) (y ∷ ys) = lifted o low x inverse s y ∷ lifted_all o low x inverse stripes ys

-- the stripes are lifted, by an inverse of the product's value
pub record IsLifted {E : Type 0} (is_element : E → Type 0) (o : Operations E) (low : List E) (x : E) (ys : List E)
    (before after : List (List E)) : Type 0 where
  pub inverse : E
  pub element : is_element inverse
  pub inverts : o.times (value_monic o low x) inverse ≡ o.unit
  pub stripes : after ≡ lifted_all o low x inverse before ys

-- ---- the same in passes: first the multiple in the place of the highest coefficient, then the lower ones

-- the stripe, if it is longer than `met`, with the multiple in its place `met`
abbrev pub begun : {E : Type 0} → Operations E → ℕ → E → E → List E → E → List E
begun o met x inverse s y =
    cond (nat_lt met (length s))
    (take met s ++ (o.times (o.minus y (value o (take met s) x)) inverse ∷ drop (met + 1) s)) s

-- each stripe by its own value
abbrev pub begun_all : {E : Type 0} → Operations E → ℕ → E → E → List (List E) → List E → List (List E)
begun_all o met x inverse stripes [] = stripes
begun_all o met x inverse [] (y ∷ ys) = []
begun_all o met x inverse (s ∷ stripes) (y ∷ ys) = begun o met x inverse s y ∷ begun_all o met x inverse stripes ys

-- the stripe, if it is longer than `met`, with what its place `met` makes of these factors added from `from` on
abbrev pub grown : {E : Type 0} → Operations E → ℕ → ℕ → List E → List E → List E
grown o met from factors s =
    cond (nat_lt met (length s)) (take from s ++ scaled_sum o (slice_index_or s met o.nought) (drop from s) factors) s

-- the same from the place 0 on
abbrev pub grown_to : {E : Type 0} → Operations E → ℕ → List E → List E → List E
grown_to o met factors s =
    cond (nat_lt met (length s)) (scaled_sum o (slice_index_or s met o.nought) s factors) s
