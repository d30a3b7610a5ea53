-- The leaves of trees, weighed, and the points of a coset.
use Rattle.std.specs.Prelude.{ℕ, zero, suc, List, [], ◌∷◌, ◌++◌}
use Rattle.field_elements.specs.Field.{Operations}
use Rattle.field_transform.specs.inside.Trees.{Tree}

abbrev pub Holds : {B : Type 0} → (B → Type 0) → (n : ℕ) → Tree B n → Type 0
Holds P zero t = P t
Holds P (suc n) t = Holds P n t.low × Holds P n t.high

-- the leaves are read by v, and the higher half of 2 to the power n leaves is weighed by w n
abbrev pub weighed : {E B : Type 0} → Operations E → (B → E) → (ℕ → E) → (n : ℕ) → Tree B n → E
weighed o v w zero t = v t
weighed o v w (suc n) t = o.plus (weighed o v w n t.low) (o.times (w n) (weighed o v w n t.high))

-- the points of the coset of c
abbrev pub points : {E : Type 0} → Operations E → (ℕ → E) → (n : ℕ) → E → List E
points o b zero c = c ∷ []
points o b (suc n) c = points o b n c ++ points o b n (o.plus c (b n))
