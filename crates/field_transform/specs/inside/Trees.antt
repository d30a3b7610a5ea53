-- Lists of 2 to the power n elements as perfect binary trees, and what the steps of the transform make of them.
-- Gao and Mateer 2010 (the expansion and the scaling); Lin, Chung and Han 2014 (the butterflies).
use Rattle.std.specs.Prelude.{ℕ, zero, suc, List, [], ◌∷◌, ◌++◌}
use Rattle.field_elements.specs.Field.{Operations}
use Rattle.field_transform.specs.Basis.{squared}

pub record Two (A : Type 0) : Type 0 where
  pub low : A
  pub high : A

abbrev pub Tree : Type 0 → ℕ → Type 0
Tree B zero = B
Tree B (suc n) = Two (Tree B n)

abbrev pub flat : {B : Type 0} (n : ℕ) → Tree B n → List B
flat zero t = t ∷ []
flat (suc n) t = flat n t.low ++ flat n t.high

-- a tree of trees, leaf after leaf
abbrev pub spread : {E : Type 0} (j n : ℕ) → Tree (Tree E j) n → List E
spread j zero t = flat j t
spread j (suc n) t = spread j n t.low ++ spread j n t.high

abbrev pub add : {B : Type 0} → (B → B → B) → (n : ℕ) → Tree B n → Tree B n → Tree B n
add plus zero s t = plus s t
add plus (suc n) s t = record { low = add plus n s.low t.low; high = add plus n s.high t.high }

abbrev pub each : {B : Type 0} → (B → B) → (n : ℕ) → Tree B n → Tree B n
each by zero t = by t
each by (suc n) t = record { low = each by n t.low; high = each by n t.high }

-- the butterflies on the coset of c: the higher half times the hat is added to the lower half, and the new lower half
-- to the
-- higher half
abbrev pub flown : {E : Type 0} → Operations E → (ℕ → E → E) → (ℕ → E) → (n : ℕ) → E → Tree E n → Tree E n
flown o hat b zero c t = t
flown o hat b (suc n) c t =
    let u = add o.plus n t.low (each (o.times (hat n c)) n t.high) in
    record { low = flown o hat b n c u; high = flown o hat b n (o.plus c (b n)) (add o.plus n u t.high) }

-- the expansion at y y + y
abbrev pub expanded : {B : Type 0} → (B → B → B) → (n : ℕ) → Tree B (suc n) → Tree (Two B) n
expanded plus zero t = t
expanded plus (suc n) t =
    let g = add plus n t.high.low t.high.high in
    record {
      low = expanded plus n (record { low = t.low.low; high = add plus n t.low.high g });
      high = expanded plus n (record { low = g; high = t.high.high });
    }

-- leaf i times a and the power i of g
abbrev pub scaled : {E B : Type 0} → Operations E → (E → B → B) → E → (n : ℕ) → E → Tree B n → Tree B n
scaled o by g zero a t = by a t
scaled o by g (suc n) a t =
    record { low = scaled o by g n a t.low; high = scaled o by g n (o.times a (squared o n g)) t.high }

-- j and n
abbrev pub up : ℕ → ℕ → ℕ
up j zero = j
up j (suc n) = up (suc j) n

-- from powers of the hat j to products of hats
abbrev pub converted : {E : Type 0} → Operations E → (ℕ → E) → (j n : ℕ) → Tree (Tree E j) n → Tree E (up j n)
converted o g j zero t = t
converted {E} o g j (suc n) t =
    converted o g (suc j) n
    (scaled {B = Tree E (suc j)} o (λ a. each (o.times a) (suc j)) (g j) n o.unit (expanded (add o.plus j) n t))
