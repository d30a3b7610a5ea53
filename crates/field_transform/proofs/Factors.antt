-- The points of a coset, in the order of their numbers, and the whole over them.
use Rattle.std.proofs.Common.{◌≡◌, ◌<◌, ◌≤◌, ◌+◌, ◌*◌, ◌^◌, ◌++◌, ℕ, zero, suc, List, [], ◌∷◌, length, map, get_or}
use Rattle.std.proofs.Common.{refl, sym, ap, ap₂, ◌∙◌, subst, arith}
use lib.Bits.{bit_xor, xor_shifted}
use lib.Pow.{pow_pos}
use native.Mathlib.Nat.{pow-suc}
use Rattle.field_elements.specs.Field.{Operations, IsField, ArePoints}
use Rattle.pet_poly.specs.Value.{value}
use Rattle.field_transform.specs.Basis.{hats, value_in_basis}
use Rattle.field_transform.specs.Subspaces.{HasSubspaces}
use Rattle.field_transform.specs.inside.Trees.{Tree, flat, flown, converted, up}
use Rattle.field_transform.proofs.Leaves.{Holds, points}
use Rattle.field_transform.proofs.Flights.{flown_values, map_same, each_all}
use Rattle.field_transform.proofs.Conversions.{are_hats, at_point, basis_is, converted_is}

-- the points of c, c + 1 and so on
abbrev pub points_from : {E : Type 0} → (ℕ → E) → ℕ → ℕ → List E
points_from point c zero = []
points_from point c (suc k) = point c ∷ points_from point (suc c) k

points_append : {E : Type 0} (point : ℕ → E) (j k c : ℕ)
    → points_from point c j ++ points_from point (c + j) k ≡ points_from point c (j + k)
points_append point zero k c =
    let e : c + 0 ≡ c = omega arith in
    let g : 0 + k ≡ k = omega arith in
    ap (λ d. points_from point d k) e ∙ ap (points_from point c) (sym g)
points_append point (suc j) k c =
    let e : c + suc j ≡ suc c + j = omega arith in
    let g : suc j + k ≡ suc (j + k) = omega arith in
    ap (λ d. point c ∷ (points_from point (suc c) j ++ points_from point d k)) e
    ∙ ap (λ r. point c ∷ r) (points_append point j k (suc c))
    ∙ ap (points_from point c) (sym g)

pub length-points : {E : Type 0} (point : ℕ → E) (c k : ℕ) → length (points_from point c k) ≡ k
length-points point c zero = refl
length-points point c (suc k) = ap suc (length-points point (suc c) k)

pub points_at : {E : Type 0} (d : E) (point : ℕ → E) (c k p : ℕ) → p < k
    → get_or (points_from point c k) p d ≡ point (c + p)
points_at d point c zero p l = absurd (omega arith)
points_at d point c (suc k) zero l = ap point (omega arith)
points_at d point c (suc k) (suc p) l = points_at d point (suc c) k p (omega arith) ∙ ap point (omega arith)

doubled : (a p : ℕ) → a * (2 * p) ≡ 2 * a * p
doubled a p = grind arith

one_more : (a p : ℕ) → suc a * p ≡ a * p + p
one_more a p = grind arith

pub up_is : (n j : ℕ) → up j n ≡ j + n
up_is zero j = omega arith
up_is (suc n) j = up_is n (suc j) ∙ omega arith

module _ {E : Type 0} (P : E → Type 0) (o : Operations E) (f : IsField P o) (count : ℕ) (point : ℕ → E)
    (are_points : ArePoints P count point)
    (m : ℕ) (factor inverse : ℕ → E) (S : HasSubspaces P o count point m factor inverse) where
  -- the coset of a multiple of 2 to the power n
  points_count : (n a : ℕ) → n ≤ m → a * 2 ^ n < count
      → points o (λ i. point (2 ^ i)) n (point (a * 2 ^ n)) ≡ points_from point (a * 2 ^ n) (2 ^ n)
  points_count zero a l h = refl
  points_count (suc n) a l h =
      let r : 2 ^ n < count = S.room n (omega arith) in
      let p : 2 ^ suc n ≡ 2 * 2 ^ n = pow-suc 2 n ∙ omega arith in
      let e : a * 2 ^ suc n ≡ 2 * a * 2 ^ n = ap (λ z. a * z) p ∙ doubled a (2 ^ n) in
      let s : suc (2 * a) * 2 ^ n ≡ 2 * a * 2 ^ n + 2 ^ n = one_more (2 * a) (2 ^ n) in
      let x : bit_xor (a * 2 ^ suc n) (2 ^ n) ≡ suc (2 * a) * 2 ^ n =
      xor_shifted a (suc n) (2 ^ n) (omega (arith, p, pow_pos n)) ∙ ap (λ z. z + 2 ^ n) e ∙ sym s in
      let y : o.plus (point (a * 2 ^ suc n)) (point (2 ^ n)) ≡ point (suc (2 * a) * 2 ^ n) =
      sym (S.sums.sum (a * 2 ^ suc n) (2 ^ n) h r) ∙ ap point x in
      let small : suc (2 * a) * 2 ^ n < count = subst (λ z. z < count) x (S.sums.closed (a * 2 ^ suc n) (2 ^ n) h r) in
      let q : 2 ^ n + 2 ^ n ≡ 2 ^ suc n = omega (arith, p) in
      let b = λ (i : ℕ). point (2 ^ i) in
      ap₂ ◌++◌ (ap (λ z. points o b n (point z)) e ∙ points_count n (2 * a) (omega arith) (omega (arith, e, h)))
      (ap (points o b n) y ∙ points_count n (suc (2 * a)) (omega arith) small)
      ∙ ap (λ z. points_from point (2 * a * 2 ^ n) (2 ^ n) ++ points_from point z (2 ^ n)) s
      ∙ points_append point (2 ^ n) (2 ^ n) (2 * a * 2 ^ n)
      ∙ ap₂ (points_from point) (sym e) q

  pub all_converted : (n : ℕ) (x : E) (t : Tree E n) → n < m → P x → Holds P n t
      → value_in_basis o inverse n (flat (up 0 n) (converted {E = E} o factor 0 n t)) x ≡ value o (flat n t) x
  all_converted n x t l hx h =
      let d = converted {E = E} o factor 0 n t in
      let u : n ≡ up 0 n = omega (arith, up_is n 0) in
      ap (λ i. value_in_basis o inverse i (flat {B = E} (up 0 n) d) x) u
      ∙ sym (basis_is P o f S.two (λ i. point (2 ^ i)) m factor inverse S.constants (up 0 n) d x)
      ∙ converted_is P o f S.two (λ i. point (2 ^ i)) m factor inverse S.constants n t x l hx h

  pub all_flown : (n a : ℕ) (t : Tree E n) → n < m → a * 2 ^ n < count → Holds P n t
      → flat {B = E} n (flown o (λ i x. hats o inverse i x) (λ i. point (2 ^ i)) n (point (a * 2 ^ n)) t)
      ≡ map (value_in_basis o inverse n (flat n t)) (points_from point (a * 2 ^ n) (2 ^ n))
  all_flown n a t l k h =
      let b = λ (i : ℕ). point (2 ^ i) in
      let H = are_hats P o f S.two b m factor inverse S.constants in
      let pts = points o b n (point (a * 2 ^ n)) in
      flown_values P o f S.two b m (λ i x. hats o inverse i x) H n (point (a * 2 ^ n)) t (omega arith)
      (are_points.point_is (a * 2 ^ n) k) h
      ∙ map_same (λ x. at_point P o f S.two b m factor inverse S.constants n t x)
      (value_in_basis o inverse n (flat n t)) pts
      (each_all (λ x. at_point P o f S.two b m factor inverse S.constants n t x
      ≡ value_in_basis o inverse n (flat n t) x)
      (λ x. basis_is P o f S.two b m factor inverse S.constants n t x) pts)
      ∙ ap (map (value_in_basis o inverse n (flat n t))) (points_count n a (omega arith) k)
