-- Laws of slots, for callers: how many hold something, where none does, and with one more.
use Rattle.std.specs.Prelude.{is_some, count_by}
use Rattle.std.proofs.Common.{◌≡◌, ℕ, ◌+◌, ◌<◌, cond, List, zero, suc, length, Option, None, Some, get_or, set}
use Rattle.std.proofs.Common.{replicate, refl, ap, arith, inl, inr}
use Rattle.std.proofs.lemmas.Bool.{cases_lt}
use Rattle.std.proofs.lemmas.List.{length-replicate, get_or-replicate, get_or_past}
use Rattle.std.proofs.lemmas.List.Sums.{sum_by-set, sum_by-cons}

pub count_set : (A : Type 0) (xs : List (Option A)) (i : ℕ) (v : A) → i < length xs → get_or xs i None ≡ None
    → count_by is_some (set xs i (Some v)) ≡ count_by is_some xs + 1
count_set A xs i v l e =
    let one : Option A → ℕ = λ x. cond (is_some x) 1 0 in
    omega (arith, sum_by-set one xs i (Some v) None l, ap one e)

pub count_none : (A : Type 0) (n : ℕ) → count_by {X = Option A} is_some (replicate n None) ≡ 0
count_none A zero = refl
count_none A (suc n) =
    omega (arith, sum_by-cons (λ (x : Option A). cond (is_some x) 1 0) None (replicate n None), count_none A n)

pub none_in : (A : Type 0) (n i : ℕ) → get_or {A = Option A} (replicate n None) i None ≡ None
none_in A n i =
    elim (cases_lt i n) [
      | inl l ↦ get_or-replicate n i None None l
      | inr past ↦ get_or_past (replicate n None) i None (omega (arith, length-replicate {A = Option A} n None))
    ]
