-- Runs whose places are counted anew, from the front on.
use Rattle.std.proofs.Common.{◌≡◌, ℕ, zero, suc, ◌+◌, ◌<◌, List, [], ◌∷◌, ◌++◌, length, take, drop, map, get_or, set}
use Rattle.std.proofs.Common.{refl, ◌∙◌, ap, arith}
use Rattle.layer_split.specs.declared.cut.Run.{Run}

pub next_old : (f : Run → Run) (old : List Run) (i : ℕ) (d : Run) → i < length old
    → get_or (map f (take i old) ++ drop i old) i d ≡ get_or old i d
next_old f [] i d lt = absurd (omega arith)
next_old f (x ∷ xs) zero d lt = refl
next_old f (x ∷ xs) (suc i) d lt = next_old f xs i d (omega arith)

pub next_set : (f : Run → Run) (old : List Run) (i : ℕ) (d : Run) → i < length old
    → set (map f (take i old) ++ drop i old) i (f (get_or old i d)) ≡ map f (take (i + 1) old) ++ drop (i + 1) old
next_set f [] i d lt = absurd (omega arith)
next_set f (x ∷ xs) zero d lt = refl
next_set f (x ∷ xs) (suc i) d lt =
    let e : suc (i + 1) ≡ suc i + 1 = omega arith in
    ap (λ l. f x ∷ l) (next_set f xs i d (omega arith)) ∙ ap (λ n. map f (take n (x ∷ xs)) ++ drop n (x ∷ xs)) e
