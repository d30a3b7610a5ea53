-- What callers know of the runs of a group: each is in the layer of one of its pieces. This project's own.
use Rattle.std.proofs.Common.{ℕ, suc, ◌<◌, List, [], ◌∷◌, ◌++◌, map, sym, subst, arith, inl, inr}
use Rattle.std.specs.Prelude.{◌==◌, All}
use Rattle.std.proofs.lemmas.Bool.{cond-true, cond-false, cases_Bool}
use Rattle.std.proofs.lemmas.List.Elements.{All-cons, All-nil}
use Rattle.pet_base.specs.declared.kind.Kind.{Kind}
use Rattle.mpeg_scan.specs.declared.piece.Piece.{Piece}
use Rattle.layer_split.specs.declared.cut.Run.{Run}
use Rattle.layer_split.specs.Places.{placed_at, placed_behind, place_behind}
use Rattle.layer_split.specs.Runs.{run_of, runs_of, both, joined, joined_from}

pub first_of : (n : ℕ) (r : Run) (rs : List Run) → All (λ r. r.layer < n) (r ∷ rs) → r.layer < n
first_of n r rs h = h 0 r (omega arith)

pub rest_of : (n : ℕ) (r : Run) (rs : List Run) → All (λ r. r.layer < n) (r ∷ rs) → All (λ r. r.layer < n) rs
rest_of n r rs h k d lt = h (suc k) d (omega arith)

joined_from-layers : (n : ℕ) (run : Run) (rows : List Run) → run.layer < n → All (λ r. r.layer < n) rows
    → All (λ r. r.layer < n) (joined_from run rows)
joined_from-layers n run [] lt h = All-cons (λ r. r.layer < n) run [] lt h
joined_from-layers n run (next ∷ rows) lt h = elim (cases_Bool (next.layer == run.layer)) [
  | inl e ↦ subst (All (λ r. r.layer < n))
      (sym (cond-true (next.layer == run.layer) (joined_from (both run next) rows) (run ∷ joined_from next rows) e))
      (joined_from-layers n (both run next) rows lt (rest_of n next rows h))
  | inr e ↦ subst (All (λ r. r.layer < n))
      (sym (cond-false (next.layer == run.layer) (joined_from (both run next) rows) (run ∷ joined_from next rows) e))
      (All-cons (λ r. r.layer < n) run (joined_from next rows) lt
      (joined_from-layers n next rows (first_of n next rows h) (rest_of n next rows h)))
]

rows-layers : (lo : Kind → ℕ → ℕ) (n : ℕ) → ((kind : Kind) (place : ℕ) → lo kind place < n)
    → (before group : List Piece) → All (λ r. r.layer < n) (map (run_of lo) (placed_behind before group))
rows-layers lo n within before [] = All-nil (λ r. r.layer < n)
rows-layers lo n within before (p ∷ group) =
    All-cons (λ r. r.layer < n) (run_of lo (placed_at before p))
    (map (run_of lo) (placed_behind (before ++ p ∷ []) group)) (within p.kind (place_behind before p))
    (rows-layers lo n within (before ++ p ∷ []) group)

joined-layers : (n : ℕ) (rows : List Run) → All (λ r. r.layer < n) rows → All (λ r. r.layer < n) (joined rows)
joined-layers n [] h = All-nil (λ r. r.layer < n)
joined-layers n (run ∷ rows) h = joined_from-layers n run rows (first_of n run rows h) (rest_of n run rows h)

-- where each kind at each place has one of so many layers
pub runs_layers : (lo : Kind → ℕ → ℕ) (n : ℕ) → ((kind : Kind) (place : ℕ) → lo kind place < n) → (group : List Piece)
    → All (λ r. r.layer < n) (runs_of lo group)
runs_layers lo n within group =
    joined-layers n (map (run_of lo) (placed_behind [] group)) (rows-layers lo n within [] group)
