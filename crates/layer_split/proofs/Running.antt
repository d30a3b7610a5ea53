-- The runs of a group with one row more.
use Rattle.std.proofs.Common.{◌≡◌, ℕ, zero, suc, ◌+◌, ◌*◌, ◌<◌, ◌≤◌, Bool, not, List, [], ◌∷◌, ◌++◌, length, map}
use Rattle.std.proofs.Common.{get_or, set, refl, sym, ◌∙◌, ap, arith, inl, inr, cond}
use Rattle.std.specs.Prelude.{◌==◌}
use Rattle.std.specs.List.{sum_by}
use Rattle.std.proofs.lemmas.Bool.{cond-true, cond-false, cases_Bool, eq-eqb, ne_eqb}
use Rattle.std.proofs.lemmas.List.{map-append}
use Rattle.std.proofs.lemmas.List.Sums.{sum_by-append, sum_by-cons}
use Rattle.pet_base.specs.declared.kind.Kind.{Kind}
use Rattle.mpeg_scan.specs.declared.piece.Piece.{Piece}
use Rattle.layer_split.specs.declared.cut.Run.{Run}
use Rattle.layer_split.specs.Places.{place_behind, placed_at, placed_behind, placed}
use Rattle.layer_split.specs.Runs.{run_of, runs_of, both, joined, joined_from}
use Rattle.layer_split.specs.Splitting.{begins_run, with_run, group_size}
use Rattle.layer_split.proofs.Placing.{placed_push}

abbrev len_of : Run → ℕ
len_of run = run.len

-- a row behind the runs of others
behind_first : (first run r : Run) (rows : List Run)
    → with_run (first ∷ joined_from run rows) r ≡ first ∷ with_run (joined_from run rows) r
behind_first first run r [] = refl
behind_first first run r (next ∷ rows) = elim (cases_Bool (next.layer == run.layer)) [
  | inl e ↦
      (let c = cond-true (next.layer == run.layer) (joined_from (both run next) rows) (run ∷ joined_from next rows) e in
      ap (λ xs. with_run (first ∷ xs) r) c
      ∙ (behind_first first (both run next) r rows ∙ ap (λ xs. first ∷ with_run xs r) (sym c)))
  | inr e ↦
      (let c = cond-false (next.layer == run.layer) (joined_from (both run next) rows)
      (run ∷ joined_from next rows) e in
      ap (λ xs. with_run (first ∷ xs) r) c ∙ ap (λ xs. first ∷ with_run xs r) (sym c))
]

joined_from-push : (run : Run) (rows : List Run) (r : Run)
    → with_run (joined_from run rows) r ≡ joined_from run (rows ++ r ∷ [])
joined_from-push run [] r = refl
joined_from-push run (next ∷ rows) r = elim (cases_Bool (next.layer == run.layer)) [
  | inl e ↦
      (let c = cond-true (next.layer == run.layer) (joined_from (both run next) rows) (run ∷ joined_from next rows) e in
      let d = cond-true (next.layer == run.layer) (joined_from (both run next) (rows ++ r ∷ []))
      (run ∷ joined_from next (rows ++ r ∷ [])) e in
      ap (λ xs. with_run xs r) c ∙ (joined_from-push (both run next) rows r ∙ sym d))
  | inr e ↦
      (let c = cond-false (next.layer == run.layer) (joined_from (both run next) rows)
      (run ∷ joined_from next rows) e in
      let d = cond-false (next.layer == run.layer) (joined_from (both run next) (rows ++ r ∷ []))
      (run ∷ joined_from next (rows ++ r ∷ [])) e in
      ap (λ xs. with_run xs r) c
      ∙ (behind_first run next r rows ∙ (ap (λ xs. run ∷ xs) (joined_from-push next rows r) ∙ sym d)))
]

joined-push : (rows : List Run) (r : Run) → with_run (joined rows) r ≡ joined (rows ++ r ∷ [])
joined-push [] r = refl
joined-push (run ∷ rows) r = joined_from-push run rows r

pub runs_push : (lo : Kind → ℕ → ℕ) (group : List Piece) (p : Piece)
    → with_run (runs_of lo group) (run_of lo (placed_at group p)) ≡ runs_of lo (group ++ p ∷ [])
runs_push lo group p =
    joined-push (map (run_of lo) (placed group)) (run_of lo (placed_at group p))
    ∙ ap joined
    (sym (ap (map (run_of lo)) (placed_push group p) ∙ map-append (run_of lo) (placed group) (placed_at group p ∷ [])))

-- the bytes of a run's entry, if there is one
abbrev pub entry_if : Bool → ℕ
entry_if begun = cond begun 5 0

-- how many runs there are then

length_with : (xs : List Run) (r : Run) → length (with_run xs r) ≡ length xs + cond (begins_run xs r.layer) 1 0
length_with [] r = refl
length_with (x ∷ []) r = elim (cases_Bool (r.layer == x.layer)) [
  | inl e ↦ ap length (cond-true (r.layer == x.layer) (both x r ∷ []) (x ∷ (r ∷ [])) e)
      ∙ sym (ap (λ b. 1 + cond (not b) 1 0) e)
  | inr e ↦ ap length (cond-false (r.layer == x.layer) (both x r ∷ []) (x ∷ (r ∷ [])) e)
      ∙ sym (ap (λ b. 1 + cond (not b) 1 0) e)
]
length_with (x ∷ y ∷ zs) r =
    let e : length (with_run (y ∷ zs) r) ≡ length (y ∷ zs) + cond (begins_run (y ∷ zs) r.layer) 1 0 =
    length_with (y ∷ zs) r in omega arith

-- the bytes of the rows stay
joined_from-sum : (run : Run) (rows : List Run) → sum_by len_of (joined_from run rows) ≡ run.len + sum_by len_of rows
joined_from-sum run [] = sum_by-cons len_of run []
joined_from-sum run (next ∷ rows) = elim (cases_Bool (next.layer == run.layer)) [
  | inl e ↦ ap (sum_by len_of) (cond-true (next.layer == run.layer) (joined_from (both run next) rows)
      (run ∷ joined_from next rows) e)
      ∙ (joined_from-sum (both run next) rows ∙ (let k = sum_by-cons len_of next rows in omega arith))
  | inr e ↦ ap (sum_by len_of) (cond-false (next.layer == run.layer) (joined_from (both run next) rows)
      (run ∷ joined_from next rows) e)
      ∙ (sum_by-cons len_of run (joined_from next rows)
      ∙ ap (λ n. run.len + n) (joined_from-sum next rows ∙ sym (sum_by-cons len_of next rows)))
]

rows_sum : (lo : Kind → ℕ → ℕ) (before group : List Piece)
    → sum_by len_of (map (run_of lo) (placed_behind before group)) ≡ sum_by (λ (p : Piece). p.len) group
rows_sum lo before [] = refl
rows_sum lo before (p ∷ group) =
    sum_by-cons len_of (run_of lo (placed_at before p)) (map (run_of lo) (placed_behind (before ++ p ∷ []) group))
    ∙ (ap (λ n. p.len + n) (rows_sum lo (before ++ p ∷ []) group) ∙ sym (sum_by-cons (λ (q : Piece). q.len) p group))

joined-sum : (rows : List Run) → sum_by len_of (joined rows) ≡ sum_by len_of rows
joined-sum [] = refl
joined-sum (run ∷ rows) = joined_from-sum run rows ∙ sym (sum_by-cons len_of run rows)

pub runs_sum : (lo : Kind → ℕ → ℕ) (group : List Piece)
    → sum_by (λ (r : Run). r.len) (runs_of lo group) ≡ sum_by (λ (p : Piece). p.len) group
runs_sum lo group = joined-sum (map (run_of lo) (placed group)) ∙ rows_sum lo [] group

pub size_push : (lo : Kind → ℕ → ℕ) (group : List Piece) (p : Piece)
    → group_size lo (group ++ p ∷ [])
    ≡ group_size lo group + p.len + entry_if (begins_run (runs_of lo group) (lo p.kind (place_behind group p)))
size_push lo group p =
    let runs : List Run = runs_of lo group in
    let begins : Bool = begins_run runs (lo p.kind (place_behind group p)) in
    let count : length (runs_of lo (group ++ p ∷ [])) ≡ length runs + cond begins 1 0 =
    ap length (sym (runs_push lo group p)) ∙ length_with runs (run_of lo (placed_at group p)) in
    let sum : sum_by (λ (q : Piece). q.len) (group ++ p ∷ []) ≡ sum_by (λ (q : Piece). q.len) group + p.len =
    sum_by-append (λ (q : Piece). q.len) group (p ∷ []) ∙ omega arith in
    let five : 5 * cond begins 1 0 ≡ entry_if begins = elim (cases_Bool begins) [
      | inl e ↦ ap (λ b. 5 * cond b 1 0) e ∙ sym (ap entry_if e)
      | inr e ↦ ap (λ b. 5 * cond b 1 0) e ∙ sym (ap entry_if e)
    ] in
    omega arith

-- the last run takes the new row in, or the row stands behind it
pub same_last : (xs : List Run) (r last : Run) (n : ℕ) → length xs ≡ suc n → last ≡ get_or xs n last
    → r.layer ≡ last.layer → set xs n (both last r) ≡ with_run xs r
same_last [] r last n e is same = absurd (omega arith)
same_last (x ∷ []) r last zero e is same =
    ap (λ (l : Run). both l r ∷ []) is
    ∙ sym (cond-true (r.layer == x.layer) (both x r ∷ []) (x ∷ (r ∷ []))
    (eq-eqb r.layer x.layer (same ∙ ap (λ (l : Run). l.layer) is)))
same_last (x ∷ []) r last (suc n) e is same = absurd (omega arith)
same_last (x ∷ y ∷ zs) r last zero e is same = absurd (omega arith)
same_last (x ∷ y ∷ zs) r last (suc n) e is same = ap (λ l. x ∷ l) (same_last (y ∷ zs) r last n (omega arith) is same)

pub other_last : (xs : List Run) (r last : Run) (n : ℕ) → length xs ≡ suc n → last ≡ get_or xs n last
    → (r.layer ≡ last.layer → ⊥) → xs ++ r ∷ [] ≡ with_run xs r
other_last [] r last n e is other = absurd (omega arith)
other_last (x ∷ []) r last zero e is other =
    sym (cond-false (r.layer == x.layer) (both x r ∷ []) (x ∷ (r ∷ []))
    (ne_eqb r.layer x.layer (λ k. other (k ∙ sym (ap (λ (l : Run). l.layer) is)))))
other_last (x ∷ []) r last (suc n) e is other = absurd (omega arith)
other_last (x ∷ y ∷ zs) r last zero e is other = absurd (omega arith)
other_last (x ∷ y ∷ zs) r last (suc n) e is other =
    ap (λ l. x ∷ l) (other_last (y ∷ zs) r last n (omega arith) is other)

pub begins_last : (xs : List Run) (layer : ℕ) (last : Run) (n : ℕ) → length xs ≡ suc n → last ≡ get_or xs n last
    → begins_run xs layer ≡ not (layer == last.layer)
begins_last [] layer last n e is = absurd (omega arith)
begins_last (x ∷ []) layer last zero e is = sym (ap (λ (l : Run). not (layer == l.layer)) is)
begins_last (x ∷ []) layer last (suc n) e is = absurd (omega arith)
begins_last (x ∷ y ∷ zs) layer last zero e is = absurd (omega arith)
begins_last (x ∷ y ∷ zs) layer last (suc n) e is = begins_last (y ∷ zs) layer last n (omega arith) is

pub last_le : (xs : List Run) (last : Run) (n : ℕ) → n < length xs → last ≡ get_or xs n last
    → last.len ≤ sum_by (λ (r : Run). r.len) xs
last_le [] last n lt is = absurd (omega arith)
last_le (x ∷ xs) last zero lt is =
    let e : last.len ≡ x.len = ap (λ (l : Run). l.len) is in
    let k = sum_by-cons (λ (r : Run). r.len) x xs in
    omega arith
last_le (x ∷ xs) last (suc n) lt is =
    let le = last_le xs last n (omega arith) is in
    let k = sum_by-cons (λ (r : Run). r.len) x xs in
    omega arith
