-- What a splitter holds of a group, with one piece more and at its end.
use Rattle.std.proofs.Common.{◌≡◌, ℕ, ◌+◌, ◌<◌, ◌≤◌, Bool, true, false, List, [], ◌∷◌, ◌++◌, length, map, refl, sym}
use Rattle.std.proofs.Common.{◌∙◌, ap, subst, arith, inl, inr}
use Rattle.std.specs.Prelude.{◌==◌}
use Rattle.std.specs.List.{sum_by}
use Rattle.std.proofs.lemmas.Bool.{cond-true, cond-false, cases_Bool, cases_lt, lt-ltb, le-ltb}
use Rattle.pet_base.specs.declared.kind.Kind.{Kind}
use Rattle.pet_base.specs.declared.kind.Kind.TheVariants.{Head}
use Rattle.pet_base.specs.declared.limits.TheConstants.{MAX_GROUP_BYTES, MAX_LAYERS}
use Rattle.mpeg_scan.specs.declared.piece.Piece.{Piece}
use Rattle.priority_file.specs.Priority.{Priorities, layer_of}
use Rattle.layer_split.specs.declared.cut.Run.{Run}
use Rattle.layer_split.specs.declared.splitter.Splitter.{Splitter}
use Rattle.layer_split.specs.Places.{place_behind, placed_at, placed_behind}
use Rattle.layer_split.specs.Runs.{run_of, runs_of, both, joined_from}
use Rattle.layer_split.specs.Layers.{cut_of, lengths_of, run_table_size}
use Rattle.layer_split.specs.Faults.{group_bytes, is_too_long}
use Rattle.layer_split.specs.Splitting.{AreOf, HaveCounted, Holds, begins_run, with_run, group_size}
use Rattle.layer_split.proofs.Running.{runs_push, runs_sum, size_push, entry_if}
use Rattle.layer_split.proofs.Totals.{bytes_are_size}

-- too long, and so with one piece more
pub long_more : (splitter : Splitter) (lo : Kind → ℕ → ℕ) (group : List Piece) (p : Piece)
    → MAX_GROUP_BYTES < splitter.size → Holds splitter lo group → Holds splitter lo (group ++ p ∷ [])
long_more splitter lo group p lt (inl h) = let le = h.short in absurd (omega arith)
long_more splitter lo group p lt (inr h) = let more = size_push lo group p in let long = h.1 in inr (lt, omega arith)

pub long_piece : (splitter : Splitter) (lo : Kind → ℕ → ℕ) (group : List Piece) (p : Piece)
    → MAX_GROUP_BYTES < splitter.size → MAX_GROUP_BYTES < p.len → Holds splitter lo (group ++ p ∷ [])
long_piece splitter lo group p lt long = let more = size_push lo group p in inr (lt, omega arith)

sum_fits : (lo : Kind → ℕ → ℕ) (group : List Piece) → group_size lo group ≤ MAX_GROUP_BYTES
    → sum_by (λ (r : Run). r.len) (runs_of lo group) ≤ MAX_GROUP_BYTES
sum_fits lo group le = let e = runs_sum lo group in omega arith

-- a row was taken in
pub row_more : (old new : Splitter) (lo : Kind → ℕ → ℕ) (group : List Piece) (p : Piece) (run : Run) (begun : Bool)
    → (HaveCounted old.places group → run ≡ run_of lo (placed_at group p)) → Holds old lo group
    → old.size ≤ MAX_GROUP_BYTES → begun ≡ begins_run old.runs.items run.layer
    → (sum_by (λ (r : Run). r.len) old.runs.items ≤ MAX_GROUP_BYTES → new.runs.items ≡ with_run old.runs.items run)
    → new.size ≡ old.size + run.len + entry_if begun
    → (HaveCounted old.places group → HaveCounted new.places (group ++ p ∷ [])) → Holds new lo (group ++ p ∷ [])
row_more old new lo group p run begun made (inr h) le begins runs size counts = let lt = h.0 in absurd (omega arith)
row_more old new lo group p run begun made (inl h) le begins runs size counts =
    let is : run ≡ run_of lo (placed_at group p) = made h.counted in
    let fits : group_size lo group ≤ MAX_GROUP_BYTES = subst (λ n. n ≤ MAX_GROUP_BYTES) h.size_is le in
    let sum = subst (λ rs. sum_by (λ (r : Run). r.len) rs ≤ MAX_GROUP_BYTES) (sym h.runs_are)
    (sum_fits lo group fits) in
    let now : new.runs.items ≡ runs_of lo (group ++ p ∷ []) =
    runs sum ∙ (ap (λ rs. with_run rs run) h.runs_are ∙ (ap (with_run (runs_of lo group)) is ∙ runs_push lo group p)) in
    let same : begun ≡ begins_run (runs_of lo group) (lo p.kind (place_behind group p)) =
    begins ∙ (ap (λ rs. begins_run rs run.layer) h.runs_are
    ∙ ap (λ (r : Run). begins_run (runs_of lo group) r.layer) is) in
    let len : run.len ≡ p.len = ap (λ (r : Run). r.len) is in
    let five : entry_if begun ≡ entry_if (begins_run (runs_of lo group) (lo p.kind (place_behind group p))) =
    ap entry_if same in
    let old_size : old.size ≡ group_size lo group = h.size_is in
    let more : group_size lo (group ++ p ∷ [])
    ≡ group_size lo group + p.len + entry_if (begins_run (runs_of lo group) (lo p.kind (place_behind group p))) =
    size_push lo group p in
    let total : new.size ≡ group_size lo (group ++ p ∷ []) = omega arith in
    elim (cases_lt MAX_GROUP_BYTES new.size) [
      | inl lt ↦ inr (lt, subst (λ n. MAX_GROUP_BYTES < n) total lt)
      | inr short ↦ inl (record { runs_are = now; size_is = total; short = short; counted = counts h.counted })
    ]

some_layer : (splitter : Splitter) (priority : Priorities) → AreOf splitter.layers priority → 0 < length priority.layers
some_layer splitter priority h = let lt = h.within Head 1 in omega arith

pub fits_not_long : (splitter : Splitter) (priority : Priorities) (group : List Piece) → AreOf splitter.layers priority
    → Holds splitter (layer_of priority) group → splitter.size ≤ MAX_GROUP_BYTES
    → is_too_long (layer_of priority) (length priority.layers) group ≡ false
fits_not_long splitter priority group are (inr h) le = let lt = h.0 in absurd (omega arith)
fits_not_long splitter priority group are (inl h) le =
    le-ltb MAX_GROUP_BYTES (group_bytes (layer_of priority) (length priority.layers) group)
    (subst (λ n. n ≤ MAX_GROUP_BYTES) (h.size_is
    ∙ sym (bytes_are_size (layer_of priority) (length priority.layers)
    (some_layer splitter priority are) are.within group)) le)

pub long_is_long : (splitter : Splitter) (priority : Priorities) (group : List Piece) → AreOf splitter.layers priority
    → Holds splitter (layer_of priority) group → MAX_GROUP_BYTES < splitter.size
    → is_too_long (layer_of priority) (length priority.layers) group ≡ true
long_is_long splitter priority group are (inl h) lt = let le = h.short in absurd (omega arith)
long_is_long splitter priority group are (inr h) lt =
    lt-ltb MAX_GROUP_BYTES (group_bytes (layer_of priority) (length priority.layers) group)
    (subst (λ n. MAX_GROUP_BYTES < n) (sym (bytes_are_size (layer_of priority) (length priority.layers)
    (some_layer splitter priority are) are.within group)) h.1)

-- the cut of the group at its end
pub cut_held : (splitter : Splitter) (priority : Priorities) (group : List Piece) (runs : List Run) (lengths : List ℕ)
    → AreOf splitter.layers priority → Holds splitter (layer_of priority) group → splitter.size ≤ MAX_GROUP_BYTES
    → runs ≡ splitter.runs.items
    → (splitter.layers.count ≤ MAX_LAYERS
    → run_table_size (length splitter.runs.items) + sum_by (λ (r : Run). r.len) splitter.runs.items ≤ MAX_GROUP_BYTES
    → lengths ≡ lengths_of splitter.runs.items splitter.layers.count)
    → record { runs = runs; lengths = lengths } ≡ cut_of (layer_of priority) (length priority.layers) group
cut_held splitter priority group runs lengths are (inr h) le same made = let lt = h.0 in absurd (omega arith)
cut_held splitter priority group runs lengths are (inl h) le same made =
    let lo : Kind → ℕ → ℕ = layer_of priority in
    let sum = runs_sum lo group in
    let total : group_size lo group ≤ MAX_GROUP_BYTES = subst (λ n. n ≤ MAX_GROUP_BYTES) h.size_is le in
    let fits = subst (λ rs. run_table_size (length rs) + sum_by (λ (r : Run). r.len) rs ≤ MAX_GROUP_BYTES)
    (sym h.runs_are) (omega arith) in
    let l : lengths ≡ lengths_of (runs_of lo group) (length priority.layers) =
    made are.few fits
    ∙ (ap (λ rs. lengths_of rs splitter.layers.count) h.runs_are ∙ ap (lengths_of (runs_of lo group)) are.count) in
    ap (λ rs. record { runs = rs; lengths = lengths }) (same ∙ h.runs_are)
    ∙ ap (λ ls. record { runs = runs_of lo group; lengths = ls }) l

pub none_held : (splitter : Splitter) (lo : Kind → ℕ → ℕ) → splitter.runs.items ≡ [] → splitter.size ≡ 4
    → HaveCounted splitter.places [] → Holds splitter lo []
none_held splitter lo runs size counted =
    inl (record { runs_are = runs; size_is = size; short = omega arith; counted = counted })

first_run : (run : Run) (rows : List Run) → joined_from run rows ≡ [] → ⊥
first_run run [] e = cc
first_run run (next ∷ rows) e = elim (cases_Bool (next.layer == run.layer)) [
  | inl same ↦ first_run (both run next) rows
      (sym (cond-true (next.layer == run.layer) (joined_from (both run next) rows) (run ∷ joined_from next rows) same)
      ∙ e)
  | inr other ↦ not_nil run (joined_from next rows)
      (sym (cond-false (next.layer == run.layer) (joined_from (both run next) rows)
      (run ∷ joined_from next rows) other) ∙ e)
]
  where
    not_nil : (x : Run) (xs : List Run) → x ∷ xs ≡ [] → ⊥
    not_nil x xs e = cc

-- a group without a piece is one without a run
pub no_runs : (lo : Kind → ℕ → ℕ) (group : List Piece) → runs_of lo group ≡ [] → group ≡ []
no_runs lo [] e = refl
no_runs lo (p ∷ group) e =
    absurd (first_run (run_of lo (placed_at [] p)) (map (run_of lo) (placed_behind (p ∷ []) group)) e)

pub no_length : (rs : List Run) → length rs ≡ 0 → rs ≡ []
no_length [] e = refl
no_length (r ∷ rs) e = absurd (omega arith)

pub none_is_empty : (splitter : Splitter) (lo : Kind → ℕ → ℕ) (group : List Piece) → Holds splitter lo group
    → splitter.size ≤ MAX_GROUP_BYTES
    → (length splitter.runs.items ≡ 0 → group ≡ []) × (group ≡ [] → length splitter.runs.items ≡ 0)
none_is_empty splitter lo group (inr h) le = let lt = h.0 in absurd (omega arith)
none_is_empty splitter lo group (inl h) le = (
  λ e. no_runs lo group (sym h.runs_are ∙ no_length splitter.runs.items e),
  λ e. ap length (h.runs_are ∙ ap (runs_of lo) e),
)
