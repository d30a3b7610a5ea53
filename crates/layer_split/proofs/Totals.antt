-- The lengths of all layers sum to the bytes of the run table and the pieces.
use Rattle.std.proofs.Common.{◌≡◌, ◌≢◌, ℕ, zero, suc, ◌+◌, ◌<◌, ◌≤◌, Bool, true, false, List, [], ◌∷◌, ◌++◌, length}
use Rattle.std.proofs.Common.{map, take, get_or, refl, sym, ◌∙◌, ap, arith, inl, inr, cond}
use Rattle.std.specs.Prelude.{◌==◌, All, sum}
use Rattle.std.specs.List.{sum_by, range_with_len}
use Rattle.std.proofs.lemmas.Bool.{cond-true, cond-false, cases_Bool, cases_eq, eq-eqb, ne_eqb}
use Rattle.std.proofs.lemmas.List.Sums.{sum_by-cons, sum_by-append, sum_by_more_le, sum_by-le-sum_by}
use Rattle.std.proofs.lemmas.List.{take_more, map-append}
use Rattle.pet_base.specs.declared.kind.Kind.{Kind}
use Rattle.mpeg_scan.specs.declared.piece.Piece.{Piece}
use Rattle.layer_split.specs.declared.cut.Run.{Run}
use Rattle.layer_split.specs.Runs.{runs_of}
use Rattle.layer_split.specs.Layers.{layer_length, lengths_of, runs_in, run_table_size}
use Rattle.layer_split.specs.Faults.{group_bytes}
use Rattle.layer_split.specs.Splitting.{group_size}
use Rattle.layer_split.specs.laws.RunLaws.{first_of, rest_of, runs_layers}
use Rattle.layer_split.proofs.Running.{runs_sum}

abbrev len_of : Run → ℕ
len_of run = run.len

sum_both : (f g : ℕ → ℕ) (xs : List ℕ) → sum_by (λ x. f x + g x) xs ≡ sum_by f xs + sum_by g xs
sum_both f g [] = refl
sum_both f g (x ∷ xs) =
    let whole : sum_by (λ y. f y + g y) (x ∷ xs) ≡ (f x + g x) + sum_by (λ y. f y + g y) xs =
    sum_by-cons (λ y. f y + g y) x xs in
    let a : sum_by f (x ∷ xs) ≡ f x + sum_by f xs = sum_by-cons f x xs in
    let b : sum_by g (x ∷ xs) ≡ g x + sum_by g xs = sum_by-cons g x xs in
    let r : sum_by (λ y. f y + g y) xs ≡ sum_by f xs + sum_by g xs = sum_both f g xs in
    omega arith

sum_same : (f g : ℕ → ℕ) (xs : List ℕ) → ((x : ℕ) → f x ≡ g x) → sum_by f xs ≡ sum_by g xs
sum_same f g [] e = refl
sum_same f g (x ∷ xs) e =
    sum_by-cons f x xs
    ∙ (ap (λ n. n + sum_by f xs) (e x) ∙ (ap (λ n. g x + n) (sum_same f g xs e) ∙ sym (sum_by-cons g x xs)))

sum_mapped : (f : ℕ → ℕ) (xs : List ℕ) → sum (map f xs) ≡ sum_by f xs
sum_mapped f [] = refl
sum_mapped f (x ∷ xs) =
    sum_by-cons (λ n. n) (f x) (map f xs) ∙ (ap (λ n. f x + n) (sum_mapped f xs) ∙ sym (sum_by-cons f x xs))

-- one number of a range counts, if it is in it
abbrev IsAt : (ℕ → Bool) → ℕ → Type 0
IsAt p l = (p l ≡ true) × ((j : ℕ) → j ≢ l → p j ≡ false)

sum_past : (p : ℕ → Bool) (l x k n : ℕ) → IsAt p l → l < k → sum_by (λ j. cond (p j) x 0) (range_with_len k n) ≡ 0
sum_past p l x k zero at lt = refl
sum_past p l x k (suc n) at lt =
    let e : sum_by (λ j. cond (p j) x 0) (k ∷ range_with_len (k + 1) n)
    ≡ cond (p k) x 0 + sum_by (λ j. cond (p j) x 0) (range_with_len (k + 1) n) =
    sum_by-cons (λ j. cond (p j) x 0) k (range_with_len (k + 1) n) in
    let here : cond (p k) x 0 ≡ 0 = cond-false (p k) x 0 (at.1 k (λ e. omega arith)) in
    let later : sum_by (λ j. cond (p j) x 0) (range_with_len (k + 1) n) ≡ 0 =
    sum_past p l x (k + 1) n at (omega arith) in
    omega arith

sum_at : (p : ℕ → Bool) (l x k n : ℕ) → IsAt p l → k ≤ l → l < k + n
    → sum_by (λ j. cond (p j) x 0) (range_with_len k n) ≡ x
sum_at p l x k zero at le lt = absurd (omega arith)
sum_at p l x k (suc n) at le lt =
    let e : sum_by (λ j. cond (p j) x 0) (k ∷ range_with_len (k + 1) n)
    ≡ cond (p k) x 0 + sum_by (λ j. cond (p j) x 0) (range_with_len (k + 1) n) =
    sum_by-cons (λ j. cond (p j) x 0) k (range_with_len (k + 1) n) in
    elim (cases_eq k l) [
      | inl is ↦
          (let here : cond (p k) x 0 ≡ x = cond-true (p k) x 0 (ap p is ∙ at.0) in
          let later : sum_by (λ j. cond (p j) x 0) (range_with_len (k + 1) n) ≡ 0 =
          sum_past p l x (k + 1) n at (omega arith) in
          omega arith)
      | inr ne ↦
          (let here : cond (p k) x 0 ≡ 0 = cond-false (p k) x 0 (at.1 k ne) in
          let later : sum_by (λ j. cond (p j) x 0) (range_with_len (k + 1) n) ≡ x =
          sum_at p l x (k + 1) n at (omega arith) (omega arith) in
          omega arith)
    ]

-- the bytes of the layers' runs
in_layer : (r : Run) (rs : List Run) (j : ℕ)
    → sum_by len_of (runs_in j (r ∷ rs)) ≡ cond (r.layer == j) r.len 0 + sum_by len_of (runs_in j rs)
in_layer r rs j = elim (cases_Bool (r.layer == j)) [
  | inl e ↦
      (let here : cond (r.layer == j) r.len 0 ≡ r.len = cond-true (r.layer == j) r.len 0 e in
      let whole : sum_by len_of (runs_in j (r ∷ rs)) ≡ sum_by len_of (r ∷ runs_in j rs) =
      ap (sum_by len_of) (cond-true (r.layer == j) (r ∷ runs_in j rs) (runs_in j rs) e) in
      let first : sum_by len_of (r ∷ runs_in j rs) ≡ r.len + sum_by len_of (runs_in j rs) =
      sum_by-cons len_of r (runs_in j rs) in
      omega arith)
  | inr e ↦
      (let here : cond (r.layer == j) r.len 0 ≡ 0 = cond-false (r.layer == j) r.len 0 e in
      let whole : sum_by len_of (runs_in j (r ∷ rs)) ≡ sum_by len_of (runs_in j rs) =
      ap (sum_by len_of) (cond-false (r.layer == j) (r ∷ runs_in j rs) (runs_in j rs) e) in
      omega arith)
]

sum_nothing : (xs : List ℕ) → sum_by (λ _. 0) xs ≡ 0
sum_nothing [] = refl
sum_nothing (x ∷ xs) =
    let e : sum_by (λ _. 0) (x ∷ xs) ≡ 0 + sum_by (λ _. 0) xs = sum_by-cons (λ _. 0) x xs in
    let later = sum_nothing xs in omega arith

sum_runs : (n : ℕ) (rs : List Run) → All (λ r. r.layer < n) rs
    → sum_by (λ j. sum_by len_of (runs_in j rs)) (range_with_len 0 n) ≡ sum_by len_of rs
sum_runs n [] h = sum_nothing (range_with_len 0 n)
sum_runs n (r ∷ rs) h =
    let here : sum_by (λ j. cond (r.layer == j) r.len 0) (range_with_len 0 n) ≡ r.len =
    sum_at (λ j. r.layer == j) r.layer r.len 0 n (eq-eqb r.layer r.layer refl, λ j ne. ne_eqb _ _ (λ e. ne (sym e)))
    (omega arith) (let lt = first_of n r rs h in omega arith) in
    let later : sum_by (λ j. sum_by len_of (runs_in j rs)) (range_with_len 0 n) ≡ sum_by len_of rs =
    sum_runs n rs (rest_of n r rs h) in
    let split : sum_by (λ j. sum_by len_of (runs_in j (r ∷ rs))) (range_with_len 0 n)
    ≡ sum_by (λ j. cond (r.layer == j) r.len 0 + sum_by len_of (runs_in j rs)) (range_with_len 0 n) =
    sum_same _ _ (range_with_len 0 n) (in_layer r rs) in
    let parts : sum_by (λ j. cond (r.layer == j) r.len 0 + sum_by len_of (runs_in j rs)) (range_with_len 0 n)
    ≡ sum_by (λ j. cond (r.layer == j) r.len 0) (range_with_len 0 n)
    + sum_by (λ j. sum_by len_of (runs_in j rs)) (range_with_len 0 n) =
    sum_both (λ j. cond (r.layer == j) r.len 0) (λ j. sum_by len_of (runs_in j rs)) (range_with_len 0 n) in
    let whole : sum_by len_of (r ∷ rs) ≡ r.len + sum_by len_of rs = sum_by-cons len_of r rs in
    omega arith

sum_lengths : (n : ℕ) (rs : List Run) → 0 < n → All (λ r. r.layer < n) rs
    → sum (lengths_of rs n) ≡ run_table_size (length rs) + sum_by len_of rs
sum_lengths n rs lt h =
    let table : ℕ = run_table_size (length rs) in
    sum_mapped (layer_length rs) (range_with_len 0 n)
    ∙ (sum_both (λ j. cond (j == 0) table 0) (λ j. sum_by len_of (runs_in j rs)) (range_with_len 0 n)
    ∙ (ap (λ m. m + sum_by (λ j. sum_by len_of (runs_in j rs)) (range_with_len 0 n))
    (sum_at (λ j. j == 0) 0 table 0 n (refl, λ j ne. ne_eqb _ _ ne) (omega arith) (omega arith))
    ∙ ap (λ m. table + m) (sum_runs n rs h)))

-- what a run adds to a layer
abbrev pub share : ℕ → Run → ℕ
share j r = cond (r.layer == j) r.len 0

shares : (j : ℕ) (rs : List Run) → sum_by len_of (runs_in j rs) ≡ sum_by (share j) rs
shares j [] = refl
shares j (r ∷ rs) = in_layer r rs j ∙ (ap (λ n. share j r + n) (shares j rs) ∙ sym (sum_by-cons (share j) r rs))

pub layer_step : (j : ℕ) (rs : List Run) (i : ℕ) (d : Run) → i < length rs
    → (sum_by (λ (r : Run). r.len) (runs_in j (take (i + 1) rs))
    ≡ sum_by (λ (r : Run). r.len) (runs_in j (take i rs)) + share j (get_or rs i d))
    × (sum_by (λ (r : Run). r.len) (runs_in j (take i rs)) + share j (get_or rs i d)
    ≤ sum_by (λ (r : Run). r.len) (runs_in j rs))
layer_step j rs i d lt =
    let front : sum_by len_of (runs_in j (take i rs)) ≡ sum_by (share j) (take i rs) = shares j (take i rs) in
    let more : sum_by len_of (runs_in j (take (i + 1) rs)) ≡ sum_by (share j) (take (i + 1) rs) =
    shares j (take (i + 1) rs) in
    let all : sum_by len_of (runs_in j rs) ≡ sum_by (share j) rs = shares j rs in
    let one : sum_by (share j) (take (i + 1) rs)
    ≡ sum_by (share j) (take i rs) + sum_by (share j) (get_or rs i d ∷ []) =
    ap (sum_by (share j)) (take_more rs i d lt) ∙ sum_by-append (share j) (take i rs) (get_or rs i d ∷ []) in
    let this : sum_by (share j) (get_or rs i d ∷ []) ≡ share j (get_or rs i d) + 0 =
    sum_by-cons (share j) (get_or rs i d) [] in
    let le : sum_by (share j) (take i rs) + share j (get_or rs i d) ≤ sum_by (share j) rs =
    sum_by_more_le (share j) rs i d lt in
    (omega arith, omega arith)

share_le : (j : ℕ) (r : Run) → share j r ≤ r.len
share_le j r = elim (cases_Bool (r.layer == j)) [
  | inl e ↦ (let k : cond (r.layer == j) r.len 0 ≡ r.len = cond-true (r.layer == j) r.len 0 e in omega arith)
  | inr e ↦ (let k : cond (r.layer == j) r.len 0 ≡ 0 = cond-false (r.layer == j) r.len 0 e in omega arith)
]

table_le : (j table : ℕ) → cond (j == 0) table 0 ≤ table
table_le j table = elim (cases_Bool (j == 0)) [
  | inl e ↦ (let k : cond (j == 0) table 0 ≡ table = cond-true (j == 0) table 0 e in omega arith)
  | inr e ↦ (let k : cond (j == 0) table 0 ≡ 0 = cond-false (j == 0) table 0 e in omega arith)
]

-- no layer is longer than all together
pub layer_le : (rs : List Run) (j : ℕ) → layer_length rs j ≤ run_table_size (length rs) + sum_by (λ (r : Run). r.len) rs
layer_le rs j =
    let a = table_le j (run_table_size (length rs)) in
    let b : sum_by len_of (runs_in j rs) ≡ sum_by (share j) rs = shares j rs in
    let c : sum_by (share j) rs ≤ sum_by len_of rs = sum_by-le-sum_by (share j) len_of rs (share_le j) in
    omega arith

pub range_push : (a n : ℕ) → range_with_len a (n + 1) ≡ range_with_len a n ++ (a + n) ∷ []
range_push a zero = ap (λ k. k ∷ []) (omega arith)
range_push a (suc n) =
    let e : suc n + 1 ≡ suc (n + 1) = omega arith in
    let k : (a + 1) + n ≡ a + suc n = omega arith in
    ap (range_with_len a) e ∙ ap (λ l. a ∷ l) (range_push (a + 1) n ∙ ap (λ m. range_with_len (a + 1) n ++ m ∷ []) k)

pub lengths_push : (rs : List Run) (n : ℕ) → lengths_of rs (n + 1) ≡ lengths_of rs n ++ layer_length rs n ∷ []
lengths_push rs n =
    ap (map (layer_length rs)) (range_push 0 n)
    ∙ (map-append (layer_length rs) (range_with_len 0 n) ((0 + n) ∷ [])
    ∙ ap (λ k. lengths_of rs n ++ layer_length rs k ∷ []) (let e : 0 + n ≡ n = omega arith in e))

pub bytes_are_size : (lo : Kind → ℕ → ℕ) (n : ℕ) → 0 < n → ((kind : Kind) (place : ℕ) → lo kind place < n)
    → (group : List Piece) → group_bytes lo n group ≡ group_size lo group
bytes_are_size lo n lt within group =
    sum_lengths n (runs_of lo group) lt (runs_layers lo n within group)
    ∙ ap (λ m. run_table_size (length (runs_of lo group)) + m) (runs_sum lo group)
