-- What callers know of a run table: of the runs that it was made of, it names the layers and the lengths. This
-- project's own.
use Rattle.std.proofs.Common.{◌≡◌, ℕ, zero, suc, ◌+◌, ◌*◌, ◌-◌, ◌<◌, ◌^◌, List, [], ◌∷◌, ◌++◌, length, map, get_or}
use Rattle.std.proofs.Common.{refl, sym, ap, ◌∙◌, arith}
use Rattle.std.specs.Prelude.{All, slice_index}
use Rattle.std.specs.List.{flat_map}
use Rattle.std.specs.Int.{to_be_bytes, from_be_bytes, w32}
use Rattle.std.proofs.lemmas.List.{append_assoc, length-map, get_or-map, get_or-append_right}
use Rattle.std.proofs.lemmas.List.FromFn.{fill_by_all}
use Rattle.std.proofs.lemmas.Nat.{from_be_bytes-to_be_bytes_4}
use Rattle.layer_split.specs.declared.cut.Run.{Run}
use Rattle.layer_split.specs.declared.run_table.NamedRun.{NamedRun}
use Rattle.layer_split.specs.Layers.{run_entry, run_table}
use Rattle.layer_split.specs.RunTable.{number_at, run_count, named_run, named_runs}

-- what a run table says of a run
abbrev pub named : Run → NamedRun
named run = record { layer = run.layer; len = run.len }

-- a place behind these bytes
past : (n : ℕ) (xs l : List ℕ) (k j : ℕ) → length xs ≡ n → j ≡ n + k → slice_index (xs ++ l) j ≡ slice_index l k
past n xs l k j many is =
    ap (λ q. get_or (xs ++ l) q 0) is
    ∙ (get_or-append_right xs l n (n + k) 0 many (omega arith)
    ∙ ap (λ q. get_or l q 0) (let e : (n + k) - n ≡ k = omega arith in e))

number_past : (n : ℕ) (xs l : List ℕ) (k j : ℕ) → length xs ≡ n → j ≡ n + k → number_at (xs ++ l) j ≡ number_at l k
number_past n xs l k j many is =
    let a = past n xs l k j many is in
    let b = past n xs l (k + 1) (j + 1) many (omega arith) in
    let c = past n xs l (k + 2) (j + 2) many (omega arith) in
    let d = past n xs l (k + 3) (j + 3) many (omega arith) in
    omega arith

-- the entry of a run
layer_at : (runs : List Run) (rest : List ℕ) (i : ℕ) (d : Run) → i < length runs
    → slice_index (flat_map run_entry runs ++ rest) (5 * i) ≡ (get_or runs i d).layer
layer_at [] rest i d lt = absurd (omega arith)
layer_at (r ∷ runs) rest zero d lt = refl
layer_at (r ∷ runs) rest (suc i) d lt =
    ap (λ l. slice_index l (5 * suc i)) (append_assoc (run_entry r) (flat_map run_entry runs) rest)
    ∙ (past 5 (run_entry r) (flat_map run_entry runs ++ rest) (5 * i) (5 * suc i) refl (omega arith)
    ∙ layer_at runs rest i d (omega arith))

len_at : (runs : List Run) (rest : List ℕ) (i : ℕ) (d : Run) → i < length runs
    → number_at (flat_map run_entry runs ++ rest) (5 * i + 1)
    ≡ from_be_bytes w32 (to_be_bytes w32 (get_or runs i d).len)
len_at [] rest i d lt = absurd (omega arith)
len_at (r ∷ runs) rest zero d lt = refl
len_at (r ∷ runs) rest (suc i) d lt =
    ap (λ l. number_at l (5 * suc i + 1)) (append_assoc (run_entry r) (flat_map run_entry runs) rest)
    ∙ (number_past 5 (run_entry r) (flat_map run_entry runs ++ rest) (5 * i + 1) (5 * suc i + 1) refl (omega arith)
    ∙ len_at runs rest i d (omega arith))

-- what stands behind a table does not matter
pub count_read : (runs : List Run) (rest : List ℕ) → length runs < 2 ^ 32
    → run_count (run_table runs ++ rest) ≡ length runs
count_read runs rest few = from_be_bytes-to_be_bytes_4 (length runs) few

pub run_read : (runs : List Run) (rest : List ℕ) (i : ℕ) (d : Run) → i < length runs
    → All (λ (r : Run). r.len < 2 ^ 32) runs → named_run (run_table runs ++ rest) i ≡ named (get_or runs i d)
run_read runs rest i d lt short =
    let head : List ℕ = to_be_bytes w32 (length runs) in
    let behind : List ℕ = flat_map run_entry runs ++ rest in
    let bytes : run_table runs ++ rest ≡ head ++ behind = append_assoc head (flat_map run_entry runs) rest in
    let layer : slice_index (head ++ behind) (4 + 5 * i) ≡ (get_or runs i d).layer =
    past 4 head behind (5 * i) (4 + 5 * i) refl refl ∙ layer_at runs rest i d lt in
    let len : number_at (head ++ behind) (5 + 5 * i) ≡ (get_or runs i d).len =
    number_past 4 head behind (5 * i + 1) (5 + 5 * i) refl (omega arith)
    ∙ (len_at runs rest i d lt ∙ from_be_bytes-to_be_bytes_4 (get_or runs i d).len (short i d lt)) in
    ap (λ l. named_run l i) bytes
    ∙ (ap (λ n. record { layer = n; len = number_at (head ++ behind) (5 + 5 * i) }) layer
    ∙ ap (λ n. record { layer = (get_or runs i d).layer; len = n }) len)

pub runs_read : (runs : List Run) (rest : List ℕ) → length runs < 2 ^ 32 → All (λ (r : Run). r.len < 2 ^ 32) runs
    → named_runs (run_table runs ++ rest) ≡ map named runs
runs_read runs rest few short =
    let bytes : List ℕ = run_table runs ++ rest in
    let count = count_read runs rest few in
    let d : Run = record { layer = 0; at = 0; len = 0 } in
    sym (fill_by_all (named_run bytes) (map named runs) (run_count bytes) (named d) (length-map runs named ∙ sym count)
    (λ k lt. let within : k < length runs = omega arith in
    get_or-map named runs k d (named d) within ∙ sym (run_read runs rest k d within short)))
