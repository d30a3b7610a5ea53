-- What callers know of the run table of a cut: it fits the lengths of the layers. This project's own.
use Rattle.std.proofs.Common.{◌≡◌, ℕ, ◌+◌, ◌-◌, ◌<◌, ◌≤◌, ◌^◌, true, ◌&&◌, cond, List, [], ◌∷◌, length, map, get_or}
use Rattle.std.proofs.Common.{refl, sym, ap, ◌∙◌, arith, inl, inr}
use Rattle.std.specs.Prelude.{All, ◌==◌, nat_lt, nat_le, slice_index}
use Rattle.std.specs.List.{filter, flat_map, sum_by, list_all, range_with_len}
use Rattle.std.proofs.lemmas.Bool.{cond-true, cond-false, cases_Bool, eq-eqb, ne_eqb, lt-ltb, le-leb, and_from}
use Rattle.std.proofs.lemmas.List.{length-map}
use Rattle.std.proofs.lemmas.List.FromFn.{length-range_with_len, get_or-range_with_len, length-map-range_with_len}
use Rattle.std.proofs.lemmas.List.FromFn.{get_or-map-range_with_len}
use Rattle.std.proofs.lemmas.List.Folds.{list_all-map}
use Rattle.std.proofs.lemmas.List.Sums.{sum_by-cons, list_all-from_AllPass}
use Rattle.layer_split.proofs.Beginning.{layer_size}
use Rattle.layer_split.specs.declared.cut.Run.{Run}
use Rattle.layer_split.specs.declared.run_table.NamedRun.{NamedRun}
use Rattle.layer_split.specs.Layers.{run_table_size, runs_in, bytes_of_run, layer_bytes, layer_length, lengths_of}
use Rattle.layer_split.specs.RunTable.{run_count, named_runs, has_table, is_run, alternates, bytes_in, fills_layer_0}
use Rattle.layer_split.specs.RunTable.{fills_others, are_of, fits}
use Rattle.reassemble.specs.laws.TableRead.{named, count_read, runs_read}

-- runs that a run table can name: each is of one of n layers, has a byte and lies in the stream, no two adjacent ones
-- are of one
-- layer, and their number and their lengths are written in four bytes
pub record CanBeNamed (stream : List ℕ) (runs : List Run) (n : ℕ) : Type 0 where
  pub few : length runs < 2 ^ 32
  pub short : All (λ run. run.len < 2 ^ 32) runs
  pub layers : All (λ run. run.layer < n) runs
  pub some : All (λ run. 0 < run.len) runs
  pub inside : All (λ run. run.at + run.len ≤ length stream) runs
  pub apart : alternates (map named runs) ≡ true

-- a layer has as many bytes of the named runs
pub in_named : (layer : ℕ) (runs : List Run)
    → bytes_in layer (map named runs) ≡ sum_by (λ (r : Run). r.len) (runs_in layer runs)
in_named layer [] = refl
in_named layer (r ∷ runs) =
    let later = in_named layer runs in
    let names : List NamedRun = filter (λ (m : NamedRun). m.layer == layer) (map named runs) in
    elim (cases_Bool (r.layer == layer)) [
      | inl e ↦
          (let one : sum_by (λ (m : NamedRun). m.len) (named r ∷ names)
          ≡ r.len + sum_by (λ (m : NamedRun). m.len) names = sum_by-cons (λ (m : NamedRun). m.len) (named r) names in
          let two : sum_by (λ (m : Run). m.len) (r ∷ runs_in layer runs)
          ≡ r.len + sum_by (λ (m : Run). m.len) (runs_in layer runs) =
          sum_by-cons (λ (m : Run). m.len) r (runs_in layer runs) in
          let same : sum_by (λ (m : NamedRun). m.len) (named r ∷ names)
          ≡ sum_by (λ (m : Run). m.len) (r ∷ runs_in layer runs) = omega arith in
          ap (sum_by (λ (m : NamedRun). m.len)) (cond-true (r.layer == layer) (named r ∷ names) names e)
          ∙ (same ∙ ap (sum_by (λ (m : Run). m.len))
          (sym (cond-true (r.layer == layer) (r ∷ runs_in layer runs) (runs_in layer runs) e))))
      | inr e ↦
          ap (sum_by (λ (m : NamedRun). m.len)) (cond-false (r.layer == layer) (named r ∷ names) names e)
          ∙ (later ∙ ap (sum_by (λ (m : Run). m.len))
          (sym (cond-false (r.layer == layer) (r ∷ runs_in layer runs) (runs_in layer runs) e)))
    ]

runs_are : (n : ℕ) (runs : List Run) → All (λ (r : Run). r.layer < n) runs → All (λ (r : Run). 0 < r.len) runs
    → list_all (is_run n) (map named runs) ≡ true
runs_are n runs layers some =
    list_all-map (is_run n) named runs
    ∙ list_all-from_AllPass (λ (r : Run). is_run n (named r)) runs
    (λ k d lt. and_from (nat_lt (get_or runs k d).layer n) (nat_lt 0 (get_or runs k d).len)
    (lt-ltb (get_or runs k d).layer n (layers k d lt)) (lt-ltb 0 (get_or runs k d).len (some k d lt)))

other_length : (runs : List Run) (n layer : ℕ) → 0 < layer → layer < n
    → slice_index (lengths_of runs n) layer ≡ bytes_in layer (map named runs)
other_length runs n layer some lt =
    get_or-map-range_with_len (layer_length runs) 0 n layer layer 0 lt (omega arith)
    ∙ (let none : cond (layer == 0) (run_table_size (length runs)) 0
    ≡ 0 = cond-false (layer == 0) (run_table_size (length runs)) 0 (ne_eqb layer 0 (λ e. omega (arith, e))) in
    omega (arith, in_named layer runs))

others_fill : (runs : List Run) (n : ℕ) → fills_others (lengths_of runs n) (map named runs) ≡ true
others_fill runs n =
    let lengths : List ℕ = lengths_of runs n in
    let many : length lengths ≡ n = length-map-range_with_len (layer_length runs) 0 n in
    let last : ℕ = length lengths - 1 in
    list_all-from_AllPass (λ layer. bytes_in layer (map named runs) == slice_index lengths layer)
    (range_with_len 1 last)
    (λ k d lt.
    let inside : k < last = omega (arith, length-range_with_len 1 last) in
    let at : get_or (range_with_len 1 last) k d ≡ 1 + k = get_or-range_with_len 1 last k d inside in
    ap (λ layer. bytes_in layer (map named runs) == slice_index lengths layer) at
    ∙ eq-eqb (bytes_in (1 + k) (map named runs)) (slice_index lengths (1 + k))
    (sym (other_length runs n (1 + k) (omega arith) (omega arith))))

-- layer 0 begins with a table that fits
pub table_fits : (stream : List ℕ) (runs : List Run) (n : ℕ) → CanBeNamed stream runs n
    → fits (layer_bytes stream runs 0) (lengths_of runs n) ≡ true
table_fits stream runs n h =
    let bytes : List ℕ = layer_bytes stream runs 0 in
    let lengths : List ℕ = lengths_of runs n in
    let rest : List ℕ = flat_map (bytes_of_run stream) (runs_in 0 runs) in
    let count : run_count bytes ≡ length runs = count_read runs rest h.few in
    let names : named_runs bytes ≡ map named runs = runs_read runs rest h.few h.short in
    let size : length bytes ≡ run_table_size (length runs) + sum_by (λ (r : Run). r.len) (runs_in 0 runs) =
    layer_size stream runs 0 h.inside in
    let many : length lengths ≡ n = length-map-range_with_len (layer_length runs) 0 n in
    let long : length (map named runs) ≡ length runs = length-map runs named in
    let has : has_table bytes ≡ true =
    and_from (nat_le 4 (length bytes)) (nat_le (run_table_size (run_count bytes)) (length bytes))
    (le-leb 4 (length bytes) (omega arith)) (le-leb (run_table_size (run_count bytes)) (length bytes) (omega arith)) in
    let first : fills_layer_0 (length bytes) (map named runs) ≡ true =
    eq-eqb (run_table_size (length (map named runs)) + bytes_in 0 (map named runs)) (length bytes)
    (omega (arith, in_named 0 runs)) in
    let all : list_all (is_run (length lengths)) (map named runs) ≡ true =
    ap (λ k. list_all (is_run k) (map named runs)) many ∙ runs_are n runs h.layers h.some in
    let are : are_of (length bytes) lengths (map named runs) ≡ true =
    and_from (list_all (is_run (length lengths)) (map named runs))
    (alternates (map named runs)
    && (fills_layer_0 (length bytes) (map named runs) && fills_others lengths (map named runs))) all
    (and_from (alternates (map named runs))
    (fills_layer_0 (length bytes) (map named runs) && fills_others lengths (map named runs)) h.apart
    (and_from (fills_layer_0 (length bytes) (map named runs)) (fills_others lengths (map named runs)) first
    (others_fill runs n))) in
    and_from (has_table bytes) (are_of (length bytes) lengths (named_runs bytes)) has
    (ap (are_of (length bytes) lengths) names ∙ are)
