-- What callers know of the video of a cut's leading layers: it is the runs of these layers, in the order of the stream.
-- This
-- project's own.
use Rattle.std.proofs.Common.{◌≡◌, ℕ, zero, suc, ◌+◌, ◌*◌, ◌<◌, ◌≤◌, Bool, cond, List, [], ◌∷◌, ◌++◌, length, map, take}
use Rattle.std.proofs.Common.{drop, get_or, refl, sym, ap, subst, ◌∙◌, arith, inl, inr}
use Rattle.std.specs.Prelude.{All, ◌==◌, nat_lt}
use Rattle.std.specs.List.{filter, flat_map, sum_by, range_with_len}
use Rattle.std.specs.Int.{to_be_bytes, w32}
use Rattle.std.proofs.lemmas.Bool.{cond-true, cond-false, cases_Bool, cases_lt, eq-eqb, lt-ltb, le-ltb}
use Rattle.std.proofs.lemmas.List.{take_at, take_all, take-append-drop, take-map, drop_at, drop_all, drop_more}
use Rattle.std.proofs.lemmas.List.{drop-drop, get_or_past, length-take, length-take-le, get_or-take, length-drop}
use Rattle.std.proofs.lemmas.List.{length-append}
use Rattle.std.proofs.lemmas.List.FromFn.{fill_by_all, length-map-range_with_len, get_or-map-range_with_len}
use Rattle.std.proofs.lemmas.List.Concat.{flat_map-append}
use Rattle.std.proofs.lemmas.List.Elements.{filter-append}
use Rattle.std.proofs.lemmas.List.Sums.{sum_by-cons}
use Rattle.layer_split.specs.declared.cut.Run.{Run}
use Rattle.layer_split.specs.declared.run_table.NamedRun.{NamedRun}
use Rattle.layer_split.specs.Layers.{run_entry, run_table, run_table_size, runs_in, bytes_of_run, layer_bytes}
use Rattle.layer_split.specs.RunTable.{run_count, named_runs, bytes_in}
use Rattle.reassemble.specs.Video.{run_bytes, group_video}
use Rattle.reassemble.specs.laws.TableRead.{named, count_read, run_read, runs_read}
use Rattle.reassemble.specs.laws.TableFits.{CanBeNamed, in_named}

-- lists joined end to end
flat_same : (g h : ℕ → List ℕ) (a n : ℕ) → ((i : ℕ) → a ≤ i → i < a + n → g i ≡ h i)
    → flat_map g (range_with_len a n) ≡ flat_map h (range_with_len a n)
flat_same g h a zero e = refl
flat_same g h a (suc n) e =
    ap (λ l. l ++ flat_map g (range_with_len (a + 1) n)) (e a (omega arith) (omega arith))
    ∙ ap (λ l. h a ++ l) (flat_same g h (a + 1) n (λ i le lt. e i (omega arith) (omega arith)))

flat_mapped : {X : Type 0} (h : X → List ℕ) (f : ℕ → X) (xs : List ℕ)
    → flat_map h (map f xs) ≡ flat_map (λ x. h (f x)) xs
flat_mapped h f [] = refl
flat_mapped h f (x ∷ xs) = ap (λ l. h (f x) ++ l) (flat_mapped h f xs)

flat_indexed : {X : Type 0} (h : X → List ℕ) (xs : List X) (d : X)
    → flat_map (λ i. h (get_or xs i d)) (range_with_len 0 (length xs)) ≡ flat_map h xs
flat_indexed h xs d =
    sym (flat_mapped h (λ i. get_or xs i d) (range_with_len 0 (length xs)))
    ∙ ap (flat_map h) (sym (fill_by_all (λ i. get_or xs i d) xs (length xs) d refl (λ k lt. refl)))

flat_filtered : {X : Type 0} (h : X → List ℕ) (p : X → Bool) (xs : List X)
    → flat_map (λ x. cond (p x) (h x) []) xs ≡ flat_map h (filter p xs)
flat_filtered h p [] = refl
flat_filtered h p (x ∷ xs) = elim (cases_Bool (p x)) [
  | inl e ↦
      ap (λ l. l ++ flat_map (λ y. cond (p y) (h y) []) xs) (cond-true (p x) (h x) [] e)
      ∙ (ap (λ l. h x ++ l) (flat_filtered h p xs)
      ∙ ap (flat_map h) (sym (cond-true (p x) (x ∷ filter p xs) (filter p xs) e)))
  | inr e ↦
      ap (λ l. l ++ flat_map (λ y. cond (p y) (h y) []) xs) (cond-false (p x) (h x) [] e)
      ∙ (flat_filtered h p xs ∙ ap (flat_map h) (sym (cond-false (p x) (x ∷ filter p xs) (filter p xs) e)))
]

-- the lengths of a run and of some runs
one_length : (stream : List ℕ) (r : Run) → r.at + r.len ≤ length stream → length (bytes_of_run stream r) ≡ r.len
one_length stream r inside = length-take-le r.len (drop r.at stream) (let e = length-drop r.at stream in omega arith)

some_length : (stream : List ℕ) (layer : ℕ) (runs : List Run) → All (λ (r : Run). r.at + r.len ≤ length stream) runs
    → length (flat_map (bytes_of_run stream) (runs_in layer runs)) ≡ sum_by (λ (r : Run). r.len) (runs_in layer runs)
some_length stream layer [] inside = refl
some_length stream layer (r ∷ runs) inside =
    let later = some_length stream layer runs (λ k d lt. inside (suc k) d (omega arith)) in
    elim (cases_Bool (r.layer == layer)) [
      | inl e ↦
          (let here : runs_in layer (r ∷ runs)
          ≡ r ∷ runs_in layer runs = cond-true (r.layer == layer) (r ∷ runs_in layer runs) (runs_in layer runs) e in
          let one = one_length stream r (inside 0 r (omega arith)) in
          let both : length (flat_map (bytes_of_run stream) (r ∷ runs_in layer runs))
          ≡ length (bytes_of_run stream r) + length (flat_map (bytes_of_run stream) (runs_in layer runs)) =
          length-append (bytes_of_run stream r) (flat_map (bytes_of_run stream) (runs_in layer runs)) in
          let total : sum_by (λ (m : Run). m.len) (r ∷ runs_in layer runs)
          ≡ r.len + sum_by (λ (m : Run). m.len) (runs_in layer runs) =
          sum_by-cons (λ (m : Run). m.len) r (runs_in layer runs) in
          let same : length (flat_map (bytes_of_run stream) (r ∷ runs_in layer runs))
          ≡ sum_by (λ (m : Run). m.len) (r ∷ runs_in layer runs) = omega arith in
          ap (λ l. length (flat_map (bytes_of_run stream) l)) here
          ∙ (same ∙ ap (sum_by (λ (m : Run). m.len)) (sym here)))
      | inr e ↦
          (let here : runs_in layer (r ∷ runs)
          ≡ runs_in layer runs = cond-false (r.layer == layer) (r ∷ runs_in layer runs) (runs_in layer runs) e in
          ap (λ l. length (flat_map (bytes_of_run stream) l)) here
          ∙ (later ∙ ap (sum_by (λ (m : Run). m.len)) (sym here)))
    ]

-- how long the run table is, in layer 0 alone
entries_length : (runs : List Run) → length (flat_map run_entry runs) ≡ 5 * length runs
entries_length [] = refl
entries_length (r ∷ runs) =
    let later = entries_length runs in
    let both : length (flat_map run_entry (r ∷ runs)) ≡ 5 + length (flat_map run_entry runs) =
    length-append (run_entry r) (flat_map run_entry runs) in
    omega arith

front_of : List Run → ℕ → List ℕ
front_of runs layer = cond (layer == 0) (run_table runs) []

front_size : List Run → ℕ → ℕ
front_size runs layer = cond (layer == 0) (run_table_size (length runs)) 0

front_length : (runs : List Run) (layer : ℕ) → length (front_of runs layer) ≡ front_size runs layer
unfolding front_of front_size
front_length runs layer = elim (cases_Bool (layer == 0)) [
  | inl e ↦
      (let head : List ℕ = to_be_bytes w32 (length runs) in
      let four : length head ≡ 4 = refl in
      let whole : length (run_table runs) ≡ length head + length (flat_map run_entry runs) =
      length-append head (flat_map run_entry runs) in
      let size : length (run_table runs) ≡ run_table_size (length runs) = omega (arith, entries_length runs) in
      ap length (cond-true (layer == 0) (run_table runs) [] e)
      ∙ (size ∙ sym (cond-true (layer == 0) (run_table_size (length runs)) 0 e)))
  | inr e ↦ ap length (cond-false (layer == 0) (run_table runs) [] e)
      ∙ sym (cond-false (layer == 0) (run_table_size (length runs)) 0 e)
]

-- a run's bytes stand in its layer behind the run table and the layer's runs before it
run_cut : (stream : List ℕ) (runs : List Run) (i : ℕ) (d : Run) → i < length runs
    → All (λ (r : Run). r.at + r.len ≤ length stream) runs
    → take (get_or runs i d).len (drop (front_size runs (get_or runs i d).layer
    + bytes_in (get_or runs i d).layer (take i (map named runs))) (layer_bytes stream runs (get_or runs i d).layer))
    ≡ bytes_of_run stream (get_or runs i d)
unfolding front_of front_size
run_cut stream runs i d lt inside =
    let r : Run = get_or runs i d in
    let layer : ℕ = r.layer in
    let g : Run → List ℕ = bytes_of_run stream in
    let before : List Run = take i runs in
    let later : List Run = drop (i + 1) runs in
    let front : List ℕ = front_of runs layer in
    let gone : List ℕ = flat_map g (runs_in layer before) in
    let rest : List ℕ = flat_map g (runs_in layer later) in
    let split : runs ≡ before ++ r ∷ later =
    sym (take-append-drop i runs) ∙ ap (λ l. before ++ l) (drop_more runs i d lt) in
    let here : runs_in layer (r ∷ later) ≡ r ∷ runs_in layer later =
    cond-true (r.layer == layer) (r ∷ runs_in layer later) (runs_in layer later) (eq-eqb layer layer refl) in
    let body : flat_map g (runs_in layer runs) ≡ gone ++ (g r ++ rest) =
    ap (λ l. flat_map g (runs_in layer l)) split
    ∙ (ap (flat_map g) (filter-append (λ (m : Run). m.layer == layer) before (r ∷ later))
    ∙ (flat_map-append g (runs_in layer before) (runs_in layer (r ∷ later)) ∙ ap (λ l. gone ++ flat_map g l) here)) in
    let first_ones : All (λ (m : Run). m.at + m.len ≤ length stream) before = λ k e l. inside_front k e l in
    let count : bytes_in layer (take i (map named runs)) ≡ length gone =
    ap (bytes_in layer) (take-map named i runs)
    ∙ (in_named layer before ∙ sym (some_length stream layer before first_ones)) in
    let size : length front ≡ front_size runs layer = front_length runs layer in
    ap (λ n. take r.len (drop (front_size runs layer + n) (front ++ flat_map g (runs_in layer runs)))) count
    ∙ (ap (take r.len)
    (sym (drop-drop (length gone) (front_size runs layer) (front ++ flat_map g (runs_in layer runs))))
    ∙ (ap (λ l. take r.len (drop (length gone) l))
    (drop_at front (flat_map g (runs_in layer runs)) (front_size runs layer) size ∙ body)
    ∙ (ap (take r.len) (drop_at gone (g r ++ rest) (length gone) refl)
    ∙ take_at (g r) rest r.len (one_length stream r (inside i d lt)))))
  where
    inside_front : (k : ℕ) (e : Run) → k < length (take i runs)
        → (get_or (take i runs) k e).at + (get_or (take i runs) k e).len ≤ length stream
    inside_front k e l =
        let few : k < i = omega (arith, length-take i runs) in
        let same : get_or (take i runs) k e ≡ get_or runs k e = get_or-take i runs k e few in
        let h = inside k e (omega (arith, length-take i runs)) in
        subst (λ (m : Run). m.at + m.len ≤ length stream) (sym same) h

-- what the video has of a run of the table, by what the table says
part : List (List ℕ) → ℕ → NamedRun → ℕ → List NamedRun → List ℕ
part layers i run count names =
    take run.len (drop (cond (run.layer == 0) (run_table_size count) 0 + bytes_in run.layer (take i names))
    (get_or layers run.layer []))

part_is : (stream : List ℕ) (runs : List Run) (n k i : ℕ) (d : Run) → CanBeNamed stream runs n → i < length runs
    → run_bytes (map (layer_bytes stream runs) (range_with_len 0 k)) (layer_bytes stream runs 0) i
    ≡ cond (nat_lt (get_or runs i d).layer k) (bytes_of_run stream (get_or runs i d)) []
unfolding part front_size
part_is stream runs n k i d h lt =
    let r : Run = get_or runs i d in
    let f : ℕ → List ℕ = layer_bytes stream runs in
    let layers : List (List ℕ) = map f (range_with_len 0 k) in
    let many : length layers ≡ k = length-map-range_with_len f 0 k in
    let rest : List ℕ = flat_map (bytes_of_run stream) (runs_in 0 runs) in
    let told : run_bytes layers (f 0) i ≡ part layers i (named r) (length runs) (map named runs) =
    ap (λ m. part layers i m (run_count (f 0)) (named_runs (f 0))) (run_read runs rest i d lt h.short)
    ∙ (ap (λ c. part layers i (named r) c (named_runs (f 0))) (count_read runs rest h.few)
    ∙ ap (part layers i (named r) (length runs)) (runs_read runs rest h.few h.short)) in
    let start : ℕ = front_size runs r.layer + bytes_in r.layer (take i (map named runs)) in
    told
    ∙ elim (cases_lt r.layer k) [
      | inl among ↦
          ap (λ l. take r.len (drop start l)) (get_or-map-range_with_len f 0 k r.layer r.layer [] among (omega arith))
          ∙ (run_cut stream runs i d lt h.inside
          ∙ sym (cond-true (nat_lt r.layer k) (bytes_of_run stream r) [] (lt-ltb r.layer k among)))
      | inr above ↦
          ap (λ l. take r.len (drop start l)) (get_or_past layers r.layer [] (omega arith))
          ∙ (ap (take r.len) (drop_all start [] (omega arith))
          ∙ (take_all r.len [] (omega arith)
          ∙ sym (cond-false (nat_lt r.layer k) (bytes_of_run stream r) [] (le-ltb r.layer k above))))
    ]

runs_of_video : (layers : List (List ℕ)) → 0 < length layers
    → group_video layers
    ≡ flat_map (run_bytes layers (get_or layers 0 [])) (range_with_len 0 (run_count (get_or layers 0 [])))
unfolding group_video
runs_of_video [] some = absurd (omega arith)
runs_of_video (first ∷ more) some = refl

-- the runs of the first k layers
pub video_of_cut : (stream : List ℕ) (runs : List Run) (n k : ℕ) → CanBeNamed stream runs n → 0 < k
    → group_video (map (layer_bytes stream runs) (range_with_len 0 k))
    ≡ flat_map (bytes_of_run stream) (filter (λ run. nat_lt run.layer k) runs)
video_of_cut stream runs n k h some =
    let f : ℕ → List ℕ = layer_bytes stream runs in
    let layers : List (List ℕ) = map f (range_with_len 0 k) in
    let d : Run = record { layer = 0; at = 0; len = 0 } in
    let many : length layers ≡ k = length-map-range_with_len f 0 k in
    let first : get_or layers 0 [] ≡ f 0 = get_or-map-range_with_len f 0 k 0 0 [] some refl in
    let rest : List ℕ = flat_map (bytes_of_run stream) (runs_in 0 runs) in
    let shown : Run → List ℕ = λ r. cond (nat_lt r.layer k) (bytes_of_run stream r) [] in
    runs_of_video layers (omega arith)
    ∙ (ap (λ b. flat_map (run_bytes layers b) (range_with_len 0 (run_count b))) first
    ∙ (ap (λ c. flat_map (run_bytes layers (f 0)) (range_with_len 0 c)) (count_read runs rest h.few)
    ∙ (flat_same (run_bytes layers (f 0)) (λ i. shown (get_or runs i d)) 0 (length runs)
    (λ i le lt. part_is stream runs n k i d h (omega arith))
    ∙ (flat_indexed shown runs d ∙ flat_filtered (bytes_of_run stream) (λ (r : Run). nat_lt r.layer k) runs))))
