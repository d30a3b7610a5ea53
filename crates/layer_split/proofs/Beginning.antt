-- Bytes that others begin with, and what a layer's parts sum to.
use Rattle.std.proofs.Common.{◌≡◌, ◌≢◌, ℕ, zero, suc, ◌+◌, ◌-◌, ◌*◌, ◌%◌, ◌<◌, ◌≤◌, List, [], ◌∷◌, ◌++◌, length, take}
use Rattle.std.proofs.Common.{drop, map, get_or, refl, sym, ◌∙◌, ap, arith, inl, inr, cond, append_assoc, length-append}
use Rattle.std.specs.Prelude.{◌==◌, All}
use Rattle.std.specs.List.{sum_by, flat_map, range_with_len}
use Rattle.std.specs.Int.{to_be_bytes, w32}
use Rattle.std.proofs.Math.Seq.{take-append_seam, take-length}
use Rattle.layer_split.proofs.Totals.{range_push}
use Rattle.std.proofs.lemmas.List.{append-nil, take_more, length-take-le, length-drop, take-append-drop}
use Rattle.std.proofs.lemmas.List.Elements.{filter-append}
use Rattle.std.proofs.lemmas.List.Sums.{sum_by-cons}
use Rattle.std.proofs.lemmas.Bool.{cond-true, cond-false, cases_Bool, eq-eqb, ne_eqb}
use Rattle.layer_split.specs.declared.cut.Run.{Run}
use Rattle.layer_split.specs.Layers.{run_entry, run_table, run_table_size, runs_in, bytes_of_run, layer_bytes}
use Rattle.layer_split.specs.Layers.{layer_length, lengths_of, padded_by, message_by}
use Rattle.layer_split.specs.Bytes.{Begins, run_part, table_of}

pub begins_same : (old new : List ℕ) → new ≡ old → Begins old new
begins_same old new e = ap (take (length old)) e ∙ take-length old

pub begins_more : (old new more : List ℕ) → new ≡ old ++ more → Begins old new
begins_more old new more e = ap (take (length old)) e ∙ take-append_seam old more

-- two parts behind the old bytes, and one more of the second
pub part_after : (old front so_far part more middle new : List ℕ) → middle ≡ old ++ (front ++ so_far)
    → new ≡ middle ++ part → more ≡ so_far ++ part → new ≡ old ++ (front ++ more)
part_after old front so_far part more middle new before appended is =
    appended
    ∙ (ap (λ l. l ++ part) before
    ∙ (append_assoc old (front ++ so_far) part
    ∙ ap (λ l. old ++ l) (append_assoc front so_far part ∙ ap (λ l. front ++ l) (sym is))))

-- the run table is in layer 0 alone
pub table_of_first : (runs : List Run) (layer : ℕ) → layer ≡ 0 → table_of runs layer ≡ run_table runs
table_of_first runs layer first = rw first

pub table_of_other : (runs : List Run) (layer : ℕ) → layer ≢ 0 → table_of runs layer ≡ []
table_of_other runs layer other = cond-false (layer == 0) (run_table runs) [] (ne_eqb layer 0 other)

flat_more : {X : Type 0} (f : X → List ℕ) (xs ys : List X) → flat_map f (xs ++ ys) ≡ flat_map f xs ++ flat_map f ys
flat_more f [] ys = refl
flat_more f (x ∷ xs) ys =
    ap (λ l. f x ++ l) (flat_more f xs ys) ∙ sym (append_assoc (f x) (flat_map f xs) (flat_map f ys))

-- one entry more, and one run more
pub entry_more : (runs : List Run) (i : ℕ) (d : Run) → i < length runs
    → flat_map run_entry (take (i + 1) runs) ≡ flat_map run_entry (take i runs) ++ run_entry (get_or runs i d)
entry_more runs i d lt =
    ap (flat_map run_entry) (take_more runs i d lt)
    ∙ (flat_more run_entry (take i runs) (get_or runs i d ∷ [])
    ∙ ap (λ l. flat_map run_entry (take i runs) ++ l) (append-nil (run_entry (get_or runs i d))))

one_part : (stream : List ℕ) (layer : ℕ) (r : Run)
    → flat_map (bytes_of_run stream) (runs_in layer (r ∷ [])) ≡ run_part stream layer r
one_part stream layer r = elim (cases_Bool (r.layer == layer)) [
  | inl e ↦ ap (flat_map (bytes_of_run stream)) (cond-true (r.layer == layer) (r ∷ []) [] e)
      ∙ (append-nil (bytes_of_run stream r) ∙ sym (cond-true (r.layer == layer) (bytes_of_run stream r) [] e))
  | inr e ↦ ap (flat_map (bytes_of_run stream)) (cond-false (r.layer == layer) (r ∷ []) [] e)
      ∙ sym (cond-false (r.layer == layer) (bytes_of_run stream r) [] e)
]

pub part_more : (stream : List ℕ) (layer : ℕ) (runs : List Run) (i : ℕ) (d : Run) → i < length runs
    → flat_map (bytes_of_run stream) (runs_in layer (take (i + 1) runs))
    ≡ flat_map (bytes_of_run stream) (runs_in layer (take i runs)) ++ run_part stream layer (get_or runs i d)
part_more stream layer runs i d lt =
    ap (λ rs. flat_map (bytes_of_run stream) (runs_in layer rs)) (take_more runs i d lt)
    ∙ (ap (flat_map (bytes_of_run stream))
    (filter-append (λ (r : Run). r.layer == layer) (take i runs) (get_or runs i d ∷ []))
    ∙ (flat_more (bytes_of_run stream) (runs_in layer (take i runs)) (runs_in layer (get_or runs i d ∷ []))
    ∙ ap (λ l. flat_map (bytes_of_run stream) (runs_in layer (take i runs)) ++ l)
    (one_part stream layer (get_or runs i d))))

pub begins_after : (old middle new more : List ℕ) → middle ≡ old ++ more → Begins middle new → Begins old new
begins_after old middle new more e h =
    begins_more old new (more ++ drop (length middle) new)
    (sym (take-append-drop (length middle) new)
    ∙ (ap (λ l. l ++ drop (length middle) new) (h ∙ e) ∙ append_assoc old more (drop (length middle) new)))

-- how many bytes a layer has
entries_length : (runs : List Run) → length (flat_map run_entry runs) ≡ 5 * length runs
entries_length [] = refl
entries_length (r ∷ runs) =
    let later = entries_length runs in
    let one : length (run_entry r) ≡ 5 = refl in
    let both : length (flat_map run_entry (r ∷ runs)) ≡ length (run_entry r) + length (flat_map run_entry runs) =
    length-append (run_entry r) (flat_map run_entry runs) in
    omega arith

table_length : (runs : List Run) → length (run_table runs) ≡ run_table_size (length runs)
table_length runs =
    let head : length (to_be_bytes w32 (length runs)) ≡ 4 = refl in
    let later = entries_length runs in
    let both : length (run_table runs) ≡ length (to_be_bytes w32 (length runs)) + length (flat_map run_entry runs) =
    length-append (to_be_bytes w32 (length runs)) (flat_map run_entry runs) in
    omega arith

run_length : (stream : List ℕ) (r : Run) → r.at + r.len ≤ length stream → length (bytes_of_run stream r) ≡ r.len
run_length stream r inside =
    length-take-le r.len (drop r.at stream)
    (let e : length (drop r.at stream) ≡ length stream - r.at = length-drop r.at stream in omega arith)

runs_length : (stream : List ℕ) (layer : ℕ) (runs : List Run) → All (λ (r : Run). r.at + r.len ≤ length stream) runs
    → length (flat_map (bytes_of_run stream) (runs_in layer runs)) ≡ sum_by (λ (r : Run). r.len) (runs_in layer runs)
runs_length stream layer [] inside = refl
runs_length stream layer (r ∷ runs) inside =
    let later : length (flat_map (bytes_of_run stream) (runs_in layer runs))
    ≡ sum_by (λ (r : Run). r.len) (runs_in layer runs) =
    runs_length stream layer runs (λ k d lt. inside (suc k) d (omega arith)) in
    elim (cases_Bool (r.layer == layer)) [
      | inl e ↦
          (let here : runs_in layer (r ∷ runs)
          ≡ r ∷ runs_in layer runs = cond-true (r.layer == layer) (r ∷ runs_in layer runs) (runs_in layer runs) e in
          let one : length (bytes_of_run stream r) ≡ r.len = run_length stream r (inside 0 r (omega arith)) in
          let both : length (flat_map (bytes_of_run stream) (r ∷ runs_in layer runs))
          ≡ length (bytes_of_run stream r) + length (flat_map (bytes_of_run stream) (runs_in layer runs)) =
          length-append (bytes_of_run stream r) (flat_map (bytes_of_run stream) (runs_in layer runs)) in
          let total : sum_by (λ (r : Run). r.len) (r ∷ runs_in layer runs)
          ≡ r.len + sum_by (λ (r : Run). r.len) (runs_in layer runs) =
          sum_by-cons (λ (r : Run). r.len) r (runs_in layer runs) in
          ap (λ rs. length (flat_map (bytes_of_run stream) rs)) here
          ∙ ((let k : length (flat_map (bytes_of_run stream) (r ∷ runs_in layer runs))
          ≡ sum_by (λ (r : Run). r.len) (r ∷ runs_in layer runs) = omega arith in k)
          ∙ ap (sum_by (λ (r : Run). r.len)) (sym here)))
      | inr e ↦
          (let here : runs_in layer (r ∷ runs)
          ≡ runs_in layer runs = cond-false (r.layer == layer) (r ∷ runs_in layer runs) (runs_in layer runs) e in
          ap (λ rs. length (flat_map (bytes_of_run stream) rs)) here
          ∙ (later ∙ ap (sum_by (λ (r : Run). r.len)) (sym here)))
    ]

table_part : (runs : List Run) (layer : ℕ)
    → length (table_of runs layer) ≡ cond (layer == 0) (run_table_size (length runs)) 0
table_part runs layer = elim (cases_Bool (layer == 0)) [
  | inl e ↦ ap length (cond-true (layer == 0) (run_table runs) [] e)
      ∙ (table_length runs ∙ sym (cond-true (layer == 0) (run_table_size (length runs)) 0 e))
  | inr e ↦ ap length (cond-false (layer == 0) (run_table runs) [] e)
      ∙ sym (cond-false (layer == 0) (run_table_size (length runs)) 0 e)
]

pub layer_size : (stream : List ℕ) (runs : List Run) (layer : ℕ) → All (λ (r : Run). r.at + r.len ≤ length stream) runs
    → length (layer_bytes stream runs layer) ≡ layer_length runs layer
layer_size stream runs layer inside =
    length-append (table_of runs layer) (flat_map (bytes_of_run stream) (runs_in layer runs))
    ∙ (ap (λ n. n + length (flat_map (bytes_of_run stream) (runs_in layer runs))) (table_part runs layer)
    ∙ ap (λ n. cond (layer == 0) (run_table_size (length runs)) 0 + n) (runs_length stream layer runs inside))

-- whole words
pub padded_odd : (word : ℕ) (bytes : List ℕ) (n : ℕ) → n ≡ length bytes → n % word ≡ 1
    → padded_by word bytes ≡ bytes ++ 0 ∷ []
padded_odd word bytes n e odd =
    cond-true (length bytes % word == 1) (bytes ++ 0 ∷ []) bytes
    (eq-eqb (length bytes % word) 1 (ap (λ k. k % word) (sym e) ∙ odd))

pub padded_even : (word : ℕ) (bytes : List ℕ) (n : ℕ) → n ≡ length bytes → n % word ≢ 1 → padded_by word bytes ≡ bytes
padded_even word bytes n e even =
    cond-false (length bytes % word == 1) (bytes ++ 0 ∷ []) bytes
    (ne_eqb (length bytes % word) 1 (λ odd. even (ap (λ k. k % word) e ∙ odd)))

-- one layer more of the lengths and of the message
from_range : (f : ℕ → ℕ) (a n i : ℕ) → i < n → get_or (map f (range_with_len a n)) i 0 ≡ f (a + i)
from_range f a zero i lt = absurd (omega arith)
from_range f a (suc n) zero lt = ap f (let e : a ≡ a + 0 = omega arith in e)
from_range f a (suc n) (suc i) lt =
    from_range f (a + 1) n i (omega arith) ∙ ap f (let e : (a + 1) + i ≡ a + suc i = omega arith in e)

pub length_at : (runs : List Run) (lengths : List ℕ) (i : ℕ) → lengths ≡ lengths_of runs (length lengths)
    → i < length lengths → get_or lengths i 0 ≡ layer_length runs i
length_at runs lengths i e lt =
    ap (λ l. get_or l i 0) e
    ∙ (from_range (layer_length runs) 0 (length lengths) i lt
    ∙ ap (layer_length runs) (let k : 0 + i ≡ i = omega arith in k))

pub message_more : (word : ℕ) (stream : List ℕ) (runs : List Run) (i : ℕ)
    → message_by word stream runs (i + 1) ≡ message_by word stream runs i ++ padded_by word (layer_bytes stream runs i)
message_more word stream runs i =
    let part : ℕ → List ℕ = λ layer. padded_by word (layer_bytes stream runs layer) in
    ap (flat_map part) (range_push 0 i)
    ∙ (flat_more part (range_with_len 0 i) ((0 + i) ∷ [])
    ∙ (ap (λ l. flat_map part (range_with_len 0 i) ++ l) (append-nil (part (0 + i)))
    ∙ ap (λ k. flat_map part (range_with_len 0 i) ++ part k) (let e : 0 + i ≡ i = omega arith in e)))
