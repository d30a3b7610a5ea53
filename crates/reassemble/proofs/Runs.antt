-- The runs of the leading layers, one by one.
use Rattle.std.proofs.Common.{◌≡◌, ◌≢◌, ℕ, zero, suc, ◌+◌, ◌-◌, ◌<◌, ◌≤◌, Bool, true, ◌&&◌, cond, List, [], ◌∷◌, ◌++◌}
use Rattle.std.proofs.Common.{length, take, drop, get_or, set, replicate, refl, sym, ap, subst, ◌∙◌, arith, inl, inr}
use Rattle.std.specs.Prelude.{◌==◌, nat_lt, slice_index}
use Rattle.std.specs.List.{filter, flat_map, sum_by, list_all, range_with_len}
use Rattle.std.proofs.lemmas.Bool.{cond-true, cond-false, cases_Bool, cases_eq, eq-eqb, eqb-true, ne_eqb, ltb-true}
use Rattle.std.proofs.lemmas.Bool.{and_parts}
use Rattle.std.proofs.lemmas.List.{append-nil, append_assoc, get_or-set_same, get_or-set_other, map-id, take_at}
use Rattle.std.proofs.lemmas.List.{take_all, take_more, take-append-drop, drop_all, get_or_past}
use Rattle.std.proofs.lemmas.List.FromFn.{length-range_with_len, get_or-range_with_len, length-map-range_with_len}
use Rattle.std.proofs.lemmas.List.FromFn.{get_or-map-range_with_len, map-range_with_len_more}
use Rattle.std.proofs.lemmas.List.Concat.{flat_map-append}
use Rattle.std.proofs.lemmas.List.Sums.{sum_by-cons, sum_by-append, AllPass-from_list_all}
use Rattle.std.proofs.lemmas.List.Elements.{filter-append}
use Rattle.layer_split.specs.declared.run_table.NamedRun.{NamedRun}
use Rattle.layer_split.specs.Layers.{run_table_size}
use Rattle.layer_split.specs.RunTable.{run_count, named_run, named_runs, bytes_in, is_run, alternates, fills_layer_0}
use Rattle.layer_split.specs.RunTable.{fills_others, has_table, are_of, fits}
use Rattle.reassemble.specs.Video.{start_of, run_bytes, group_video}
use Rattle.reassemble.specs.inside.Taking.{first_of, taken_of, HaveRoom}

-- the runs that a table names, by their numbers
pub run_at : (first : List ℕ) (i : ℕ) (d : NamedRun) → i < run_count first
    → get_or (named_runs first) i d ≡ named_run first i
run_at first i d lt = get_or-map-range_with_len (named_run first) 0 (run_count first) i i d lt (omega arith)

pub runs_count : (first : List ℕ) → length (named_runs first) ≡ run_count first
runs_count first = length-map-range_with_len (named_run first) 0 (run_count first)

-- the bytes of a layer's runs, with one run more
one_in : (layer : ℕ) (run : NamedRun) → bytes_in layer (run ∷ []) ≡ cond (run.layer == layer) run.len 0
one_in layer run = elim (cases_Bool (run.layer == layer)) [
  | inl e ↦
      (let only : sum_by (λ (r : NamedRun). r.len) (run ∷ [])
      ≡ run.len = omega (arith, sum_by-cons (λ (r : NamedRun). r.len) run []) in
      ap (sum_by (λ (r : NamedRun). r.len)) (cond-true (run.layer == layer) (run ∷ []) [] e)
      ∙ (only ∙ sym (cond-true (run.layer == layer) run.len 0 e)))
  | inr e ↦ ap (sum_by (λ (r : NamedRun). r.len)) (cond-false (run.layer == layer) (run ∷ []) [] e)
      ∙ sym (cond-false (run.layer == layer) run.len 0 e)
]

in_both : (layer : ℕ) (xs ys : List NamedRun) → bytes_in layer (xs ++ ys) ≡ bytes_in layer xs + bytes_in layer ys
in_both layer xs ys =
    let p : NamedRun → Bool = λ r. r.layer == layer in
    ap (sum_by (λ (r : NamedRun). r.len)) (filter-append p xs ys)
    ∙ sum_by-append (λ (r : NamedRun). r.len) (filter p xs) (filter p ys)

in_more : (layer : ℕ) (runs : List NamedRun) (i : ℕ) (d : NamedRun) → i < length runs
    → bytes_in layer (take (i + 1) runs)
    ≡ bytes_in layer (take i runs) + cond ((get_or runs i d).layer == layer) (get_or runs i d).len 0
in_more layer runs i d lt =
    ap (bytes_in layer) (take_more runs i d lt)
    ∙ (in_both layer (take i runs) (get_or runs i d ∷ [])
    ∙ ap (λ n. bytes_in layer (take i runs) + n) (one_in layer (get_or runs i d)))

in_le : (layer : ℕ) (runs : List NamedRun) (i : ℕ) → bytes_in layer (take i runs) ≤ bytes_in layer runs
in_le layer runs i =
    let e : bytes_in layer runs ≡ bytes_in layer (take i runs) + bytes_in layer (drop i runs) =
    ap (bytes_in layer) (sym (take-append-drop i runs)) ∙ in_both layer (take i runs) (drop i runs) in
    omega arith

-- how far a layer is taken, with one run more
pub taken_more : (first : List ℕ) (i layer : ℕ) → i < run_count first
    → taken_of first (i + 1) layer
    ≡ taken_of first i layer + cond ((named_run first i).layer == layer) (named_run first i).len 0
taken_more first i layer lt =
    let d : NamedRun = named_run first i in
    let within : i < length (named_runs first) = omega (arith, runs_count first) in
    let more = in_more layer (named_runs first) i d within in
    let at : cond ((get_or (named_runs first) i d).layer == layer) (get_or (named_runs first) i d).len 0
    ≡ cond (d.layer == layer) d.len 0 =
    ap (λ (r : NamedRun). cond (r.layer == layer) r.len 0) (run_at first i d lt) in
    omega (arith, more, at)

pub taken_here : (first : List ℕ) (i : ℕ) → i < run_count first
    → taken_of first (i + 1) (named_run first i).layer ≡ start_of first i + (named_run first i).len
taken_here first i lt =
    taken_more first i (named_run first i).layer lt
    ∙ ap (λ n. start_of first i + n) (cond-true ((named_run first i).layer == (named_run first i).layer)
    (named_run first i).len 0 (eq-eqb (named_run first i).layer (named_run first i).layer refl))

pub taken_other : (first : List ℕ) (i layer : ℕ) → i < run_count first → (named_run first i).layer ≢ layer
    → taken_of first (i + 1) layer ≡ taken_of first i layer
taken_other first i layer lt ne =
    let none : cond ((named_run first i).layer == layer) (named_run first i).len 0 ≡ 0 =
    cond-false ((named_run first i).layer == layer) (named_run first i).len 0
    (ne_eqb (named_run first i).layer layer ne) in
    omega (arith, taken_more first i layer lt)

-- each run lies in its layer
record Fit (first lengths : List ℕ) : Type 0 where
  layers : (i : ℕ) → i < run_count first → (named_run first i).layer < length lengths
  first_whole : run_table_size (run_count first) + bytes_in 0 (named_runs first) ≡ length first
  others : (layer : ℕ) → 0 < layer → layer < length lengths
      → bytes_in layer (named_runs first) ≡ slice_index lengths layer

fit_parts : (first lengths : List ℕ) → fits first lengths ≡ true → Fit first lengths
fit_parts first lengths e =
    let runs : List NamedRun = named_runs first in
    let n : ℕ = length lengths in
    let are = (and_parts (has_table first) (are_of (length first) lengths runs) e).1 in
    let a = and_parts (list_all (is_run n) runs)
    (alternates runs && (fills_layer_0 (length first) runs && fills_others lengths runs)) are in
    let b = and_parts (alternates runs) (fills_layer_0 (length first) runs && fills_others lengths runs) a.1 in
    let f = and_parts (fills_layer_0 (length first) runs) (fills_others lengths runs) b.1 in
    let whole : run_table_size (length runs) + bytes_in 0 runs ≡ length first =
    eqb-true (run_table_size (length runs) + bytes_in 0 runs) (length first) f.0 in
    record {
      layers =
          λ i lt.
          let d : NamedRun = named_run first i in
          let at = AllPass-from_list_all (is_run n) runs a.0 i d (omega (arith, runs_count first)) in
          let is : is_run n d ≡ true = ap (is_run n) (sym (run_at first i d lt)) ∙ at in
          ltb-true d.layer n (and_parts (nat_lt d.layer n) (nat_lt 0 d.len) is).0;
      first_whole = ap (λ k. run_table_size k + bytes_in 0 runs) (sym (runs_count first)) ∙ whole;
      others =
          λ layer some lt.
          let test : ℕ → Bool = λ l. bytes_in l runs == slice_index lengths l in
          let k : ℕ = layer - 1 in
          let inside : k < n - 1 = omega arith in
          let at = AllPass-from_list_all test (range_with_len 1 (n - 1)) f.1 k 0
          (omega (arith, length-range_with_len 1 (n - 1))) in
          let place : get_or (range_with_len 1 (n - 1)) k 0 ≡ layer =
          get_or-range_with_len 1 (n - 1) k 0 inside ∙ (let e : 1 + k ≡ layer = omega arith in e) in
          eqb-true (bytes_in layer runs) (slice_index lengths layer) (ap test (sym place) ∙ at);
    }

pub have_room : (layers : List (List ℕ)) (lengths : List ℕ) → fits (first_of layers) lengths ≡ true
    → ((layer : ℕ) → layer < length layers → length (get_or layers layer []) ≡ slice_index lengths layer)
    → HaveRoom layers
have_room layers lengths e sized i lt within =
    let first : List ℕ = first_of layers in
    let run : NamedRun = named_run first i in
    let fit = fit_parts first lengths e in
    let end = taken_here first i lt in
    let low = in_le run.layer (named_runs first) (i + 1) in
    elim (cases_eq run.layer 0) [
      | inl zero_is ↦
          (let front : cond (run.layer == 0) (run_table_size (run_count first)) 0
          ≡ run_table_size (run_count first) =
          cond-true (run.layer == 0) (run_table_size (run_count first)) 0 (eq-eqb run.layer 0 zero_is) in
          let whole = fit.first_whole in
          let same : bytes_in run.layer (named_runs first) ≡ bytes_in 0 (named_runs first) =
          ap (λ l. bytes_in l (named_runs first)) zero_is in
          let here : length (get_or layers run.layer []) ≡ length first =
          ap (λ l. length (get_or layers l [])) zero_is in
          omega arith)
      | inr other ↦
          (let front : cond (run.layer == 0) (run_table_size (run_count first)) 0
          ≡ 0 = cond-false (run.layer == 0) (run_table_size (run_count first)) 0 (ne_eqb run.layer 0 other) in
          let all = fit.others run.layer (omega arith) (fit.layers i lt) in
          let size = sized run.layer within in
          omega arith)
    ]

-- the video, with one run more
range_more : (a n : ℕ) → range_with_len a (n + 1) ≡ range_with_len a n ++ (a + n) ∷ []
range_more a n =
    sym (map-id (range_with_len a (n + 1)))
    ∙ (map-range_with_len_more (λ (x : ℕ). x) a n (a + n) refl
    ∙ ap (λ l. l ++ (a + n) ∷ []) (map-id (range_with_len a n)))

pub video_more : (layers : List (List ℕ)) (first : List ℕ) (i : ℕ)
    → flat_map (run_bytes layers first) (range_with_len 0 (i + 1))
    ≡ flat_map (run_bytes layers first) (range_with_len 0 i) ++ run_bytes layers first i
video_more layers first i =
    let part : ℕ → List ℕ = run_bytes layers first in
    ap (flat_map part) (range_more 0 i)
    ∙ (flat_map-append part (range_with_len 0 i) ((0 + i) ∷ [])
    ∙ (ap (λ l. flat_map part (range_with_len 0 i) ++ l) (append-nil (part (0 + i)))
    ∙ ap (λ k. flat_map part (range_with_len 0 i) ++ part k) (let e : 0 + i ≡ i = omega arith in e)))

pub no_bytes : (layers : List (List ℕ)) (first : List ℕ) (i : ℕ) → length layers ≤ (named_run first i).layer
    → run_bytes layers first i ≡ []
no_bytes layers first i past =
    ap (λ l. take (named_run first i).len (drop (start_of first i) l))
    (get_or_past layers (named_run first i).layer [] past)
    ∙ (ap (take (named_run first i).len) (drop_all (start_of first i) [] (omega arith))
    ∙ take_all (named_run first i).len [] (omega arith))

pub video_is : (layers : List (List ℕ)) → 0 < length layers
    → group_video layers
    ≡ flat_map (run_bytes layers (first_of layers)) (range_with_len 0 (run_count (first_of layers)))
unfolding group_video
video_is [] some = absurd (omega arith)
video_is (first ∷ more) some = refl

pub begins_with : (old new more : List ℕ) → new ≡ old ++ more → take (length old) new ≡ old
begins_with old new more e = ap (take (length old)) e ∙ take_at old more (length old) refl

-- the state of the loop, with one run more
abbrev pub video_to : List (List ℕ) → ℕ → List ℕ
video_to layers i = flat_map (run_bytes layers (first_of layers)) (range_with_len 0 i)

pub into_past : (layers : List (List ℕ)) (old into : List ℕ) (i : ℕ) → into ≡ old ++ video_to layers i
    → length layers ≤ (named_run (first_of layers) i).layer → into ≡ old ++ video_to layers (i + 1)
into_past layers old into i so_far past =
    let part : List ℕ = run_bytes layers (first_of layers) i in
    so_far
    ∙ ap (λ l. old ++ l)
    (sym (video_more layers (first_of layers) i
    ∙ (ap (λ l. video_to layers i ++ l) (no_bytes layers (first_of layers) i past) ∙ append-nil (video_to layers i))))

pub into_more : (layers : List (List ℕ)) (old into new : List ℕ) (i : ℕ) → into ≡ old ++ video_to layers i
    → new ≡ into ++ run_bytes layers (first_of layers) i → new ≡ old ++ video_to layers (i + 1)
into_more layers old into new i so_far more =
    let part : List ℕ = run_bytes layers (first_of layers) i in
    more ∙ (ap (λ l. l ++ part) so_far
    ∙ (append_assoc old (video_to layers i) part ∙ ap (λ l. old ++ l) (sym (video_more layers (first_of layers) i))))

-- where so many layers are counted
abbrev pub AreTaken : List ℕ → List ℕ → ℕ → ℕ → Type 0
AreTaken first taken n i = (layer : ℕ) → layer < n → get_or taken layer 0 ≡ taken_of first i layer

pub taken_past : (first taken : List ℕ) (n i : ℕ) → i < run_count first → n ≤ (named_run first i).layer
    → AreTaken first taken n i → AreTaken first taken n (i + 1)
taken_past first taken n i lt past so_far layer within =
    so_far layer within ∙ sym (taken_other first i layer lt (λ e. omega (arith, e)))

pub taken_set : (first taken : List ℕ) (n i at end : ℕ) → i < run_count first → at < length taken
    → at ≡ (named_run first i).layer → end ≡ start_of first i + (named_run first i).len
    → AreTaken first taken n i → AreTaken first (set taken at end) n (i + 1)
taken_set first taken n i at end lt inside is ends so_far layer within = elim (cases_eq layer at) [
  | inl here ↦
      ap (λ k. get_or (set taken at end) k 0) here
      ∙ (get_or-set_same taken at end 0 inside
      ∙ (ends ∙ (sym (taken_here first i lt) ∙ ap (taken_of first (i + 1)) (sym (here ∙ is)))))
  | inr other ↦
      get_or-set_other taken at layer end 0 other
      ∙ (so_far layer within ∙ sym (taken_other first i layer lt (λ e. other (sym (is ∙ e)))))
]

-- before the first run, only layer 0 is taken, as far as its run table goes
zeros : (n layer zero_is : ℕ) → zero_is ≡ 0 → get_or (replicate n zero_is) layer zero_is ≡ 0
zeros zero layer z e = e
zeros (suc n) zero z e = e
zeros (suc n) (suc layer) z e = zeros n layer z e

behind : (front n layer : ℕ) → 0 < layer → get_or (front ∷ replicate n 0) layer 0 ≡ 0
behind front n zero some = absurd (omega arith)
behind front n (suc layer) some = zeros n layer 0 refl

pub taken_first : (first : List ℕ) (front n many : ℕ) → front ≡ run_table_size (run_count first)
    → AreTaken first (front ∷ replicate n 0) many 0
taken_first first front n many is layer within = elim (cases_eq layer 0) [
  | inl here ↦
      (let size : cond (layer == 0) (run_table_size (run_count first)) 0
      ≡ run_table_size (run_count first) =
      cond-true (layer == 0) (run_table_size (run_count first)) 0 (eq-eqb layer 0 here) in
      let there : get_or (front ∷ replicate n 0) layer 0 ≡ front = ap (λ k. get_or (front ∷ replicate n 0) k 0) here in
      let e : front ≡ taken_of first 0 layer = omega arith in
      there ∙ e)
  | inr other ↦
      (let size : cond (layer == 0) (run_table_size (run_count first)) 0
      ≡ 0 = cond-false (layer == 0) (run_table_size (run_count first)) 0 (ne_eqb layer 0 other) in
      let e : ◌≡◌ {A = ℕ} 0 (taken_of first 0 layer) = omega arith in
      behind front n layer (omega arith) ∙ e)
]

-- the run of this number, which is of layer `at`: how far this is taken, how long the run is, and the bytes of the
-- layer
pub record IsRunOf (layers : List (List ℕ)) (i at from len : ℕ) (bytes : List ℕ) : Type 0 where
  pub inside : i < run_count (first_of layers)
  pub layer_is : at ≡ (named_run (first_of layers) i).layer
  pub from_is : from ≡ taken_of (first_of layers) i at
  pub len_is : len ≡ (named_run (first_of layers) i).len
  pub bytes_are : get_or layers at [] ≡ bytes

-- where it begins and ends in the layer, and its bytes
run_begin : (layers : List (List ℕ)) (i at from len : ℕ) (bytes : List ℕ) → IsRunOf layers i at from len bytes
    → from ≡ start_of (first_of layers) i
run_begin layers i at from len bytes run = run.from_is ∙ ap (taken_of (first_of layers) i) run.layer_is

pub run_end : (layers : List (List ℕ)) (i at from len : ℕ) (bytes : List ℕ) → IsRunOf layers i at from len bytes
    → from + len ≡ start_of (first_of layers) i + (named_run (first_of layers) i).len
run_end layers i at from len bytes run = omega (arith, run_begin layers i at from len bytes run, run.len_is)

pub run_inside : (layers : List (List ℕ)) (i at from len : ℕ) (bytes : List ℕ) → HaveRoom layers
    → IsRunOf layers i at from len bytes → at < length layers → from + len ≤ length bytes
run_inside layers i at from len bytes room run within =
    let first : List ℕ = first_of layers in
    let same : length bytes ≡ length (get_or layers (named_run first i).layer []) =
    ap length (sym run.bytes_are) ∙ ap (λ k. length (get_or layers k [])) run.layer_is in
    let fit = room i run.inside (subst (λ k. k < length layers) run.layer_is within) in
    omega (arith, run_end layers i at from len bytes run, same, fit)

pub run_is : (layers : List (List ℕ)) (i at from len : ℕ) (bytes : List ℕ) → IsRunOf layers i at from len bytes
    → take len (drop from bytes) ≡ run_bytes layers (first_of layers) i
run_is layers i at from len bytes run =
    let first : List ℕ = first_of layers in
    ap (λ b. take len (drop from b)) (sym run.bytes_are ∙ ap (λ k. get_or layers k []) run.layer_is)
    ∙ (ap (λ n. take n (drop from (get_or layers (named_run first i).layer []))) run.len_is
    ∙ ap (λ n. take (named_run first i).len (drop n (get_or layers (named_run first i).layer [])))
    (run_begin layers i at from len bytes run))
