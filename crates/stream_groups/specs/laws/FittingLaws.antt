-- What callers know of each group that a cutter gives: its runs lie in its bytes, and its layers have the lengths that
-- the
-- runs give, as its message needs. This project's own.
use Rattle.std.proofs.Common.{◌≡◌, ℕ, suc, ◌+◌, ◌-◌, ◌≤◌, List, [], ◌∷◌, ◌++◌, length, take, drop, map, min, refl, sym}
use Rattle.std.proofs.Common.{◌∙◌, ap, subst, arith, inl, inr, length-take, length-drop, take_at}
use Rattle.std.specs.Prelude.{◌==◌, All, if◌then◌else◌}
use Rattle.std.specs.List.{sum_by, range_with_len}
use Rattle.std.proofs.lemmas.Bool.{cond-true, cond-false, cases_Bool}
use Rattle.std.proofs.lemmas.List.{append-nil, length-map}
use Rattle.std.proofs.lemmas.List.Elements.{All-cons, All-nil, All-take}
use Rattle.std.proofs.lemmas.List.FromFn.{length-map-range_with_len}
use Rattle.std.proofs.lemmas.List.Sums.{sum_by-cons}
use Rattle.mpeg_scan.specs.declared.piece.Piece.{Piece}
use Rattle.mpeg_scan.specs.Pieces.{pieces_of, StandOnEnd}
use Rattle.priority_file.specs.Priority.{Priorities, layer_of}
use Rattle.layer_split.specs.declared.cut.Run.{Run}
use Rattle.layer_split.specs.Groups.{groups_of}
use Rattle.layer_split.specs.Runs.{runs_of}
use Rattle.layer_split.specs.Layers.{runs_in, layer_length, lengths_of, run_table_size}
use Rattle.layer_split.specs.Splitting.{rebased}
use Rattle.stream_groups.specs.CutGroups.{CutGroup}
use Rattle.stream_groups.specs.declared.groups.GroupCutter.{GroupCutter}
use Rattle.stream_groups.specs.Cutting.{HasCut, cut_group, cut_groups, bytes_of_pieces}
use Rattle.mpeg_scan.specs.laws.StandingLaws.{stand_le}
use Rattle.layer_split.specs.laws.CutLaws.{LiesIn, StandsIn, runs_lie}
use Rattle.stream_groups.specs.laws.StandingLaws.{stand_bytes, groups_stand}
use Rattle.stream_groups.specs.laws.CuttingLaws.{given_front}

-- the group is one of so many layers
pub record IsWhole (layers : ℕ) (group : CutGroup) : Type 0 where
  pub inside : All (λ run. run.at + run.len ≤ length group.bytes) group.cut.runs
  pub lengths : group.cut.lengths ≡ lengths_of group.cut.runs (length group.cut.lengths)
  pub count : length group.cut.lengths ≡ layers

sums_stay : (a layer : ℕ) (runs : List Run)
    → sum_by (λ (r : Run). r.len) (runs_in layer (map (rebased a) runs))
    ≡ sum_by (λ (r : Run). r.len) (runs_in layer runs)
sums_stay a layer [] = refl
sums_stay a layer (r ∷ rs) =
    let new : List Run = runs_in layer (map (rebased a) rs) in
    let old : List Run = runs_in layer rs in
    elim (cases_Bool (r.layer == layer)) [
      | inl e ↦
          ap (sum_by (λ (q : Run). q.len)) (cond-true (r.layer == layer) (rebased a r ∷ new) new e)
          ∙ (sum_by-cons (λ (q : Run). q.len) (rebased a r) new
          ∙ (ap (λ n. r.len + n) (sums_stay a layer rs)
          ∙ (sym (sum_by-cons (λ (q : Run). q.len) r old)
          ∙ sym (ap (sum_by (λ (q : Run). q.len)) (cond-true (r.layer == layer) (r ∷ old) old e)))))
      | inr e ↦
          ap (sum_by (λ (q : Run). q.len)) (cond-false (r.layer == layer) (rebased a r ∷ new) new e)
          ∙ (sums_stay a layer rs
          ∙ sym (ap (sum_by (λ (q : Run). q.len)) (cond-false (r.layer == layer) (r ∷ old) old e)))
    ]

length_stays : (a layer : ℕ) (runs : List Run) → layer_length (map (rebased a) runs) layer ≡ layer_length runs layer
length_stays a layer runs =
    ap (λ n. (if layer == 0 then run_table_size n else 0)
    + sum_by (λ (r : Run). r.len) (runs_in layer (map (rebased a) runs))) (length-map runs (rebased a))
    ∙ ap (λ n. (if layer == 0 then run_table_size (length runs) else 0) + n) (sums_stay a layer runs)

lengths_same : (f g : ℕ → ℕ) → ((k : ℕ) → f k ≡ g k) → (xs : List ℕ) → map f xs ≡ map g xs
lengths_same f g e [] = refl
lengths_same f g e (x ∷ xs) = ap (λ n. n ∷ map f xs) (e x) ∙ ap (λ l. g x ∷ l) (lengths_same f g e xs)

runs_inside : (a b size : ℕ) (runs : List Run) → All (LiesIn a b) runs → b - a ≡ size
    → All (λ run. run.at + run.len ≤ size) (map (rebased a) runs)
runs_inside a b size [] lie e = All-nil (λ (run : Run). run.at + run.len ≤ size)
runs_inside a b size (r ∷ rs) lie e =
    let here = lie 0 r (omega arith) in
    let from = here.0 in
    let to = here.1 in
    All-cons (λ (run : Run). run.at + run.len ≤ size) (rebased a r) (map (rebased a) rs) (omega arith)
    (runs_inside a b size rs (λ k d lt. lie (suc k) d (omega arith)) e)

group_whole : (priority : Priorities) (s : List ℕ) (a b : ℕ) (group : List Piece) → StandOnEnd a group b → b ≤ length s
    → IsWhole (length priority.layers) (cut_group priority s group)
group_whole priority s a b [] h le =
    let count : length (lengths_of [] (length priority.layers)) ≡ length priority.layers =
    length-map-range_with_len (layer_length []) 0 (length priority.layers) in
    record {
      inside = All-nil (λ (run : Run). run.at + run.len ≤ 0);
      lengths = ap (lengths_of []) (sym count);
      count = count;
    }
group_whole priority s a b (p ∷ ps) h le =
    let runs : List Run = runs_of (layer_of priority) (p ∷ ps) in
    let n : ℕ = length priority.layers in
    let at : p.at ≡ a = h.0 in
    let order = stand_le a b (p ∷ ps) h in
    let bytes : bytes_of_pieces s (p ∷ ps) ≡ take (b - a) (drop a s) =
    ap (λ w. bytes_of_pieces w (p ∷ ps)) (sym (append-nil s)) ∙ stand_bytes s [] a b (p ∷ ps) h le in
    let size : b - a ≡ length (bytes_of_pieces s (p ∷ ps)) =
    sym (ap length bytes
    ∙ (length-take (b - a) (drop a s)
    ∙ (ap (min (b - a)) (length-drop a s) ∙ (let e : min (b - a) (length s - a) ≡ b - a = omega arith in e)))) in
    let count : length (lengths_of runs n) ≡ n = length-map-range_with_len (layer_length runs) 0 n in
    record {
      inside =
          subst (λ k. All (λ (run : Run). run.at + run.len ≤ length (bytes_of_pieces s (p ∷ ps)))
          (map (rebased k) runs)) (sym at)
          (runs_inside a b (length (bytes_of_pieces s (p ∷ ps))) runs
          (runs_lie (layer_of priority) a b (p ∷ ps) h) size);
      lengths =
          lengths_same (layer_length runs) (layer_length (map (rebased p.at) runs))
          (λ k. sym (length_stays p.at k runs)) (range_with_len 0 n)
          ∙ ap (lengths_of (map (rebased p.at) runs)) (sym count);
      count = count;
    }

each_whole : (priority : Priorities) (s : List ℕ) (groups : List (List Piece)) → All (StandsIn (length s)) groups
    → All (IsWhole (length priority.layers)) (map (cut_group priority s) groups)
each_whole priority s [] stand = All-nil (IsWhole (length priority.layers))
each_whole priority s (g ∷ gs) stand =
    let here = stand 0 g (omega arith) in
    All-cons (IsWhole (length priority.layers)) (cut_group priority s g) (map (cut_group priority s) gs)
    (group_whole priority s here.from here.to g here.stand here.within)
    (each_whole priority s gs (λ k d lt. stand (suc k) d (omega arith)))

-- all groups of a stream, and those that a cutter has given
pub groups_whole : (priority : Priorities) (s : List ℕ) → All (IsWhole (length priority.layers)) (cut_groups priority s)
groups_whole priority s = each_whole priority s (groups_of (pieces_of s)) (groups_stand s)

pub given_whole : (cutter : GroupCutter) (priority : Priorities) (stream : List ℕ) (given : List CutGroup)
    → HasCut cutter priority stream given → All (IsWhole (length priority.layers)) given
given_whole cutter priority stream given h =
    let first = given_front cutter priority stream given h [] in
    let all = subst (All (IsWhole (length priority.layers))) first.1 (groups_whole priority (stream ++ [])) in
    subst (All (IsWhole (length priority.layers))) (take_at given first.0 (length given) refl)
    (All-take (IsWhole (length priority.layers)) (length given) (given ++ first.0) all)
