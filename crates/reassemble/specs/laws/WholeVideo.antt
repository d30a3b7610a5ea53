-- What callers know of the video of a whole group: where its pieces stand on end in the stream, it is those bytes of
-- the stream. This
-- project's own.
use Rattle.std.proofs.Common.{◌≡◌, ℕ, suc, ◌-◌, ◌<◌, ◌≤◌, ◌^◌, Bool, true, not, List, [], ◌∷◌, length, map, take, drop}
use Rattle.std.proofs.Common.{get_or, refl, ap, ◌∙◌, arith}
use Rattle.std.specs.Prelude.{All, nat_lt}
use Rattle.std.specs.List.{filter, flat_map, range_with_len}
use Rattle.std.proofs.lemmas.Bool.{cond-true, lt-ltb, ne_eqb}
use Rattle.pet_base.specs.declared.kind.Kind.{Kind}
use Rattle.mpeg_scan.specs.declared.piece.Piece.{Piece}
use Rattle.mpeg_scan.specs.Pieces.{StandOnEnd}
use Rattle.layer_split.specs.declared.cut.Run.{Run}
use Rattle.layer_split.specs.Places.{placed_at, placed_behind}
use Rattle.layer_split.specs.Runs.{run_of, runs_of}
use Rattle.layer_split.specs.Layers.{bytes_of_run, layer_bytes}
use Rattle.layer_split.specs.RunTable.{alternates}
use Rattle.layer_split.specs.laws.RunLaws.{runs_layers}
use Rattle.reassemble.specs.Video.{group_video}
use Rattle.reassemble.specs.laws.TableRead.{named}
use Rattle.reassemble.specs.laws.TableFits.{CanBeNamed}
use Rattle.reassemble.specs.laws.VideoOfCut.{video_of_cut}
use Rattle.reassemble.specs.laws.RunsOnEnd.{runs_on_end, joined_apart, on_end_few, on_end_lie, on_end_bytes}

all_pass : {X : Type 0} (p : X → Bool) (xs : List X) → All (λ x. p x ≡ true) xs → filter p xs ≡ xs
all_pass p [] h = refl
all_pass p (x ∷ xs) h =
    cond-true (p x) (x ∷ filter p xs) (filter p xs) (h 0 x (omega arith))
    ∙ ap (λ l. x ∷ l) (all_pass p xs (λ k d lt. h (suc k) d (omega arith)))

group_apart : (lo : Kind → ℕ → ℕ) (n : ℕ) (group : List Piece) → n ≤ 256
    → ((kind : Kind) (place : ℕ) → lo kind place < n) → alternates (map named (runs_of lo group)) ≡ true
group_apart lo n [] few within = refl
group_apart lo n (p ∷ ps) few within =
    let first : Run = run_of lo (placed_at [] p) in
    let low : first.layer < n = within p.kind (placed_at [] p).place in
    joined_apart first (map (run_of lo) (placed_behind (p ∷ []) ps)) 256
    (ap not (ne_eqb first.layer 256 (λ e. omega (arith, e))))

-- the runs of a group's pieces can be named by a run table
pub group_named : (stream : List ℕ) (lo : Kind → ℕ → ℕ) (n from to : ℕ) (group : List Piece) → n ≤ 256
    → ((kind : Kind) (place : ℕ) → lo kind place < n)
    → StandOnEnd from group to → to ≤ length stream → to - from < 2 ^ 32 → CanBeNamed stream (runs_of lo group) n
group_named stream lo n from to group few within stand inside short =
    let runs : List Run = runs_of lo group in
    let on_end = runs_on_end lo from to group stand in
    let lie = on_end_lie from from to runs (omega arith) on_end in
    record {
      few = let many = on_end_few from to runs on_end in omega arith;
      short = λ k d lt. let l = lie k d lt in omega arith;
      layers = runs_layers lo n within group;
      some = λ k d lt. (lie k d lt).some;
      inside = λ k d lt. let l = lie k d lt in omega arith;
      apart = group_apart lo n group few within;
    }

-- with all its layers, the group's video is its bytes of the stream
pub whole_video : (stream : List ℕ) (lo : Kind → ℕ → ℕ) (n from to : ℕ) (group : List Piece) → 0 < n → n ≤ 256
    → ((kind : Kind) (place : ℕ) → lo kind place < n)
    → StandOnEnd from group to → to ≤ length stream → to - from < 2 ^ 32
    → group_video (map (layer_bytes stream (runs_of lo group)) (range_with_len 0 n))
    ≡ take (to - from) (drop from stream)
whole_video stream lo n from to group some few within stand inside short =
    let runs : List Run = runs_of lo group in
    video_of_cut stream runs n n (group_named stream lo n from to group few within stand inside short) some
    ∙ (ap (flat_map (bytes_of_run stream)) (all_pass (λ (r : Run). nat_lt r.layer n) runs
    (λ k d lt. lt-ltb (get_or runs k d).layer n (runs_layers lo n within group k d lt)))
    ∙ on_end_bytes stream from to runs (runs_on_end lo from to group stand))
