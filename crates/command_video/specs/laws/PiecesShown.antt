-- What callers know of the bytes of a stream that are shown: they are those of its pieces in the layers that lead, in
-- their order. This
-- project's own.
use Rattle.std.proofs.Common.{◌≡◌, ℕ, ◌+◌, Bool, true, false, cond, List, [], ◌∷◌, ◌++◌, length, map, take, drop, All}
use Rattle.std.proofs.Common.{refl, sym, ap, subst, ◌∙◌, arith, inl, inr, take-add, drop-drop}
use Rattle.std.specs.Prelude.{◌==◌, nat_lt}
use Rattle.std.specs.List.{filter, flat_map, enumerate_from}
use Rattle.std.proofs.lemmas.Bool.{cases_Bool, cond-true, cond-false, eqb-true}
use Rattle.std.proofs.lemmas.List.{append_assoc}
use Rattle.std.proofs.lemmas.List.Elements.{All-head, All-tail}
use Rattle.pet_base.specs.declared.kind.Kind.{Kind}
use Rattle.mpeg_scan.specs.declared.piece.Piece.{Piece}
use Rattle.mpeg_scan.specs.Pieces.{StandOnEnd, pieces_of}
use Rattle.priority_file.specs.Priority.{Priorities, layer_of}
use Rattle.priority_file.specs.Refusals.{priorities_of}
use Rattle.layer_split.specs.declared.cut.Run.{Run}
use Rattle.layer_split.specs.Groups.{groups_of}
use Rattle.layer_split.specs.Layers.{Cut, cut_of, bytes_of_run}
use Rattle.layer_split.specs.Places.{placed, placed_at, placed_behind}
use Rattle.layer_split.specs.Runs.{run_of, both, joined_from}
use Rattle.layer_split.specs.laws.CutLaws.{StandsIn}
use Rattle.stream_groups.specs.laws.StandingLaws.{groups_stand}
use Rattle.reassemble.specs.laws.RunsOnEnd.{AreOnEnd}
use Rattle.packet_met.specs.Met.{Pair}
use Rattle.stream_session.specs.Accepted.{group_of}
use Rattle.command_video.specs.StreamVideo.{leading_shown, cut_video, shown_video, pieces_video, shown_pieces}
use Rattle.command_video.specs.StreamVideo.{stream_video, stream_pieces}

-- the first of some elements has its bytes where it passes
with_first : {X : Type 0} (f : X → List ℕ) (t : X → Bool) (x : X) (xs : List X)
    → flat_map f (filter t (x ∷ xs)) ≡ cond (t x) (f x) [] ++ flat_map f (filter t xs)
with_first f t x xs = elim (cases_Bool (t x)) [
  | inl e ↦
      ap (flat_map f) (cond-true (t x) (x ∷ filter t xs) (filter t xs) e)
      ∙ ap (λ (l : List ℕ). l ++ flat_map f (filter t xs)) (sym (cond-true (t x) (f x) [] e))
  | inr e ↦
      ap (flat_map f) (cond-false (t x) (x ∷ filter t xs) (filter t xs) e)
      ∙ ap (λ (l : List ℕ). l ++ flat_map f (filter t xs)) (sym (cond-false (t x) (f x) [] e))
]

mapped : {X Y : Type 0} (f : Y → List ℕ) (t : Y → Bool) (h : X → Y) (xs : List X)
    → flat_map f (filter t (map h xs)) ≡ flat_map (λ x. f (h x)) (filter (λ x. t (h x)) xs)
mapped f t h [] = refl
mapped f t h (x ∷ xs) =
    with_first f t (h x) (map h xs) ∙ ap (λ (l : List ℕ). cond (t (h x)) (f (h x)) [] ++ l) (mapped f t h xs)
    ∙ sym (with_first (λ y. f (h y)) (λ y. t (h y)) x xs)

-- the rows of pieces that stand on end
rows_on_end : (lo : Kind → ℕ → ℕ) (from to : ℕ) (before ps : List Piece) → StandOnEnd from ps to
    → AreOnEnd from (map (run_of lo) (placed_behind before ps)) to
rows_on_end lo from to before [] h = h
rows_on_end lo from to before (p ∷ ps) h = (h.0, h.1, rows_on_end lo (from + p.len) to (before ++ p ∷ []) ps h.2)

module _ (stream : List ℕ) (many : ℕ) where
  abbrev shown_bytes : List Run → List ℕ
  shown_bytes runs = flat_map (bytes_of_run stream) (filter (λ (r : Run). nat_lt r.layer many) runs)

  abbrev part : Run → List ℕ
  part r = cond (nat_lt r.layer many) (bytes_of_run stream r) []

  first_part : (r : Run) (runs : List Run) → shown_bytes (r ∷ runs) ≡ part r ++ shown_bytes runs
  first_part r runs = with_first (bytes_of_run stream) (λ (x : Run). nat_lt x.layer many) r runs

  -- two rows on end as one
  two_parts : (b : Bool) (run next : Run) (rest : List ℕ) → next.at ≡ run.at + run.len
      → cond b (bytes_of_run stream (both run next)) [] ++ rest
      ≡ cond b (bytes_of_run stream run) [] ++ (cond b (bytes_of_run stream next) [] ++ rest)
  two_parts true run next rest at =
      let whole : bytes_of_run stream (both run next) ≡ bytes_of_run stream run ++ bytes_of_run stream next =
      take-add run.len next.len (drop run.at stream)
      ∙ ap (λ (l : List ℕ). take run.len (drop run.at stream) ++ take next.len l)
      (drop-drop run.len run.at stream ∙ ap (λ (n : ℕ). drop n stream) (sym at)) in
      ap (λ (l : List ℕ). l ++ rest) whole ∙ append_assoc (bytes_of_run stream run) (bytes_of_run stream next) rest
  two_parts false run next rest at = refl

  joined_same : (to : ℕ) (run : Run) (rows : List Run) → AreOnEnd (run.at + run.len) rows to
      → shown_bytes (joined_from run rows) ≡ shown_bytes (run ∷ rows)
  joined_same to run [] h = refl
  joined_same to run (next ∷ later) h = elim (cases_Bool (next.layer == run.layer)) [
    | inl e ↦
        (let layers : next.layer ≡ run.layer = eqb-true next.layer run.layer e in
        let behind : (run.at + run.len) + next.len ≡ run.at + (run.len + next.len) = omega arith in
        ap shown_bytes
        (cond-true (next.layer == run.layer) (joined_from (both run next) later) (run ∷ joined_from next later) e)
        ∙ joined_same to (both run next) later (subst (λ (n : ℕ). AreOnEnd n later to) behind h.2)
        ∙ first_part (both run next) later
        ∙ two_parts (nat_lt run.layer many) run next (shown_bytes later) h.0
        ∙ ap (λ (n : ℕ). part run ++ (cond (nat_lt n many) (bytes_of_run stream next) [] ++ shown_bytes later))
        (sym layers)
        ∙ ap (λ (l : List ℕ). part run ++ l) (sym (first_part next later))
        ∙ sym (first_part run (next ∷ later)))
    | inr e ↦
        ap shown_bytes
        (cond-false (next.layer == run.layer) (joined_from (both run next) later) (run ∷ joined_from next later) e)
        ∙ first_part run (joined_from next later)
        ∙ ap (λ (l : List ℕ). part run ++ l)
        (joined_same to next later (subst (λ (n : ℕ). AreOnEnd (n + next.len) later to) (sym h.0) h.2))
        ∙ sym (first_part run (next ∷ later))
  ]

  -- the runs of a group and its pieces
  group_by_pieces : (lo : Kind → ℕ → ℕ) (n from to : ℕ) (group : List Piece) → StandOnEnd from group to
      → cut_video stream many (cut_of lo n group) ≡ pieces_video lo stream many group
  group_by_pieces lo n from to [] h = refl
  group_by_pieces lo n from to (p ∷ ps) h =
      let rows = rows_on_end lo from to [] (p ∷ ps) h in
      joined_same to (run_of lo (placed_at [] p)) (map (run_of lo) (placed_behind (p ∷ []) ps))
      (subst (λ (k : ℕ). AreOnEnd (k + p.len) (map (run_of lo) (placed_behind (p ∷ []) ps)) to) (sym rows.0) rows.2)
      ∙ mapped (bytes_of_run stream) (λ (r : Run). nat_lt r.layer many) (run_of lo) (placed (p ∷ ps))

module _ (priority stream : List ℕ) (pairs : List Pair) where
  abbrev p : Priorities
  p = priorities_of priority

  abbrev cut_in : List Piece → Cut
  cut_in group = cut_of (layer_of p) (length p.layers) group

  groups_by_pieces : (k : ℕ) (groups : List (List Piece)) → All (StandsIn (length stream)) groups
      → flat_map (shown_video p stream pairs) (enumerate_from k (map cut_in groups))
      ≡ flat_map (shown_pieces p stream pairs) (enumerate_from k groups)
  groups_by_pieces k [] stand = refl
  groups_by_pieces k (group ∷ groups) stand =
      let stands = All-head (StandsIn (length stream)) group groups stand in
      ap (λ (l : List ℕ). l ++ flat_map (shown_video p stream pairs) (enumerate_from (k + 1) (map cut_in groups)))
      (group_by_pieces stream (leading_shown pairs k (group_of p stream (cut_in group))) (layer_of p)
      (length p.layers) stands.from stands.to group stands.stand)
      ∙ ap (λ (l : List ℕ). shown_pieces p stream pairs (k, group) ++ l)
      (groups_by_pieces (k + 1) groups (All-tail (StandsIn (length stream)) group groups stand))

  -- by runs or by pieces, the bytes are the same
  pub by_pieces : stream_video priority stream pairs ≡ stream_pieces priority stream pairs
  by_pieces = groups_by_pieces 0 (groups_of (pieces_of stream)) (groups_stand stream)
