-- What callers know of the bytes of a stream that are shown: where every layer of every group is shown they are the
-- stream. This
-- project's own.
use Rattle.std.proofs.Common.{◌≡◌, ℕ, zero, suc, ◌+◌, ◌-◌, ◌<◌, Bool, true, List, [], ◌∷◌, ◌++◌, length, map, take}
use Rattle.std.proofs.Common.{drop, get_or, All, refl, sym, ap, ◌∙◌, arith, inl, inr}
use Rattle.std.specs.Prelude.{nat_lt}
use Rattle.std.specs.List.{filter, flat_map, list_all, range_with_len, enumerate_from, prefix_len}
use Rattle.std.proofs.lemmas.Bool.{cases_Bool, cond-true, cond-false, and_parts, lt-ltb}
use Rattle.std.proofs.lemmas.List.{append-nil, append_assoc, take_all}
use Rattle.std.proofs.lemmas.List.Concat.{flat_map-append}
use Rattle.std.proofs.lemmas.List.Elements.{All-head, All-tail}
use Rattle.std.proofs.lemmas.List.FromFn.{length-range_with_len}
use Rattle.std.proofs.lemmas.List.Sums.{prefix_len_is}
use Rattle.mpeg_scan.specs.declared.piece.Piece.{Piece}
use Rattle.mpeg_scan.specs.Pieces.{pieces_of}
use Rattle.mpeg_scan.specs.laws.StandingLaws.{pieces_stand}
use Rattle.priority_file.specs.Priority.{Priorities, layer_of}
use Rattle.priority_file.specs.Refusals.{priorities_of}
use Rattle.priority_file.specs.laws.PriorityLaws.{layer_of-within}
use Rattle.layer_split.specs.declared.cut.Run.{Run}
use Rattle.layer_split.specs.Groups.{groups_of, groups_from, begins_group}
use Rattle.layer_split.specs.Layers.{Cut, cut_of, bytes_of_run}
use Rattle.layer_split.specs.Runs.{runs_of}
use Rattle.layer_split.specs.laws.CutLaws.{StandsIn}
use Rattle.layer_split.specs.laws.RunLaws.{runs_layers}
use Rattle.stream_groups.specs.Cutting.{bytes_of_pieces}
use Rattle.stream_groups.specs.laws.StandingLaws.{groups_stand, stand_bytes}
use Rattle.reassemble.specs.laws.RunsOnEnd.{runs_on_end, on_end_bytes}
use Rattle.packet_session.specs.Session.{SessionGroup}
use Rattle.packet_met.specs.Met.{Pair, shows, all_shown}
use Rattle.stream_session.specs.Accepted.{IsAcceptedSession, group_of, session_of}
use Rattle.stream_session.specs.laws.SessionLaws.{length-sizes_of}
use Rattle.stream_session.specs.laws.SessionOfLaws.{accepted_lawful, some_groups}
use Rattle.command_video.specs.StreamVideo.{leading_shown, cut_video, shown_video, stream_video}

-- where all pass, all are counted, and all stay
all_counted : (p : ℕ → Bool) (xs : List ℕ) → list_all p xs ≡ true → prefix_len p xs ≡ length xs
all_counted p xs all =
    prefix_len_is p xs (length xs) 0 (omega arith) (λ k below. each xs all k below)
    (λ beyond. absurd (omega (arith, beyond)))
  where
    each : (ys : List ℕ) → list_all p ys ≡ true → (k : ℕ) → k < length ys → p (get_or ys k 0) ≡ true
    each [] pass k below = absurd (omega (arith, below))
    each (y ∷ ys) pass zero below = (and_parts (p y) (list_all p ys) pass).0
    each (y ∷ ys) pass (suc k) below = each ys (and_parts (p y) (list_all p ys) pass).1 k (omega (arith, below))

all_pass : (p : Run → Bool) (runs : List Run) → All (λ r. p r ≡ true) runs → filter p runs ≡ runs
all_pass p [] each = refl
all_pass p (r ∷ runs) each =
    cond-true (p r) (r ∷ filter p runs) (filter p runs) (All-head (λ x. p x ≡ true) r runs each)
    ∙ ap (λ (l : List Run). r ∷ l) (all_pass p runs (All-tail (λ x. p x ≡ true) r runs each))

-- the bytes of the groups on end are those of the pieces
pieces_on_end : (stream : List ℕ) (current later : List Piece)
    → flat_map (bytes_of_pieces stream) (groups_from current later) ≡ bytes_of_pieces stream (current ++ later)
pieces_on_end stream current [] =
    append-nil (bytes_of_pieces stream current) ∙ ap (bytes_of_pieces stream) (sym (append-nil current))
pieces_on_end stream current (piece ∷ later) = elim (cases_Bool (begins_group current piece)) [
  | inl e ↦
      ap (flat_map (bytes_of_pieces stream)) (cond-true (begins_group current piece)
      (current ∷ groups_from (piece ∷ []) later) (groups_from (current ++ piece ∷ []) later) e)
      ∙ ap (λ (l : List ℕ). bytes_of_pieces stream current ++ l) (pieces_on_end stream (piece ∷ []) later)
      ∙ sym (flat_map-append (λ (x : Piece). take x.len (drop x.at stream)) current (piece ∷ later))
  | inr e ↦
      ap (flat_map (bytes_of_pieces stream)) (cond-false (begins_group current piece)
      (current ∷ groups_from (piece ∷ []) later) (groups_from (current ++ piece ∷ []) later) e)
      ∙ pieces_on_end stream (current ++ piece ∷ []) later
      ∙ ap (bytes_of_pieces stream) (append_assoc current (piece ∷ []) later)
]

module _ (priority stream : List ℕ) (pairs : List Pair) (accepted : IsAcceptedSession priority stream) where
  abbrev p : Priorities
  p = priorities_of priority

  abbrev n : ℕ
  n = length p.layers

  abbrev cut_in : List Piece → Cut
  cut_in group = cut_of (layer_of p) n group

  abbrev group_in : List Piece → SessionGroup
  group_in group = group_of p stream (cut_in group)

  abbrev is_whole : ℕ × SessionGroup → Bool
  is_whole e = list_all (λ layer. shows pairs e.0 e.1 layer) (range_with_len 0 (length e.1.layers))

  -- with all its layers, a group has the bytes of its pieces
  whole_group : (k : ℕ) (group : List Piece) → StandsIn (length stream) group → is_whole (k, group_in group) ≡ true
      → shown_video p stream pairs (k, cut_in group) ≡ bytes_of_pieces stream group
  whole_group k group stands all =
      let runs = runs_of (layer_of p) group in
      let g = group_in group in
      let many : leading_shown pairs k g ≡ n =
      all_counted (shows pairs k g) (range_with_len 0 (length g.layers)) all
      ∙ length-range_with_len 0 (length g.layers) ∙ length-sizes_of p group in
      let layers = runs_layers (layer_of p) n
      (layer_of-within p (accepted_lawful priority accepted.priority_read)) group in
      ap (λ (m : ℕ). cut_video stream m (cut_in group)) many
      ∙ ap (flat_map (bytes_of_run stream))
      (all_pass (λ (r : Run). nat_lt r.layer n) runs (λ i d lt. lt-ltb (get_or runs i d).layer n (layers i d lt)))
      ∙ on_end_bytes stream stands.from stands.to runs
      (runs_on_end (layer_of p) stands.from stands.to group stands.stand)
      ∙ sym (stand_bytes stream [] stands.from stands.to group stands.stand stands.within)
      ∙ ap (λ (l : List ℕ). bytes_of_pieces l group) (append-nil stream)

  whole_groups : (k : ℕ) (groups : List (List Piece)) → All (StandsIn (length stream)) groups
      → list_all is_whole (enumerate_from k (map (group_of p stream) (map cut_in groups))) ≡ true
      → flat_map (shown_video p stream pairs) (enumerate_from k (map cut_in groups))
      ≡ flat_map (bytes_of_pieces stream) groups
  whole_groups k [] stand all = refl
  whole_groups k (group ∷ groups) stand all =
      let parts = and_parts (is_whole (k, group_in group))
      (list_all is_whole (enumerate_from (k + 1) (map (group_of p stream) (map cut_in groups)))) all in
      ap (λ (l : List ℕ). l ++ flat_map (shown_video p stream pairs) (enumerate_from (k + 1) (map cut_in groups)))
      (whole_group k group (All-head (StandsIn (length stream)) group groups stand) parts.0)
      ∙ ap (λ (l : List ℕ). bytes_of_pieces stream group ++ l)
      (whole_groups (k + 1) groups (All-tail (StandsIn (length stream)) group groups stand) parts.1)

  all_pieces : (pieces : List Piece)
      → flat_map (bytes_of_pieces stream) (groups_of pieces) ≡ bytes_of_pieces stream pieces
  all_pieces [] = refl
  all_pieces (piece ∷ later) = pieces_on_end stream (piece ∷ []) later

  -- where every layer of every group is shown, the whole stream is
  pub whole_stream : all_shown (session_of priority stream) pairs ≡ true → stream_video priority stream pairs ≡ stream
  whole_stream all =
      whole_groups 0 (groups_of (pieces_of stream)) (groups_stand stream) all ∙ all_pieces (pieces_of stream)
      ∙ elim (pieces_stand stream) [
        | inl none ↦ absurd (omega (
          arith,
          some_groups stream accepted.stream_read,
          ap (λ (pieces : List Piece). length (groups_of pieces)) none,
        ))
        | inr stand ↦
            sym (ap (λ (l : List ℕ). bytes_of_pieces l (pieces_of stream)) (append-nil stream))
            ∙ stand_bytes stream [] 0 (length stream) (pieces_of stream) stand (omega arith)
            ∙ take_all (length stream - 0) stream (omega arith)
      ]
