-- The messages of a stream's session have the byte 0 past each odd end: so no packet that `send` writes is unlike those
-- that the layers of its group give.
use Rattle.std.proofs.Common.{◌≡◌, ℕ, zero, suc, ◌+◌, ◌<◌, ◌≤◌, List, [], ◌∷◌, ◌++◌, length, map, All, refl, sym, ap}
use Rattle.std.proofs.Common.{subst, ◌∙◌, arith}
use Rattle.std.specs.Prelude.{slice_index_or}
use Rattle.std.specs.List.{flat_map, range_with_len}
use Rattle.std.proofs.lemmas.List.Elements.{All-cons, All-head, All-nil, All-tail}
use Rattle.mpeg_scan.specs.declared.piece.Piece.{Piece}
use Rattle.mpeg_scan.specs.Pieces.{pieces_of}
use Rattle.priority_file.specs.Priority.{Rule, Priorities, layer_of}
use Rattle.priority_file.specs.Refusals.{priorities_of}
use Rattle.layer_split.specs.declared.cut.Run.{Run}
use Rattle.layer_split.specs.Groups.{groups_of}
use Rattle.layer_split.specs.Layers.{cut_of, layer_bytes, layer_length, message}
use Rattle.layer_split.specs.Runs.{runs_of}
use Rattle.layer_split.specs.Splitting.{cuts_of}
use Rattle.layer_split.specs.laws.CutLaws.{StandsIn, runs_lie}
use Rattle.layer_split.proofs.Beginning.{layer_size}
use Rattle.stream_groups.specs.laws.StandingLaws.{groups_stand}
use Rattle.stream_session.specs.Accepted.{group_of, session_of}
use Rattle.stream_session.specs.Tables.{sizes_of, sizes_with}
use Rattle.stripe_plan.specs.declared.layer.LayerSize.{LayerSize}
use Rattle.packet_group.specs.laws.Needs.{bytes_all}
use Rattle.packet_session.specs.Session.{SessionGroup, length_of_layer}
use Rattle.packet_rebuild.specs.Message.{padded, message_of, HasZeroEnds, HaveZeroEnds}
use Rattle.packet_rebuild.specs.laws.MessageLaws.{zero_ends}

module _ (s : List ℕ) (runs : List Run) (inside : All (λ (r : Run). r.at + r.len ≤ length s) runs) where
  -- the layers from one on, and their sizes
  layers_from : ℕ → ℕ → List (List ℕ)
  layers_from a n = map (layer_bytes s runs) (range_with_len a n)

  sizes_from : ℕ → List Rule → List LayerSize
  sizes_from a rules = sizes_with (map (layer_length runs) (range_with_len a (length rules))) rules

  as_many : (rules : List Rule) (a : ℕ) → length (layers_from a (length rules)) ≡ length (sizes_from a rules)
  unfolding layers_from sizes_from
  as_many [] a = refl
  as_many (rule ∷ rules) a = ap suc (as_many rules (a + 1))

  as_long : (rules : List Rule) (a i : ℕ) → i < length (layers_from a (length rules))
      → length (slice_index_or (layers_from a (length rules)) i []) ≡ length_of_layer 2 (sizes_from a rules) i
  unfolding layers_from sizes_from
  as_long [] a i lt = absurd (omega (arith, lt))
  as_long (rule ∷ rules) a zero lt =
      layer_size s runs a inside
      ∙ sym (bytes_all 2 (record { length = layer_length runs a; need = rule.need }) (omega arith))
  as_long (rule ∷ rules) a (suc i) lt = as_long rules (a + 1) i (omega (arith, lt))

  -- the message by its layers
  by_layers : (ks : List ℕ)
      → flat_map (λ layer. padded (layer_bytes s runs layer)) ks ≡ message_of (map (layer_bytes s runs) ks)
  by_layers [] = refl
  by_layers (k ∷ ks) = ap (λ (t : List ℕ). padded (layer_bytes s runs k) ++ t) (by_layers ks)

  zeros_in : (rules : List Rule) → HasZeroEnds (sizes_from 0 rules) (message s runs (length rules))
  unfolding layers_from sizes_from
  zeros_in rules =
      subst (HasZeroEnds (sizes_from 0 rules)) (sym (by_layers (range_with_len 0 (length rules))))
      (zero_ends (sizes_from 0 rules) (layers_from 0 (length rules)) (as_many rules 0) (as_long rules 0))

-- a group that stands in a stream
group_zeros : (priority : Priorities) (s : List ℕ) (group : List Piece) → StandsIn (length s) group
    → HasZeroEnds (sizes_of priority (cut_of (layer_of priority) (length priority.layers) group))
    (message s (runs_of (layer_of priority) group) (length priority.layers))
unfolding sizes_from
group_zeros priority s group stands =
    let lie = runs_lie (layer_of priority) stands.from stands.to group stands.stand in
    let within = stands.within in
    zeros_in s (runs_of (layer_of priority) group) (λ k d lt. (let here = lie k d lt in let to = here.1 in omega arith))
    priority.layers

groups_zeros : (priority : Priorities) (s : List ℕ) (groups : List (List Piece)) → All (StandsIn (length s)) groups
    → All (λ (g : SessionGroup). HasZeroEnds g.layers g.message) (map (group_of priority s) (cuts_of priority groups))
groups_zeros priority s [] stand = All-nil (λ (g : SessionGroup). HasZeroEnds g.layers g.message)
groups_zeros priority s (group ∷ groups) stand =
    All-cons (λ (g : SessionGroup). HasZeroEnds g.layers g.message)
    (group_of priority s (cut_of (layer_of priority) (length priority.layers) group))
    (map (group_of priority s) (cuts_of priority groups))
    (group_zeros priority s group (All-head (StandsIn (length s)) group groups stand))
    (groups_zeros priority s groups (All-tail (StandsIn (length s)) group groups stand))

-- so it is of every priority file and every stream
pub stream_zeros : (priority stream : List ℕ) → HaveZeroEnds (session_of priority stream)
stream_zeros priority stream =
    groups_zeros (priorities_of priority) stream (groups_of (pieces_of stream)) (groups_stand stream)
