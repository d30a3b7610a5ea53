-- What callers know of the sizes of groups: none is empty. This project's own.
use Rattle.std.proofs.Common.{◌≡◌, ℕ, suc, ◌+◌, ◌-◌, ◌<◌, ◌≤◌, List, [], ◌∷◌, ◌++◌, length, take, drop, map, min, sym}
use Rattle.std.proofs.Common.{◌∙◌, ap, subst, arith, inl, inr, length-take, length-drop, length-append, take_at, refl}
use Rattle.std.specs.Prelude.{All}
use Rattle.std.proofs.lemmas.Bool.{cond-true, cond-false, cases_Bool}
use Rattle.std.proofs.lemmas.List.{append-nil}
use Rattle.std.proofs.lemmas.List.Elements.{All-cons, All-nil, All-take}
use Rattle.mpeg_scan.specs.declared.piece.Piece.{Piece}
use Rattle.mpeg_scan.specs.Pieces.{pieces_of, StandOnEnd}
use Rattle.priority_file.specs.Priority.{Priorities}
use Rattle.layer_split.specs.Groups.{groups_of, groups_from, begins_group}
use Rattle.stream_groups.specs.CutGroups.{CutGroup}
use Rattle.stream_groups.specs.declared.groups.GroupCutter.{GroupCutter}
use Rattle.stream_groups.specs.Cutting.{HasCut, cut_group, cut_groups, bytes_of_pieces}
use Rattle.mpeg_scan.specs.laws.StandingLaws.{stand_le}
use Rattle.layer_split.specs.laws.CutLaws.{StandsIn}
use Rattle.stream_groups.specs.laws.StandingLaws.{stand_bytes, groups_stand}
use Rattle.stream_groups.specs.laws.CuttingLaws.{given_front}

-- the group has bytes
abbrev pub IsFilled : CutGroup → Type 0
IsFilled group = 0 < length group.bytes

-- the group has pieces
abbrev HasPieces : List Piece → Type 0
HasPieces group = 0 < length group

from_filled : (current later : List Piece) → 0 < length current → All HasPieces (groups_from current later)
from_filled current [] some = All-cons HasPieces current [] some (All-nil HasPieces)
from_filled current (p ∷ later) some = elim (cases_Bool (begins_group current p)) [
  | inl e ↦
      subst (All HasPieces) (sym (cond-true (begins_group current p) (current ∷ groups_from (p ∷ []) later)
      (groups_from (current ++ p ∷ []) later) e))
      (All-cons HasPieces current (groups_from (p ∷ []) later) some (from_filled (p ∷ []) later (omega arith)))
  | inr e ↦
      subst (All HasPieces) (sym (cond-false (begins_group current p) (current ∷ groups_from (p ∷ []) later)
      (groups_from (current ++ p ∷ []) later) e))
      (from_filled (current ++ p ∷ []) later (omega (arith, length-append current (p ∷ []))))
]

of_filled : (pieces : List Piece) → All HasPieces (groups_of pieces)
of_filled [] = All-nil HasPieces
of_filled (p ∷ later) = from_filled (p ∷ []) later (omega arith)

group_filled : (priority : Priorities) (s : List ℕ) (a b : ℕ) (group : List Piece) → StandOnEnd a group b
    → b ≤ length s → 0 < length group → IsFilled (cut_group priority s group)
group_filled priority s a b [] h le some = absurd (omega arith)
group_filled priority s a b (p ∷ ps) h le some =
    let far = stand_le (a + p.len) b ps h.2 in
    let one = h.1 in
    let bytes : bytes_of_pieces s (p ∷ ps) ≡ take (b - a) (drop a s) =
    ap (λ w. bytes_of_pieces w (p ∷ ps)) (sym (append-nil s)) ∙ stand_bytes s [] a b (p ∷ ps) h le in
    let size : length (bytes_of_pieces s (p ∷ ps)) ≡ min (b - a) (length s - a) =
    ap length bytes ∙ (length-take (b - a) (drop a s) ∙ ap (min (b - a)) (length-drop a s)) in
    omega arith

each_filled : (priority : Priorities) (s : List ℕ) (groups : List (List Piece)) → All (StandsIn (length s)) groups
    → All HasPieces groups → All IsFilled (map (cut_group priority s) groups)
each_filled priority s [] stand some = All-nil IsFilled
each_filled priority s (g ∷ gs) stand some =
    let here = stand 0 g (omega arith) in
    All-cons IsFilled (cut_group priority s g) (map (cut_group priority s) gs)
    (group_filled priority s here.from here.to g here.stand here.within (some 0 g (omega arith)))
    (each_filled priority s gs (λ k d lt. stand (suc k) d (omega arith)) (λ k d lt. some (suc k) d (omega arith)))

-- all groups of a stream, and those that a cutter has given
pub groups_filled : (priority : Priorities) (s : List ℕ) → All IsFilled (cut_groups priority s)
groups_filled priority s = each_filled priority s (groups_of (pieces_of s)) (groups_stand s) (of_filled (pieces_of s))

pub given_filled : (cutter : GroupCutter) (priority : Priorities) (stream : List ℕ) (given : List CutGroup)
    → HasCut cutter priority stream given → All IsFilled given
given_filled cutter priority stream given h =
    let first = given_front cutter priority stream given h [] in
    let all = subst (All IsFilled) first.1 (groups_filled priority (stream ++ [])) in
    subst (All IsFilled) (take_at given first.0 (length given) refl)
    (All-take IsFilled (length given) (given ++ first.0) all)
