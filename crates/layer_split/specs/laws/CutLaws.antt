-- What callers know of the cuts of pieces that stand on end: each run lies inside the stream, and none before its
-- group's first piece.
use Rattle.std.proofs.Common.{◌≡◌, ℕ, ◌+◌, ◌≤◌, List, [], ◌∷◌, ◌++◌, map, refl, sym, subst, arith, inl, inr}
use Rattle.std.specs.Prelude.{◌==◌, All, length, get_or}
use Rattle.std.proofs.lemmas.Bool.{cond-true, cond-false, cases_Bool}
use Rattle.std.proofs.lemmas.List.Elements.{All-cons, All-nil, All-map}
use Rattle.pet_base.specs.declared.kind.Kind.{Kind}
use Rattle.mpeg_scan.specs.declared.piece.Piece.{Piece}
use Rattle.mpeg_scan.specs.Pieces.{StandOnEnd}
use Rattle.mpeg_scan.specs.laws.StandingLaws.{stand_le, stand_push}
use Rattle.priority_file.specs.Priority.{Priorities, layer_of}
use Rattle.layer_split.specs.declared.cut.Run.{Run}
use Rattle.layer_split.specs.Groups.{groups_of, groups_from, begins_group}
use Rattle.layer_split.specs.Places.{placed_at, placed_behind}
use Rattle.layer_split.specs.Runs.{run_of, runs_of, both, joined_from}
use Rattle.layer_split.specs.Layers.{Cut, cut_of}
use Rattle.layer_split.specs.Splitting.{cuts_of}

-- the cut is of bytes from one place to another, both within the stream
pub record LiesWithin (end : ℕ) (cut : Cut) : Type 0 where
  pub from : ℕ
  pub to : ℕ
  pub within : to ≤ end
  pub begins : All (λ run. from ≤ run.at) cut.runs
  pub ends : All (λ run. run.at + run.len ≤ to) cut.runs

-- a run lies between these bytes
abbrev pub LiesIn : ℕ → ℕ → Run → Type 0
LiesIn from to run = (from ≤ run.at) × (run.at + run.len ≤ to)

runs_from : (lo : Kind → ℕ → ℕ) (from to : ℕ) (run : Run) (before ps : List Piece) → from ≤ run.at
    → StandOnEnd (run.at + run.len) ps to
    → All (LiesIn from to) (joined_from run (map (run_of lo) (placed_behind before ps)))
runs_from lo from to run before [] le h =
    All-cons (LiesIn from to) run [] (le, omega (arith, h)) (All-nil (LiesIn from to))
runs_from lo from to run before (p ∷ ps) le h =
    let far = stand_le (run.at + run.len) to (p ∷ ps) h in
    let at : p.at ≡ run.at + run.len = h.0 in
    let next : Run = run_of lo (placed_at before p) in
    let rest : List Run = map (run_of lo) (placed_behind (before ++ p ∷ []) ps) in
    elim (cases_Bool (next.layer == run.layer)) [
      | inl e ↦
          subst (All (LiesIn from to))
          (sym (cond-true (next.layer == run.layer) (joined_from (both run next) rest) (run ∷ joined_from next rest) e))
          (runs_from lo from to (both run next) (before ++ p ∷ []) ps le
          (subst (λ n. StandOnEnd n ps to)
          (let k : (run.at + run.len) + p.len ≡ run.at + (run.len + p.len) = omega arith in k) h.2))
      | inr e ↦
          subst (All (LiesIn from to)) (sym
          (cond-false (next.layer == run.layer) (joined_from (both run next) rest) (run ∷ joined_from next rest) e))
          (All-cons (LiesIn from to) run (joined_from next rest) (le, far)
          (runs_from lo from to next (before ++ p ∷ []) ps (omega arith)
          (subst (λ n. StandOnEnd (n + p.len) ps to) (sym at) h.2)))
    ]

pub runs_lie : (lo : Kind → ℕ → ℕ) (from to : ℕ) (group : List Piece) → StandOnEnd from group to
    → All (LiesIn from to) (runs_of lo group)
runs_lie lo from to [] h = All-nil (LiesIn from to)
runs_lie lo from to (p ∷ ps) h =
    let at : p.at ≡ from = h.0 in
    runs_from lo from to (run_of lo (placed_at [] p)) (p ∷ []) ps (omega arith)
    (subst (λ n. StandOnEnd (n + p.len) ps to) (sym at) h.2)

-- a group's pieces stand on end from one byte to another, both within the stream
pub record StandsIn (end : ℕ) (group : List Piece) : Type 0 where
  pub from : ℕ
  pub to : ℕ
  pub stand : StandOnEnd from group to
  pub within : to ≤ end

from_stands : (a m end : ℕ) (current later : List Piece) → StandOnEnd a current m → StandOnEnd m later end
    → All (StandsIn end) (groups_from current later)
from_stands a m end current [] h k =
    All-cons (StandsIn end) current [] (record { from = a; to = m; stand = h; within = stand_le m end [] k })
    (All-nil (StandsIn end))
from_stands a m end current (p ∷ later) h k = elim (cases_Bool (begins_group current p)) [
  | inl e ↦
      subst (All (StandsIn end)) (sym (cond-true (begins_group current p) (current ∷ groups_from (p ∷ []) later)
      (groups_from (current ++ p ∷ []) later) e))
      (All-cons (StandsIn end) current (groups_from (p ∷ []) later)
      (record { from = a; to = m; stand = h; within = stand_le m end (p ∷ later) k })
      (from_stands m (m + p.len) end (p ∷ []) later (k.0, k.1, refl) k.2))
  | inr e ↦
      subst (All (StandsIn end)) (sym (cond-false (begins_group current p) (current ∷ groups_from (p ∷ []) later)
      (groups_from (current ++ p ∷ []) later) e))
      (from_stands a (m + p.len) end (current ++ p ∷ []) later (stand_push a m current p h k.0 k.1) k.2)
]

pub pieces_grouped : (from end : ℕ) (pieces : List Piece) → StandOnEnd from pieces end
    → All (StandsIn end) (groups_of pieces)
pieces_grouped from end [] h = All-nil (StandsIn end)
pieces_grouped from end (p ∷ later) h = from_stands from (from + p.len) end (p ∷ []) later (h.0, h.1, refl) h.2

cut_lies : (lo : Kind → ℕ → ℕ) (n end : ℕ) (group : List Piece) → StandsIn end group
    → LiesWithin end (cut_of lo n group)
cut_lies lo n end group s =
    let lie = runs_lie lo s.from s.to group s.stand in
    record {
      from = s.from;
      to = s.to;
      within = s.within;
      begins = λ k d lt. (lie k d lt).0;
      ends = λ k d lt. (lie k d lt).1;
    }

-- so those of all groups
pub cuts_lie : (priority : Priorities) (pieces : List Piece) (from end : ℕ) → StandOnEnd from pieces end
    → All (LiesWithin end) (cuts_of priority (groups_of pieces))
cuts_lie priority pieces from end h =
    let cut = cut_of (layer_of priority) (length priority.layers) in
    let stand = pieces_grouped from end pieces h in
    All-map (LiesWithin end) cut (groups_of pieces)
    (λ k group lt. cut_lies (layer_of priority) (length priority.layers) end (get_or (groups_of pieces) k group)
    (stand k group lt))
