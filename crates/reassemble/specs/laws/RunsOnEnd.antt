-- What callers know of the runs of pieces that stand on end: they stand on end too, and no two adjacent ones are of one
-- layer. This
-- project's own.
use Rattle.std.proofs.Common.{◌≡◌, ℕ, ◌+◌, ◌-◌, ◌<◌, ◌≤◌, true, not, List, [], ◌∷◌, ◌++◌, length, map, take, drop, refl}
use Rattle.std.proofs.Common.{sym, ap, subst, ◌∙◌, arith, inl, inr}
use Rattle.std.specs.Prelude.{All, ◌==◌}
use Rattle.std.specs.List.{flat_map}
use Rattle.std.proofs.lemmas.Bool.{cond-true, cond-false, cases_Bool, and_from}
use Rattle.std.proofs.lemmas.List.{take-append-drop, take-take, drop-take, drop-drop}
use Rattle.std.proofs.lemmas.List.Elements.{All-cons, All-nil}
use Rattle.pet_base.specs.declared.kind.Kind.{Kind}
use Rattle.mpeg_scan.specs.declared.piece.Piece.{Piece}
use Rattle.mpeg_scan.specs.Pieces.{StandOnEnd}
use Rattle.layer_split.specs.declared.cut.Run.{Run}
use Rattle.layer_split.specs.Places.{placed_at, placed_behind}
use Rattle.layer_split.specs.Runs.{run_of, runs_of, both, joined_from}
use Rattle.layer_split.specs.Layers.{bytes_of_run}
use Rattle.layer_split.specs.RunTable.{alternates_behind}
use Rattle.reassemble.specs.laws.TableRead.{named}

-- the runs stand on end from one byte of the stream to another, and none is empty
abbrev pub AreOnEnd : ℕ → List Run → ℕ → Type 0
AreOnEnd from [] to = from ≡ to
AreOnEnd from (run ∷ later) to = (run.at ≡ from) × (0 < run.len) × AreOnEnd (from + run.len) later to

joined_on_end : (lo : Kind → ℕ → ℕ) (from to : ℕ) (run : Run) (before ps : List Piece) → run.at ≡ from → 0 < run.len
    → StandOnEnd (from + run.len) ps to → AreOnEnd from (joined_from run (map (run_of lo) (placed_behind before ps))) to
joined_on_end lo from to run before [] at some h = (at, some, h)
joined_on_end lo from to run before (p ∷ ps) at some h =
    let next : Run = run_of lo (placed_at before p) in
    let rest : List Run = map (run_of lo) (placed_behind (before ++ p ∷ []) ps) in
    elim (cases_Bool (next.layer == run.layer)) [
      | inl e ↦
          subst (λ l. AreOnEnd from l to)
          (sym (cond-true (next.layer == run.layer) (joined_from (both run next) rest) (run ∷ joined_from next rest) e))
          (joined_on_end lo from to (both run next) (before ++ p ∷ []) ps at (omega arith)
          (subst (λ n. StandOnEnd n ps to)
          (let k : (from + run.len) + p.len ≡ from + (run.len + p.len) = omega arith in k) h.2))
      | inr e ↦
          subst (λ l. AreOnEnd from l to) (sym
          (cond-false (next.layer == run.layer) (joined_from (both run next) rest) (run ∷ joined_from next rest) e))
          (at, some, joined_on_end lo (from + run.len) to next (before ++ p ∷ []) ps h.0 h.1 h.2)
    ]

pub runs_on_end : (lo : Kind → ℕ → ℕ) (from to : ℕ) (group : List Piece) → StandOnEnd from group to
    → AreOnEnd from (runs_of lo group) to
runs_on_end lo from to [] h = h
runs_on_end lo from to (p ∷ ps) h = joined_on_end lo from to (run_of lo (placed_at [] p)) (p ∷ []) ps h.0 h.1 h.2

-- no two adjacent runs are of one layer
pub joined_apart : (run : Run) (rows : List Run) (last : ℕ) → not (run.layer == last) ≡ true
    → alternates_behind last (map named (joined_from run rows)) ≡ true
joined_apart run [] last other = and_from (not (run.layer == last)) true other refl
joined_apart run (next ∷ rows) last other = elim (cases_Bool (next.layer == run.layer)) [
  | inl e ↦
      ap (λ l. alternates_behind last (map named l))
      (cond-true (next.layer == run.layer) (joined_from (both run next) rows) (run ∷ joined_from next rows) e)
      ∙ joined_apart (both run next) rows last other
  | inr e ↦
      ap (λ l. alternates_behind last (map named l))
      (cond-false (next.layer == run.layer) (joined_from (both run next) rows) (run ∷ joined_from next rows) e)
      ∙ and_from (not (run.layer == last)) (alternates_behind run.layer (map named (joined_from next rows))) other
      (joined_apart next rows run.layer (ap not e))
]

-- they have no more runs than bytes, and each lies between the two bytes
pub on_end_few : (from to : ℕ) (runs : List Run) → AreOnEnd from runs to → from + length runs ≤ to
on_end_few from to [] h = omega (arith, h)
on_end_few from to (r ∷ runs) h = let later = on_end_few (from + r.len) to runs h.2 in let some = h.1 in omega arith

-- a run lies between these bytes, and is not empty
pub record LiesIn (from to : ℕ) (run : Run) : Type 0 where
  pub begins : from ≤ run.at
  pub ends : run.at + run.len ≤ to
  pub some : 0 < run.len

pub on_end_lie : (from least to : ℕ) (runs : List Run) → least ≤ from → AreOnEnd from runs to
    → All (LiesIn least to) runs
on_end_lie from least to [] le h = All-nil (LiesIn least to)
on_end_lie from least to (r ∷ runs) le h =
    let far = on_end_few (from + r.len) to runs h.2 in
    let at = h.0 in
    All-cons (LiesIn least to) r runs (record { begins = omega arith; ends = omega arith; some = h.1 })
    (on_end_lie (from + r.len) least to runs (omega arith) h.2)

-- their bytes are those of the stream between the two
take_both : (a b : ℕ) (l : List ℕ) → take a l ++ take b (drop a l) ≡ take (a + b) l
take_both a b l =
    ap (λ t. t ++ take b (drop a l)) (sym (take-take a (a + b) l (omega arith)))
    ∙ (ap (λ t. take a (take (a + b) l) ++ t) (sym (drop-take a b l)) ∙ take-append-drop a (take (a + b) l))

pub on_end_bytes : (stream : List ℕ) (from to : ℕ) (runs : List Run) → AreOnEnd from runs to
    → flat_map (bytes_of_run stream) runs ≡ take (to - from) (drop from stream)
on_end_bytes stream from to [] h =
    ap (λ n. take n (drop from stream)) (let e : ◌≡◌ {A = ℕ} 0 (to - from) = omega (arith, h) in e)
on_end_bytes stream from to (r ∷ runs) h =
    let far = on_end_few (from + r.len) to runs h.2 in
    ap (λ n. take r.len (drop n stream) ++ flat_map (bytes_of_run stream) runs) h.0
    ∙ (ap (λ l. take r.len (drop from stream) ++ l) (on_end_bytes stream (from + r.len) to runs h.2)
    ∙ (ap (λ l. take r.len (drop from stream) ++ take (to - (from + r.len)) l) (sym (drop-drop r.len from stream))
    ∙ (take_both r.len (to - (from + r.len)) (drop from stream)
    ∙ ap (λ n. take n (drop from stream)) (let e : r.len + (to - (from + r.len)) ≡ to - from = omega arith in e))))
