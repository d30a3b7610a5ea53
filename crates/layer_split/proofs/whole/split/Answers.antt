-- The pieces so far, with the next and those behind it.
use Rattle.std.proofs.Common.{◌≡◌, ◌+◌, ◌<◌, ◌++◌, ◌∷◌, List, ℕ, length, take, drop, get_or, Some, None, sym, ◌∙◌, ap}
use Rattle.std.proofs.Common.{subst, arith}
use Rattle.std.proofs.lemmas.Result.{err_from_is_err_and}
use Rattle.std.proofs.lemmas.List.{take_more, drop_more, take-append-drop, take_all}
use Rattle.mpeg_scan.specs.declared.piece.Piece.{Piece}
use Rattle.priority_file.specs.Priority.{layer_of}
use Rattle.layer_split.specs.Groups.{groups_of}
use Rattle.layer_split.specs.Faults.{fault_of}
use Rattle.layer_split.specs.Splitting.{HasAdded, cuts_of, cuts_in}
use Rattle.layer_split.proofs.whole.split.Goals as goal

whole_at : (pieces : List Piece) (i : ℕ) (d : Piece) → i < length pieces
    → take i pieces ++ get_or pieces i d ∷ drop (i + 1) pieces ≡ pieces
whole_at pieces i d lt = ap (λ l. take i pieces ++ l) (sym (drop_more pieces i d lt)) ∙ take-append-drop i pieces

pub returns-in_err-cut-clause-fault : goal.returns-in_err-cut-clause-fault
returns-in_err-cut-clause-fault c =
    let p = err_from_is_err_and c.from_residual.result c.from_residual.ensures.1 in
    let i : ℕ = c.loop-piece.piece-index in
    rw (p.1, p.2) (λ ne.
    subst (λ ps. fault_of (layer_of c.args.priority.now) (length c.args.priority.now.layers) (groups_of ps)
    ≡ Some c.in_err-cut.field-0.0) (whole_at c.args.pieces.now i _ c.loop-piece-test.true)
    (c.in_err-cut.ensures.refusal ne c.args.priority.now
    (take i c.args.pieces.now) c.loop-piece.cuts.items c.loop-piece.invariant (drop (i + 1) c.args.pieces.now)))

pub loop-piece-preserved : goal.loop-piece-preserved
loop-piece-preserved c =
    let i : ℕ = c.loop-piece.piece-index in
    subst (HasAdded c.add.new.self c.args.priority.now (take (i + 1) c.args.pieces.now)) (sym c.in_ok-keep.ensures.ok)
    (subst (λ ps. HasAdded c.add.new.self c.args.priority.now ps (c.loop-piece.cuts.items ++ cuts_in c.in_ok-cut.cut))
    (sym (take_more c.args.pieces.now i _ c.loop-piece-test.true))
    (c.in_ok-cut.ensures.ok c.args.priority.now
    (take i c.args.pieces.now) c.loop-piece.cuts.items c.loop-piece.invariant))

pub returns-in_err-cut-2-clause-fault : goal.returns-in_err-cut-2-clause-fault
returns-in_err-cut-2-clause-fault c =
    let p = err_from_is_err_and c.from_residual-in_err-cut-2.result c.from_residual-in_err-cut-2.ensures.1 in
    let i : ℕ = c.loop-piece.piece-index in
    let all : take i c.args.pieces.now ≡ c.args.pieces.now = take_all _ _ (omega arith) in
    rw (p.1, p.2) (λ ne.
    subst (λ ps. fault_of (layer_of c.args.priority.now) (length c.args.priority.now.layers) (groups_of ps)
    ≡ Some c.in_err-cut-2.field-0.0) all
    (c.in_err-cut-2.ensures.refusal c.args.priority.now
    (take i c.args.pieces.now) c.loop-piece.cuts.items c.loop-piece.invariant))

pub returns-clause-cuts : goal.returns-clause-cuts
returns-clause-cuts c =
    let i : ℕ = c.loop-piece.piece-index in
    let all : take i c.args.pieces.now ≡ c.args.pieces.now = take_all _ _ (omega arith) in
    c.in_ok-keep-2.ensures.ok
    ∙ ((c.in_ok-cut-2.ensures.ok c.args.priority.now
    (take i c.args.pieces.now) c.loop-piece.cuts.items c.loop-piece.invariant).0
    ∙ ap (λ ps. cuts_of c.args.priority.now (groups_of ps)) all)

pub returns-clause-no_fault : goal.returns-clause-no_fault
returns-clause-no_fault c =
    let i : ℕ = c.loop-piece.piece-index in
    let all : take i c.args.pieces.now ≡ c.args.pieces.now = take_all _ _ (omega arith) in
    subst (λ ps. fault_of (layer_of c.args.priority.now) (length c.args.priority.now.layers) (groups_of ps) ≡ None) all
    (c.in_ok-cut-2.ensures.ok c.args.priority.now
    (take i c.args.pieces.now) c.loop-piece.cuts.items c.loop-piece.invariant).1
