use Rattle.std.proofs.Common.{◌++◌, List, ℕ, take, sym, ◌∙◌, ap, subst, append_assoc}
use Rattle.std.proofs.lemmas.List.{take_more}
use Rattle.mpeg_scan.specs.declared.piece.Piece.{Piece}
use Rattle.stream_session.specs.Planning.{HasPlanned}
use Rattle.stream_session.proofs.pass.add_all.Goals as goal

pub loop-piece-preserved : goal.loop-piece-preserved
loop-piece-preserved c priority given planned =
    let i : ℕ = c.loop-piece.piece-index in
    let pieces = c.args.pieces.now in
    subst (λ (ps : List Piece). HasPlanned c.add.new.self priority ps)
    (append_assoc given (take i pieces) _
    ∙ ap (λ (ps : List Piece). given ++ ps) (sym (take_more pieces i _ c.loop-piece-test.true)))
    (c.in_ok-add.ensures priority (given ++ take i pieces) (c.loop-piece.invariant priority given planned))
