-- The last piece is the open one.
use Rattle.std.proofs.Common.{◌≡◌, ◌++◌, ◌∷◌, [], ◌∙◌, ap, not, true}
use Rattle.std.specs.Prelude.{is_ok}
use Rattle.std.proofs.lemmas.Bool.{cond-true}
use Rattle.mpeg_scan.proofs.Ending.{last_piece, accepted_opened}
use Rattle.mpeg_scan.proofs.Standing.{all_stand}
use Rattle.mpeg_scan.proofs.Appended.{added_by}
use Rattle.mpeg_scan.proofs.scanner.Scanner.finish.Goals as goal

pub returns-clause-ok : goal.returns-clause-ok
returns-clause-ok c s g r =
    let accepted = c.in_default-refusal_at_end.ensures s g r in
    let ok : is_ok c.push.result ≡ true = c.is_err.ensures.negation ∙ ap not c.if-is_err.false in
    let more = added_by c.args.pieces.now.items c.push.new.self.items (c.piece_to.result ∷ [])
    (c.push.ensures.items
    ∙ cond-true (is_ok c.push.result)
    (c.args.pieces.now.items ++ c.piece_to.result ∷ []) c.args.pieces.now.items ok) in (
      accepted,
      ap (λ l. g ++ l) (more ∙ ap (λ p. p ∷ []) c.piece_to.ensures)
          ∙ last_piece c.args.self.now s g r (accepted_opened c.args.self.now s g r accepted) accepted,
    )

pub returns-clause-standing : goal.returns-clause-standing
returns-clause-standing c s g r =
    let accepted = c.in_default-refusal_at_end.ensures s g r in (
      all_stand s g _ (last_piece c.args.self.now s g r (accepted_opened c.args.self.now s g r accepted) accepted),
      r.bounded,
    )
