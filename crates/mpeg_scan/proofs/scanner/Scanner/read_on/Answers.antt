-- The stream cut behind the byte or the run.
use Rattle.std.proofs.Common.{◌++◌, drop, sym, subst}
use Rattle.std.proofs.lemmas.Result.{err_from_is_err_and}
use Rattle.mpeg_scan.specs.Refusals.{Refuses}
use Rattle.mpeg_scan.specs.Scanning.{HasStopped, added}
use Rattle.mpeg_scan.proofs.Feeding.{whole_here, whole_at, first_here, first_at}
use Rattle.mpeg_scan.proofs.Appended.{added_none}
use Rattle.mpeg_scan.proofs.Stopping.{stopped_more}
use Rattle.mpeg_scan.proofs.scanner.Scanner.read_on.Goals as goal

pub returns-in_err-skip-clause-refusal : goal.returns-in_err-skip-clause-refusal
returns-in_err-skip-clause-refusal c =
    let p = err_from_is_err_and c.from_residual.result c.from_residual.ensures.1 in
    rw (p.1, p.2) (λ _ s g r rest.
    subst (λ S. Refuses S c.in_err-skip.field-0.0) (whole_at s c.args.ahead.now rest c.skippable-run.result)
    (c.in_err-skip.ensures.refusal s g r (drop c.skippable-run.result c.args.ahead.now ++ rest)))

pub returns-in_err-step-clause-refusal : goal.returns-in_err-step-clause-refusal
returns-in_err-step-clause-refusal c =
    let p = err_from_is_err_and c.from_residual-in_err-step.result c.from_residual-in_err-step.ensures.1 in
    rw (p.1, p.2) (λ ne s g r rest.
    subst (λ S. Refuses S c.in_err-step.field-0.0) (first_at s c.args.ahead.now rest c.requires)
    (c.in_err-step.ensures.refusal ne s g r (drop 1 c.args.ahead.now ++ rest)))

pub returns-in_err-skip-clause-stopped : goal.returns-in_err-skip-clause-stopped
returns-in_err-skip-clause-stopped c =
    let p = err_from_is_err_and c.from_residual.result c.from_residual.ensures.1 in
    rw (p.1, p.2) (λ _ s g r.
    subst (HasStopped (s ++ c.args.ahead.now) c.in_err-skip.field-0.0) (sym (added_none c.args.pieces.now.items g))
    (subst (λ S. HasStopped S c.in_err-skip.field-0.0 g) (whole_here s c.args.ahead.now c.skippable-run.result)
    (stopped_more _ (drop c.skippable-run.result c.args.ahead.now) c.in_err-skip.field-0.0 g
    (c.in_err-skip.ensures.stopped s g r))))

pub returns-in_err-step-clause-stopped : goal.returns-in_err-step-clause-stopped
returns-in_err-step-clause-stopped c =
    let p = err_from_is_err_and c.from_residual-in_err-step.result c.from_residual-in_err-step.ensures.1 in
    rw (p.1, p.2) (λ ne s g r.
    let given = g ++ added c.args.pieces.now.items c.step.new.pieces.items in
    subst (λ S. HasStopped S c.in_err-step.field-0.0 given) (first_here s c.args.ahead.now c.requires)
    (stopped_more _ (drop 1 c.args.ahead.now) c.in_err-step.field-0.0 given (c.in_err-step.ensures.stopped ne s g r)))
