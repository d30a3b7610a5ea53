-- One run more is counted anew.
use Rattle.std.proofs.Common.{◌∙◌, List, get_or, set, ap}
use Rattle.layer_split.specs.declared.cut.Run.{Run}
use Rattle.layer_split.specs.Splitting.{rebased}
use Rattle.layer_split.proofs.Rebasing.{next_old, next_set}
use Rattle.layer_split.proofs.cut.rebase_runs.Goals as goal

pub loop-i-preserved : goal.loop-i-preserved
loop-i-preserved c =
    let none : Run = record { layer = 0; at = 0; len = 0 } in
    let old : List Run = c.args.runs.now in
    let this = ap (λ l. get_or l c.loop-i.i none) c.loop-i.invariant
    ∙ next_old (rebased c.args.from) old c.loop-i.i none c.loop-i-test.true in
    ap (λ r. set c.loop-i.runs c.loop-i.i (rebased c.args.from r)) this
    ∙ (ap (λ l. set l c.loop-i.i (rebased c.args.from (get_or old c.loop-i.i none))) c.loop-i.invariant
    ∙ next_set (rebased c.args.from) old c.loop-i.i none c.loop-i-test.true)
