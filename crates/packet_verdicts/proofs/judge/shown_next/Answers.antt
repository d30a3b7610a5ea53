use Rattle.std.proofs.Common.{◌+◌, ap, ◌∙◌}
use Rattle.packet_verdicts.specs.Verdicts.{layer_set}
use Rattle.packet_verdicts.specs.inside.ByCounts.{shown_by}
use Rattle.packet_verdicts.proofs.ByCounts.{shown_by_counts}
use Rattle.packet_verdicts.proofs.judge.shown_next.Goals as goal

pub returns : goal.returns
returns c =
    c.shown_by_next.ensures
    ∙ ap (λ l. layer_set (shown_by l c.args.before (c.args.before + 1))) (c.deref.ensures.0 ∙ c.counts.ensures.counts)
    ∙ ap layer_set (shown_by_counts c.args.table.now.layers c.args.before (c.args.before + 1))
