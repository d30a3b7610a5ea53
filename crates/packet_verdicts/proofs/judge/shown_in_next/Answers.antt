use Rattle.std.proofs.Common.{◌+◌, ap, ap₂, ◌∙◌}
use Rattle.packet_set.specs.Packets.{layers_of, count_in}
use Rattle.packet_verdicts.specs.Verdicts.{layer_set}
use Rattle.packet_verdicts.specs.inside.ByCounts.{shown_by}
use Rattle.packet_verdicts.proofs.ByCounts.{shown_by_counts}
use Rattle.packet_verdicts.proofs.judge.shown_in_next.Goals as goal

pub shown_by_next-requires : goal.shown_by_next-requires
shown_by_next-requires c = c.counts.ensures.few

pub returns : goal.returns
returns c =
    let p = c.args.packets.now in
    c.shown_by_next.ensures ∙ ap₂ (λ l n. layer_set (shown_by l n (n + 1))) c.counts.ensures.value c.len.ensures.value
    ∙ ap layer_set (shown_by_counts (layers_of p) (count_in p) (count_in p + 1))
