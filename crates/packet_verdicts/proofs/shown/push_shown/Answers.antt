use Rattle.std.specs.Prelude.{map, option_copied, OnOk}
use Rattle.std.proofs.Common.{◌≡◌, ℕ, List, ◌+◌, ◌++◌, length, ap, ap₂, ◌∙◌, subst}
use Rattle.packet_verdicts.specs.inside.ByCounts.{shown_by}
use Rattle.packet_verdicts.specs.Verdicts.{shown_between}
use Rattle.packet_verdicts.specs.Union.{new_numbers}
use Rattle.packet_verdicts.specs.GroupLayers.{count_in_open}
use Rattle.packet_verdicts.proofs.ByCounts.{shown_by_counts}
use Rattle.packet_set.specs.Packets.{layers_of}
use Rattle.packet_verdicts.proofs.shown.push_shown.Goals as goal

pub push_between-requires : goal.push_between-requires
push_between-requires c = c.counts.ensures.few

pub returns : goal.returns
returns c =
    let pairs : List ℕ → List (ℕ × ℕ) = map (λ layer. (c.args.group, layer)) in
    let theirs = c.args.theirs.now in
    let mine = option_copied c.args.mine in
    let same = ap (λ l. shown_by l c.count_here-before.result (c.count_here-before.result + c.count_new.result))
    c.counts.ensures.value
    ∙ shown_by_counts (layers_of theirs) c.count_here-before.result (c.count_here-before.result + c.count_new.result)
    ∙ ap₂ (λ m n. shown_between (layers_of theirs) m (m + n)) c.count_here-before.ensures.value
    c.count_new.ensures.value in
    subst (λ l. OnOk c.push_between.result (c.push_between.new.shown.items ≡ c.args.shown.now.items ++ pairs l)) same
    c.push_between.ensures
