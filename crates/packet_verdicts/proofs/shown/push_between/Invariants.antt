use Rattle.std.specs.Prelude.{filter, map}
use Rattle.std.specs.List.{range_with_len}
use Rattle.std.proofs.Common.{◌≡◌, ◌++◌, get_or}
use Rattle.packet_verdicts.specs.inside.ByCounts.{is_between}
use Rattle.packet_verdicts.proofs.shown.push_between.Given as goal

abbrev pub invariant-loop-layer : goal.invariant-loop-layer
invariant-loop-layer l =
    l.shown.items
    ≡ l.initial.shown.items
    ++ map (λ layer. (l.group, layer))
    (filter (λ j. is_between l.before l.after (get_or l.counts j 0)) (range_with_len 0 l.layer))
