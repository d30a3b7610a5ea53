use Rattle.std.proofs.Common.{◌≡◌, ◌<◌, ◌+◌, ◌^◌, get_or}
use Rattle.packet_verdicts.specs.inside.ByCounts.{is_between}
use Rattle.packet_verdicts.specs.laws.LayerSetLaws.{bits_below}
use Rattle.packet_verdicts.proofs.judge.shown_by_next.Given as goal

abbrev pub invariant-loop-layer : goal.invariant-loop-layer
invariant-loop-layer l = record {
  below : l.bits < 2 ^ l.layer;
  set : l.bits ≡ bits_below (λ j. is_between l.before (l.before + 1) (get_or l.counts j 0)) l.layer;
}
