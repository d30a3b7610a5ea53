use Rattle.std.specs.Prelude.{nat_le, count_by}
use Rattle.std.proofs.Common.{◌≡◌, ◌≤◌, take}
use Rattle.packet_verdicts.proofs.layers.shown_layers.Given as goal

abbrev pub invariant-loop-needed : goal.invariant-loop-needed
invariant-loop-needed l = record {
  few : l.shown ≤ l.needed-index;
  shown : l.shown ≡ count_by (λ needed. nat_le needed l.held) (take l.needed-index l.needed-items);
}
