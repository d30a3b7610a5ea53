use Rattle.std.specs.Prelude.{option_copied, filter}
use Rattle.std.specs.List.{range_with_len}
use Rattle.std.proofs.Common.{◌≡◌, ◌≤◌, length}
use Rattle.packet_verdicts.specs.Union.{is_new}
use Rattle.packet_verdicts.proofs.shown.count_new.Given as goal

abbrev pub invariant-loop-number : goal.invariant-loop-number
invariant-loop-number l = record {
  below : l.number ≤ l.theirs.header.table.packets;
  few : l.total ≤ l.number;
  total : l.total ≡ length (filter (is_new (option_copied l.mine) l.theirs) (range_with_len 0 l.number));
}
