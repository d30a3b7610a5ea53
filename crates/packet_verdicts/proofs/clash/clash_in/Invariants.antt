use Rattle.std.specs.Prelude.{option_copied}
use Rattle.std.proofs.Common.{◌≤◌, ◌||◌}
use Rattle.packet_verdicts.specs.GroupClash.{is_other_payload}
use Rattle.packet_verdicts.proofs.Searched.{Searched}
use Rattle.packet_verdicts.proofs.clash.clash_in.Given as goal

abbrev pub invariant-loop-number : goal.invariant-loop-number
invariant-loop-number l = record {
  few : l.number ≤ l.theirs.header.table.packets;
  searched : Searched (λ f. l.other || is_other_payload (option_copied l.mine) f.number f.payload) l.theirs l.number;
}
