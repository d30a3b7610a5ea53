use Rattle.std.proofs.Common.{◌≡◌, ◌++◌, length, take, Some}
use Rattle.packet_set.specs.Packets.{Packets}
use Rattle.packet_session.specs.Datagrams.{entries_text}
use Rattle.packet_verdicts.specs.KeptSet.{open_group}
use Rattle.pet_receive.specs.Arrivals.{kept_set}
use Rattle.packet_verdicts.specs.laws.FramesLaws.{first_frames}
use Rattle.store_merge.proofs.write.append_group.Given as goal

abbrev pub invariant-loop-number : goal.invariant-loop-number
invariant-loop-number g l = record {
  text : (p : Packets) → open_group (kept_set l.receiver) l.group ≡ Some p
      → l.into.items ≡ l.initial.into.items ++ entries_text (first_frames p l.number);
  front : take (length l.initial.into.items) l.into.items ≡ l.initial.into.items;
}
