use Rattle.std.proofs.Common.{◌≡◌, ◌++◌, length, take}
use Rattle.std.specs.List.{flat_map, range_with_len}
use Rattle.packet_session.specs.Datagrams.{entries_text}
use Rattle.pet_receive.specs.Arrivals.{kept_set}
use Rattle.packet_verdicts.specs.laws.FramesLaws.{frames_of}
use Rattle.store_merge.proofs.write.append_groups.Given as goal

abbrev pub invariant-loop-group : goal.invariant-loop-group
invariant-loop-group g l = record {
  text : l.into.items
      ≡ l.initial.into.items ++ entries_text (flat_map (frames_of (kept_set l.receiver)) (range_with_len 0 l.group));
  front : take (length l.initial.into.items) l.into.items ≡ l.initial.into.items;
}
