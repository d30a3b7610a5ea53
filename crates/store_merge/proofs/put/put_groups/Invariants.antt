use Rattle.std.proofs.Common.{◌≤◌}
use Rattle.std.specs.Prelude.{vec_capacity}
use Rattle.std.specs.List.{flat_map, range_with_len}
use Rattle.pet_base.specs.declared.limits.TheConstants.{MAX_ENTRY}
use Rattle.outside_files.specs.Outputs.{Puts}
use Rattle.packet_session.specs.Datagrams.{entries_text}
use Rattle.packet_verdicts.specs.laws.FramesLaws.{frames_of}
use Rattle.pet_receive.specs.Arrivals.{kept_set}
use Rattle.store_text.specs.laws.PuttingLaws.{Hashes, PutsCalmly}
use Rattle.store_merge.proofs.put.put_groups.Given as goal

abbrev pub invariant-loop-group : goal.invariant-loop-group
invariant-loop-group g l = record {
  puts : Puts (entries_text (flat_map (frames_of (kept_set l.receiver)) (range_with_len 0 l.group)))
      (g.P.Place.seen l.initial.place) (g.P.Place.seen l.place);
  hashed : Hashes (entries_text (flat_map (frames_of (kept_set l.receiver)) (range_with_len 0 l.group))) l.initial.hasher
      l.hasher;
  room : MAX_ENTRY ≤ vec_capacity l.entry;
  calmly : PutsCalmly (g.P.Place.seen l.initial.place) (g.P.Place.seen l.place);
}
