use Rattle.std.proofs.Common.{◌≡◌, ◌≤◌, Some}
use Rattle.std.specs.Prelude.{vec_capacity}
use Rattle.pet_base.specs.declared.limits.TheConstants.{MAX_ENTRY}
use Rattle.outside_files.specs.Outputs.{Puts}
use Rattle.packet_set.specs.Packets.{Packets}
use Rattle.packet_session.specs.Datagrams.{entries_text}
use Rattle.packet_verdicts.specs.KeptSet.{open_group}
use Rattle.packet_verdicts.specs.laws.FramesLaws.{first_frames}
use Rattle.pet_receive.specs.Arrivals.{kept_set}
use Rattle.store_text.specs.laws.PuttingLaws.{Hashes, PutsCalmly}
use Rattle.store_merge.proofs.put.put_group.Given as goal

abbrev pub invariant-loop-number : goal.invariant-loop-number
invariant-loop-number g l = record {
  puts : (p : Packets) → open_group (kept_set l.receiver) l.group ≡ Some p
      → Puts (entries_text (first_frames p l.number)) (g.P.Place.seen l.initial.place) (g.P.Place.seen l.place);
  hashed : (p : Packets) → open_group (kept_set l.receiver) l.group ≡ Some p
      → Hashes (entries_text (first_frames p l.number)) l.initial.hasher l.hasher;
  room : MAX_ENTRY ≤ vec_capacity l.entry;
  calmly : PutsCalmly (g.P.Place.seen l.initial.place) (g.P.Place.seen l.place);
}
