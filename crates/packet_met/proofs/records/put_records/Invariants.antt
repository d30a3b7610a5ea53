use Rattle.std.proofs.Common.{◌≡◌, ◌≤◌, take}
use Rattle.pet_base.specs.Seen.{OnlyWrites}
use Rattle.outside_files.specs.Outputs.{Puts}
use Rattle.packet_met.specs.Records.{records_text}
use Rattle.packet_met.proofs.records.put_records.Given as goal

abbrev pub invariant-loop-shown : goal.invariant-loop-shown
invariant-loop-shown g l = record {
  puts : Puts (records_text l.arrival l.group (take l.shown-index l.layers)) (g.P.Place.seen l.initial.place)
      (g.P.Place.seen l.place);
  others : OnlyWrites (g.P.Place.seen l.initial.place) (g.P.Place.seen l.place);
  later : (g.P.Place.seen l.initial.place).faults ≤ (g.P.Place.seen l.place).faults;
  calm : (g.P.Place.seen l.place).faults ≡ (g.P.Place.seen l.initial.place).faults;
  blamed : (g.P.Place.seen l.place).blamed ≡ (g.P.Place.seen l.initial.place).blamed;
}
