use Rattle.std.proofs.Common.{◌≡◌, length}
use Rattle.outside_files.specs.Inputs.{HasTaken}
use Rattle.outside_files.specs.Portions.{IsReadOf, room_left}
use Rattle.outside_files.proofs.input.read_entered.Given as goal

abbrev pub invariant-loop-bytes : goal.invariant-loop-bytes
invariant-loop-bytes g l = record {
  taken : HasTaken l.limit l.bytes.items (g.P.Place.seen l.initial.place) (g.P.Place.seen l.place);
  read : IsReadOf l.limit l.portions (length l.bytes.items);
  calm : (g.P.Place.seen l.place).faults ≡ (g.P.Place.seen l.initial.place).faults;
}

abbrev pub decreases-loop-bytes : goal.decreases-loop-bytes
decreases-loop-bytes g l = room_left l.portions
