use Rattle.std.proofs.Common.{◌≡◌, ℕ, List, true, length}
use Rattle.pet_base.specs.declared.limits.TheConstants.{MAX_STREAM}
use Rattle.outside_files.specs.declared.portions.TheConstants.{MAX_PORTION}
use Rattle.outside_files.specs.Portions.{IsReadOf, room_left}
use Rattle.mpeg_system.specs.inside.Feeding.{Stands, WasFed}
use Rattle.mpeg_system.proofs.unwrap_files.unwrap_opened.Given as goal

-- a stream was taken, and what the reader gives of it was put
abbrev pub invariant-loop-video : goal.invariant-loop-video
invariant-loop-video g l = record {
  stream : List ℕ;
  given : List ℕ;
  stands : Stands (g.P.Place.seen l.fn.place) (g.P.Place.seen l.place) stream given;
  fed : WasFed l.id l.unwrap stream given;
  count : IsReadOf MAX_STREAM l.portions (length stream);
  put : l.put ≡ length given;
  calm : (g.P.Place.seen l.place).faults ≡ (g.P.Place.seen l.fn.place).faults;
  input : (g.P.Place.seen l.place).has_input ≡ true;
  output : (g.P.Place.seen l.place).has_output ≡ true;
  room : length l.buffer ≡ MAX_PORTION;
}

abbrev pub decreases-loop-video : goal.decreases-loop-video
decreases-loop-video g l = room_left l.portions
