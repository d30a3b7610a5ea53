use Rattle.std.proofs.Common.{◌≡◌, List, [], ℕ, length}
use Rattle.pet_base.specs.declared.limits.TheConstants.{MAX_STREAM}
use Rattle.priority_file.specs.Priority.{Priorities}
use Rattle.outside_files.specs.Inputs.{HasTaken}
use Rattle.outside_files.specs.Portions.{IsReadOf, room_left}
use Rattle.session_source.proofs.both.pass_over.Given as goal

abbrev pub invariant-loop-count : goal.invariant-loop-count
invariant-loop-count g l = record {
  stream : List ℕ;
  read : IsReadOf MAX_STREAM l.portions (length stream);
  taken : HasTaken MAX_STREAM stream (g.P.Place.seen l.initial.place) (g.P.Place.seen l.place);
  calm : (g.P.Place.seen l.place).faults ≡ (g.P.Place.seen l.initial.place).faults;
  passed : (priority : Priorities) (file : List ℕ) → g.R.StreamReader.has_read l.initial.reader priority file []
      → g.R.StreamReader.has_read l.reader priority file stream;
}

abbrev pub decreases-loop-count : goal.decreases-loop-count
decreases-loop-count g l = room_left l.portions
