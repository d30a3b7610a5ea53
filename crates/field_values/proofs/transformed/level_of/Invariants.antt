use Rattle.std.proofs.Common.{◌≡◌, ◌^◌}
use Rattle.field_values.proofs.transformed.level_of.Given as goal

abbrev pub invariant-loop-level : goal.invariant-loop-level
invariant-loop-level l = record { size : l.size ≡ 2 ^ l.level }
