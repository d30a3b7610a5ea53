use Rattle.std.proofs.Common.{◌≡◌, drop, nat_eq}
use Rattle.priority_file.specs.Bounds.{has_repeat}
use Rattle.priority_file.proofs.bounds.any_kind_twice.Given as goal

abbrev pub invariant-loop-i : goal.invariant-loop-i
invariant-loop-i l = has_repeat nat_eq (drop l.i l.kinds) ≡ has_repeat nat_eq l.kinds
