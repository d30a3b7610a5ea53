use Rattle.std.proofs.Common.{◌≡◌, drop, bytes_eq}
use Rattle.priority_file.specs.Bounds.{has_repeat}
use Rattle.priority_file.proofs.bounds.any_name_twice.Given as goal

abbrev pub invariant-loop-i : goal.invariant-loop-i
invariant-loop-i l =
    has_repeat (λ x y. bytes_eq x.name y.name) (drop l.i l.layers) ≡ has_repeat (λ x y. bytes_eq x.name y.name) l.layers
