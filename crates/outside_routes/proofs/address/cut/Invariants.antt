use Rattle.std.proofs.Common.{◌≡◌, ◌-◌, drop, length}
use Rattle.std.specs.Prelude.{None}
use Rattle.outside_routes.specs.Address.{cut_at_last_colon}
use Rattle.outside_routes.proofs.address.cut.Given as goal

abbrev pub invariant-loop-back : goal.invariant-loop-back
invariant-loop-back l = cut_at_last_colon (drop (length l.bytes - l.back) l.bytes) ≡ None
