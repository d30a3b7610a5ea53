use Rattle.std.proofs.Common.{◌≡◌, ◌+◌, ◌*◌, ◌++◌, take, drop}
use Rattle.std.specs.List.{flat_map}
use Rattle.packet_group.proofs.write.write_stripe.Given as goal

abbrev pub invariant-loop-i : goal.invariant-loop-i
invariant-loop-i g l =
    l.message ≡ take (l.at * g.F.Field.coding.width) l.initial.message
    ++ flat_map g.F.Field.coding.spelling (take l.i l.stripe)
    ++ drop ((l.at + l.i) * g.F.Field.coding.width) l.initial.message
