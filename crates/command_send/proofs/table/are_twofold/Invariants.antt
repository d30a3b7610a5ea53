use Rattle.std.proofs.Common.{◌≡◌, ◌↔◌, map}
use Rattle.stripe_plan.specs.Sizes.{twofold}
use Rattle.stream_session.specs.Tables.{sizes_with}
use Rattle.command_send.proofs.Twofold.{AreFrom}
use Rattle.command_send.proofs.table.are_twofold.Given as goal

-- what is left to compare decides
abbrev pub invariant-loop-layer : goal.invariant-loop-layer
invariant-loop-layer l =
    (l.layers ≡ map twofold (sizes_with l.lengths l.rules)) ↔ AreFrom l.layer l.layers l.lengths l.rules
