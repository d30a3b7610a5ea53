use Rattle.command_sample.proofs.ArrivalSteps.{HasTaken}
use Rattle.command_sample.proofs.receiving.hand_group.Given as goal

abbrev pub invariant-loop-place : goal.invariant-loop-place
invariant-loop-place g l = HasTaken l.encoder l.initial.receiver l.initial.steps l.place l.receiver l.steps
