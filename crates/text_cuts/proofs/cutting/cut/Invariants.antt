use Rattle.std.proofs.Common.{◌≡◌, take, drop}
use Rattle.text_cuts.specs.Cuts.{split_from, split_at}
use Rattle.text_cuts.proofs.cutting.cut.Given as goal

abbrev pub invariant-loop-at : goal.invariant-loop-at
invariant-loop-at l = split_at l.mark l.bytes ≡ split_from l.mark (take l.at l.bytes) (drop l.at l.bytes)
