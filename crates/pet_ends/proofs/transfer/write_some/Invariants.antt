use Rattle.std.specs.Io.KnownBytes.{Keeps}
use Rattle.pet_ends.proofs.transfer.write_some.Given as goal

-- a write that was interrupted wrote nothing
abbrev pub invariant-loop : goal.invariant-loop
invariant-loop g l = Keeps (g.W.Write.contents l.initial.to) (g.W.Write.contents l.to)
