use Rattle.std.specs.Io.KnownBytes.{Keeps}
use Rattle.pet_ends.proofs.transfer.read_some.Given as goal

-- a read that was interrupted took nothing
abbrev pub invariant-loop : goal.invariant-loop
invariant-loop g l = Keeps (g.R.Read.remaining l.initial.from) (g.R.Read.remaining l.from)
