use Rattle.pet_base.specs.Feed.{AreShort}
use Rattle.test_program.proofs.run.short.Given as goal

abbrev pub invariant-loop-datagram : goal.invariant-loop-datagram
invariant-loop-datagram l = AreShort l.feed.items
