use Rattle.pet_base.specs.Feed.{AreShort}
use Rattle.test_stores.proofs.commands.feed_of.Given as goal

abbrev pub invariant-loop-part : goal.invariant-loop-part
invariant-loop-part l = AreShort l.feed.items
