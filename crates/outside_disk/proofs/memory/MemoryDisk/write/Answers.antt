use Rattle.std.proofs.Common.{refl, arith}
use Rattle.std.proofs.lemmas.Grind.{common_steps}
use Rattle.outside_disk.specs.laws.EventLaws.{replay_to, synced_to, asked_to, within_test}
use Rattle.outside_disk.proofs.memory.MemoryDisk.write.Goals as goal

pub invariant_of-self-2-clause-same : goal.invariant_of-self-2-clause-same
invariant_of-self-2-clause-same c = replay_to _ _ _ _ _ _ c.in_ok-push.ensures.items c.args.self.now.same
    (grind (arith, common_steps))

pub invariant_of-self-2-clause-kept : goal.invariant_of-self-2-clause-kept
invariant_of-self-2-clause-kept c = synced_to _ _ _ _ _ _ _ c.in_ok-push.ensures.items c.args.self.now.same
    c.args.self.now.kept refl

pub invariant_of-self-2-clause-asked : goal.invariant_of-self-2-clause-asked
invariant_of-self-2-clause-asked c = asked_to _ _ _ _ _ c.in_ok-push.ensures.items c.args.self.now.same
    c.args.self.now.asked (within_test _ _ c.requires)

pub returns-clause-done : goal.returns-clause-done
returns-clause-done c = (
  c.in_ok-part.part,
  c.in_ok-part.ensures.items,
  record {
    first = refl;
    events = c.in_ok-push.ensures.items;
    bytes = grind (arith, common_steps);
    synced = refl;
  },
)
