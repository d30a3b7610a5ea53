use Rattle.std.proofs.Common.{arith}
use Rattle.std.proofs.lemmas.Grind.{common_steps}
use Rattle.pet_ends.proofs.Popped.{popped}
use Rattle.pet_ends.proofs.waiting.Waiting.pop.Goals as goal

pub returns-clause-first : goal.returns-clause-first
returns-clause-first c = (
  grind (arith, common_steps),
  popped c.self.inside.entries.items c.args.into.now c.copy_from_slice.new.self c.in_ok-head.head.now
      c.in_ok-head.rest.now c.args.self.now.entries c.forget.new.self.entries c.self.inside.gone c.from-count.result
      (grind (arith, common_steps)) (grind (arith, common_steps)) (grind (arith, common_steps))
      (grind (arith, common_steps)) (grind (arith, common_steps)) (grind (arith, common_steps))
      (grind (arith, common_steps)) (grind (arith, common_steps)) (grind (arith, common_steps)),
)
