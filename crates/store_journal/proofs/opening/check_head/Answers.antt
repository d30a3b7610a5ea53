use Rattle.std.proofs.Common.{arith}
use Rattle.std.proofs.lemmas.Grind.{common_steps}
use Rattle.store_journal.specs.laws.OpeningLaws.{head_faults}
use Rattle.store_journal.proofs.opening.check_head.Goals as goal

pub returns-clause-refused : goal.returns-clause-refused
returns-clause-refused g c = head_faults _ c.read_at.new.into _ _ (grind (arith, common_steps))
    c.in_ok-read_at.ensures.filled c.judge_head.ensures.err
