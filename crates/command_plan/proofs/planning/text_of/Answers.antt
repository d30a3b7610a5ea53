use borrow.Author.Rules.{rules}
use Rattle.command_plan.proofs.planning.text_of.Goals as goal

pub plan_text-requires-clause-few : goal.plan_text-requires-clause-few
plan_text-requires-clause-few c = search rules

pub plan_text-requires-clause-sized : goal.plan_text-requires-clause-sized
plan_text-requires-clause-sized c = search rules

pub returns : goal.returns
returns c = search rules
