use Rattle.std.proofs.Common.{arith}
use Rattle.std.proofs.lemmas.Grind.{common_steps}
use Rattle.text_plan.proofs.Rows.{one_row}
use Rattle.text_plan.proofs.lengths.append_row.Goals as goal

pub returns-clause-ok : goal.returns-clause-ok
returns-clause-ok c = grind (arith, common_steps, one_row c.args.row.size c.args.row.times (omega arith))
