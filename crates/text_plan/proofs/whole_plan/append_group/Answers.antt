use Rattle.std.proofs.Common.{arith}
use Rattle.text_plan.proofs.PlanTexts.{ok_then, group_whole}
use Rattle.text_plan.proofs.whole_plan.append_group.Goals as goal

pub returns-clause-ok : goal.returns-clause-ok
returns-clause-ok c =
    ok_then c.lengths_line.result (group_whole c.args.priority.now.layers c.args.group c.args.table.now.layers
    c.args.into.now.items c.plan_group_line.new.into.items c.append_layers.new.into.items c.lengths_line.new.into.items
    (grind (
      arith,
      c.in_ok-plan_group_line.ensures.ok,
      c.words-words.ensures.words,
      c.stripes.ensures.plan,
      c.bound.ensures,
      c.datagram_length.ensures.length,
    ))
    c.in_ok-append_layers.ensures.ok) c.lengths_line.ensures.ok
