use Rattle.std.proofs.Common.{◌≡◌, ◌++◌, length, take, drop}
use Rattle.text_plan.specs.inside.LayerLines.{groups_from}
use Rattle.text_plan.specs.PlanText.{plan_text}
use Rattle.text_plan.proofs.whole_plan.append_plan.Given as goal

abbrev pub invariant-loop-group : goal.invariant-loop-group
invariant-loop-group l = record {
  text : l.into.items ++ groups_from l.priority.layers l.group (drop l.group l.tables)
      ≡ l.fn.into.items ++ plan_text l.session l.priority l.tables;
  front : take (length l.fn.into.items) l.into.items ≡ l.fn.into.items;
}
