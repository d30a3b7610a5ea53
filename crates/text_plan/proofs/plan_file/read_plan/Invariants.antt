use Rattle.std.proofs.Common.{◌≡◌, ◌+◌, ◌≤◌, length, map}
use Rattle.text_cuts.specs.Cuts.{lines_of}
use Rattle.text_plan.specs.PlanFile.{lists_of, lists_from, behind_lists}
use Rattle.text_plan.proofs.plan_file.read_plan.Given as goal

abbrev pub invariant-loop-rest : goal.invariant-loop-rest
invariant-loop-rest l = record {
  counted : l.number + length l.rest ≤ length l.bytes;
  lists : lists_of l.bytes
      ≡ behind_lists (map (λ list. list.items) l.lists.items) (lists_from (l.number + 1) (lines_of l.rest));
}

abbrev pub decreases-loop-rest : goal.decreases-loop-rest
decreases-loop-rest l = length l.rest
