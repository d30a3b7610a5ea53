use Rattle.std.proofs.Common.{ℕ, ◌<◌, map}
use Rattle.command_plan.specs.Certified.{IsLeastAt}
use Rattle.command_plan.proofs.checking.certify.Given as goal

abbrev pub invariant-loop-group : goal.invariant-loop-group
invariant-loop-group l = record {
  least : (earlier : ℕ) → earlier < l.group → IsLeastAt l.tables (map (λ list. list.items) l.lists) earlier;
}
