use Rattle.std.proofs.Common.{◌≡◌, ◌+◌, ◌-◌}
use Rattle.field_transform.specs.Basis.{squared}
use Rattle.field_transform.proofs.element.squares.Given as goal

abbrev pub invariant-loop-i : goal.invariant-loop-i
invariant-loop-i g l = record {
  value : squared g.F.Field.coding.ops (l.count - l._i) l.value ≡ squared g.F.Field.coding.ops l.count l.fn.g;
  element : g.F.Field.is_element l.value;
  cost : l.steps ≡ l.initial.steps + l._i;
}
