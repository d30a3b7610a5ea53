use Rattle.std.proofs.Common.{◌≡◌, ◌+◌, ◌*◌}
use Rattle.field_transform.specs.Basis.{hats}
use Rattle.field_transform.proofs.element.hat.Given as goal

abbrev pub invariant-loop-i : goal.invariant-loop-i
invariant-loop-i g l = record {
  value : l.value ≡ hats g.F.Field.coding.ops g.F.Subspaces.inverse l.i l.fn.x;
  element : g.F.Field.is_element l.value;
  cost : l.steps ≡ l.initial.steps + 2 * l.i;
}
