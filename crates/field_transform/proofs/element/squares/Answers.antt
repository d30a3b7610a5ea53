use Rattle.std.proofs.Common.{◌∙◌, arith}
use Rattle.field_transform.proofs.OneColumn.{square_next}
use Rattle.field_transform.proofs.element.squares.Goals as goal

pub loop-i-preserved : goal.loop-i-preserved
loop-i-preserved g c = record {
  value =
      square_next g.F.Field.coding.ops c.args.count c.loop-i._i c.loop-i.value c.product-value.result
      (omega arith) c.product-value.ensures.product
      ∙ c.loop-i.invariant.value;
  element = c.product-value.ensures.element;
  cost = omega (arith, c.product-value.ensures.cost, c.loop-i.invariant.cost);
}
