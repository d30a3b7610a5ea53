use Rattle.std.proofs.Common.{◌+◌, ◌*◌, ◌^◌, ap, ◌∙◌, arith}
use Rattle.pet_poly.specs.Value.{value}
use Rattle.field_rows.specs.Columns.{column}
use Rattle.field_values.proofs.cosets.transform_in_place.Goals as goal

pub returns-clause-values : goal.returns-clause-values
returns-clause-values g c = λ p i l m.
    c.values_at_coset.ensures.values p i l m
    ∙ c.convert.ensures.coefficients i (g.F.Field.coding.point_of (c.from-block.result * 2 ^ c.args.level + p)) m
    (g.met.F.Field.lawful.points.point_is (c.from-block.result * 2 ^ c.args.level + p)
    (rw c.from-block.ensures (omega (arith, c.requires.points, l))))
    ∙ ap (λ b. value g.F.Field.coding.ops
    (column g.F.Field.coding.ops.nought c.args.stripes (2 ^ c.args.level) i c.args.rows.now)
    (g.F.Field.coding.point_of (b * 2 ^ c.args.level + p))) c.from-block.ensures

pub returns-clause-cost : goal.returns-clause-cost
returns-clause-cost g c = omega (arith, c.values_at_coset.ensures.bounded, c.convert.ensures.bounded)

pub values_at_coset-requires-clause-block : goal.values_at_coset-requires-clause-block
values_at_coset-requires-clause-block g c = rw c.from-block.ensures (omega (arith, c.requires.some, c.requires.points))

pub values_at_coset-requires-clause-size : goal.values_at_coset-requires-clause-size
values_at_coset-requires-clause-size g c = c.convert.auto.rows ∙ c.requires.size

pub convert-requires-clause-size : goal.convert-requires-clause-size
convert-requires-clause-size g c = c.requires.size

pub convert-requires-clause-zeros : goal.convert-requires-clause-zeros
convert-requires-clause-zeros g c = c.requires.zeros
