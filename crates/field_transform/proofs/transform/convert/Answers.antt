use Rattle.std.proofs.Common.{◌^◌, ◌+◌, ◌*◌, ◌≡◌, ap, arith}
use Rattle.field_transform.proofs.Columns.{converted_columns}
use Rattle.field_transform.proofs.Counting.{from_width, conversion_most}
use Rattle.field_transform.proofs.Kernels.{few_levels}
use Rattle.field_transform.proofs.transform.convert.Goals as goal

pub returns-clause-coefficients : goal.returns-clause-coefficients
returns-clause-coefficients g c i x l hx =
    let n = c.args.level in
    let e : 0 + n ≡ n = omega arith in
    converted_columns g.F.Field.is_element g.F.Field.coding.ops g.met.F.Field.lawful.field g.F.Field.COUNT
    g.F.Field.coding.point_of g.met.F.Field.lawful.points g.F.Subspaces.LEVELS g.F.Subspaces.factor
    g.F.Subspaces.inverse g.met.F.Subspaces.subspaces c.args.width n
    (2 ^ (0 + n)) x i c.args.rows.now c.convert_from.new.rows (ap (λ k. 2 ^ k) e) c.requires.few hx c.requires.elements
    c.requires.size l c.convert_from.ensures.coefficients

pub returns-clause-cost : goal.returns-clause-cost
returns-clause-cost g c =
    from_width c.args.width c.args.level
    (c.args.known * c.args.width) c.args.steps.now c.convert_from.new.steps c.convert_from.ensures.cost

pub returns-clause-bounded : goal.returns-clause-bounded
returns-clause-bounded g c =
    conversion_most c.args.width c.args.level (c.args.known * c.args.width) c.args.steps.now c.convert_from.new.steps
    (from_width c.args.width c.args.level
    (c.args.known * c.args.width) c.args.steps.now c.convert_from.new.steps c.convert_from.ensures.cost)

pub convert_from-requires-clause-small : goal.convert_from-requires-clause-small
convert_from-requires-clause-small g c =
    few_levels g.F.Field.is_element g.F.Field.coding.ops g.met.F.Field.lawful.field g.F.Field.COUNT
    g.F.Field.coding.point_of g.met.F.Field.lawful.points g.F.Subspaces.LEVELS g.F.Subspaces.factor
    g.F.Subspaces.inverse g.met.F.Subspaces.subspaces

pub returns-clause-zeros : goal.returns-clause-zeros
returns-clause-zeros g c = c.convert_from.ensures.zeros

pub returns-clause-elements : goal.returns-clause-elements
returns-clause-elements g c = c.convert_from.ensures.elements
