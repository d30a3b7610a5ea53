use Rattle.std.proofs.Common.{◌+◌, ◌∙◌, ap, arith}
use Rattle.field_transform.specs.Steps.{products_of_values}
use Rattle.field_transform.proofs.Columns.{flown_columns}
use Rattle.field_transform.proofs.Counting.{values_most}
use Rattle.field_transform.proofs.Kernels.{shifted, few_levels}
use Rattle.field_transform.proofs.transform.values_at_coset.Goals as goal

pub returns-clause-values : goal.returns-clause-values
returns-clause-values g c p i lp l =
    let n = c.args.level in
    let a = c.args.block in
    flown_columns g.F.Field.is_element g.F.Field.coding.ops g.met.F.Field.lawful.field g.F.Field.COUNT
    g.F.Field.coding.point_of g.met.F.Field.lawful.points g.F.Subspaces.LEVELS g.F.Subspaces.factor
    g.F.Subspaces.inverse g.met.F.Subspaces.subspaces c.args.width n a _ c.args.count p i c.args.rows.now
    c.fly.new.rows
    (shifted g.F.Field.is_element g.F.Field.coding.ops g.met.F.Field.lawful.field g.F.Field.COUNT
    g.F.Field.coding.point_of g.met.F.Field.lawful.points g.F.Subspaces.LEVELS g.F.Subspaces.factor
    g.F.Subspaces.inverse g.met.F.Subspaces.subspaces a n c.requires.block) c.requires.few c.requires.block lp
    c.requires.count
    c.requires.elements c.requires.size l c.fly.ensures.values

pub returns-clause-cost : goal.returns-clause-cost
returns-clause-cost g c =
    c.fly.ensures.cost
    ∙ ap (λ x. c.args.steps.now + products_of_values c.args.width c.args.level x c.args.count)
    (shifted g.F.Field.is_element g.F.Field.coding.ops g.met.F.Field.lawful.field g.F.Field.COUNT
    g.F.Field.coding.point_of g.met.F.Field.lawful.points g.F.Subspaces.LEVELS g.F.Subspaces.factor
    g.F.Subspaces.inverse g.met.F.Subspaces.subspaces c.args.block c.args.level c.requires.block)

pub returns-clause-bounded : goal.returns-clause-bounded
returns-clause-bounded g c =
    values_most c.args.width c.args.level _ c.args.count c.args.steps.now c.fly.new.steps c.fly.ensures.cost

pub fly-requires-clause-small : goal.fly-requires-clause-small
fly-requires-clause-small g c =
    few_levels g.F.Field.is_element g.F.Field.coding.ops g.met.F.Field.lawful.field g.F.Field.COUNT
    g.F.Field.coding.point_of g.met.F.Field.lawful.points g.F.Subspaces.LEVELS g.F.Subspaces.factor
    g.F.Subspaces.inverse g.met.F.Subspaces.subspaces

pub overflow_shl-block : goal.overflow_shl-block
overflow_shl-block g c =
    omega (
      arith,
      few_levels g.F.Field.is_element g.F.Field.coding.ops g.met.F.Field.lawful.field g.F.Field.COUNT
          g.F.Field.coding.point_of g.met.F.Field.lawful.points g.F.Subspaces.LEVELS g.F.Subspaces.factor
          g.F.Subspaces.inverse g.met.F.Subspaces.subspaces,
      c.requires.few,
    )
