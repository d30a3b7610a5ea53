use Rattle.std.proofs.Common.{◌-◌, ◌^◌, ◌+◌, ◌*◌, ◌≡◌, ap, subst, arith}
use Rattle.field_transform.specs.inside.Columnwise.{Columnwise, Scales}
use Rattle.field_transform.proofs.Columns.{converts_columns, converts_none_columns}
use Rattle.field_transform.proofs.Counting.{convert_cost, convert_none_cost}
use Rattle.field_transform.proofs.conversion.+convert_from.Goals as goal

pub returns-then-level-gt0-clause-coefficients : goal.returns-then-level-gt0-clause-coefficients
returns-then-level-gt0-clause-coefficients g t c =
    let n = c.args.level in
    let j = c.args.shift in
    let e1 : j + (n - 1) + 1 ≡ j + n = omega arith in
    let e2 : j + 1 + (n - 1) ≡ j + n = omega arith in
    let o = g.F.Field.coding.ops in
    converts_columns o g.F.Subspaces.factor c.args.width n (n - 1) j c.factor_at.result (2 ^ (j + n))
    (2 ^ (j + (n - 1) + 1)) (2 ^ (j + 1 + (n - 1))) c.args.rows.now
    c.expand.new.rows c.scale.new.rows c.convert_from.new.rows (omega arith) (ap (λ k. 2 ^ k) e1)
    (ap (λ k. 2 ^ k) e2) c.factor_at.ensures.factor c.expand.ensures.expanded
    (subst (λ a. Columnwise o.nought (Scales o (j + 1) (n - 1) c.factor_at.result a) c.args.width
    (2 ^ (j + 1 + (n - 1))) c.expand.new.rows c.scale.new.rows)
    c.one.ensures.one c.scale.ensures.products)
    c.convert_from.ensures.coefficients

pub returns-else-level-gt0-clause-coefficients : goal.returns-else-level-gt0-clause-coefficients
returns-else-level-gt0-clause-coefficients g t c =
    converts_none_columns g.F.Field.coding.ops g.F.Subspaces.factor c.args.width c.args.level c.args.shift
    (2 ^ (c.args.shift + c.args.level)) c.args.rows.now (omega arith)

pub returns-then-level-gt0-clause-cost : goal.returns-then-level-gt0-clause-cost
returns-then-level-gt0-clause-cost g t c =
    convert_cost c.args.level (c.args.level - 1) c.args.shift c.args.width c.args.known c.args.steps.now
    c.scale.new.steps c.convert_from.new.steps (omega arith)
    c.scale.ensures.cost c.convert_from.ensures.cost

pub returns-else-level-gt0-clause-cost : goal.returns-else-level-gt0-clause-cost
returns-else-level-gt0-clause-cost g t c =
    convert_none_cost c.args.level (2 ^ c.args.shift * c.args.width) c.args.known c.args.steps.now (omega arith)

pub returns-then-level-gt0-clause-zeros : goal.returns-then-level-gt0-clause-zeros
returns-then-level-gt0-clause-zeros g t c = c.convert_from.ensures.zeros

pub returns-then-level-gt0-clause-elements : goal.returns-then-level-gt0-clause-elements
returns-then-level-gt0-clause-elements g t c = c.convert_from.ensures.elements

pub returns-else-level-gt0-clause-zeros : goal.returns-else-level-gt0-clause-zeros
returns-else-level-gt0-clause-zeros g t c = c.requires.zeros

pub returns-else-level-gt0-clause-elements : goal.returns-else-level-gt0-clause-elements
returns-else-level-gt0-clause-elements g t c = c.requires.elements
