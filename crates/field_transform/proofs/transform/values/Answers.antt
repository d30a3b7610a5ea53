use Rattle.std.proofs.Common.{ℕ, ◌<◌, ◌^◌, ◌*◌, ◌+◌, ◌∙◌, arith}
use Rattle.field_transform.specs.laws.PaddedLaws.{padded_value}
use Rattle.field_transform.proofs.Columns.{in_coset}
use Rattle.field_transform.proofs.Counting.{whole_cost, fewer}
use Rattle.field_transform.proofs.transform.values.Goals as goal

pub returns : goal.returns
returns g c =
    let F = g.F.Field in
    let o = F.coding.ops in
    let f = g.met.F.Field.lawful.field in
    let n = c.args.level in
    let a = c.args.block in
    let point : (p : ℕ) → p < c.args.count → F.is_element (F.coding.point_of (a * 2 ^ n + p)) =
    λ p lp. g.met.F.Field.lawful.points.point_is (a * 2 ^ n + p)
    (in_coset F.is_element o f F.COUNT F.coding.point_of g.met.F.Field.lawful.points g.F.Subspaces.LEVELS
    g.F.Subspaces.factor g.F.Subspaces.inverse g.met.F.Subspaces.subspaces n a p c.requires.few c.requires.block
    (omega (arith, c.requires.count))) in
    let bounded = whole_cost n c.args.known c.args.width c.args.steps.now c.convert.new.steps
    c.values_at_coset.new.steps c.convert.ensures.bounded c.values_at_coset.ensures.bounded in
    record {
      values = λ p i lp l. c.values_at_coset.ensures.values p i lp l
          ∙ c.convert.ensures.coefficients i (F.coding.point_of (a * 2 ^ n + p)) l (point p lp);
      padded = λ k p i few lp l zeros. c.values_at_coset.ensures.values p i lp l
          ∙ c.convert.ensures.coefficients i (F.coding.point_of (a * 2 ^ n + p)) l (point p lp)
          ∙ padded_value F.is_element o f c.args.width (2 ^ n) k i (F.coding.point_of (a * 2 ^ n + p)) c.args.rows.now l few
          (point p lp) zeros;
      elements = c.values_at_coset.ensures.elements;
      cost = omega (arith, c.convert.ensures.cost, c.values_at_coset.ensures.cost);
      bounded = bounded;
      fewer = λ l some. fewer n c.args.known c.args.width c.args.steps.now c.values_at_coset.new.steps _ l some
          c.requires.known c.requires.size bounded;
    }
