use Rattle.std.proofs.Common.{◌∙◌, ◌+◌, get_or}
use Rattle.field_vectors.specs.laws.LaneLaws.{product_lane, length_products}
use Rattle.field_vectors.proofs.long_rows.multiply_at.Goals as goal

pub store-requires : goal.store-requires
store-requires g c =
    let f = g.P.Prepared.ops.times (g.P.Prepared.factor c.args.by.now) in
    record {
      long = length_products f (g.P.Prepared.lanes c.load.result) (g.P.Prepared.lanes c.products.result)
          c.load.ensures.long c.products.ensures;
      place = c.requires;
    }

pub returns-clause-inside : goal.returns-clause-inside
returns-clause-inside g c k l m =
    let o = g.P.Prepared.ops in
    let z = o.nought in
    c.store.ensures.inside k l m
    ∙ product_lane z k l (o.times (g.P.Prepared.factor c.args.by.now)) (get_or c.args.row.now (c.args.at + k) z)
    (g.P.Prepared.lanes c.load.result) (g.P.Prepared.lanes c.products.result) c.load.ensures.long
    c.products.ensures (c.load.ensures.lanes k l)
