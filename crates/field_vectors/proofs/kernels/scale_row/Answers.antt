use Rattle.std.proofs.Common.{get_or, ap, ◌∙◌, arith}
use Rattle.field_vectors.specs.laws.LaneLaws.{product_lane}
use Rattle.field_vectors.proofs.kernels.scale_row.Goals as goal

pub returns : goal.returns
returns g c i l =
    let o = g.P.Prepared.ops in
    let z = o.nought in
    let L = g.P.Prepared.lanes in
    let v = c.load-v in
    c.unload.ensures i l
    ∙ product_lane z i (omega arith) (o.times (g.P.Prepared.factor c.args.by.now)) (get_or c.args.row.now i z)
    (L v.result) (L c.products.result) v.ensures.long c.products.ensures
    (v.ensures.lanes i (omega arith) ∙ ap (λ k. get_or c.args.row.now k z) (omega arith))
