use Rattle.std.proofs.Common.{◌∙◌, ◌+◌, get_or, arith}
use Rattle.field_vectors.specs.laws.LaneLaws.{added_lane, length_added}
use Rattle.field_vectors.proofs.long_rows.add_multiple_at.Goals as goal

pub store-requires : goal.store-requires
store-requires g c =
    let L = g.P.Prepared.lanes in
    record {
      long =
          length_added g.P.Prepared.ops.plus (g.P.Prepared.ops.times (g.P.Prepared.factor c.args.by.now))
          (L c.load-2.result) (L c.load.result) (L c.products-multiples.result) (L c.add.result) c.load-2.ensures.long
          c.load.ensures.long c.products-multiples.ensures c.add.ensures;
      place = omega (arith, c.requires.same, c.requires.place);
    }

pub returns-clause-inside : goal.returns-clause-inside
returns-clause-inside g c k l m =
    let o = g.P.Prepared.ops in
    let z = o.nought in
    let L = g.P.Prepared.lanes in
    let from = c.load in
    let to = c.load-2 in
    let at = c.args.at + k in
    c.store.ensures.inside k l (omega (arith, c.requires.same))
    ∙ added_lane z k l o.plus (o.times (g.P.Prepared.factor c.args.by.now)) (get_or c.args.into.now at z)
    (get_or c.args.other.now at z) (L to.result) (L from.result) (L c.products-multiples.result) (L c.add.result)
    to.ensures.long from.ensures.long c.products-multiples.ensures c.add.ensures (to.ensures.lanes k l)
    (from.ensures.lanes k l)
