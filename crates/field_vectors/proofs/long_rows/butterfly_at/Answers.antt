use Rattle.std.proofs.Common.{◌≡◌, ◌∙◌, ◌+◌, length, get_or, sym, arith}
use Rattle.field_vectors.specs.laws.LaneLaws.{added_lane, length_added, length_sums, sum_lane}
use Rattle.field_vectors.proofs.long_rows.butterfly_at.Goals as goal

pub store-requires : goal.store-requires
store-requires g c =
    let L = g.P.Prepared.lanes in
    record {
      long =
          length_added g.P.Prepared.ops.plus (g.P.Prepared.ops.times (g.P.Prepared.factor c.args.by.now))
          (L c.load.result) (L c.load-from.result) (L c.products.result) (L c.add-sum.result) c.load.ensures.long
          c.load-from.ensures.long c.products.ensures c.add-sum.ensures;
      place = omega (arith, c.requires.same, c.requires.place);
    }

pub store-requires-2 : goal.store-requires-2
store-requires-2 g c =
    let L = g.P.Prepared.lanes in
    let o = g.P.Prepared.ops in
    record {
      long = length_sums o.plus (L c.load-from.result) (L c.add-sum.result) (L c.add.result) c.load-from.ensures.long
          (length_added o.plus (o.times (g.P.Prepared.factor c.args.by.now)) (L c.load.result) (L c.load-from.result)
          (L c.products.result) (L c.add-sum.result) c.load.ensures.long c.load-from.ensures.long c.products.ensures
          c.add-sum.ensures)
          c.add.ensures;
      place = c.requires.place;
    }

pub returns-clause-low : goal.returns-clause-low
returns-clause-low g c k l m =
    let o = g.P.Prepared.ops in
    let z = o.nought in
    let L = g.P.Prepared.lanes in
    let from = c.load-from in
    let to = c.load in
    let at = c.args.at + k in
    c.store.ensures.inside k l (omega (arith, c.requires.same))
    ∙ added_lane z k l o.plus (o.times (g.P.Prepared.factor c.args.by.now)) (get_or c.args.low.now at z)
    (get_or c.args.high.now at z) (L to.result) (L from.result) (L c.products.result) (L c.add-sum.result)
    to.ensures.long from.ensures.long c.products.ensures c.add-sum.ensures (to.ensures.lanes k l)
    (from.ensures.lanes k l)

pub returns-clause-high : goal.returns-clause-high
returns-clause-high g c k l m =
    let o = g.P.Prepared.ops in
    let z = o.nought in
    let L = g.P.Prepared.lanes in
    let from = c.load-from in
    let at = c.args.at + k in
    let long : length (L c.add-sum.result) ≡ 32 =
    length_added o.plus (o.times (g.P.Prepared.factor c.args.by.now)) (L c.load.result) (L from.result)
    (L c.products.result) (L c.add-sum.result) c.load.ensures.long from.ensures.long c.products.ensures
    c.add-sum.ensures in
    c.store-2.ensures.inside k l m
    ∙ sum_lane z k l o.plus (get_or c.args.high.now at z) (get_or c.store.new.rows at z) (L from.result)
    (L c.add-sum.result) (L c.add.result) from.ensures.long long c.add.ensures
    (from.ensures.lanes k l) (sym (c.store.ensures.inside k l (omega (arith, c.requires.same))))
