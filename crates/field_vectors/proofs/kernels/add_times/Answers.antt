use Rattle.std.proofs.Common.{get_or, ◌+◌, ◌∙◌, refl}
use Rattle.field_vectors.specs.laws.LaneLaws.{added_lane, length_added}
use Rattle.field_vectors.proofs.kernels.add_times.Goals as goal

pub store-requires : goal.store-requires
store-requires g c =
    let p = g.P.Prepared in
    record {
      long =
          length_added p.ops.plus (p.ops.times (p.factor c.args.by.now)) (p.lanes c.load.result)
          (p.joined c.args.from) (p.lanes c.join-multiples.result) (p.lanes c.add.result) c.load.ensures.long
          c.requires.long (c.join-multiples.ensures ∙ c.times.ensures) c.add.ensures;
      place = c.requires.place;
    }

pub returns-clause-inside : goal.returns-clause-inside
returns-clause-inside g c k l m =
    let p = g.P.Prepared in
    let z = p.ops.nought in
    c.store.ensures.inside k l m
    ∙ added_lane z k l p.ops.plus (p.ops.times (p.factor c.args.by.now)) (get_or c.args.rows.now (c.args.at + k) z)
    (get_or (p.joined c.args.from) k z) (p.lanes c.load.result) (p.joined c.args.from)
    (p.lanes c.join-multiples.result) (p.lanes c.add.result) c.load.ensures.long c.requires.long
    (c.join-multiples.ensures ∙ c.times.ensures) c.add.ensures (c.load.ensures.lanes k l) refl
