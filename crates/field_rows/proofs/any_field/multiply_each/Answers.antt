use Rattle.std.proofs.Common.{◌≡◌, ◌<◌, length, get_or, refl, ap, ◌∙◌, arith}
use Rattle.std.proofs.lemmas.List.{length-set, get_or-set_other, get_or_default}
use Rattle.field_rows.specs.laws.PlaceLaws.{filled}
use Rattle.field_rows.proofs.AnyField.{all_from}
use Rattle.field_rows.proofs.any_field.multiply_each.Goals as goal

pub loop-c-preserved : goal.loop-c-preserved
loop-c-preserved g c =
    let o = g.F.Field.coding.ops in
    let z = o.nought in
    let old = c.args.row.now in
    let row = c.loop-c.row in
    let n = c.loop-c.c in
    let e = c.index-row-c.result in
    let x = c.args.factor in
    let read : e ≡ get_or old n z = c.index-row-c.is
    ∙ get_or_default row n e z (omega (arith, c.loop-c.invariant.long)) ∙ c.loop-c.invariant.rest n (omega arith) in
    record {
      long = length-set row n c.mul.result ∙ c.loop-c.invariant.long;
      done =
          filled (λ k. o.times x (get_or old k z)) z row n c.mul.result
          (omega (arith, c.loop-c.invariant.long)) c.loop-c.invariant.done
          (c.mul.ensures.product ∙ ap (o.times x) read);
      rest = λ k l. get_or-set_other row n k c.mul.result z (λ q. absurd (omega arith))
          ∙ c.loop-c.invariant.rest k (omega arith);
      cost = omega (arith, c.mul.ensures.cost, c.loop-c.invariant.cost);
    }

pub returns-clause-elements : goal.returns-clause-elements
returns-clause-elements g c =
    let F = g.F.Field in
    all_from F.is_element F.coding.ops.nought c.loop-c.row
    (λ k l.
    let m : k < length c.args.row.now = omega (arith, c.loop-c.invariant.long) in
    rw (c.loop-c.invariant.done k (omega arith))
    (g.met.F.Field.lawful.field.times_is c.args.factor (get_or c.args.row.now k F.coding.ops.nought) c.requires.factor
    (c.requires.elements k F.coding.ops.nought m)))

pub loop-c-init : goal.loop-c-init
loop-c-init g c = record { long = refl; done = λ k l. absurd (omega arith); rest = λ k l. refl; cost = omega arith }

pub returns-clause-products : goal.returns-clause-products
returns-clause-products g c = λ k l. c.loop-c.invariant.done k (omega arith)

pub mul-requires : goal.mul-requires
mul-requires g c =
    let z = g.F.Field.coding.ops.nought in
    let row = c.loop-c.row in
    let n = c.loop-c.c in
    let e = c.index-row-c.result in
    let l : n < length c.args.row.now = omega (arith, c.loop-c.invariant.long) in
    record {
      first = c.requires.factor;
      second =
          rw (c.index-row-c.is ∙ get_or_default row n e z (omega (arith, c.loop-c.invariant.long))
          ∙ c.loop-c.invariant.rest n (omega arith)) (c.requires.elements n z l);
    }
