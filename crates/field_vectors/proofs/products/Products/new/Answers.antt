use Rattle.std.proofs.Common.{arith}
use Rattle.field_vectors.proofs.FourPlaces.{are_products}
use Rattle.field_vectors.proofs.products.Products.new.Goals as goal

pub invariant_of-result : goal.invariant_of-result
invariant_of-result c =
    let a = c.word_products-x1 in
    let b = c.word_products-x2 in
    let d = c.word_products-x3 in
    let e = c.word_products in
    record {
      right =
          are_products c.args.factor a.result.next b.result.next d.result.next a.result.low b.result.low d.result.low
          e.result.low a.result.high b.result.high d.result.high e.result.high
          (omega (arith, c.ranges.factor.fits)) a.ensures.next b.ensures.next d.ensures.next a.ensures.low
          a.ensures.high b.ensures.low b.ensures.high d.ensures.low d.ensures.high e.ensures.low e.ensures.high;
    }
