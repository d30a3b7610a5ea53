use Rattle.std.proofs.Common.{◌≡◌, ◌/◌, ◌%◌, bit_xor, bit_and, refl, ap, ◌∙◌, arith}
use Rattle.std.proofs.lemmas.List.{length-set}
use Rattle.field_elements.specs.BinaryField.{times}
use Rattle.field_vectors.proofs.LaneMaps.{mask_255}
use Rattle.field_rows.specs.laws.PlaceLaws.{filled}
use Rattle.field_vectors.specs.laws.NibbleLaws.{sixteen, picked}
use Rattle.field_vectors.proofs.nibbles.nibble_products.Goals as goal

pub loop-n-preserved : goal.loop-n-preserved
loop-n-preserved c =
    let d = c.args.degree in
    let m = c.args.modulus in
    let x = c.args.x in
    let n = c.loop-n.n in
    let v = bit_xor
    (bit_xor (bit_xor c.pick.result c.pick-in-loop-n.result) c.pick-in-loop-n-2.result) c.pick-in-loop-n-3.result in
    let e : v ≡ times d m x n =
    picked d m c.requires.modulus c.requires.wide x c.double-x2.result c.double-x4.result c.double-x8.result
    c.requires.element c.double-x2.ensures.product c.double-x4.ensures.product c.double-x8.ensures.product n
    c.pick.result c.pick-in-loop-n.result c.pick-in-loop-n-2.result c.pick-in-loop-n-3.result (omega arith)
    c.pick.ensures c.pick-in-loop-n.ensures c.pick-in-loop-n-2.ensures c.pick-in-loop-n-3.ensures in
    record {
      long_low = length-set c.loop-n.low n (bit_and v 255) ∙ c.loop-n.invariant.long_low;
      long_high = length-set c.loop-n.high n (v / 256) ∙ c.loop-n.invariant.long_high;
      low =
          filled (λ k. times d m x k % 256) 0 c.loop-n.low n (bit_and v 255) (omega arith) c.loop-n.invariant.low
          (mask_255 v ∙ ap (λ t. t % 256) e);
      high =
          filled (λ k. times d m x k / 256) 0 c.loop-n.high n (v / 256) (omega arith) c.loop-n.invariant.high
          (ap (λ t. t / 256) e);
    }

pub returns : goal.returns
returns c =
    record {
      below = c.double-next.ensures.below;
      next = sixteen c.args.degree c.args.modulus c.requires.modulus c.requires.wide c.args.x c.double-x2.result
          c.double-x4.result c.double-x8.result c.requires.element c.double-x2.ensures.product
          c.double-x4.ensures.product c.double-x8.ensures.product c.double-next.result c.double-next.ensures.product;
      low = λ n l. c.loop-n.invariant.low n (omega arith);
      high = λ n l. c.loop-n.invariant.high n (omega arith);
    }

pub loop-n-init : goal.loop-n-init
loop-n-init c =
    record { long_low = refl; long_high = refl; low = λ k l. absurd (omega arith); high = λ k l. absurd (omega arith) }
