use Rattle.std.proofs.Common.{◌≡◌, ◌%◌, ◌<◌, ℕ, arith, ap, ◌∙◌}
use Rattle.field_vectors.specs.laws.NibbleLaws.{placed}
use Rattle.gf8.specs.Gf8.{gf8}
use Rattle.gf8.specs.laws.Gf8Laws.{gf8_field, gf8_modulus}
use Rattle.gf8.proofs.products.ByteProducts.new.Goals as goal

pub nibble_products-first-requires : goal.nibble_products-first-requires
nibble_products-first-requires c =
    record {
      modulus = gf8_modulus;
      wide = omega arith;
      narrow = omega arith;
      element = omega (arith, c.from.ensures, c.ranges.factor.fits);
    }

pub nibble_products-second-requires : goal.nibble_products-second-requires
nibble_products-second-requires c =
    record {
      modulus = gf8_modulus;
      wide = omega arith;
      narrow = omega arith;
      element = c.nibble_products-first.ensures.below;
    }

-- the low byte of a product is the product
whole : (x n : ℕ) → x < 256 → n < 16 → gf8.times x n % 256 ≡ gf8.times x n
whole x n h l = omega (arith, gf8_field.times_is x n h (omega arith))

pub invariant_of-result : goal.invariant_of-result
invariant_of-result c =
    let a = c.nibble_products-first in
    let b = c.nibble_products-second in
    let x = c.args.factor in
    let small : x < 256 = omega (arith, c.ranges.factor.fits) in
    let e : c.from.result ≡ x = c.from.ensures in
    record {
      right = record {
        element = small;
        low_is = λ n l. a.ensures.low n l ∙ ap (λ t. gf8.times t n % 256) e ∙ whole x n small l;
        high_is = λ n l. b.ensures.low n l ∙ whole a.result.next n a.ensures.below l
            ∙ placed 8 0x11D gf8_modulus (omega arith) x a.result.next 4 n small (omega arith) (omega arith)
            (omega arith) (a.ensures.next ∙ ap (λ t. gf8.times t 16) e);
      };
    }
