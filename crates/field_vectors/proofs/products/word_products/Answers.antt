use Rattle.std.proofs.Common.{arith}
use Rattle.field_elements.specs.laws.Gf16Laws.{gf16_modulus}
use Rattle.field_vectors.proofs.products.word_products.Goals as goal

pub nibble_products-requires : goal.nibble_products-requires
nibble_products-requires c =
    record {
      modulus = gf16_modulus;
      wide = omega arith;
      narrow = omega arith;
      element = omega (arith, c.ranges.x.fits);
    }
