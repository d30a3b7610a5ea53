-- The field of 65,536 elements has subspaces: its constants, for up to 2 to the power 15 points, are checked level by
-- level.
use Rattle.std.proofs.Common.{◌≡◌, ◌<◌, true, refl, arith}
use Rattle.field_elements.specs.BinaryField.{times}
use Rattle.field_elements.specs.Carryless.{product_of_bits, remainder_of_bits}
use Rattle.field_elements.specs.Gf16.{gf16}
use Rattle.field_elements.specs.laws.Gf16Laws.{gf16_field}
use Rattle.field_transform.specs.Constants.{factor, inverse}
use Rattle.field_transform.specs.Subspaces.{HasSubspaces}
use Rattle.field_transform.specs.laws.BinarySubspaces.{are_right, has_subspaces}

all_right : are_right 16 0x1100B factor inverse 15 ≡ true
unfolding are_right factor inverse times product_of_bits remainder_of_bits
all_right = refl

pub gf16_subspaces : HasSubspaces (λ a. a < 65536) gf16 65536 (λ i. i) 16 factor inverse
gf16_subspaces = has_subspaces 16 0x1100B factor inverse 15 gf16_field (omega arith) (omega arith) all_right
