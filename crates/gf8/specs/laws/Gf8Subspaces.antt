-- The field of 256 elements has subspaces: its constants, for up to 128 points, are checked level by level.
use Rattle.std.proofs.Common.{◌≡◌, ◌<◌, true, refl, arith}
use Rattle.field_elements.specs.BinaryField.{times}
use Rattle.field_elements.specs.Carryless.{product_of_bits, remainder_of_bits}
use Rattle.field_transform.specs.Subspaces.{HasSubspaces}
use Rattle.field_transform.specs.laws.BinarySubspaces.{are_right, has_subspaces}
use Rattle.gf8.specs.Constants.{factor, inverse}
use Rattle.gf8.specs.Gf8.{gf8}
use Rattle.gf8.specs.laws.Gf8Laws.{gf8_field}

all_right : are_right 8 0x11D factor inverse 7 ≡ true
unfolding are_right factor inverse times product_of_bits remainder_of_bits
all_right = refl

pub gf8_subspaces : HasSubspaces (λ a. a < 256) gf8 256 (λ i. i) 8 factor inverse
gf8_subspaces = has_subspaces 8 0x11D factor inverse 7 gf8_field (omega arith) (omega arith) all_right
