use Rattle.std.proofs.Common.{arith}
use Rattle.pet_field.proofs.Order.{product_is}
use Rattle.pet_field.proofs.tables.twice.Goals as goal

pub returns : goal.returns
returns c =
    product_is 2 c.args.a c.multiply_modulo.result (omega arith) c.ranges.a.fits
    (rw c.from.ensures at c.multiply_modulo.ensures)
