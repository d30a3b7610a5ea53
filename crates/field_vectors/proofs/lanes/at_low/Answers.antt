use Rattle.field_vectors.proofs.LaneMaps.{nibbles_low, swizzled_low}
use Rattle.field_vectors.proofs.lanes.at_low.Goals as goal

pub swizzle : goal.swizzle
swizzle c = nibbles_low c.args.v c.fits-v.0

pub returns : goal.returns
returns c = λ entries spread. swizzled_low entries c.args.table c.args.v spread c.fits-v.0
