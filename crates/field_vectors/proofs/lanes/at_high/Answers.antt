use Rattle.field_vectors.proofs.LaneMaps.{nibbles_high, swizzled_high}
use Rattle.field_vectors.proofs.lanes.at_high.Goals as goal

pub swizzle : goal.swizzle
swizzle c = nibbles_high c.args.v c.fits-v.0 c.fits-v.1

pub returns : goal.returns
returns c = λ entries spread. swizzled_high entries c.args.table c.args.v spread c.fits-v.0 c.fits-v.1
