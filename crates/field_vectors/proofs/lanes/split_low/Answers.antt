use Rattle.std.proofs.Common.{◌∙◌}
use Rattle.std.proofs.lemmas.List.{map-id}
use Rattle.field_vectors.proofs.LaneMaps.{low_fits, and_splat, mask_255}
use Rattle.field_vectors.proofs.lanes.split_low.Goals as goal

pub overflow_cast-result : goal.overflow_cast-result
overflow_cast-result c = low_fits c.args.v

pub returns : goal.returns
returns c = map-id _ ∙ and_splat c.args.v 32 255 256 c.fits-v.0 mask_255
