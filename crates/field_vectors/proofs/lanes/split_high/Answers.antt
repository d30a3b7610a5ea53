use Rattle.std.proofs.Common.{◌∙◌}
use Rattle.std.proofs.lemmas.List.{map-id}
use Rattle.std.proofs.lemmas.Simd.{zip2_splat}
use Rattle.field_vectors.proofs.LaneMaps.{high_fits, down}
use Rattle.field_vectors.proofs.lanes.split_high.Goals as goal

pub overflow_cast-result : goal.overflow_cast-result
overflow_cast-result c = high_fits c.args.v c.fits-v.1

pub returns : goal.returns
returns c = map-id _ ∙ zip2_splat down c.args.v 32 8 c.fits-v.0
