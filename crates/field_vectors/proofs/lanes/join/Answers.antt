use Rattle.std.proofs.Common.{◌∙◌, ap₂, bit_xor, replicate}
use Rattle.std.proofs.lemmas.List.{map-id}
use lib.Lanes.{zip2}
use Rattle.field_vectors.proofs.LaneMaps.{joined, up}
use Rattle.field_vectors.proofs.lanes.join.Goals as goal

pub returns : goal.returns
returns c =
    ap₂ (λ a b. zip2 bit_xor a (zip2 up b (replicate 32 8))) (map-id c.args.low) (map-id c.args.high)
    ∙ joined c.args.low c.args.high c.fits-high.0 c.fits-high.1
