-- For callers: the counts of all layers are those of each.
use Rattle.std.proofs.Common.{◌≡◌, ℕ, ◌<◌, List, length, get_or, arith}
use Rattle.std.proofs.lemmas.List.FromFn.{length-map-range_with_len, get_or-map-range_with_len}
use Rattle.stripe_plan.specs.declared.layer.LayerSize.{LayerSize}
use Rattle.stripe_plan.specs.Layers.{count_of, counts_of}

pub length-counts_of : (layers : List LayerSize) → length (counts_of layers) ≡ length layers
length-counts_of layers = length-map-range_with_len (count_of layers) 0 (length layers)

pub count_at : (layers : List LayerSize) (layer d : ℕ) → layer < length layers
    → get_or (counts_of layers) layer d ≡ count_of layers layer
count_at layers layer d lt =
    get_or-map-range_with_len (count_of layers) 0 (length layers) layer layer d lt (omega arith)
