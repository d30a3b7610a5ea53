-- What the private parts that append the runs keep to (this project's own).
use Rattle.std.specs.Prelude.{◌≡◌, ℕ, ◌+◌, ◌<◌, ◌≤◌, ◌==◌, if◌then◌else◌, List, [], length, map, take, slice_index_or}
use Rattle.pet_base.specs.declared.limits.TheConstants.{MAX_LAYERS}
use Rattle.layer_split.specs.declared.run_table.NamedRun.{NamedRun}
use Rattle.layer_split.specs.Layers.{run_table_size}
use Rattle.layer_split.specs.RunTable.{run_count, named_run, named_runs, bytes_in}
use Rattle.reassemble.specs.Video.{start_of}
use Rattle.reassemble.specs.declared.leading.ShownLayer.{ShownLayer}

abbrev pub bytes_each : List ShownLayer → List (List ℕ)
bytes_each layers = map (λ layer. layer.bytes.now) layers

-- layer 0, which begins with the run table
abbrev pub first_of : List (List ℕ) → List ℕ
first_of layers = slice_index_or layers 0 []

-- how far a layer is taken with the first i runs, where layer 0 begins with these bytes
abbrev pub taken_of : List ℕ → ℕ → ℕ → ℕ
taken_of first i layer =
    (if layer == 0 then run_table_size (run_count first) else 0) + bytes_in layer (take i (named_runs first))

-- each run of one of these layers lies in it
abbrev pub HaveRoom : List (List ℕ) → Type 0
HaveRoom layers =
    (i : ℕ) → i < run_count (first_of layers) → (named_run (first_of layers) i).layer < length layers
    → start_of (first_of layers) i + (named_run (first_of layers) i).len
    ≤ length (slice_index_or layers (named_run (first_of layers) i).layer [])

-- the runs are all that layer 0 names, and each of them that is of one of these layers lies in it
pub record CanAppend (runs : List NamedRun) (layers : List ShownLayer) : Type 0 where
  pub some : 0 < length layers
  pub few : length layers ≤ MAX_LAYERS
  pub named : runs ≡ named_runs (first_of (bytes_each layers))
  pub room : HaveRoom (bytes_each layers)
