-- The video of a group, of which the leading layers are there: their runs, in the order of the stream. This project's
-- own.
use Rattle.std.specs.Prelude.{ℕ, ◌+◌, ◌==◌, if◌then◌else◌, List, [], ◌∷◌, take, drop, slice_index_or}
use Rattle.std.specs.List.{flat_map, range_with_len}
use Rattle.layer_split.specs.Layers.{run_table_size}
use Rattle.layer_split.specs.RunTable.{run_count, named_run, named_runs, bytes_in}

-- where the run of this number begins in its layer: behind the runs of the layer before it, and in layer 0 behind the
-- run table
abbrev pub start_of : List ℕ → ℕ → ℕ
start_of first i =
    (if (named_run first i).layer == 0 then run_table_size (run_count first) else 0)
    + bytes_in (named_run first i).layer (take i (named_runs first))

-- its bytes, where its layer is one of these, and else nothing
abbrev pub run_bytes : List (List ℕ) → List ℕ → ℕ → List ℕ
run_bytes layers first i =
    take (named_run first i).len (drop (start_of first i) (slice_index_or layers (named_run first i).layer []))

-- the video of a group whose leading layers have these bytes, layer 0 first, which begins with the run table
unfoldable pub group_video : List (List ℕ) → List ℕ
group_video [] = []
group_video (first ∷ more) = flat_map (run_bytes (first ∷ more) first) (range_with_len 0 (run_count first))
