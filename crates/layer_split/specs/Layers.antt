-- The layers of a group and its message (this project's own): each layer is its runs on end, and layer 0 begins with
-- the run table.
use Rattle.std.specs.Prelude.{ℕ, ◌+◌, ◌*◌, ◌%◌, List, [], ◌∷◌, ◌++◌, length, map, take, drop, ◌==◌, if◌then◌else◌}
use Rattle.std.specs.List.{filter, flat_map, sum_by, range_with_len}
use Rattle.std.specs.Int.{to_be_bytes, w32}
use Rattle.pet_base.specs.declared.kind.Kind.{Kind}
use Rattle.mpeg_scan.specs.declared.piece.Piece.{Piece}
use Rattle.layer_split.specs.declared.cut.Run.{Run}
use Rattle.layer_split.specs.Runs.{runs_of}

-- a run's entry in the run table: its layer and its length, big-endian
abbrev pub run_entry : Run → List ℕ
run_entry run = run.layer ∷ to_be_bytes w32 run.len

-- the run table: the number of runs, and each run's entry
abbrev pub run_table : List Run → List ℕ
run_table runs = to_be_bytes w32 (length runs) ++ flat_map run_entry runs

abbrev pub run_table_size : ℕ → ℕ
run_table_size runs = 4 + 5 * runs

abbrev pub runs_in : ℕ → List Run → List Run
runs_in layer runs = filter (λ run. run.layer == layer) runs

abbrev pub bytes_of_run : List ℕ → Run → List ℕ
bytes_of_run stream run = take run.len (drop run.at stream)

-- a layer's bytes
abbrev pub layer_bytes : List ℕ → List Run → ℕ → List ℕ
layer_bytes stream runs layer =
    (if layer == 0 then run_table runs else []) ++ flat_map (bytes_of_run stream) (runs_in layer runs)

-- and how many they are
abbrev pub layer_length : List Run → ℕ → ℕ
layer_length runs layer =
    (if layer == 0 then run_table_size (length runs) else 0) + sum_by (λ run. run.len) (runs_in layer runs)

abbrev pub lengths_of : List Run → ℕ → List ℕ
lengths_of runs layers = map (layer_length runs) (range_with_len 0 layers)

-- whole words of `word` bytes, one or two: an odd end of words of two is filled with one byte 0
abbrev pub padded_by : ℕ → List ℕ → List ℕ
padded_by word bytes = if length bytes % word == 1 then bytes ++ 0 ∷ [] else bytes

-- the layers' bytes in order, each in whole words
abbrev pub message_by : ℕ → List ℕ → List Run → ℕ → List ℕ
message_by word stream runs layers =
    flat_map (λ layer. padded_by word (layer_bytes stream runs layer)) (range_with_len 0 layers)

-- the same in words of two bytes
abbrev pub padded : List ℕ → List ℕ
padded bytes = padded_by 2 bytes

abbrev pub message : List ℕ → List Run → ℕ → List ℕ
message stream runs layers = message_by 2 stream runs layers

-- what a group is cut into: its runs, and the lengths of its layers
pub record Cut : Type 0 where
  pub runs : List Run
  pub lengths : List ℕ

abbrev pub cut_of : (Kind → ℕ → ℕ) → ℕ → List Piece → Cut
cut_of layer_of layers group =
    let runs = runs_of layer_of group in record { runs = runs; lengths = lengths_of runs layers }
