-- The runs that a run table at the front of layer 0 names, and when such a table fits the layers (this project's own).
use Rattle.std.specs.Prelude.{ℕ, ◌+◌, ◌-◌, ◌*◌, Bool, true, not, ◌&&◌, ◌==◌, nat_lt, nat_le, List, [], ◌∷◌, length, map}
use Rattle.std.specs.Prelude.{slice_index}
use Rattle.std.specs.List.{filter, sum_by, list_all, range_with_len}
use Rattle.std.specs.Int.{from_be_bytes, w32}
use Rattle.layer_split.specs.declared.run_table.NamedRun.{NamedRun}
use Rattle.layer_split.specs.Layers.{run_table_size}

-- the big-endian number in the four bytes from here on
abbrev pub number_at : List ℕ → ℕ → ℕ
number_at bytes at =
    from_be_bytes w32
    (slice_index bytes at ∷ slice_index bytes (at + 1) ∷ slice_index bytes (at + 2) ∷ slice_index bytes (at + 3) ∷ [])

abbrev pub run_count : List ℕ → ℕ
run_count bytes = number_at bytes 0

-- the run of one entry
abbrev pub named_run : List ℕ → ℕ → NamedRun
named_run bytes i = record { layer = slice_index bytes (4 + 5 * i); len = number_at bytes (5 + 5 * i) }

abbrev pub named_runs : List ℕ → List NamedRun
named_runs bytes = map (named_run bytes) (range_with_len 0 (run_count bytes))

-- the table is there, whole
abbrev pub has_table : List ℕ → Bool
has_table bytes = nat_le 4 (length bytes) && nat_le (run_table_size (run_count bytes)) (length bytes)

-- its layer is one of so many, and it has a byte
abbrev pub is_run : ℕ → NamedRun → Bool
is_run layers run = nat_lt run.layer layers && nat_lt 0 run.len

-- no run is of the layer of the run before it, the first one of this
abbrev pub alternates_behind : ℕ → List NamedRun → Bool
alternates_behind layer [] = true
alternates_behind layer (run ∷ later) = not (run.layer == layer) && alternates_behind run.layer later

-- no two adjacent runs are of one layer; no run is of layer 256
abbrev pub alternates : List NamedRun → Bool
alternates runs = alternates_behind 256 runs

-- the bytes of a layer's runs
abbrev pub bytes_in : ℕ → List NamedRun → ℕ
bytes_in layer runs = sum_by (λ run. run.len) (filter (λ run. run.layer == layer) runs)

-- the runs of layer 0 fill it behind the table
abbrev pub fills_layer_0 : ℕ → List NamedRun → Bool
fills_layer_0 len runs = run_table_size (length runs) + bytes_in 0 runs == len

-- the runs of each other layer have its length
abbrev pub fills_others : List ℕ → List NamedRun → Bool
fills_others lengths runs =
    list_all (λ layer. bytes_in layer runs == slice_index lengths layer) (range_with_len 1 (length lengths - 1))

-- the runs are those of layers of these lengths, where layer 0 has so many bytes
abbrev pub are_of : ℕ → List ℕ → List NamedRun → Bool
are_of len lengths runs =
    list_all (is_run (length lengths)) runs
    && (alternates runs && (fills_layer_0 len runs && fills_others lengths runs))

-- layer 0 with these bytes has a run table that fits layers of these lengths
abbrev pub fits : List ℕ → List ℕ → Bool
fits bytes lengths = has_table bytes && are_of (length bytes) lengths (named_runs bytes)
