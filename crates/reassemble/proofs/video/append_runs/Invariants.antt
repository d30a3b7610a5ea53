use Rattle.std.proofs.Common.{◌≡◌, ℕ, ◌<◌, ◌++◌, length, get_or}
use Rattle.std.specs.List.{flat_map, range_with_len}
use Rattle.reassemble.specs.Video.{run_bytes}
use Rattle.reassemble.specs.inside.Taking.{bytes_each, first_of, taken_of}
use Rattle.reassemble.proofs.video.append_runs.Given as goal

-- the runs so far
abbrev pub invariant-loop-run : goal.invariant-loop-run
invariant-loop-run l = record {
  into : l.into.items
      ≡ l.fn.into.items
      ++ flat_map (run_bytes (bytes_each l.layers) (first_of (bytes_each l.layers))) (range_with_len 0 l.run-index);
  taken : (layer : ℕ) → layer < length l.layers
      → get_or l.taken layer 0 ≡ taken_of (first_of (bytes_each l.layers)) l.run-index layer;
  size : length l.taken ≡ 32;
}
