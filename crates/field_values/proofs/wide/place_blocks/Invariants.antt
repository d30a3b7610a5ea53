use Rattle.std.proofs.Common.{◌≡◌, ℕ, [], ◌+◌, ◌*◌, ◌<◌, ◌≤◌, take}
use Rattle.std.specs.Prelude.{slice_index_or}
use Rattle.field_rows.specs.Blocks.{columns_of, size_of, width_of}
use Rattle.field_values.proofs.wide.place_blocks.Given as goal

abbrev pub invariant-loop-i : goal.invariant-loop-i
invariant-loop-i g l = record {
  place : l.at ≡ size_of (take l.i l.blocks);
  until : l.lane ≡ width_of (take l.i l.blocks);
  done : (p c : ℕ) → p < l.size → c < l.lane → slice_index_or l.into (p * l.stripes + c) l.fn.zero
      ≡ slice_index_or (slice_index_or (columns_of l.fn.zero (take l.i l.blocks) l.laid) c []) p l.fn.zero;
  rest : (p c : ℕ) → p < l.size → l.lane ≤ c → c < l.stripes
      → slice_index_or l.into (p * l.stripes + c) l.fn.zero ≡ l.fn.zero;
}
