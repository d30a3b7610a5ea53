-- The layers that some packets show, told by how many packets show each. This project's own.
use Rattle.std.specs.Prelude.{ℕ, ◌&&◌, Bool, nat_lt, nat_le, filter, List, length, slice_index}
use Rattle.std.specs.List.{range_with_len}

-- a layer that so many packets show is shown by `after` packets, and was not by `before`
abbrev pub is_between : ℕ → ℕ → ℕ → Bool
is_between before after needed = nat_lt before needed && nat_le needed after

-- the layers of which that holds, where each is shown by so many packets
abbrev pub shown_by : List ℕ → ℕ → ℕ → List ℕ
shown_by counts before after =
    filter (λ layer. is_between before after (slice_index counts layer)) (range_with_len 0 (length counts))
