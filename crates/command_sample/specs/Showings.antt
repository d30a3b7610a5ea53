-- When the packets that arrive in `sample` show a layer. This project's own.
use Rattle.std.specs.Prelude.{ℕ, ◌+◌, not, List, length, take}
use Rattle.std.specs.List.{prefix_len, range_with_len}
use Rattle.packet_session.specs.Session.{SessionGroup}
use Rattle.packet_met.specs.Met.{Pair, shows}

-- How many of these packets have arrived when the layer of the group is shown for the first time: of the numbers 0, 1, 2
-- and so on those are counted that are too few, up to the first that is not. Where it is never shown, that is one more
-- than all.
unfoldable pub shown_after : List Pair → ℕ → SessionGroup → ℕ → ℕ
shown_after arrivals group g layer =
    prefix_len (λ n. not (shows (take n arrivals) group g layer)) (range_with_len 0 (length arrivals + 1))
