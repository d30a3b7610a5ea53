-- The layers of a group that are shown, and those that more packets of it show.
use Rattle.std.specs.Prelude.{ℕ, ◌+◌, ◌==◌, Bool, nat_le, if◌then◌else◌, List, length, Option, option_map, unwrap_or}
use Rattle.std.specs.Prelude.{count_by}
use Rattle.std.specs.List.{range_with_len}
use Rattle.stripe_plan.specs.Layers.{count_of}
use Rattle.packet_set.specs.Packets.{Packets, count_in, layers_of}
use Rattle.packet_verdicts.specs.Verdicts.{shown_between}
use Rattle.packet_verdicts.specs.Union.{new_numbers}

-- how many layers of a group are shown
abbrev pub shown_in : Packets → ℕ
shown_in p =
    count_by (λ layer. nat_le (count_of (layers_of p) layer) (count_in p)) (range_with_len 0 (length (layers_of p)))

-- every layer of a group is shown
abbrev pub is_whole : Packets → Bool
is_whole p = shown_in p == length (layers_of p)

-- one for such a group, and nothing for another
unfoldable pub whole_in : Packets → ℕ
whole_in p = if is_whole p then 1 else 0

-- how many packets are kept of a group, where it is open
abbrev pub count_in_open : Option Packets → ℕ
count_in_open mine = unwrap_or (option_map count_in mine) 0

-- the layers of a group that are shown by all that is kept of it here or there, and not by what is kept here
abbrev pub shown_by_both : Option Packets → Packets → List ℕ
shown_by_both mine theirs =
    shown_between (layers_of theirs) (count_in_open mine) (count_in_open mine + length (new_numbers mine theirs))
