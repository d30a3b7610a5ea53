-- The first packet of a group kept elsewhere that clashes with what is kept here.
use Rattle.std.specs.Prelude.{ℕ, ◌==◌, Bool, false, not, ◌||◌, List, Option, option_map, option_and_then}
use Rattle.std.specs.Option.{option_map_or}
use Rattle.std.specs.Str.{bytes_eq}
use Rattle.std.specs.List.{find}
use Rattle.stripe_plan.specs.Same.{same_table}
use Rattle.packet_frame.specs.declared.frame.Header.{Header}
use Rattle.packet_set.specs.Packets.{Packets, slot_at}
use Rattle.packet_verdicts.specs.Union.{frames_in_group}

-- another number of groups was told, or the group is open with another table
abbrev pub is_other_group : Option ℕ → Option Packets → Header → Bool
is_other_group told mine header =
    option_map_or (λ n. not (n == header.groups)) told false || option_map_or
    (λ p. not (same_table p.header.table header.table)) mine false

-- the number is kept with another payload
abbrev pub is_other_payload : Option Packets → ℕ → List ℕ → Bool
is_other_payload mine number payload =
    option_map_or (λ kept. not (bytes_eq kept payload)) (option_and_then (λ p. slot_at p number) mine) false

-- a frame of a group clashes with what is kept of it, where `told` is the number of groups that was told
abbrev pub clashes_by : Option ℕ → Option Packets → Header → ℕ → List ℕ → Bool
clashes_by told mine header number payload = is_other_group told mine header || is_other_payload mine number payload

-- the packet of a number is kept there and clashes, where `other` says whether its group does
abbrev pub clash_at : Bool → Option Packets → Packets → ℕ → Bool
clash_at other mine theirs number =
    option_map_or (λ payload. other || is_other_payload mine number payload) (slot_at theirs number) false

-- the number of the first packet of a group that clashes
abbrev pub first_clash_in : Option ℕ → Option Packets → Packets → Option ℕ
first_clash_in told mine theirs =
    option_map (λ f. f.number)
    (find (λ f. clashes_by told mine theirs.header f.number f.payload) (frames_in_group theirs))
