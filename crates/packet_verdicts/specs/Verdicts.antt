-- The verdict of a datagram by a kept set, and the set after it. This project's own.
use Rattle.std.specs.Prelude.{ℕ, ◌+◌, ◌^◌, Bool, true, false, not, ◌&&◌, ◌||◌, ◌==◌, nat_lt, nat_le, if◌then◌else◌}
use Rattle.std.specs.Prelude.{List, [], ◌∷◌, length, filter, sum_by, is_some, is_none}
use Rattle.std.specs.Str.{bytes_eq}
use Rattle.std.specs.List.{list_any, range_with_len}
use Rattle.std.specs.Option.{option_map_or}
use Rattle.stripe_plan.specs.declared.layer.LayerSize.{LayerSize}
use Rattle.stripe_plan.specs.Layers.{count_of}
use Rattle.stripe_plan.specs.Same.{same_table}
use Rattle.packet_frame.specs.Frame.{Fields}
use Rattle.packet_frame.specs.declared.format.Format.{Format}
use Rattle.packet_frame.specs.declared.format.TheConstants.{FORMAT}
use Rattle.packet_frame.specs.Refusals.{first_fault_in}
use Rattle.packet_frame.specs.Planned.{planned_fields}
use Rattle.stripe_plan.specs.Sizes.{cost_by}
use Rattle.packet_verdicts.specs.declared.verdict.Verdict.{Verdict}
use Rattle.packet_verdicts.specs.declared.verdict.Verdict.TheVariants.{Damaged, Foreign, Clash, Repeated, Full, Kept}
use Rattle.packet_verdicts.specs.declared.verdict.LayerSet.{LayerSet}
use Rattle.packet_verdicts.specs.KeptSet.{KeptSet, open_group, payload_of, count_kept, cost_kept, header_of, keep_by}

-- a kept frame tells another number of groups
abbrev pub tells_other_count : KeptSet → Fields → Bool
tells_other_count set f = list_any (λ e. not (e.1.header.groups == f.groups)) set.groups

-- the frame's group is open with another table
abbrev pub tells_other_table : KeptSet → Fields → Bool
tells_other_table set f =
    option_map_or (λ p. not (same_table p.header.table (header_of f).table)) (open_group set f.group) false

-- the frame's number is kept with another payload
abbrev pub tells_other_payload : KeptSet → Fields → Bool
tells_other_payload set f =
    option_map_or (λ payload. not (bytes_eq payload f.payload)) (payload_of set f.group f.number) false

abbrev pub clashes : KeptSet → Fields → Bool
clashes set f = tells_other_count set f || tells_other_table set f || tells_other_payload set f

-- the frame is of a group that is not open
abbrev pub opens : KeptSet → Fields → Bool
opens set f = is_none (open_group set f.group)

-- with the frame's group the open groups would cost more than the limit
abbrev pub is_too_much_by : ℕ → KeptSet → Fields → Bool
is_too_much_by word set f = opens set f && nat_lt set.limit (cost_kept set + cost_by word f.packets f.layers)

abbrev pub is_too_much : KeptSet → Fields → Bool
is_too_much set f = is_too_much_by 2 set f

-- the layers that are shown by `after` packets, and were not by `before`
abbrev pub shown_between : List LayerSize → ℕ → ℕ → List ℕ
shown_between layers before after =
    filter (λ j. nat_lt before (count_of layers j) && nat_le (count_of layers j) after)
    (range_with_len 0 (length layers))

-- the layers that the frame newly shows, where it is kept
abbrev pub newly_shown : KeptSet → Fields → List ℕ
newly_shown set f = shown_between f.layers (count_kept set f.group) (count_kept set f.group + 1)

-- a set of layers, each as its bit
abbrev pub layer_set : List ℕ → LayerSet
layer_set layers = record { bits = sum_by (λ j. 2 ^ j) layers }

-- the verdict of a frame: the first that holds
unfoldable pub frame_verdict_by : ℕ → KeptSet → Fields → Verdict
frame_verdict_by word set f =
    if not (bytes_eq f.session set.session) then Foreign
    else if clashes set f then Clash
    else if is_some (payload_of set f.group f.number) then Repeated
    else if is_too_much_by word set f then Full
    else Kept (layer_set (newly_shown set f))

abbrev pub frame_verdict : KeptSet → Fields → Verdict
frame_verdict set f = frame_verdict_by 2 set f

-- the verdict of a datagram of a format
unfoldable pub verdict_in : Format → KeptSet → List ℕ → Verdict
verdict_in t set bytes =
    if is_some (first_fault_in t bytes) then Damaged else frame_verdict_by t.word set (planned_fields t bytes)

abbrev pub verdict_of : KeptSet → List ℕ → Verdict
verdict_of set bytes = verdict_in FORMAT set bytes

abbrev pub is_kept : Verdict → Bool
is_kept (Kept layers) = true
is_kept _ = false

-- the set after a datagram
unfoldable pub after_in : Format → KeptSet → List ℕ → KeptSet
after_in t set bytes = if is_kept (verdict_in t set bytes) then keep_by t.word set (planned_fields t bytes) else set

abbrev pub after : KeptSet → List ℕ → KeptSet
after set bytes = after_in FORMAT set bytes

-- the set after some datagrams
unfoldable pub after_all_in : Format → KeptSet → List (List ℕ) → KeptSet
after_all_in t set [] = set
after_all_in t set (bytes ∷ rest) = after_all_in t (after_in t set bytes) rest

abbrev pub after_all : KeptSet → List (List ℕ) → KeptSet
after_all set datagrams = after_all_in FORMAT set datagrams
