-- How many steps a receiver may take that takes in all that another has kept. This project's own.
use Rattle.std.specs.Prelude.{ℕ, List, length, sum_by}
use Rattle.std.specs.List.{range_with_len}
use Rattle.packet_set.specs.Packets.{layers_of}
use Rattle.pet_interp.specs.Progressive.{step_bound}
use Rattle.packet_group.specs.OpenGroup.{stripe_lengths}
use Rattle.packet_verdicts.specs.KeptSet.{KeptSet, open_group, count_kept}
use Rattle.packet_verdicts.specs.Union.{new_numbers}

-- how many steps so many packets of a group may take, that come after `before`
abbrev pub steps_after : ℕ → List ℕ → ℕ → ℕ
steps_after before lengths many = sum_by (λ r. step_bound r lengths) (range_with_len before many)

-- and all that the union adds
abbrev pub union_steps : KeptSet → KeptSet → ℕ
union_steps mine theirs =
    sum_by (λ e. steps_after (count_kept mine e.0) (stripe_lengths (layers_of e.1))
    (length (new_numbers (open_group mine e.0) e.1))) theirs.groups
