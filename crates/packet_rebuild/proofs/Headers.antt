-- The header of an open group is in its ranges.
use Rattle.std.proofs.Common.{◌≡◌, ℕ, ◌<◌, ◌≤◌, Some}
use Rattle.pet_base.specs.declared.limits.TheConstants.{MAX_GROUPS}
use Rattle.packet_set.specs.Packets.{Packets}
use Rattle.packet_verdicts.specs.KeptSet.{KeptSet, IsKeptSet, open_group}
use Rattle.packet_rebuild.specs.laws.RebuiltLaws.{some_slot}

pub header_in_range : (set : KeptSet) (group : ℕ) (p : Packets) → IsKeptSet set → open_group set group ≡ Some p
    → (p.header.groups ≤ MAX_GROUPS) × (p.header.group < p.header.groups)
header_in_range set group p sound opened =
    let g = sound.groups group p opened in
    let one = some_slot p.slots g.some in
    let frame = g.frames one.0 one.1 one.2 in
    (frame.few_groups, frame.group)
