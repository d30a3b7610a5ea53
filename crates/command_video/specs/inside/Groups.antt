-- The packets that the command goes over, as those of a store's set. This project's own.
use Rattle.std.specs.Prelude.{◌≡◌, ℕ, ◌<◌}
use Rattle.pet_base.specs.declared.limits.TheConstants.{MAX_SESSION}
use Rattle.packet_verdicts.specs.KeptSet.{KeptSet, IsKeptSet}
use Rattle.pet_receive.specs.ShownBytes.{groups_told}
use Rattle.store_groups.specs.Groups.{ArePackets, only_group}
use Rattle.store_groups.specs.declared.groups.GroupPackets.{GroupPackets}

-- they are all of the set, as a file has it
pub record AreStored (packets : GroupPackets) (set : KeptSet) : Type 0 where
  pub all : ArePackets packets set
  pub limit : set.limit ≡ MAX_SESSION

-- they are those of one of its groups
pub record AreOwn (packets : GroupPackets) (set : KeptSet) (group : ℕ) : Type 0 where
  pub own : ArePackets packets (only_group set group)
  pub sound : IsKeptSet set
  pub limit : set.limit ≡ MAX_SESSION
  pub inside : group < groups_told set
