-- The packets of a store, group by group. This project's own.
use Rattle.std.specs.Prelude.{◌≡◌, ℕ, ◌-◌, List, [], ◌∷◌, length}
use Rattle.std.specs.Option.{option_map_or}
use Rattle.std.specs.List.{flat_map, range_with_len}
use Rattle.packet_frame.specs.Frame.{Fields}
use Rattle.packet_verdicts.specs.KeptSet.{KeptSet, IsKeptSet, open_group}
use Rattle.packet_verdicts.specs.Union.{frames_in}
use Rattle.packet_verdicts.specs.laws.FramesLaws.{frames_of}
use Rattle.pet_receive.specs.ShownBytes.{groups_told}
use Rattle.store_groups.specs.declared.groups.GroupPackets.{GroupPackets}
use Rattle.store_text.specs.Store.{entries_in}
use Rattle.store_text.specs.declared.format.TheConstants.{STORE_FORM}

-- what a set has of one group
abbrev pub only_group : KeptSet → ℕ → KeptSet
only_group set group = record set { groups = option_map_or (λ p. (group, p) ∷ []) (open_group set group) [] }

-- the frames of a group and of those above it, by group, then number
abbrev pub frames_above : KeptSet → ℕ → List Fields
frames_above set group = flat_map (frames_of set) (range_with_len group (groups_told set - group))

-- The packets are these frames of a kept set, in this order.
pub record HasFrames (packets : GroupPackets) (set : KeptSet) (frames : List Fields) : Type 0 where
  pub sound : IsKeptSet set
  pub of_session : packets.session ≡ set.session
  pub number : packets.count ≡ length frames
  pub text : packets.entries.now ≡ entries_in STORE_FORM frames

-- they are all frames of the set
abbrev pub ArePackets : GroupPackets → KeptSet → Type 0
ArePackets packets set = HasFrames packets set (frames_in set)

-- they are those of a group of the set and of the groups above it
abbrev pub AreAbove : GroupPackets → KeptSet → ℕ → Type 0
AreAbove packets set group = HasFrames packets set (frames_above set group)
