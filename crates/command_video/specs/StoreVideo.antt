-- What can be shown of a store: the video of each of its groups, in order. This project's own.
use Rattle.std.specs.Prelude.{◌≡◌, ◌⊎◌, ℕ, ◌<◌, List, [], length, slice_index_or, Some}
use Rattle.std.specs.List.{concat}
use Rattle.field_elements.specs.Gf16.{gf16_coding}
use Rattle.packet_set.specs.Packets.{Packets}
use Rattle.packet_verdicts.specs.KeptSet.{KeptSet, open_group}
use Rattle.pet_receive.specs.Arrivals.{numbers_of}
use Rattle.pet_receive.specs.ShownBytes.{IsShown}
use Rattle.store_merge.specs.Reading.{pairs_in}
use Rattle.reassemble.specs.Leading.{AreLeading, IsAssembled, IsUnfit}

-- the numbers of the packets that a store has of a group, in its order
abbrev pub numbers_in : KeptSet → ℕ → List ℕ
numbers_in set group = numbers_of (pairs_in set) group

-- The group has this video: the runs of its leading layers that are all shown, as its packets give their bytes, in the
-- order of
-- the stream.
pub record ShowsVideo (set : KeptSet) (group : ℕ) (video : List ℕ) : Type 0 where
  pub packets : Packets
  pub is_open : open_group set group ≡ Some packets
  pub shown : IsShown set group 0
  pub many : ℕ
  pub leading : AreLeading set group many
  pub assembled : IsAssembled (λ a. a < 65536) gf16_coding packets (numbers_in set group) many [] video

-- Layer 0 of the group is shown, and has no run table that fits the group's layers.
pub record HasBadTable (set : KeptSet) (group : ℕ) : Type 0 where
  pub packets : Packets
  pub is_open : open_group set group ≡ Some packets
  pub shown : IsShown set group 0
  pub unfit : IsUnfit (λ a. a < 65536) gf16_coding packets (numbers_in set group)

-- the video of a group: nothing where its layer 0 is not shown, as where none of its packets is there
abbrev pub IsGroupVideo : KeptSet → ℕ → List ℕ → Type 0
IsGroupVideo set group video = ((IsShown set group 0 → ⊥) × (video ≡ [])) ⊎ ShowsVideo set group video

-- these bytes are the videos of so many groups, the first of the session, on end
pub record AreVideos (set : KeptSet) (many : ℕ) (bytes : List ℕ) : Type 0 where
  pub videos : List (List ℕ)
  pub one_each : length videos ≡ many
  pub each : (group : ℕ) → group < many → IsGroupVideo set group (slice_index_or videos group [])
  pub on_end : bytes ≡ concat videos
