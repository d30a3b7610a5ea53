-- What `video` leaves at each of its ends. This project's own.
use Rattle.std.specs.Prelude.{◌≡◌, ◌⊎◌, ℕ, ◌<◌, ◌≤◌, List, [], ◌∷◌, length, None, Some}
use Rattle.pet_base.specs.Seen.{Seen}
use Rattle.outside_files.specs.Uses.{reading, writing, Failed}
use Rattle.outside_files.specs.Wrote.{File, Wrote}
use Rattle.packet_verdicts.specs.KeptSet.{KeptSet}
use Rattle.pet_receive.specs.ShownBytes.{groups_told}
use Rattle.store_text.specs.Files.{HasStore, HasBadStore}
use Rattle.store_text.specs.declared.fault.BadStore.TheVariants.{At}
use Rattle.command_video.specs.StoreVideo.{AreVideos, IsGroupVideo, HasBadTable}
use Rattle.command_video.specs.declared.command.VideoEnd.{VideoEnd}
use Rattle.command_video.specs.declared.command.VideoEnd.TheVariants.{Done, NoMemory, PlaceFault, BadStore, BadTable}

-- the file is a store
abbrev pub IsStore : List ℕ → Seen → Type 0
IsStore store old = (set : KeptSet) × HasStore old.files store set

-- the file of a video
abbrev pub video_file : List ℕ → List ℕ → File
video_file out bytes = record { name = out; bytes = bytes }

-- OUT has a front of the videos of the first groups of the store, each of which has one.
pub record HasFront (store out : List ℕ) (old new : Seen) : Type 0 where
  pub set : KeptSet
  pub store_is : HasStore old.files store set
  pub many : ℕ
  pub few : many ≤ groups_told set
  pub video : List ℕ
  pub videos : AreVideos set many video
  pub file : Wrote [] (Some (video_file out video)) old new

-- no file has changed, or OUT has such a front
abbrev pub LeavesVideoFront : List ℕ → List ℕ → Seen → Seen → Type 0
LeavesVideoFront store out old new = (new.files ≡ old.files) ⊎ HasFront store out old new

-- a file failed in its turn: OUT only where the first is a store
abbrev pub FailedInTurn : List ℕ → List ℕ → Seen → Seen → Type 0
FailedInTurn store out old new =
    Failed (reading store ∷ []) old new ⊎ (IsStore store old × Failed (writing out ∷ []) old new)

-- Each group of the store has a video, and none a bad table; OUT has the videos, in order.
pub record WritesVideo (store out : List ℕ) (old new : Seen) : Type 0 where
  pub set : KeptSet
  pub store_is : HasStore old.files store set
  pub video : List ℕ
  pub videos : AreVideos set (groups_told set) video
  pub none : (group : ℕ) → group < groups_told set → HasBadTable set group → ⊥
  pub file : Wrote (video_file out video ∷ []) None old new

-- This group of the store has a bad table, and so no video; each group before it has a video, and OUT has these, in
-- order.
pub record StopsAtTable (store out : List ℕ) (group : ℕ) (old new : Seen) : Type 0 where
  pub set : KeptSet
  pub store_is : HasStore old.files store set
  pub inside : group < groups_told set
  pub bad : HasBadTable set group
  pub none : (shown : List ℕ) → IsGroupVideo set group shown → ⊥
  pub video : List ℕ
  pub before : AreVideos set group video
  pub file : Wrote (video_file out video ∷ []) None old new

-- What `video` does, by its end.
abbrev pub Videos : List ℕ → List ℕ → Seen → Seen → VideoEnd → Type 0
Videos store out old new (Done bytes) = (w : WritesVideo store out old new) × (bytes ≡ length w.video)
Videos store out old new NoMemory = LeavesVideoFront store out old new
Videos store out old new PlaceFault = FailedInTurn store out old new × LeavesVideoFront store out old new
Videos store out old new (BadStore at kind) = HasBadStore old.files store (At at kind) × (new.files ≡ old.files)
Videos store out old new (BadTable group) = StopsAtTable store out group old new
