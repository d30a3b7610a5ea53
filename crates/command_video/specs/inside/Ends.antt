-- The end of the command by what a step of it answered. This project's own.
use Rattle.std.specs.Prelude.{◌≡◌, ℕ, ◌<◌, ◌≤◌, List, [], ◌∷◌, Err}
use Rattle.pet_base.specs.Seen.{Seen}
use Rattle.outside_files.specs.Uses.{reading, Failed}
use Rattle.outside_files.specs.Outputs.{Puts, PutsPart}
use Rattle.packet_verdicts.specs.KeptSet.{KeptSet}
use Rattle.pet_receive.specs.ShownBytes.{groups_told}
use Rattle.store_text.specs.Files.{store_in}
use Rattle.store_text.specs.declared.fault.BadStore.TheVariants.{At}
use Rattle.command_video.specs.StoreVideo.{AreVideos, IsGroupVideo, HasBadTable}
use Rattle.command_video.specs.declared.command.VideoEnd.{VideoEnd}
use Rattle.command_video.specs.declared.command.VideoEnd.TheVariants.{Done, NoMemory, PlaceFault, BadStore, BadTable}

-- of a file that was not read, and why
abbrev pub IsReadEnd : Seen → Seen → List ℕ → VideoEnd → Type 0
IsReadEnd old new name NoMemory = Unit {0}
IsReadEnd old new name PlaceFault = Failed (reading name ∷ []) old new
IsReadEnd old new name (BadStore at kind) = ⊥
IsReadEnd old new name (Done bytes) = ⊥
IsReadEnd old new name (BadTable group) = ⊥

-- of bytes of a file that are no store
abbrev pub IsStoreEnd : List ℕ → VideoEnd → Type 0
IsStoreEnd bytes NoMemory = Unit {0}
IsStoreEnd bytes (BadStore at kind) = store_in bytes ≡ Err (At at kind)
IsStoreEnd bytes PlaceFault = ⊥
IsStoreEnd bytes (Done many) = ⊥
IsStoreEnd bytes (BadTable group) = ⊥

-- of a group whose video was not put together
abbrev pub IsTableEnd : KeptSet → ℕ → VideoEnd → Type 0
IsTableEnd set group NoMemory = Unit {0}
IsTableEnd set group (BadTable at) = (at ≡ group) × HasBadTable set group
IsTableEnd set group (Done bytes) = ⊥
IsTableEnd set group PlaceFault = ⊥
IsTableEnd set group (BadStore at kind) = ⊥

-- of a group whose video was not put, or only a front of it: nothing was put where it has a bad table
abbrev pub IsGroupEnd : Type 0 → KeptSet → ℕ → Seen → Seen → VideoEnd → Type 0
IsGroupEnd failed set group old new NoMemory = new.files ≡ old.files
IsGroupEnd failed set group old new PlaceFault =
    failed × ((video : List ℕ) × IsGroupVideo set group video × PutsPart video old new)
IsGroupEnd failed set group old new (BadTable at) = (at ≡ group) × HasBadTable set group × (new.files ≡ old.files)
IsGroupEnd failed set group old new (Done bytes) = ⊥
IsGroupEnd failed set group old new (BadStore at kind) = ⊥

-- the videos of the first groups, or a front of them, were put
pub record PutsFront (set : KeptSet) (old new : Seen) : Type 0 where
  pub many : ℕ
  pub few : many ≤ groups_told set
  pub video : List ℕ
  pub videos : AreVideos set many video
  pub part : PutsPart video old new

-- all videos of the groups before this one, which has a bad table
pub record PutsToTable (set : KeptSet) (group : ℕ) (old new : Seen) : Type 0 where
  pub inside : group < groups_told set
  pub bad : HasBadTable set group
  pub video : List ℕ
  pub before : AreVideos set group video
  pub puts : Puts video old new

-- of groups whose videos were not all put
abbrev pub IsPutEnd : Type 0 → KeptSet → Seen → Seen → VideoEnd → Type 0
IsPutEnd failed set old new NoMemory = PutsFront set old new
IsPutEnd failed set old new PlaceFault = failed × PutsFront set old new
IsPutEnd failed set old new (BadTable group) = PutsToTable set group old new
IsPutEnd failed set old new (Done bytes) = ⊥
IsPutEnd failed set old new (BadStore at kind) = ⊥
