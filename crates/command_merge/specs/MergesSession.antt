-- `merge` of two stores of one session. This project's own.
use Rattle.std.specs.Prelude.{◌≡◌, ◌≢◌, ℕ, List, [], ◌∷◌, ◌++◌, length, Some}
use Rattle.pet_base.specs.declared.limits.TheConstants.{MAX_SESSION}
use Rattle.pet_base.specs.Seen.{Seen, Files, with_file}
use Rattle.outside_files.specs.Uses.{reading, writing, Failed}
use Rattle.packet_session.specs.Session.{Session, IsSession, Fits}
use Rattle.packet_met.specs.Gf16.{met_frames}
use Rattle.packet_met.specs.Met.{Pair}
use Rattle.packet_met.specs.MetStore.{pairs_store}
use Rattle.command_merge.specs.declared.command.MergeEnd.{MergeEnd}
use Rattle.command_merge.specs.declared.command.MergeEnd.TheVariants.{Done, NoMemory}

-- the files are the stores of the packets of these pairs, of one session
pub record HasStoresOf (s : Session) (first second : List ℕ) (files : Files) (a b : List Pair)
    (old : Seen) : Type 0 where
  pub session : IsSession 2 s
  pub fits : Fits s MAX_SESSION
  pub told : old.files ≡ Some files
  pub first_is : files first ≡ Some (pairs_store s a)
  pub second_is : files second ≡ Some (pairs_store s b)

-- memory was found, and the place had no fault of this call
pub record CanMerge (s : Session) (first second out : List ℕ) (files : Files) (a b : List Pair) (old new : Seen)
    (end : MergeEnd) : Type 0 where
  pub memory : end ≢ NoMemory
  pub well : Failed (reading first ∷ reading second ∷ writing out ∷ []) old new → ⊥
  pub given : HasStoresOf s first second files a b old

-- OUT has the store of the packets that the one or the other has, and no other file has changed.
pub record MergesSession (s : Session) (out : List ℕ) (files : Files) (pairs : List Pair) (new : Seen)
    (end : MergeEnd) : Type 0 where
  pub file : new.files ≡ Some (with_file out (pairs_store s pairs) files)
  pub ended : end ≡ Done (length (met_frames s pairs))

-- so it is for every session and every two such stores
abbrev pub CompletesMerge : List ℕ → List ℕ → List ℕ → Seen → Seen → MergeEnd → Type 0
CompletesMerge first second out old new end =
    (s : Session) (files : Files) (a b : List Pair) → CanMerge s first second out files a b old new end
    → MergesSession s out files (a ++ b) new end
