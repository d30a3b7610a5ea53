-- What `merge` leaves at each of its ends. This project's own.
use Rattle.std.specs.Prelude.{◌≡◌, ◌⊎◌, ℕ, List, [], ◌∷◌, None, Some}
use Rattle.pet_base.specs.Seen.{Seen}
use Rattle.outside_files.specs.Uses.{reading, writing, Failed}
use Rattle.outside_files.specs.Wrote.{Wrote}
use Rattle.packet_verdicts.specs.KeptSet.{KeptSet, kept_in_all}
use Rattle.packet_verdicts.specs.Union.{union, absorb_fault}
use Rattle.packet_verdicts.specs.declared.union.Absorb.TheVariants as absorb
use Rattle.store_text.specs.Files.{HasStore, HasBadStore, store_file}
use Rattle.store_text.specs.declared.fault.BadStore.TheVariants.{At}
use Rattle.command_merge.specs.declared.command.MergeEnd.{MergeEnd}
use Rattle.command_merge.specs.declared.command.MergeEnd.TheVariants.{Done, NoMemory, PlaceFault, BadFirst, BadSecond}
use Rattle.command_merge.specs.declared.command.MergeEnd.TheVariants.{OtherSession, Clash, Full}

-- the first file is a store
abbrev pub HasFirst : List ℕ → Seen → Type 0
HasFirst first old = (a : KeptSet) × HasStore old.files first a

-- both files are stores
pub record HasStores (first second : List ℕ) (old : Seen) : Type 0 where
  pub a : KeptSet
  pub b : KeptSet
  pub first_is : HasStore old.files first a
  pub second_is : HasStore old.files second b

-- and they can be joined
pub record CanJoin (first second : List ℕ) (old : Seen) : Type 0 where
  pub stores : HasStores first second old
  pub fits : absorb_fault stores.a stores.b ≡ None

-- what they hold together
abbrev pub union_of : {first second : List ℕ} {old : Seen} → CanJoin first second old → KeptSet
union_of c = union c.stores.a c.stores.b

-- The stores can be joined, and OUT has the store of the union.
pub record WritesUnion (first second out : List ℕ) (old new : Seen) : Type 0 where
  pub joins : CanJoin first second old
  pub file : Wrote (store_file out (union_of joins) ∷ []) None old new

-- no file has changed, or OUT has a front of the store of the union
abbrev pub LeavesMergedFront : List ℕ → List ℕ → List ℕ → Seen → Seen → Type 0
LeavesMergedFront first second out old new =
    (new.files ≡ old.files) ⊎ ((c : CanJoin first second old) × Wrote [] (Some (store_file out (union_of c))) old new)

-- a file failed in its turn: the second where the first is a store, and OUT where the two can be joined
abbrev pub FailedInTurn : List ℕ → List ℕ → List ℕ → Seen → Seen → Type 0
FailedInTurn first second out old new =
    Failed (reading first ∷ []) old new ⊎ (HasFirst first old × Failed (reading second ∷ []) old new)
    ⊎ (CanJoin first second old × Failed (writing out ∷ []) old new)

-- What `merge` does, by its end. The files are judged in order: the first store, the second, and both together. OUT is
-- made once they are joined, so want of memory changes no file.
abbrev pub Merges : List ℕ → List ℕ → List ℕ → Seen → Seen → MergeEnd → Type 0
Merges first second out old new (Done packets) =
    (w : WritesUnion first second out old new) × (packets ≡ kept_in_all (union_of w.joins))
Merges first second out old new NoMemory = new.files ≡ old.files
Merges first second out old new PlaceFault =
    FailedInTurn first second out old new × LeavesMergedFront first second out old new
Merges first second out old new (BadFirst at kind) = HasBadStore old.files first (At at kind) × (new.files ≡ old.files)
Merges first second out old new (BadSecond at kind) =
    HasFirst first old × HasBadStore old.files second (At at kind) × (new.files ≡ old.files)
Merges first second out old new OtherSession =
    (s : HasStores first second old) × (absorb_fault s.a s.b ≡ Some absorb.OtherSession) × (new.files ≡ old.files)
Merges first second out old new (Clash group number) =
    (s : HasStores first second old) × (absorb_fault s.a s.b ≡ Some (absorb.Clash group number))
    × (new.files ≡ old.files)
Merges first second out old new (Full group) =
    (s : HasStores first second old) × (absorb_fault s.a s.b ≡ Some (absorb.Full group)) × (new.files ≡ old.files)
