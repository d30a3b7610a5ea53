-- The store by the bytes of its file, and how the command ends where it is none, or where OUT is not made.
use Rattle.std.proofs.Common.{◌≡◌, ℕ, ◌≤◌, List, [], ◌∷◌, Some, Ok, Err, ◌∙◌, inl, inr}
use Rattle.pet_base.specs.Causes.{Blames}
use Rattle.pet_base.specs.declared.limits.TheConstants.{MAX_SESSION, MAX_STORE}
use Rattle.pet_base.specs.declared.place.Side.TheVariants.{Written}
use Rattle.pet_base.specs.Seen.{Seen, HadFault}
use Rattle.pet_base.specs.laws.SeenLaws.{HadFault-since, Blames-some}
use Rattle.outside_files.specs.Inputs.{IsFrontOf}
use Rattle.outside_files.specs.Uses.{writing, IsOneOf}
use Rattle.packet_verdicts.specs.KeptSet.{KeptSet}
use Rattle.store_text.specs.Files.{HasStore, store_in}
use Rattle.store_text.specs.declared.fault.BadStore.TheVariants.{At}
use Rattle.store_text.specs.laws.FileLaws.{store_is_read}
use Rattle.store_text.specs.laws.ReadLaws.{read_limit}
use Rattle.store_groups.specs.declared.groups.GroupPackets.{GroupPackets}
use Rattle.store_groups.specs.Groups.{ArePackets}
use Rattle.store_merge.specs.laws.StoreFiles.{store_of_file}
use Rattle.command_video.specs.Videos.{Videos}
use Rattle.command_video.specs.inside.Ends.{IsStoreEnd}
use Rattle.command_video.specs.inside.Groups.{AreStored}
use Rattle.command_video.specs.declared.command.VideoEnd.{VideoEnd}
use Rattle.command_video.specs.declared.command.VideoEnd.TheVariants.{Done, NoMemory, PlaceFault, BadStore, BadTable}

module _ (store out slice bytes : List ℕ) (old read : Seen) (lent : slice ≡ bytes)
    (front : IsFrontOf MAX_STORE bytes old.files store) (same : read.files ≡ old.files) where
  pub is_store : (set : KeptSet) → store_in slice ≡ Ok set → HasStore old.files store set
  is_store set is = store_of_file old.files store slice bytes (Ok set) lent front is

  pub no_store : (end : VideoEnd) → IsStoreEnd slice end → Videos store out old read end
  no_store NoMemory is = inl same
  no_store (BadStore at kind) is = (store_of_file old.files store slice bytes (Err (At at kind)) lent front is, same)
  no_store PlaceFault is = absurd is
  no_store (Done many) is = absurd is
  no_store (BadTable group) is = absurd is

  -- where the file of OUT was not made
  pub not_made : (set : KeptSet) → store_in slice ≡ Ok set → (made : Seen) → made.files ≡ read.files
      → old.faults ≤ read.faults → HadFault read made (Blames Written (Some out)) → Videos store out old made PlaceFault
  not_made set is made files later fault = (
    inr (
      (set, is_store set is),
      HadFault-since old read made (Blames Written (Some out)) (IsOneOf (writing out ∷ [])) later
          (λ b blames. Blames-some out Written b blames) fault,
    ),
    inl (files ∙ same),
  )

-- what stands there is a store as a file has it
pub are_stored : (packets : GroupPackets) (set : KeptSet) (slice : List ℕ) → store_in slice ≡ Ok set
    → ArePackets packets set → AreStored packets set
are_stored packets set slice is are =
    record { all = are; limit = read_limit MAX_SESSION slice set (store_is_read slice set is) }
