-- Why the command ends so, by the step that failed.
use Rattle.std.specs.Prelude.{IfErr, IsErrAnd}
use Rattle.std.proofs.Common.{◌≡◌, ◌≢◌, ◌⊎◌, ℕ, ◌≤◌, List, [], ◌∷◌, length, None, Some, Result, Ok, Err, sym, subst}
use Rattle.std.proofs.Common.{◌∙◌}
use Rattle.std.proofs.Common.{arith, inl, inr}
use Rattle.pet_base.specs.declared.limits.TheConstants.{MAX_STORE}
use Rattle.pet_base.specs.Seen.{Seen, Blame, HadFault}
use Rattle.pet_base.specs.declared.faults.Stop.{Stop}
use Rattle.pet_base.specs.declared.faults.Stop.TheVariants as stop
use Rattle.outside_files.specs.Inputs.{IsFrontOf, IsRead, Licensed}
use Rattle.outside_files.specs.Uses.{writing, Failed}
use Rattle.outside_files.specs.Wrote.{Wrote}
use Rattle.outside_files.specs.laws.WroteLaws.{Wrote-nothing, Wrote-then}
use Rattle.packet_verdicts.specs.KeptSet.{KeptSet}
use Rattle.packet_verdicts.specs.Union.{frames_in}
use Rattle.store_text.specs.Store.{store_text}
use Rattle.store_packets.specs.declared.fault.MigrateFault.{MigrateFault}
use Rattle.store_packets.specs.declared.fault.MigrateFault.TheVariants as fault
use Rattle.command_migrate.specs.Ends.{stop_end, fault_end}
use Rattle.command_migrate.specs.Migrates.{Migrates, WritesMigrated}
use Rattle.command_migrate.specs.OldStores.{HasOldStore, migrated_in}
use Rattle.command_migrate.specs.laws.OldStoreLaws.{file_is}
use Rattle.command_migrate.specs.declared.command.MigrateEnd.{MigrateEnd}
use Rattle.command_migrate.specs.declared.command.MigrateEnd.TheVariants.{PlaceFault}

-- what the command ends with is what a step's error stands for
pub end_is : {T : Type 0} (P : MigrateEnd → Type 0) (result : Result T MigrateEnd) (end : MigrateEnd)
    → IsErrAnd result (λ e. e ≡ end) → P end → IfErr result P
end_is P (Ok x) end is p = tt
end_is P (Err e) end is p = subst P (sym is) p

-- ---- the ends

-- a fault since a later time is one since an earlier
later_fault : (P : Blame → Type 0) (old mid new : Seen) → old.faults ≤ mid.faults → HadFault mid new P
    → HadFault old new P
later_fault P old mid new later had = record { rose = omega (arith, later, had.rose); blame = had.blame }

module _ (store out : List ℕ) where
  -- STORE was not read
  pub unread : (old new : Seen) → new.files ≡ old.files → (s : Stop) → Licensed (HadFault old new (IsRead store)) s
      → Migrates store out old new (stop_end s)
  unread old new same stop.NoMemory had = same
  unread old new same stop.Failed had = (inl had, inl same)

  -- it comes to no store
  pub refused : (old new : Seen) (slice bytes : List ℕ) (f : MigrateFault) → new.files ≡ old.files → slice ≡ bytes
      → IsFrontOf MAX_STORE bytes old.files store
      → (f ≢ fault.NoMemory → migrated_in slice ≡ Err f) → Migrates store out old new (fault_end f)
  refused old new slice bytes fault.AlreadyNew same lent front is =
      (file_is old.files store slice bytes (Err fault.AlreadyNew) lent front (is (λ e. cc)), same)
  refused old new slice bytes (fault.At at kind) same lent front is =
      (file_is old.files store slice bytes (Err (fault.At at kind)) lent front (is (λ e. cc)), same)
  refused old new slice bytes (fault.TooWide group) same lent front is =
      (file_is old.files store slice bytes (Err (fault.TooWide group)) lent front (is (λ e. cc)), same)
  refused old new slice bytes (fault.Full group) same lent front is =
      (file_is old.files store slice bytes (Err (fault.Full group)) lent front (is (λ e. cc)), same)
  refused old new slice bytes fault.NoMemory same lent front is = same

  module _ (old mid new : Seen) (set : KeptSet) (text : List ℕ) (is : text ≡ store_text set)
      (has : HasOldStore old.files store set) (before : mid.files ≡ old.files) where
    -- OUT was not written
    pub not_written : old.faults ≤ mid.faults
        → (new.files ≡ mid.files) ⊎ Wrote [] (Some (record { name = out; bytes = text })) mid new
        → Failed (writing out ∷ []) mid new → Migrates store out old new PlaceFault
    not_written later (inl same) cause = (inr ((set, has), later_fault _ old mid new later cause), inl (same ∙ before))
    not_written later (inr front) cause = (
      inr ((set, has), later_fault _ old mid new later cause),
      inr (
        set,
        has,
        subst (λ (t : List ℕ). Wrote [] (Some (record { name = out; bytes = t })) old new) is
            (Wrote-then [] [] (Some (record { name = out; bytes = text })) old mid new
            (Wrote-nothing old mid before) front),
      ),
    )

    -- it was, with so many packets
    pub written : (n : ℕ) → n ≡ length (frames_in set) → Wrote (record { name = out; bytes = text } ∷ []) None mid new
        → (w : WritesMigrated store out old new) × (n ≡ length (frames_in w.set))
    written n many w = (
      record {
        set = set;
        has = has;
        file = subst (λ (t : List ℕ). Wrote (record { name = out; bytes = t } ∷ []) None old new) is
            (Wrote-then [] (record { name = out; bytes = text } ∷ []) None old mid new
            (Wrote-nothing old mid before) w);
      },
      many,
    )
