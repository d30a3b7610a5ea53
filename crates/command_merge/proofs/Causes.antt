-- Why the command ends so, by the step that failed.
use Rattle.std.proofs.Common.{◌≡◌, ◌≢◌, ◌⊎◌, ℕ, ◌≤◌, List, [], ◌∷◌, Option, None, Some, refl, sym, subst, ◌∙◌}
use Rattle.std.proofs.Common.{arith, inl, inr, Result, Ok, Err}
use Rattle.std.specs.Prelude.{IfErr, IsErrAnd, MatchResult}
use Rattle.pet_base.specs.Seen.{Seen, Files, Blame, HadFault}
use Rattle.pet_base.specs.declared.faults.Stop.{Stop}
use Rattle.pet_base.specs.declared.faults.Stop.TheVariants as stop
use Rattle.pet_base.specs.declared.limits.TheConstants.{MAX_STORE}
use Rattle.outside_files.specs.Inputs.{IsFrontOf, IsRead, Licensed}
use Rattle.outside_files.specs.Uses.{writing, Failed}
use Rattle.outside_files.specs.Wrote.{Wrote}
use Rattle.outside_files.specs.laws.WroteLaws.{Wrote-nothing, Wrote-then}
use Rattle.packet_verdicts.specs.KeptSet.{KeptSet, kept_in_all}
use Rattle.packet_verdicts.specs.Union.{union, absorb_fault}
use Rattle.packet_verdicts.specs.declared.union.Absorb.{Absorb}
use Rattle.packet_verdicts.specs.declared.union.Absorb.TheVariants as absorb
use Rattle.store_merge.specs.Files.{IsStop, stop_of_store}
use Rattle.store_merge.specs.laws.StoreFiles.{stop_refused}
use Rattle.store_union.specs.Joined.{AreJoined}
use Rattle.store_packets.specs.declared.packets.StorePackets.{StorePackets}
use Rattle.store_text.specs.Files.{HasBadStore, HasStore, store_file, store_in}
use Rattle.store_text.specs.declared.fault.BadStore.{BadStore}
use Rattle.store_text.specs.declared.fault.BadStore.TheVariants.{At}
use Rattle.store_merge.specs.declared.read_files.StoreStop.{StoreStop}
use Rattle.store_merge.specs.declared.read_files.StoreStop.TheVariants as unread
use Rattle.command_merge.specs.Ends.{absorb_end, stop_end, store_end}
use Rattle.command_merge.specs.Merges.{HasStores, CanJoin, Merges, WritesUnion, union_of}
use Rattle.command_merge.specs.declared.command.MergeEnd.{MergeEnd}
use Rattle.command_merge.specs.declared.command.MergeEnd.TheVariants.{PlaceFault}
use Rattle.command_merge.specs.declared.files.Which.{Which}
use Rattle.command_merge.specs.declared.files.Which.TheVariants as which

ok_not_err : {A : Type 0} (x : A) (end : MergeEnd) (r : Result A MergeEnd) → r ≡ Ok x → r ≡ Err end → ⊥
ok_not_err x end r p q = cc

same_err : {A : Type 0} (e end : MergeEnd) (r : Result A MergeEnd) → r ≡ Err e → r ≡ Err end → e ≡ end
same_err e end r p q = cc

-- what the command ends with is what a step's error stands for
pub end_is : {T : Type 0} (P : MergeEnd → Type 0) (result : Result T MergeEnd) (end : MergeEnd)
    → IsErrAnd result (λ e. e ≡ end) → P end → IfErr result P
end_is P (Ok x) end is p = tt
end_is P (Err e) end is p = subst P (sym is) p

-- what a store that was not read stands for, behind `map_err` and `?`
pub unread_is : {A T : Type 0} (P : MergeEnd → Type 0) (Q : StoreStop → Type 0) (R : StoreStop → MergeEnd → Type 0)
    (which : Which) (r : Result A StoreStop) (mapped : Result A MergeEnd) (end : MergeEnd) (result : Result T MergeEnd)
    → ((s : StoreStop) (e : MergeEnd) → R s e → e ≡ store_end which s)
    → MatchResult r (λ x. mapped ≡ Ok x) (λ s. IsErrAnd mapped (R s)) → mapped ≡ Err end
    → IsErrAnd result (λ e. e ≡ end) → ((s : StoreStop) → Q s → P (store_end which s)) → IfErr r Q → IfErr result P
unread_is P Q R which (Ok x) mapped end result same cases was is causes q = absurd (ok_not_err x end mapped cases was)
unread_is P Q R which (Err s) (Ok x) end result same cases was is causes q = absurd cases
unread_is P Q R which (Err s) (Err e) end result same cases was is causes q =
    end_is P result end is (subst P (sym (same s e cases) ∙ same_err e end (Err e) refl was) (causes s q))

-- a fault since a later time is one since an earlier
later_fault : (P : Blame → Type 0) (old mid new : Seen) → old.faults ≤ mid.faults → HadFault mid new P
    → HadFault old new P
later_fault P old mid new later had = record { rose = omega (arith, later, had.rose); blame = had.blame }

-- the first store was not read
pub first_unread : (first second out : List ℕ) (old new : Seen) → new.files ≡ old.files → (s : StoreStop)
    → IsStop old new first s → Merges first second out old new (store_end which.First s)
first_unread first second out old new same unread.NoMemory is = same
first_unread first second out old new same unread.Failed is = (inl is, inl same)
first_unread first second out old new same (unread.At at kind) is = (is, same)

-- the second was not, of the files that the first reading left as they were
pub second_unread : (first second out : List ℕ) (old mid new : Seen) (a : KeptSet) → HasStore old.files first a
    → mid.files ≡ old.files → old.faults ≤ mid.faults → new.files ≡ mid.files → (s : StoreStop)
    → IsStop mid new second s
    → Merges first second out old new (store_end which.Second s)
second_unread first second out old mid new a has before later same unread.NoMemory is = same ∙ before
second_unread first second out old mid new a has before later same unread.Failed is =
    (inr (inl ((a, has), later_fault _ old mid new later is)), inl (same ∙ before))
second_unread first second out old mid new a has before later same (unread.At at kind) is =
    ((a, has), subst (λ (files : Option Files). HasBadStore files second (At at kind)) before is, same ∙ before)

-- both were read, the second of the files that the first reading left as they were
abbrev pub stores_of : (first second : List ℕ) (old : Seen) (left : Option Files) (a b : KeptSet)
    → HasStore old.files first a → left ≡ old.files → HasStore left second b → HasStores first second old
stores_of first second old left a b has before there =
    record {
      a = a;
      b = b;
      first_is = has;
      second_is = subst (λ (files : Option Files). HasStore files second b) before there;
    }

-- and they can be joined
abbrev pub joins_of : (first second : List ℕ) (old : Seen) (left : Option Files) (a b : KeptSet)
    → HasStore old.files first a → left ≡ old.files → HasStore left second b → absorb_fault a b ≡ None
    → CanJoin first second old
joins_of first second old left a b has before there fits =
    record { stores = stores_of first second old left a b has before there; fits = fits }

-- they cannot be joined
pub not_joined : (first second out : List ℕ) (old new : Seen) (s : HasStores first second old) (fault : Absorb)
    → new.files ≡ old.files → (fault ≢ absorb.NoMemory → absorb_fault s.a s.b ≡ Some fault)
    → Merges first second out old new (absorb_end fault)
not_joined first second out old new s absorb.OtherSession same is = (s, is (λ e. cc), same)
not_joined first second out old new s (absorb.Clash group number) same is = (s, is (λ e. cc), same)
not_joined first second out old new s (absorb.Full group) same is = (s, is (λ e. cc), same)
not_joined first second out old new s absorb.NoMemory same is = same

-- OUT was not written
module _ (first second out : List ℕ) (old mid new : Seen) (c : CanJoin first second old)
    (before : mid.files ≡ old.files) where
  pub not_written : old.faults ≤ mid.faults
      → (new.files ≡ mid.files) ⊎ Wrote [] (Some (store_file out (union_of c))) mid new
      → Failed (writing out ∷ []) mid new → Merges first second out old new PlaceFault
  not_written later (inl same) cause = (inr (inr (c, later_fault _ old mid new later cause)), inl (same ∙ before))
  not_written later (inr front) cause = (
    inr (inr (c, later_fault _ old mid new later cause)),
    inr (
      c,
      Wrote-then [] [] (Some (store_file out (union_of c))) old mid new (Wrote-nothing old mid before) front,
    ),
  )

  -- it was, and so many packets are in it
  pub written : (n : ℕ) → n ≡ kept_in_all (union_of c) → Wrote (store_file out (union_of c) ∷ []) None mid new
      → (w : WritesUnion first second out old new) × (n ≡ kept_in_all (union_of w.joins))
  written n many w = (
    record {
      joins = c;
      file = Wrote-then [] (store_file out (union_of c) ∷ []) None old mid new (Wrote-nothing old mid before) w;
    },
    many,
  )

-- what was put is of these two stores
pub of_two : (out : List ℕ) (mine theirs : StorePackets) (mid new : Seen) (a b : KeptSet) → AreJoined mine theirs a b
    → (new.files ≡ mid.files) ⊎ ((a b : KeptSet) → AreJoined mine theirs a b
    → Wrote [] (Some (store_file out (union a b))) mid new)
    → (new.files ≡ mid.files) ⊎ Wrote [] (Some (store_file out (union a b))) mid new
of_two out mine theirs mid new a b joined (inl same) = inl same
of_two out mine theirs mid new a b joined (inr front) = inr (front a b joined)

-- ---- the bytes of a file

-- what the bytes of a file are refused with
abbrev pub Refuses : List ℕ → StoreStop → Type 0
Refuses slice s = (fault : BadStore) × (s ≡ stop_of_store fault) × (store_in slice ≡ Err fault)

is_stop : (old new : Seen) (name slice bytes : List ℕ) → slice ≡ bytes → IsFrontOf MAX_STORE bytes old.files name
    → (s : StoreStop) → Refuses slice s → IsStop old new name s
is_stop old new name slice bytes lent front s refuses =
    subst (IsStop old new name) (sym refuses.1)
    (stop_refused old new name slice bytes refuses.0 lent front (λ some. refuses.2))

pub first_refused : (first second out : List ℕ) (old new : Seen) (slice bytes : List ℕ) → new.files ≡ old.files
    → slice ≡ bytes → IsFrontOf MAX_STORE bytes old.files first → (s : StoreStop) → Refuses slice s
    → Merges first second out old new (store_end which.First s)
first_refused first second out old new slice bytes same lent front s refuses =
    first_unread first second out old new same s (is_stop old new first slice bytes lent front s refuses)

pub second_refused : (first second out : List ℕ) (old mid new : Seen) (a : KeptSet) → HasStore old.files first a
    → mid.files ≡ old.files → old.faults ≤ mid.faults → new.files ≡ mid.files → (slice bytes : List ℕ) → slice ≡ bytes
    → IsFrontOf MAX_STORE bytes mid.files second → (s : StoreStop) → Refuses slice s
    → Merges first second out old new (store_end which.Second s)
second_refused first second out old mid new a has before later same slice bytes lent front s refuses =
    second_unread first second out old mid new a has before later same s
    (is_stop mid new second slice bytes lent front s refuses)

-- the second file was not read
pub second_failed : (first second out : List ℕ) (old mid new : Seen) (a : KeptSet) → HasStore old.files first a
    → mid.files ≡ old.files → old.faults ≤ mid.faults → new.files ≡ mid.files → (s : Stop)
    → Licensed (HadFault mid new (IsRead second)) s → Merges first second out old new (stop_end s)
second_failed first second out old mid new a has before later same stop.NoMemory had =
    second_unread first second out old mid new a has before later same unread.NoMemory tt
second_failed first second out old mid new a has before later same stop.Failed had =
    second_unread first second out old mid new a has before later same unread.Failed had
