-- What `keep` leaves at each of its ends. This project's own.
use Rattle.std.specs.Prelude.{Bool, ℕ, ◌≡◌, ◌⊎◌, ◌<◌, ◌≤◌, List, [], ◌∷◌, length, None, Some, Err}
use Rattle.packet_reading.specs.Begun.{EnteringFailed, OpeningFailed, OutStops}
use Rattle.packet_reading.specs.Opened.{IsBoundTo, IsUntouched, KeepsLink, PortFailed, PrintedPort}
use Rattle.packet_reading.specs.Layers.{HaveComeFirst, IsRead}
use Rattle.packet_reading.specs.declared.reading.Totals.{Totals}
use Rattle.outside_disk.specs.Disk.{Between, DiskSeen, IfTold, Reads}
use Rattle.outside_files.specs.Printed.{Unprinted}
use Rattle.outside_files.specs.Uses.{writing}
use Rattle.outside_files.specs.Wrote.{Wrote}
use Rattle.outside_routes.specs.Coming.{HaveCome}
use Rattle.outside_routes.specs.RouteFaults.{BoundFailed}
use Rattle.outside_routes.specs.Way.{Way, OnFile, OnLink}
use Rattle.packet_verdicts.specs.KeptSet.{KeptSet, kept_in_all}
use Rattle.packet_verdicts.specs.Verdicts.{after_all}
use Rattle.pet_base.specs.Causes.{Rose}
use Rattle.pet_base.specs.declared.limits.TheConstants.{MAX_DATAGRAMS}
use Rattle.pet_base.specs.LinkSeen.{LinkSeen}
use Rattle.pet_base.specs.OutsideSeen.{OutsideSeen}
use Rattle.pet_base.specs.Seen.{HadFault}
use Rattle.pet_receive.specs.ShownBytes.{IsComplete, shown_in_all}
use Rattle.store_journal.specs.declared.fault.StartFault.{StartFault}
use Rattle.store_journal.specs.declared.fault.StartFault.TheVariants as start
use Rattle.store_keeper.specs.Journal.{StandsFor}
use Rattle.store_keeper.specs.Keeper.{EachNow}
use Rattle.store_text.specs.Files.{store_file}
use Rattle.pet_keep.specs.Journaled.{DiskNow, HasJournal, SinceBeginning, journal_in, offered}
use Rattle.pet_keep.specs.Statuses.{failures_of, status_of}
use Rattle.pet_keep.specs.declared.end.KeepEnd.{KeepEnd}
use Rattle.pet_keep.specs.declared.end.KeepEnd.TheVariants.{Done, Usage, NoMemory, PlaceFault, LinkFault, OutFault}
use Rattle.pet_keep.specs.declared.end.KeepEnd.TheVariants.{OtherSession, Incomplete, TurnsSpent, DiskFault, BadJournal}

-- The datagrams of FROM were read, STORE has the store of what the journal had with these handed to it, and whatever a
-- crash leaves of the
-- journal stands for that very set.
pub record KeepsAll (first : KeptSet) (from : Way) (store : List ℕ) (before after : OutsideSeen)
    (disk : DiskSeen) : Type 0 where
  pub read : List (List ℕ)
  pub few : length read ≤ MAX_DATAGRAMS
  pub input : IsRead from read before after
  pub bound : IsBoundTo from before.link after.link
  pub file : Wrote (store_file store (after_all first read) ∷ []) None before.place after.place
  pub stands : IfTold disk (EachNow (StandsFor (after_all first read)))

-- The datagrams of FROM were read, and STORE has a front of that store.
pub record StoresFront (first : KeptSet) (from : Way) (store : List ℕ) (before after : OutsideSeen) : Type 0 where
  pub read : List (List ℕ)
  pub few : length read ≤ MAX_DATAGRAMS
  pub input : IsRead from read before after
  pub file : Wrote [] (Some (store_file store (after_all first read))) before.place after.place

-- No file has changed.
abbrev pub KeepsFiles : OutsideSeen → OutsideSeen → Type 0
KeepsFiles before after = after.place.files ≡ before.place.files

-- No file has changed, or STORE has such a front.
abbrev pub LeavesFront : KeptSet → Way → List ℕ → OutsideSeen → OutsideSeen → Type 0
LeavesFront first from store before after = KeepsFiles before after ⊎ StoresFront first from store before after

-- FROM failed, a file or the link, while datagrams were to come: whatever a crash leaves of the journal stands for what it
-- had with those handed to it that came. No file has changed.
pub record KeepsUntilFault (first : KeptSet) (from : Way) (before after : OutsideSeen) (disk : DiskSeen) : Type 0 where
  pub read : List (List ℕ)
  pub few : length read ≤ MAX_DATAGRAMS
  pub come : HaveComeFirst from read before after
  pub files : KeepsFiles before after
  pub stands : IfTold disk (EachNow (StandsFor (after_all first read)))

-- The datagrams of FROM were read, and whatever a crash leaves of the journal stands for what it had with these handed to
-- it. STORE was not made, or has a front of that store.
pub record StoresPart (first : KeptSet) (from : Way) (store : List ℕ) (before after : OutsideSeen)
    (disk : DiskSeen) : Type 0 where
  pub read : List (List ℕ)
  pub few : length read ≤ MAX_DATAGRAMS
  pub input : IsRead from read before after
  pub files : KeepsFiles before after
      ⊎ Wrote [] (Some (store_file store (after_all first read))) before.place after.place
  pub stands : IfTold disk (EachNow (StandsFor (after_all first read)))

-- Where the place failed: FROM, a file, could not be opened, and the journal stands for what it did; or FROM failed behind
-- that; or STORE failed, once the datagrams of FROM were read.
abbrev pub StopsAtFile : KeptSet → Way → List ℕ → OutsideSeen → OutsideSeen → DiskSeen → Type 0
StopsAtFile first from store before after disk =
    (OpeningFailed from before.place after.place × KeepsFiles before after × IfTold disk (EachNow (StandsFor first)))
    ⊎ (EnteringFailed from before.place after.place × KeepsUntilFault first from before after disk)
    ⊎ (HadFault before.place after.place (λ blame. blame ≡ writing store)
    × StoresPart first from store before after disk)

-- no more than 16,777,216 datagrams have left the link
abbrev pub FewHaveLeft : Way → LinkSeen → LinkSeen → Type 0
FewHaveLeft (OnFile name) old new = Unit {0}
FewHaveLeft (OnLink address) old new =
    (read : List (List ℕ)) × (length read ≤ MAX_DATAGRAMS) × HaveCome read old.feed new.feed

-- which end tells of a failure of the output
abbrev pub end_of_output : KeepEnd → Bool
end_of_output end = (failures_of (status_of end)).2

-- the numbers of these datagrams, handed to what the journal had: how many they are, how many packets are kept, and
-- how many
-- layers are shown
pub record AreTotals (first : KeptSet) (read : List (List ℕ)) (totals : Totals) : Type 0 where
  pub many : totals.read ≡ length read
  pub kept : totals.kept ≡ kept_in_all (after_all first read)
  pub shown : totals.shown ≡ shown_in_all (after_all first read)

-- nothing was printed, or the line of the port at which the link receives
abbrev pub MayPrintPort : Way → OutsideSeen → OutsideSeen → Type 0
MayPrintPort from before after = Unprinted before after ⊎ PrintedPort from before after

-- What is left once the journal is opened, which stands for this set. Nothing is printed but the line of the port of a
-- link, before
-- datagrams come.
abbrev pub EndsFrom : KeptSet → Way → List ℕ → OutsideSeen → OutsideSeen → DiskNow → DiskNow → KeepEnd → Type 0
EndsFrom first from store before after old new (Done totals) =
    (k : KeepsAll first from store before after new.seen)
    × (length k.read < MAX_DATAGRAMS) × IsComplete (after_all first k.read)
    × AreTotals first k.read totals × PrintedPort from before after
EndsFrom first from store before after old new (Incomplete totals) =
    (k : KeepsAll first from store before after new.seen)
    × (length k.read < MAX_DATAGRAMS) × (IsComplete (after_all first k.read) → ⊥)
    × AreTotals first k.read totals × PrintedPort from before after
EndsFrom first from store before after old new (TurnsSpent totals) =
    (k : KeepsAll first from store before after new.seen)
    × (length k.read ≡ MAX_DATAGRAMS) × AreTotals first k.read totals × PrintedPort from before after
EndsFrom first from store before after old new NoMemory =
    LeavesFront first from store before after × MayPrintPort from before after
EndsFrom first from store before after old new PlaceFault =
    StopsAtFile first from store before after new.seen × PrintedPort from before after
EndsFrom first from store before after old new LinkFault =
    BoundFailed from before.link after.link
    × KeepsUntilFault first from before after new.seen × MayPrintPort from before after
EndsFrom first from store before after old new OutFault =
    IsUntouched from before after × PortFailed from before after
EndsFrom first from store before after old new DiskFault =
    Rose old.faults new.faults × KeepsFiles before after × PrintedPort from before after
EndsFrom first from store before after old new OtherSession = ⊥
EndsFrom first from store before after old new (BadJournal at) = ⊥
EndsFrom first from store before after old new Usage = ⊥

-- the journal stands for a set, and then this was left
pub record EndsOpened (from : Way) (session store : List ℕ) (before after : OutsideSeen) (old new : DiskNow)
    (end : KeepEnd) : Type 0 where
  pub first : KeptSet
  pub journal : HasJournal session old.seen first
  pub left : EndsFrom first from store before after old new end

-- FROM was not begun: nothing of the outside was used
pub record IsIdle (before after : OutsideSeen) : Type 0 where
  pub place : after.place ≡ before.place
  pub link : after.link ≡ before.link
  pub written : after.written ≡ before.written
  pub out_faults : after.out_faults ≡ before.out_faults

-- the text is no journal of the session for this cause, and stays as it is
pub record IsRefused (session : List ℕ) (old new : DiskNow) (fault : StartFault) : Type 0 where
  pub told : IfTold old.seen (λ d. journal_in session d.bytes ≡ Err fault)
  pub same : Between Reads old.seen new.seen

-- by the end
abbrev pub EndsKeep : Way → List ℕ → List ℕ → OutsideSeen → OutsideSeen → DiskNow → DiskNow → KeepEnd → Type 0
EndsKeep from session store before after old new (Done totals) =
    EndsOpened from session store before after old new (Done totals)
EndsKeep from session store before after old new (Incomplete totals) =
    EndsOpened from session store before after old new (Incomplete totals)
EndsKeep from session store before after old new (TurnsSpent totals) =
    EndsOpened from session store before after old new (TurnsSpent totals)
EndsKeep from session store before after old new NoMemory =
    IsIdle before after ⊎ EndsOpened from session store before after old new NoMemory
EndsKeep from session store before after old new PlaceFault =
    EndsOpened from session store before after old new PlaceFault
EndsKeep from session store before after old new LinkFault =
    EndsOpened from session store before after old new LinkFault
EndsKeep from session store before after old new OutFault =
    EndsOpened from session store before after old new OutFault
EndsKeep from session store before after old new DiskFault =
    (Rose old.faults new.faults × IsIdle before after)
    ⊎ EndsOpened from session store before after old new DiskFault
EndsKeep from session store before after old new OtherSession =
    ((named : List ℕ) × IsRefused session old new (start.OtherSession named)) × IsIdle before after
EndsKeep from session store before after old new (BadJournal at) =
    IsRefused session old new (start.BadJournal at) × IsIdle before after
EndsKeep from session store before after old new Usage = ⊥

-- What `keep` does: whatever its end, what a crash may leave of the journal since its beginning stands for what one stood
-- for that a crash could have left then, with the first datagrams of FROM handed to that. It sends nothing, never more than
-- 16,777,216 datagrams leave the link, no count of faults falls, and the output fails once at OutFault and at no other end.
pub record Keeps (from : Way) (session store : List ℕ) (before after : OutsideSeen) (old new : DiskNow)
    (end : KeepEnd) : Type 0 where
  pub images : Between (SinceBeginning session (offered from before)) old.seen new.seen
  pub link : KeepsLink from before.link after.link
  pub few : FewHaveLeft from before.link after.link
  pub later : before.out_faults ≤ after.out_faults
  pub out : OutStops (end_of_output end) before after
  pub disk_later : old.faults ≤ new.faults
  pub ends : EndsKeep from session store before after old new end
