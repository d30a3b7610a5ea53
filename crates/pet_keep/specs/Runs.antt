-- What a run of `keep` does by its words, what it prints, and when it is done. This project's own.
use Rattle.std.specs.Prelude.{ℕ, ◌≡◌, ◌≢◌, ◌⊎◌, ◌<◌, Bool, List, [], ◌∷◌, ◌++◌, length, Option, None, Some, Ok}
use Rattle.packet_reading.specs.Opened.{IsBoundTo}
use Rattle.packet_reading.specs.Layers.{port_line}
use Rattle.packet_reading.specs.SessionRead.{HasDatagrams}
use Rattle.outside_disk.specs.Disk.{DiskSeen, Untold, Tells as TellsDisk}
use Rattle.outside_files.specs.Failures.{EndsAtOnce}
use Rattle.outside_files.specs.Printed.{Printed, PrintsLine}
use Rattle.outside_files.specs.Uses.{IsWell, reading, writing}
use Rattle.outside_routes.specs.RouteFaults.{BoundFailed}
use Rattle.outside_routes.specs.Way.{Way, OnFile, OnLink}
use Rattle.packet_verdicts.specs.KeptSet.{KeptSet, kept_in_all}
use Rattle.packet_verdicts.specs.Verdicts.{after_all}
use Rattle.pet_base.specs.Causes.{Rose}
use Rattle.pet_base.specs.declared.limits.TheConstants.{MAX_DATAGRAMS}
use Rattle.pet_base.specs.OutsideSeen.{OutsideSeen}
use Rattle.pet_base.specs.Seen.{Blame, Files, with_file}
use Rattle.pet_receive.specs.ShownBytes.{IsComplete, shown_in_all}
use Rattle.pet_text.specs.Ends.{way_in}
use Rattle.pet_text.specs.Told.{PrintedShortBy, TellsBy}
use Rattle.pet_text.specs.Lines.{receive_text}
use Rattle.pet_text.specs.declared.keep_words.KeepWords.{KeepWords}
use Rattle.store_text.specs.Store.{store_text}
use Rattle.pet_keep.specs.Journaled.{DiskNow, journal_in}
use Rattle.pet_keep.specs.Keeps.{Keeps}
use Rattle.pet_keep.specs.Statuses.{failures_of, fault_text, line_of, status_of}
use Rattle.pet_keep.specs.declared.end.KeepEnd.{KeepEnd}
use Rattle.pet_keep.specs.declared.status.KeepStatus.{KeepStatus}
use Rattle.pet_keep.specs.declared.status.KeepStatus.TheVariants.{Done, Usage, NoMemory, OutFault, Incomplete}

-- there was a line, a front of it was printed, and the status is OutFault
abbrev pub PrintedShort : List ℕ → OutsideSeen → OutsideSeen → KeepStatus → Type 0
PrintedShort line before after status = PrintedShortBy OutFault line before after status

-- the line of the end, and then that of the status
abbrev pub Tells : List ℕ → KeepStatus → OutsideSeen → OutsideSeen → KeepStatus → Type 0
Tells text of_end before after status = TellsBy fault_text OutFault text of_end before after status

-- which statuses tell of a failure of the place, and which of one of the link
abbrev pub of_place : KeepStatus → Bool
of_place status = (failures_of status).0

abbrev pub of_link : KeepStatus → Bool
of_link status = (failures_of status).1

-- `keep` did what it does at one of its ends, and then told of that end. The first failure of the place or of the link
-- ended it, and
-- only the statuses of these tell of one.
pub record RunsKeep (words : KeepWords) (before after : OutsideSeen) (old new : DiskNow)
    (status : KeepStatus) : Type 0 where
  pub between : OutsideSeen
  pub end : KeepEnd
  pub did : Keeps (way_in words.from) words.session words.store before between old new end
  pub tells : Tells (line_of end) (status_of end) between after status
  pub once : EndsAtOnce (of_place status) (of_link status) before after

-- Words of another form are refused as usage: its line is printed, and nothing else is done.
pub record RefusesKeep (before after : OutsideSeen) (status : KeepStatus) : Type 0 where
  pub ended : status ≡ Usage
  pub line : PrintsLine (fault_text Usage) before after

abbrev pub DoesKeep : Option KeepWords → OutsideSeen → OutsideSeen → DiskNow → DiskNow → KeepStatus → Type 0
DoesKeep None before after old new status = RefusesKeep before after status
DoesKeep (Some words) before after old new status = RunsKeep words before after old new status

-- the files that are read and written
abbrev pub uses_of : Way → List ℕ → List Blame
uses_of (OnFile name) store = reading name ∷ writing store ∷ []
uses_of (OnLink address) store = writing store ∷ []

-- The disk is told, and its bytes stand for this set.
abbrev pub TellsJournal : List ℕ → DiskSeen → KeptSet → Type 0
TellsJournal session Untold first = ⊥
TellsJournal session (TellsDisk disk) first = journal_in session disk.bytes ≡ Ok first

-- The premises of completeness: memory was found, neither the place, the link, the output nor the disk had a fault of this
-- call, FROM has these datagrams, fewer than 16,777,216, and the journal stands for a set.
pub record CanKeep (words : KeepWords) (files : Files) (ds : List (List ℕ)) (first : KeptSet)
    (before after : OutsideSeen) (old new : DiskNow) (status : KeepStatus) : Type 0 where
  pub memory : status ≢ NoMemory
  pub well : IsWell (uses_of (way_in words.from) words.store) before after
  pub link : BoundFailed (way_in words.from) before.link after.link → ⊥
  pub disk : Rose old.faults new.faults → ⊥
  pub told : before.place.files ≡ Some files
  pub found : HasDatagrams (way_in words.from) files ds before
  pub few : length ds < MAX_DATAGRAMS
  pub journal : TellsJournal words.session old.seen first

-- what is printed of these datagrams, handed to what the journal had
abbrev pub numbers_text : KeptSet → List (List ℕ) → List ℕ
numbers_text first ds =
    receive_text (length ds) (kept_in_all (after_all first ds)) (shown_in_all (after_all first ds))

-- Done exactly where every layer of every group is shown, and else Incomplete
abbrev pub EndsBy : KeptSet → KeepStatus → Type 0
EndsBy set status = ((status ≡ Done) × IsComplete set) ⊎ ((status ≡ Incomplete) × (IsComplete set → ⊥))

-- STORE has the store of what the journal had with all datagrams handed to it, no other file has changed, and the lines
-- printed are the defined ones.
pub record KeepsGiven (words : KeepWords) (files : Files) (ds : List (List ℕ)) (first : KeptSet)
    (before after : OutsideSeen) (status : KeepStatus) : Type 0 where
  pub written : after.place.files ≡ Some (with_file words.store (store_text (after_all first ds)) files)
  pub listens : IsBoundTo (way_in words.from) before.link after.link
  pub ended : EndsBy (after_all first ds) status
  pub printed : Printed (port_line (way_in words.from) after.link ++ (numbers_text first ds ++ fault_text status))
      before after

abbrev pub CompletesKeep : Option KeepWords → OutsideSeen → OutsideSeen → DiskNow → DiskNow → KeepStatus → Type 0
CompletesKeep None before after old new status = Unit {0}
CompletesKeep (Some words) before after old new status =
    (files : Files) (ds : List (List ℕ)) (first : KeptSet)
    → CanKeep words files ds first before after old new status
    → KeepsGiven words files ds first before after status
