-- A disk whose journal a run opens, and what a crash leaves of it while datagrams are kept. This project's own.
use Rattle.std.specs.Prelude.{ℕ, ◌≡◌, List, [], Option, None, Some, option_map, IfSome, Result, Ok, Err}
use Rattle.outside_disk.specs.Disk.{DiskSeen, IfTold, Told, image}
use Rattle.outside_disk.specs.declared.disk.Disk.{Ghosts as DiskOf}
use Rattle.outside_routes.specs.Sending.{AreFirstDatagrams}
use Rattle.outside_routes.specs.Way.{Way, OnFile, OnLink}
use Rattle.packet_verdicts.specs.KeptSet.{KeptSet, IsKeptSet}
use Rattle.packet_verdicts.specs.Verdicts.{after_all}
use Rattle.pet_base.specs.declared.limits.TheConstants.{MAX_SESSION}
use Rattle.pet_base.specs.Entries.{datagrams}
use Rattle.pet_base.specs.OutsideSeen.{OutsideSeen}
use Rattle.store_journal.specs.declared.fault.StartFault.{StartFault}
use Rattle.store_keeper.specs.Journal.{journal_of}
use Rattle.store_keeper.specs.Keeper.{EachSince}

-- what is seen of a disk, and how often it failed
pub record DiskNow : Type 1 where
  pub seen : DiskSeen
  pub faults : ℕ

-- the first argument is `D.Disk` in a clause
abbrev pub disk_now : {D : Type 0} → DiskOf D → D → DiskNow
disk_now d disk = record { seen = d.seen disk; faults = d.faults disk }

-- the set that a text stands for as the journal of a session, or why it is none
abbrev pub journal_in : List ℕ → List ℕ → Result KeptSet StartFault
journal_in session text = journal_of session MAX_SESSION text

-- The journal on the disk stands for this set, where the disk is told.
pub record HasJournal (session : List ℕ) (disk : DiskSeen) (set : KeptSet) : Type 0 where
  pub session_is : set.session ≡ session
  pub limit_is : set.limit ≡ MAX_SESSION
  pub sound : IsKeptSet set
  pub read : IfTold disk (λ d. journal_in session d.bytes ≡ Ok set)

-- the datagrams of a file; one that is not there has none
abbrev pub datagrams_in : Option (List ℕ) → List (List ℕ)
datagrams_in None = []
datagrams_in (Some bytes) = datagrams bytes

-- the datagrams that FROM has before a run, where they are told
abbrev pub offered : Way → OutsideSeen → Option (List (List ℕ))
offered (OnFile name) before = option_map (λ files. datagrams_in (files name)) before.place.files
offered (OnLink address) before = before.link.feed

-- These are the first ones of them.
abbrev pub AreFirst : List (List ℕ) → Option (List (List ℕ)) → Type 0
AreFirst first all = IfSome all (AreFirstDatagrams first)

-- what a reading stands for once these datagrams were handed to it
abbrev pub with_datagrams : List (List ℕ) → Result KeptSet StartFault → Result KeptSet StartFault
with_datagrams read (Ok set) = Ok (after_all set read)
with_datagrams read (Err fault) = Err fault

-- The text is read as one is that a crash might have left at first, with the first datagrams handed to that.
abbrev pub StandsSince : List ℕ → Option (List (List ℕ)) → Told → List ℕ → Type 0
StandsSince session all disk text =
    (first : List ℕ) × image disk first × (read : List (List ℕ)) × AreFirst read all
    × (journal_in session text ≡ with_datagrams read (journal_in session first))

-- so it is for each that a crash may leave since
abbrev pub SinceBeginning : List ℕ → Option (List (List ℕ)) → Told → Told → Type 0
SinceBeginning session all old new = EachSince (StandsSince session all old) old new

-- the same, without the steps that were counted: of these nothing is said
abbrev pub uncounted : OutsideSeen → OutsideSeen
uncounted o = record {
  place = o.place;
  link = o.link;
  written = o.written;
  out_faults = o.out_faults;
  steps = 0;
}
