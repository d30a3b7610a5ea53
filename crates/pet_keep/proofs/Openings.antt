-- What a run leaves, by whether its journal was opened.
use Rattle.std.proofs.Common.{◌≡◌, ◌≢◌, ℕ, ◌≤◌, Bool, false, List, refl, sym, subst, inl, inr, arith}
use Rattle.packet_reading.specs.Opened.{KeepsLink}
use Rattle.packet_reading.specs.laws.BegunLaws.{link_same}
use Rattle.outside_disk.specs.Disk.{Between, DiskSeen, IfTold, IsSound, LeavesOnly}
use Rattle.outside_disk.specs.declared.disk.Disk.{Ghosts as DiskOf}
use Rattle.outside_files.specs.Failures.{EndsAtOnce}
use Rattle.outside_files.specs.laws.PrintedLaws.{Rose-since}
use Rattle.outside_routes.specs.Way.{Way}
use Rattle.packet_verdicts.specs.KeptSet.{KeptSet, empty_set}
use Rattle.pet_base.specs.declared.limits.TheConstants.{MAX_SESSION}
use Rattle.pet_base.specs.OutsideSeen.{OutsideSeen}
use Rattle.pet_base.specs.LinkSeen.{LinkStops}
use Rattle.pet_base.specs.Seen.{PlaceStops}
use Rattle.store_journal.specs.Opening.{IsStartFault, KeepsDisk}
use Rattle.store_journal.specs.Receives.{Causes}
use Rattle.store_journal.specs.declared.fault.StartFault.{StartFault}
use Rattle.store_journal.specs.declared.fault.StartFault.TheVariants as start
use Rattle.store_keeper.specs.Journal.{keep_frame}
use Rattle.store_keeper.specs.Keeper.{ReadsAsBefore, Starts}
use Rattle.pet_keep.specs.Journaled.{DiskNow, HasJournal, disk_now, offered}
use Rattle.packet_reading.specs.Begun.{OutStops}
use Rattle.pet_keep.specs.Keeps.{EndsFrom, EndsKeep, EndsOpened, FewHaveLeft, IsIdle, Keeps, end_of_output}
use Rattle.pet_keep.proofs.CameSoFar.{few_none}
use Rattle.pet_keep.specs.Runs.{of_link, of_place}
use Rattle.pet_keep.specs.Statuses.{status_of}
use Rattle.pet_keep.specs.declared.end.KeepEnd.{KeepEnd}
use Rattle.pet_keep.specs.declared.end.KeepEnd.TheVariants as end
use Rattle.pet_keep.specs.inside.SoFar.{StandsAfterFirst, end_of_start}
use Rattle.pet_keep.proofs.Ends.{since_keeping, since_opening, since_same}

-- the set of a keeper that was started is that of the journal
pub journal_read : (session : List ℕ) (old mid : DiskSeen) (set : KeptSet) → Starts session MAX_SESSION old mid set
    → HasJournal session old set
journal_read session old mid set starts = record {
  session_is = starts.session_is;
  limit_is = starts.limit_is;
  sound = starts.sound;
  read = starts.read;
}

module _ (from : Way) (session store : List ℕ) (before after : OutsideSeen) (old new : DiskNow) where
  opened : (first : KeptSet) → HasJournal session old.seen first → (e : KeepEnd)
      → EndsFrom first from store before after old new e → EndsOpened from session store before after old new e
  opened first journal e left = record { first = first; journal = journal; left = left }

  -- what was left once the journal was opened, seen from before that
  pub opened_ends : (mid : DiskNow) (first : KeptSet) → HasJournal session old.seen first → old.faults ≤ mid.faults
      → (e : KeepEnd) → EndsFrom first from store before after mid new e
      → EndsKeep from session store before after old new e
  opened_ends mid first journal later (end.Done totals) left = opened first journal (end.Done totals) left
  opened_ends mid first journal later (end.Incomplete totals) left = opened first journal (end.Incomplete totals) left
  opened_ends mid first journal later (end.TurnsSpent totals) left = opened first journal (end.TurnsSpent totals) left
  opened_ends mid first journal later end.NoMemory left = inr (opened first journal end.NoMemory left)
  opened_ends mid first journal later end.PlaceFault left = opened first journal end.PlaceFault left
  opened_ends mid first journal later end.LinkFault left = opened first journal end.LinkFault left
  opened_ends mid first journal later end.OutFault left = opened first journal end.OutFault left
  opened_ends mid first journal later end.DiskFault left =
      inr (opened first journal end.DiskFault
      (Rose-since old.faults mid.faults new.faults later left.0, left.1, left.2))
  opened_ends mid first journal later end.OtherSession left = absurd left
  opened_ends mid first journal later (end.BadJournal at) left = absurd left
  opened_ends mid first journal later end.Usage left = absurd left

  -- the journal was not opened
  pub refused_ends : (fault : StartFault)
      → IfTold old.seen (λ d. IsStartFault keep_frame (empty_set session MAX_SESSION) session d.bytes fault)
      → KeepsDisk old.seen new.seen fault → Causes old.faults new.faults fault → IsIdle before after
      → EndsKeep from session store before after old new (end_of_start fault)
  refused_ends (start.BadJournal at) told keeps cause idle = (record { told = told; same = keeps tt }, idle)
  refused_ends (start.OtherSession named) told keeps cause idle =
      ((named, record { told = told; same = keeps tt }), idle)
  refused_ends start.DiskFault told keeps cause idle = inl (cause, idle)
  refused_ends start.NoMemory told keeps cause idle = inl idle

  -- no run on words that were read ends as usage
  pub never_usage : (e : KeepEnd) → EndsKeep from session store before after old new e → e ≢ end.Usage
  never_usage e ends is = subst (EndsKeep from session store before after old new) is ends

pub calm_start : (fault : StartFault)
    → (of_place (status_of (end_of_start fault)) ≡ false) × (of_link (status_of (end_of_start fault)) ≡ false)
calm_start (start.BadJournal at) = (refl, refl)
calm_start (start.OtherSession named) = (refl, refl)
calm_start start.DiskFault = (refl, refl)
calm_start start.NoMemory = (refl, refl)

-- nothing was done that could fail
pub calm : (place link : Bool) (before after : OutsideSeen) → place ≡ false → link ≡ false
    → after.place.faults ≡ before.place.faults → after.link.faults ≡ before.link.faults
    → EndsAtOnce place link before after
calm place link before after no_place no_link same_place same_link = record {
  place = subst (λ (b : Bool). PlaceStops b before.place after.place) (sym no_place) same_place;
  link = subst (λ (b : Bool). LinkStops b before.link after.link) (sym no_link) same_link;
}

-- no memory was found, before anything was done
pub nothing_kept : (from : Way) (session store : List ℕ) (before : OutsideSeen) (disk : DiskNow)
    → Keeps from session store before before disk disk end.NoMemory
nothing_kept from session store before disk = record {
  images = since_same session (offered from before) disk.seen;
  link = link_same from before.link;
  few = few_none from before.link;
  later = omega arith;
  out = refl;
  disk_later = omega arith;
  ends = inl (record { place = refl; link = refl; written = refl; out_faults = refl });
}

-- the output is as before
not_output : (fault : StartFault) (before : OutsideSeen) → OutStops (end_of_output (end_of_start fault)) before before
not_output (start.BadJournal at) before = refl
not_output (start.OtherSession named) before = refl
not_output start.DiskFault before = refl
not_output start.NoMemory before = refl

-- the journal was refused
pub refused : (from : Way) (session store : List ℕ) (before : OutsideSeen) (old new : DiskNow) (fault : StartFault)
    (e : KeepEnd) → e ≡ end_of_start fault
    → Between (ReadsAsBefore session MAX_SESSION) old.seen new.seen
    → IfTold old.seen (λ d. IsStartFault keep_frame (empty_set session MAX_SESSION) session d.bytes fault)
    → KeepsDisk old.seen new.seen fault → Causes old.faults new.faults fault → old.faults ≤ new.faults
    → Keeps from session store before before old new e
refused from session store before old new fault e is images told keeps cause later =
    subst (Keeps from session store before before old new) (sym is)
    (record {
      images = since_opening session (offered from before) old.seen new.seen images;
      link = link_same from before.link;
      few = few_none from before.link;
      later = omega arith;
      out = not_output fault before;
      disk_later = later;
      ends =
          refused_ends from session store before before old new fault told keeps cause
          (record { place = refl; link = refl; written = refl; out_faults = refl });
    })

-- the journal was opened, and then datagrams were kept
pub kept_on : {D : Type 0} (d : DiskOf D) (from : Way) (session store : List ℕ) (before after : OutsideSeen)
    (set : KeptSet) (old mid new last : D) (e : KeepEnd) → last ≡ new → IfTold (d.seen old) IsSound
    → Starts session MAX_SESSION (d.seen old) (d.seen mid) set → d.faults old ≤ d.faults mid
    → EndsFrom set from store before after (disk_now d mid) (disk_now d new) e
    → Between (LeavesOnly (StandsAfterFirst set (offered from before))) (d.seen mid) (d.seen new)
    → KeepsLink from before.link after.link → FewHaveLeft from before.link after.link
    → before.out_faults ≤ after.out_faults → OutStops (end_of_output e) before after → d.faults mid ≤ d.faults new
    → Keeps from session store before after (disk_now d old) (disk_now d last) e
kept_on {D = D} d from session store before after set old mid new last e is sound starts started left keeps link few
    later out disk_later =
    subst (λ (x : D). Keeps from session store before after (disk_now d old) (disk_now d x) e) (sym is)
    (record {
      images = since_keeping session (offered from before) set (d.seen old) (d.seen mid) (d.seen new) sound starts keeps;
      link = link;
      few = few;
      later = later;
      out = out;
      disk_later = omega (arith, started, disk_later);
      ends =
          opened_ends from session store before after (disk_now d old) (disk_now d new) (disk_now d mid) set
          (journal_read session (d.seen old) (d.seen mid) set starts) started e left;
    })
