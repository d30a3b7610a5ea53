-- What a run does by its words.
use Rattle.std.proofs.Common.{◌≡◌, ℕ, List, [], Option, None, Some, refl, subst}
use Rattle.outside_files.specs.Failures.{EndsAtOnce}
use Rattle.outside_routes.specs.Way.{Way}
use Rattle.pet_base.specs.OutsideSeen.{OutsideSeen}
use Rattle.pet_text.specs.Ends.{way_in}
use Rattle.pet_text.specs.declared.keep_words.KeepWords.{KeepWords}
use Rattle.pet_text.specs.laws.ToldLaws.{strikes}
use Rattle.pet_keep.specs.Journaled.{DiskNow}
use Rattle.pet_keep.specs.Keeps.{Keeps}
use Rattle.pet_keep.specs.Runs.{DoesKeep, RunsKeep, Tells, of_link, of_place}
use Rattle.pet_keep.specs.Statuses.{fault_text, line_of, status_of}
use Rattle.pet_keep.specs.declared.end.KeepEnd.{KeepEnd}
use Rattle.pet_keep.specs.declared.end.KeepEnd.TheVariants as end
use Rattle.pet_keep.specs.declared.status.KeepStatus.{KeepStatus}
use Rattle.pet_keep.specs.declared.status.KeepStatus.TheVariants.{NoMemory, OutFault}
use Rattle.pet_keep.proofs.Openings.{nothing_kept}
use Rattle.pet_keep.proofs.Telling.{lined_calm}

-- no memory was found to read the words, which have the form
pub does_no_memory : (before after : OutsideSeen) (disk : DiskNow) (status : KeepStatus)
    → Tells [] NoMemory before after status → (words : Option KeepWords) → (words ≡ None → ⊥)
    → DoesKeep words before after disk disk status
does_no_memory before after disk status tells None some = absurd (some refl)
does_no_memory before after disk status tells (Some words) some = record {
  between = before;
  end = end.NoMemory;
  did = nothing_kept (way_in words.from) words.session words.store before disk;
  tells = tells;
  once =
      strikes fault_text OutFault of_place of_link refl refl [] NoMemory before before after status tells (λ lined. (refl, refl))
      (record { place = refl; link = refl });
}

-- the words were read, and run
pub runs_words : (words : KeepWords) (way : Way) (store : List ℕ) (before between after : OutsideSeen)
    (old new : DiskNow) (e : KeepEnd) (status : KeepStatus) → way ≡ way_in words.from → store ≡ words.store
    → Keeps way words.session store before between old new e
    → EndsAtOnce (of_place (status_of e)) (of_link (status_of e)) before between
    → Tells (line_of e) (status_of e) between after status → RunsKeep words before after old new status
runs_words words way store before between after old new e status way_is store_is did once tells = record {
  between = between;
  end = e;
  did =
      subst (λ (w : Way). Keeps w words.session words.store before between old new e) way_is
      (subst (λ (s : List ℕ). Keeps way words.session s before between old new e) store_is did);
  tells = tells;
  once =
      strikes fault_text OutFault of_place of_link refl refl (line_of e) (status_of e) before between after status tells (lined_calm e) once;
}
