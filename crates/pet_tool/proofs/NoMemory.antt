-- The end of a command that did nothing.
use Rattle.std.proofs.Common.{ℕ, List, [], refl}
use Rattle.pet_base.specs.OutsideSeen.{OutsideSeen}
use Rattle.text_status.specs.declared.status.Status.{Status}
use Rattle.pet_tool.specs.Runs.{Runs}
use Rattle.pet_tool.specs.Told.{Tells}
use Rattle.pet_text.specs.laws.ToldLaws.{strikes}
use Rattle.text_status.specs.Statuses.{fault_text}
use Rattle.text_status.specs.declared.status.Status.TheVariants.{NoMemory, OutFault}
use Rattle.pet_tool.specs.Statuses.{of_place, of_link}

-- A command may end so before it has done anything: no memory was found to read its words.
pub unread : {E : Type 0} (line_of : E → List ℕ) (status_of : E → Status) (Did : OutsideSeen → OutsideSeen → E → Type 0)
    (end : E) (before after : OutsideSeen) (status : Status) → Did before before end
    → Tells (line_of end) (status_of end) before after status → Tells [] NoMemory before after status
    → Runs line_of status_of Did before after status
unread line_of status_of Did end before after status did tells silent = record {
  between = before;
  end = end;
  did = did;
  tells = tells;
  once =
      strikes fault_text OutFault of_place of_link refl refl [] NoMemory before before after status silent (λ some. (refl, refl))
      (record { place = refl; link = refl });
}
