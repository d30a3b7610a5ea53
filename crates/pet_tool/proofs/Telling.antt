-- What was printed of an end, and that it changes nothing else.
use Rattle.std.proofs.Common.{◌≡◌, ◌≢◌, ◌⊎◌, ◌↔◌, ℕ, List, [], sym, subst, ◌∙◌}
use Rattle.std.proofs.Common.{inl, inr, ◌≤◌}
use Rattle.pet_base.specs.Causes.{Rose}
use Rattle.pet_base.specs.OutsideSeen.{OutsideSeen}
use Rattle.pet_base.specs.Seen.{Blame, Seen}
use Rattle.outside_files.specs.Printed.{PrintsLine}
use Rattle.outside_files.specs.Uses.{Failed, IsWell}
use Rattle.outside_files.specs.laws.PrintedLaws.{Rose-before, Rose-since}
use Rattle.text_status.specs.declared.status.Status.{Status}
use Rattle.text_status.specs.declared.status.Status.TheVariants.{OutFault, Usage}
use Rattle.text_status.specs.Statuses.{fault_text}
use Rattle.pet_tool.specs.declared.commands.End.{End}
use Rattle.pet_tool.specs.declared.commands.End.TheVariants as end
use Rattle.pet_tool.specs.Commands.{line_of, status_of}
use Rattle.pet_tool.specs.Runs.{Refuses}
use Rattle.pet_text.specs.Told.{PrintedWhole}
use Rattle.pet_text.specs.laws.ToldLaws.{ToldBy, told, silent, unlined}
use Rattle.pet_tool.specs.Told.{PrintedShort, Tells}

-- what was told of an end, where the output had no fault
abbrev pub Told : List ℕ → Status → OutsideSeen → OutsideSeen → Status → Type 0
Told line of_end between after status = ToldBy fault_text line of_end between after status

-- so it is told of a command that printed nothing itself, or a line
pub told_calm : {line : List ℕ} {of_end status : Status} {between after : OutsideSeen} (before : OutsideSeen)
    → between.out_faults ≡ before.out_faults → (Rose before.out_faults after.out_faults → ⊥)
    → Tells line of_end between after status → Told line of_end between after status
told_calm {line} {of_end} {status} {between} {after} before same well tells =
    told fault_text OutFault line of_end between after status tells (λ rose. well (subst (λ (n : ℕ). Rose n after.out_faults) same rose))

pub told_since : {line : List ℕ} {of_end status : Status} {between after : OutsideSeen} (before : OutsideSeen)
    → before.out_faults ≤ between.out_faults → (Rose before.out_faults after.out_faults → ⊥)
    → Tells line of_end between after status → Told line of_end between after status
told_since {line} {of_end} {status} {between} {after} before later well tells =
    told fault_text OutFault line of_end between after status tells
    (λ rose. well (Rose-since before.out_faults between.out_faults after.out_faults later rose))

-- and what was well to the end was so before the lines were printed
module _ {line : List ℕ} {of_end status : Status} {before between after : OutsideSeen} {uses : List Blame}
    (said : Told line of_end between after status) (well : IsWell uses before after) where
  pub place_calm : Failed uses before.place between.place → ⊥
  place_calm had = well.place (subst (λ (now : Seen). Failed uses before.place now) (sym said.place) had)

  pub well_before : IsWell uses before between
  well_before = record {
    place = place_calm;
    out = λ rose. well.out (Rose-before before.out_faults between.out_faults after.out_faults said.later rose);
  }

-- a status that is no fault of the output is that of the end; the place is as before the lines
pub ended_as : (line : List ℕ) (of_end : Status) (between after : OutsideSeen) (status : Status)
    → Tells line of_end between after status → status ≢ OutFault
    → (status ≡ of_end) × (after.place ≡ between.place)
ended_as line of_end between after status tells well =
    (by tells.line, tells.fault.place ∙ tells.only.place)
  where
    by : PrintedWhole line of_end between tells.lined status ⊎ PrintedShort line between tells.lined status
        → status ≡ of_end
    by (inl whole) = whole.ended
    by (inr short) = absurd (well short.ended)

-- only words of no form end as usage
pub usage_told : (e : End) (status : Status) (before after : OutsideSeen)
    → PrintedWhole (line_of e) (status_of e) before after status ⊎ PrintedShort (line_of e) before after status
    → (status ≡ Usage → e ≡ end.Usage) → (status ≡ Usage) ↔ (e ≡ end.Usage)
usage_told e status before after line known = (
  known,
  λ is. unlined (subst (λ (e : End). PrintedWhole (line_of e) (status_of e) before after status
      ⊎ PrintedShort (line_of e) before after status) is line),
)

-- and then nothing but the line of usage is printed
pub refuses : (before after : OutsideSeen) (status : Status) → Tells [] Usage before after status
    → Refuses before after status
refuses before after status tells =
    let said = silent fault_text OutFault Usage before after status tells in
    record { ended = said.0; line = subst (λ (s : Status). PrintsLine (fault_text s) before after) said.0 said.1 }
