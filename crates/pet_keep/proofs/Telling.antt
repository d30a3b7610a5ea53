-- What was told of an end, and that words of another form end as usage.
use Rattle.std.proofs.Common.{◌≡◌, ◌≢◌, ◌⊎◌, ◌↔◌, false, [], refl, subst}
use Rattle.outside_files.specs.Printed.{PrintsLine}
use Rattle.pet_base.specs.OutsideSeen.{OutsideSeen}
use Rattle.pet_text.specs.Told.{PrintedWhole}
use Rattle.pet_text.specs.laws.ToldLaws.{silent, unlined}
use Rattle.pet_keep.specs.Runs.{PrintedShort, RefusesKeep, Tells, of_link, of_place}
use Rattle.pet_keep.specs.Statuses.{fault_text, line_of, status_of}
use Rattle.pet_keep.specs.declared.end.KeepEnd.{KeepEnd}
use Rattle.pet_keep.specs.declared.end.KeepEnd.TheVariants as end
use Rattle.pet_keep.specs.declared.status.KeepStatus.{KeepStatus}
use Rattle.pet_keep.specs.declared.status.KeepStatus.TheVariants.{OutFault, Usage}

-- an end that has a line tells of no failure
pub lined_calm : (e : KeepEnd) → line_of e ≢ [] → (of_place (status_of e) ≡ false) × (of_link (status_of e) ≡ false)
lined_calm (end.Done totals) some = (refl, refl)
lined_calm (end.Incomplete totals) some = (refl, refl)
lined_calm (end.TurnsSpent totals) some = (refl, refl)
lined_calm end.Usage some = absurd (some refl)
lined_calm end.NoMemory some = absurd (some refl)
lined_calm end.PlaceFault some = absurd (some refl)
lined_calm end.LinkFault some = absurd (some refl)
lined_calm end.OutFault some = absurd (some refl)
lined_calm end.OtherSession some = absurd (some refl)
lined_calm end.DiskFault some = absurd (some refl)
lined_calm (end.BadJournal at) some = absurd (some refl)

-- only words of another form end as usage
pub usage_told : (e : KeepEnd) (status : KeepStatus) (before after : OutsideSeen)
    → PrintedWhole (line_of e) (status_of e) before after status ⊎ PrintedShort (line_of e) before after status
    → (e ≢ end.Usage → status ≢ Usage)
    → (status ≡ Usage) ↔ (e ≡ end.Usage)
usage_told e status before after line known = (
  to e known,
  λ is. unlined (subst (λ (e : KeepEnd). PrintedWhole (line_of e) (status_of e) before after status
      ⊎ PrintedShort (line_of e) before after status) is line),
)
  where
    to : (e : KeepEnd) → (e ≢ end.Usage → status ≢ Usage) → status ≡ Usage → e ≡ end.Usage
    to end.Usage known is = refl
    to end.NoMemory known is = absurd (known (λ same. cc) is)
    to (end.Done x) known is = absurd (known (λ same. cc) is)
    to (end.Incomplete x) known is = absurd (known (λ same. cc) is)
    to (end.TurnsSpent x) known is = absurd (known (λ same. cc) is)
    to end.PlaceFault known is = absurd (known (λ same. cc) is)
    to end.LinkFault known is = absurd (known (λ same. cc) is)
    to end.OutFault known is = absurd (known (λ same. cc) is)
    to end.OtherSession known is = absurd (known (λ same. cc) is)
    to end.DiskFault known is = absurd (known (λ same. cc) is)
    to (end.BadJournal x) known is = absurd (known (λ same. cc) is)

-- and then nothing but the line of usage is printed
pub refuses : (before after : OutsideSeen) (status : KeepStatus) → Tells [] Usage before after status
    → RefusesKeep before after status
refuses before after status tells =
    let said = silent fault_text OutFault Usage before after status tells in
    record { ended = said.0; line = subst (λ (s : KeepStatus). PrintsLine (fault_text s) before after) said.0 said.1 }
