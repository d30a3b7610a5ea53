-- What was told of an end, whichever statuses there are.
use Rattle.std.proofs.Common.{◌≡◌, ◌≢◌, ◌⊎◌, ℕ, ◌≤◌, Bool, false, List, [], ◌++◌, Option, refl, sym, ap, subst, ◌∙◌}
use Rattle.std.proofs.Common.{arith, inl, inr, take}
use Rattle.std.specs.Prelude.{Result, OnOk, OnErr}
use Rattle.std.specs.Io.KnownBytes.{append_known}
use Rattle.pet_base.specs.Causes.{HasCause, Rose}
use Rattle.pet_base.specs.LinkSeen.{LinkSeen, LinkStops}
use Rattle.pet_base.specs.OutsideSeen.{OutsideSeen}
use Rattle.pet_base.specs.Seen.{Seen, PlaceStops}
use Rattle.pet_base.specs.declared.faults.Failed.{Failed}
use Rattle.outside_files.specs.Failures.{EndsAtOnce}
use Rattle.outside_files.specs.Printed.{PrintsLine}
use Rattle.outside_files.specs.laws.PrintedLaws.{append_known-twice, append_known-nil, line_put}
use Rattle.pet_text.specs.Told.{OnlyTells, PrintedWhole, PrintedShortBy, TellsBy, FindsNoMemoryBy}

same_seen : (a b : OutsideSeen) → b.place ≡ a.place → b.link ≡ a.link → b.written ≡ a.written
    → b.out_faults ≡ a.out_faults → b.steps ≡ a.steps → b ≡ a
same_seen a b place link written faults steps = λ i. record {
  place = place i;
  link = link i;
  written = written i;
  out_faults = faults i;
  steps = steps i;
}

-- the line of the end was printed, and then that of the status
pub tells_so : {S : Type 0} (fault_text : S → List ℕ) (out_fault : S) {line text : List ℕ} {of_end status : S}
    {before lined after : OutsideSeen} → OnlyTells before lined
    → PrintedWhole line of_end before lined status ⊎ PrintedShortBy out_fault line before lined status
    → text ≡ fault_text status → PrintsLine text lined after
    → TellsBy fault_text out_fault line of_end before after status
tells_so fault_text out_fault {line} {text} {of_end} {status} {before} {lined} {after} only printed is prints = record {
  lined = lined;
  only = only;
  line = printed;
  fault = subst (λ (t : List ℕ). PrintsLine t lined after) is prints;
}

-- where the end has no line, the status is that of the end
pub unlined : {S : Type 0} {out_fault of_end status : S} {before after : OutsideSeen}
    → PrintedWhole [] of_end before after status ⊎ PrintedShortBy out_fault [] before after status → status ≡ of_end
unlined (inl whole) = whole.ended
unlined (inr short) = absurd (short.some refl)

-- and the line of the status is all that was printed
pub silent : {S : Type 0} (fault_text : S → List ℕ) (out_fault of_end : S) (between after : OutsideSeen) (status : S)
    → TellsBy fault_text out_fault [] of_end between after status
    → (status ≡ of_end) × PrintsLine (fault_text status) between after
silent fault_text out_fault of_end between after status tells = by tells.line
  where
    by : PrintedWhole [] of_end between tells.lined status ⊎ PrintedShortBy out_fault [] between tells.lined status
        → (status ≡ of_end) × PrintsLine (fault_text status) between after
    by (inl whole) =
        let o = tells.only in
        let same = same_seen between tells.lined o.place o.link
        (whole.printed ∙ append_known-nil between.written) whole.faults o.steps in
        (whole.ended, subst (λ (s : OutsideSeen). PrintsLine (fault_text status) s after) same tells.fault)
    by (inr short) = absurd (short.some refl)

-- what was told of an end, where the output had no fault
pub record ToldBy {S : Type 0} (fault_text : S → List ℕ) (line : List ℕ) (of_end : S) (between after : OutsideSeen)
    (status : S) : Type 0 where
  pub ended : status ≡ of_end
  pub printed : after.written ≡ append_known between.written (line ++ fault_text status)
  pub place : after.place ≡ between.place
  pub link : after.link ≡ between.link
  pub later : between.out_faults ≤ after.out_faults

pub told : {S : Type 0} (fault_text : S → List ℕ) (out_fault : S) (line : List ℕ) (of_end : S) (between after : OutsideSeen)
    (status : S) → TellsBy fault_text out_fault line of_end between after status
    → (Rose between.out_faults after.out_faults → ⊥) → ToldBy fault_text line of_end between after status
told fault_text out_fault line of_end between after status tells well = by tells.line
  where
    by : PrintedWhole line of_end between tells.lined status ⊎ PrintedShortBy out_fault line between tells.lined status
        → ToldBy fault_text line of_end between after status
    by (inl whole) = record {
      ended = whole.ended;
      printed =
          tells.fault.whole (λ rose. well (subst (λ (n : ℕ). Rose n after.out_faults) whole.faults rose))
          ∙ ap (λ (o : Option (List ℕ)). append_known o (fault_text status)) whole.printed
          ∙ append_known-twice between.written line (fault_text status);
      place = tells.fault.place ∙ tells.only.place;
      link = tells.fault.link ∙ tells.only.link;
      later = let same = whole.faults in let later = tells.fault.later in omega (arith, same, later);
    }
    by (inr short) =
        let rose = short.front.rose in let later = tells.fault.later in absurd (well (omega (arith, rose, later)))

-- The first failure ended the run, by what the end tells: an end that has a line tells of none, as the status of a fault
-- of the output does.
pub strikes : {S : Type 0} (fault_text : S → List ℕ) (out_fault : S) (of_place of_link : S → Bool)
    → of_place out_fault ≡ false → of_link out_fault ≡ false
    → (line : List ℕ) (of_end : S) (before between after : OutsideSeen) (status : S)
    → TellsBy fault_text out_fault line of_end between after status
    → (line ≢ [] → (of_place of_end ≡ false) × (of_link of_end ≡ false))
    → EndsAtOnce (of_place of_end) (of_link of_end) before between
    → EndsAtOnce (of_place status) (of_link status) before after
strikes {S} fault_text out_fault of_place of_link no_place no_link line of_end before between after status tells lined once =
    by tells.line
  where
    place : after.place ≡ between.place
    place = tells.fault.place ∙ tells.only.place

    link : after.link ≡ between.link
    link = tells.fault.link ∙ tells.only.link

    moved : (p k : Bool) → EndsAtOnce p k before between → EndsAtOnce p k before after
    moved p k ends = record {
      place = subst (λ (s : Seen). PlaceStops p before.place s) (sym place) ends.place;
      link = subst (λ (l : LinkSeen). LinkStops k before.link l) (sym link) ends.link;
    }

    by : PrintedWhole line of_end between tells.lined status ⊎ PrintedShortBy out_fault line between tells.lined status
        → EndsAtOnce (of_place status) (of_link status) before after
    by (inl whole) =
        subst (λ (s : S). EndsAtOnce (of_place s) (of_link s) before after) (sym whole.ended)
        (moved (of_place of_end) (of_link of_end) once)
    by (inr short) =
        let none = lined short.some in
        subst (λ (s : S). EndsAtOnce (of_place s) (of_link s) before after) (sym short.ended)
        (moved (of_place out_fault) (of_link out_fault)
        (subst (λ (p : Bool). EndsAtOnce p (of_link out_fault) before between) (none.0 ∙ sym no_place)
        (subst (λ (k : Bool). EndsAtOnce (of_place of_end) k before between) (none.1 ∙ sym no_link) once)))

-- no memory was found, and its line was put
pub finds_no_memory : {S : Type 0} (fault_text : S → List ℕ) (no_memory : S) (line : List ℕ)
    (begun first after : Option (List ℕ) × ℕ) (new : Option (List ℕ)) (result : Result Unit Failed)
    → line ≡ fault_text no_memory → begun ≡ first → new ≡ after.0
    → OnOk result (after.0 ≡ append_known begun.0 line)
    → OnErr result ((k : ℕ) × (after.0 ≡ append_known begun.0 (take k line))) → HasCause begun.1 after.1 result
    → FindsNoMemoryBy fault_text no_memory first.0 new no_memory
finds_no_memory fault_text no_memory line begun first after new result text start end whole part cause =
    let put = (line_put result line begun.0 after.0 begun.1 after.1 whole part cause).0 in
    record {
      ended = refl;
      count = put.0;
      printed =
          end ∙ put.1 ∙ ap (λ (v : Option (List ℕ) × ℕ). append_known v.0 (take put.0 line)) start
          ∙ ap (λ (t : List ℕ). append_known first.0 (take put.0 t)) text;
    }
