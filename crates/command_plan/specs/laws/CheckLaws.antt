-- Laws of `check`, for the proofs of callers: on what `plan` printed it is done.
use Rattle.std.proofs.Common.{◌≡◌, ◌≢◌, ℕ, ◌<◌, inl, inr, List, [], ◌∷◌, ◌++◌, length, Some, refl, sym, ap, subst, ◌∙◌}
use Rattle.std.proofs.Common.{arith}
use Rattle.std.specs.Prelude.{Result, Ok, Err}
use Rattle.pet_base.specs.declared.limits.TheConstants.{MAX_PLAN_FILE}
use Rattle.pet_base.specs.Seen.{Seen}
use Rattle.pet_base.specs.laws.SeenLaws.{HadFault-since}
use Rattle.stripe_plan.specs.Sizes.{Sizes}
use Rattle.outside_files.specs.Uses.{Failed, reading}
use Rattle.session_source.specs.Sources.{IsSourceFault}
use Rattle.session_source.specs.declared.source.SourceFault.{SourceFault}
use Rattle.session_source.specs.declared.source.SourceFault.TheVariants as source
use Rattle.text_plan.specs.declared.plan_file.Repeat.{Repeat}
use Rattle.text_plan.specs.PlanFile.{lists_of}
use Rattle.text_plan.specs.PlanText.{plan_lists}
use Rattle.command_plan.specs.declared.checking.CheckEnd.{CheckEnd}
use Rattle.command_plan.specs.declared.checking.CheckEnd.TheVariants.{Done, NoMemory, PlaceFault, BadPriority}
use Rattle.command_plan.specs.declared.checking.CheckEnd.TheVariants.{BadStream, BadPlan, PlanLong, Text, Lines}
use Rattle.command_plan.specs.declared.checking.CheckEnd.TheVariants.{NotLeast}
use Rattle.command_plan.specs.Certified.{HasPlanFile, Lists, IsFirstNotLeast, tables_of_files}
use Rattle.command_plan.specs.Checked.{CanCheck, ChecksSession}
use Rattle.command_plan.specs.Checks.{Checks}
use Rattle.command_plan.specs.SessionPlan.{session_plan}
use Rattle.stream_session.specs.Sessions.{IsGiven, tables_in}
use Rattle.command_plan.specs.laws.PlanFileLaws.{IsReadAgain, read_again}
use Rattle.session_source.specs.laws.SourceLaws.{file_is, priority_is, stream_is, no_fault}

ok_same : {A B : Type 0} (r : Result A B) (x y : A) → r ≡ Ok x → r ≡ Ok y → x ≡ y
ok_same r x y p q = cc

ok_err : {A B : Type 0} (r : Result A B) (x : A) (y : B) → r ≡ Ok x → r ≡ Err y → ⊥
ok_err r x y p q = cc

module _ (stream priority plan : List ℕ) (old new : Seen) where
  module _ (p b : List ℕ) (end : CheckEnd) (can : CanCheck stream priority plan p b old new end) where
    plan_is : (f : HasPlanFile old stream priority plan) → f.plan_bytes ≡ session_plan p b
    plan_is f =
        file_is old.files can.given.files plan f.plan_bytes (session_plan p b) can.given.told can.plan_there f.plan_file

    tables_are : (f : HasPlanFile old stream priority plan) → tables_of_files f ≡ tables_in p b
    tables_are f =
        ap (λ (x : List ℕ). tables_in x f.session.stream_bytes)
        (priority_is old new stream priority p b can.given f.session.priority_bytes f.session.priority_file)
        ∙ ap (λ (x : List ℕ). tables_in p x)
        (stream_is old new stream priority p b can.given f.session.stream_bytes f.session.stream_file)

    -- the plan text as a plan file
    again : IsReadAgain p b
    again = read_again p b can.given.session

    lists_are : (lists : List (List Repeat)) (l : Lists old stream priority plan lists)
        → lists ≡ plan_lists (tables_in p b)
    lists_are lists l =
        let read : lists_of (session_plan p b) ≡ Ok lists =
        subst (λ (x : List ℕ). lists_of x ≡ Ok lists) (plan_is l.files) l.read in
        ok_same (lists_of (session_plan p b)) lists (plan_lists (tables_in p b)) read again.read

    source_well : Failed (reading stream ∷ reading priority ∷ []) old new → ⊥
    source_well had =
        can.well (HadFault-since old old new _ _ (omega arith)
        (λ b is. elim is [ inl s ↦ inl s | inr f ↦ inr (inl f) ]) had)

    plan_well : Failed (reading plan ∷ []) old new → ⊥
    plan_well had = can.well (HadFault-since old old new _ _ (omega arith) (λ b is. inr (inr is)) had)

    none_is : (fault : SourceFault) → fault ≢ source.NoMemory → IsSourceFault old new stream priority fault → ⊥
    none_is fault memory is = no_fault old new stream priority p b can.given fault memory source_well is

    -- no cause of another end holds
    no_cause : (told : CheckEnd) → end ≡ told → Checks old new stream priority plan told
        → told ≡ Done (length (tables_in p b))
    no_cause (Done groups) some is =
        ap (λ (n : ℕ). Done n) (is.1 ∙ ap (λ (ts : List Sizes). length ts) (tables_are is.0.listed.files))
    no_cause NoMemory some is = absurd (can.memory some)
    no_cause PlaceFault some is = absurd (elim is [
      | inl failed ↦ none_is source.Failed (λ is. cc) failed
      | inr failed ↦ plan_well failed.1
    ])
    no_cause (BadPriority fault) some is = absurd (none_is (source.Priority fault) (λ is. cc) is)
    no_cause (BadStream scan) some is = absurd (none_is (source.Stream scan) (λ is. cc) is)
    no_cause (BadPlan fault) some is = absurd (none_is (source.Plan fault) (λ is. cc) is)
    no_cause PlanLong some is =
        let long : MAX_PLAN_FILE < length (session_plan p b) =
        subst (λ (x : List ℕ). MAX_PLAN_FILE < length x) (plan_is is.0) is.1 in
        absurd (omega (arith, long, again.short))
    no_cause (Text line) some is =
        absurd (ok_err (lists_of (session_plan p b)) (plan_lists (tables_in p b)) line again.read
        (subst (λ (x : List ℕ). lists_of x ≡ Err line) (plan_is is.0) is.2))
    no_cause (Lines lines) some is =
        let many : length is.0 ≡ length (tables_of_files is.1.files) =
        ap (λ (ls : List (List Repeat)). length ls) (lists_are is.0 is.1) ∙ again.least.many
        ∙ ap (λ (ts : List Sizes). length ts) (sym (tables_are is.1.files)) in
        absurd (is.3 many)
    no_cause (NotLeast group) some is =
        let at_tables : IsFirstNotLeast (tables_in p b) is.0 group =
        subst (λ (ts : List Sizes). IsFirstNotLeast ts is.0 group) (tables_are is.1.files) is.2 in
        let first : IsFirstNotLeast (tables_in p b) (plan_lists (tables_in p b)) group =
        subst (λ (ls : List (List Repeat)). IsFirstNotLeast (tables_in p b) ls group) (lists_are is.0 is.1) at_tables in
        absurd (first.not_least (again.least.each group first.within))

  pub checks_session : (end : CheckEnd) → Checks old new stream priority plan end
      → ChecksSession stream priority plan old new end
  checks_session end checks p b can = no_cause p b end can end refl checks
