-- Why `check` ends before it prints, out of what its parts found; and that the lists are certificates.
use Rattle.std.proofs.Common.{◌≡◌, ◌≢◌, ℕ, ◌≤◌, List, length, map, Option, sym, ap, subst, ◌∙◌, inl, inr}
use Rattle.pet_base.specs.Seen.{Seen, Files}
use Rattle.pet_base.specs.laws.SeenLaws.{HadFault-since}
use Rattle.stripe_plan.specs.Sizes.{Sizes}
use Rattle.outside_files.specs.Inputs.{IsFile}
use Rattle.session_source.specs.Sources.{IsSourceFault}
use Rattle.session_source.specs.declared.source.SourceFault.{SourceFault}
use Rattle.session_source.specs.declared.source.SourceFault.TheVariants as source
use Rattle.text_plan.specs.declared.plan_file.Repeat.{Repeat}
use Rattle.command_plan.specs.declared.checking.CheckEnd.{CheckEnd}
use Rattle.command_plan.specs.declared.checking.CheckEnd.TheVariants.{Done, NoMemory, PlaceFault, BadPriority}
use Rattle.command_plan.specs.declared.checking.CheckEnd.TheVariants.{BadStream, BadPlan, PlanLong, Text, Lines}
use Rattle.command_plan.specs.declared.checking.CheckEnd.TheVariants.{NotLeast}
use Rattle.command_plan.specs.Certified.{AreLeast, HasPlanFile, IsCertified, IsFirstNotLeast, Lists, tables_of_files}
use Rattle.command_plan.specs.inside.Checking.{HasLists, HasNoLists, AreNotLeast}
use Rattle.command_plan.specs.Checks.{Checks}
use Rattle.command_plan.specs.Ends.{check_end}
use Rattle.stream_session.specs.Sessions.{HasSession, tables_in}

-- a fault of the session's files
pub cause_of_source : (old new : Seen) (stream priority plan : List ℕ) (fault : SourceFault)
    → IsSourceFault old new stream priority fault → Checks old new stream priority plan (check_end fault)
cause_of_source old new stream priority plan source.NoMemory is = tt
cause_of_source old new stream priority plan source.Failed is = inl is
cause_of_source old new stream priority plan (source.Priority fault) is = is
cause_of_source old new stream priority plan (source.Stream scan) is = is
cause_of_source old new stream priority plan (source.Plan fault) is = is

has_plan : (old between : Seen) (stream priority plan : List ℕ) → HasSession old stream priority → (bytes : List ℕ)
    → between.files ≡ old.files → IsFile between.files plan bytes → HasPlanFile old stream priority plan
has_plan old between stream priority plan session bytes same file =
    record {
      session = session;
      plan_bytes = bytes;
      plan_file = subst (λ (o : Option Files). IsFile o plan bytes) same file;
    }

-- the plan file has no lists
pub no_lists : (old between new : Seen) (stream priority plan : List ℕ) (end : CheckEnd)
    → HasSession old stream priority → between.files ≡ old.files → old.faults ≤ between.faults
    → HasNoLists between new plan end → Checks old new stream priority plan end
unfolding has_plan
no_lists old between new stream priority plan NoMemory session same later none = tt
no_lists old between new stream priority plan PlaceFault session same later none =
    inr (session, HadFault-since old between new _ _ later (λ b is. is) none)
no_lists old between new stream priority plan PlanLong session same later none =
    (has_plan old between stream priority plan session none.0 same none.1, none.2)
no_lists old between new stream priority plan (Text line) session same later none =
    (has_plan old between stream priority plan session none.0 same none.1, none.2.0, none.2.1)
no_lists old between new stream priority plan (Done groups) session same later none = absurd none.2
no_lists old between new stream priority plan (BadPriority fault) session same later none = absurd none.2
no_lists old between new stream priority plan (BadStream scan) session same later none = absurd none.2
no_lists old between new stream priority plan (BadPlan fault) session same later none = absurd none.2
no_lists old between new stream priority plan (Lines lines) session same later none = absurd none.2
no_lists old between new stream priority plan (NotLeast group) session same later none = absurd none.2

-- the lists that it has
lists_read : (old between : Seen) (stream priority plan : List ℕ) (lists : List (List Repeat))
    → HasSession old stream priority → between.files ≡ old.files → HasLists between plan lists
    → Lists old stream priority plan lists
unfolding has_plan
lists_read old between stream priority plan lists session same has = record {
  files = has_plan old between stream priority plan session has.bytes same has.file;
  short = has.short;
  read = has.read;
}

-- they are no certificates
pub not_certified : (old between new : Seen) (stream priority plan : List ℕ) (tables : List Sizes)
    (lists : List (List Repeat)) (end : CheckEnd) (session : HasSession old stream priority)
    → tables ≡ tables_in session.priority_bytes session.stream_bytes → between.files ≡ old.files
    → HasLists between plan lists → AreNotLeast tables lists end
    → Checks old new stream priority plan end
unfolding has_plan lists_read
not_certified old between new stream priority plan tables lists NoMemory session is same has not = tt
not_certified old between new stream priority plan tables lists (Lines lines) session is same has not = (
  lists,
  lists_read old between stream priority plan lists session same has,
  not.0,
  subst (λ (ts : List Sizes). length lists ≢ length ts) is not.1,
)
not_certified old between new stream priority plan tables lists (NotLeast group) session is same has not = (
  lists,
  lists_read old between stream priority plan lists session same has,
  subst (λ (ts : List Sizes). IsFirstNotLeast ts lists group) is not,
)
not_certified old between new stream priority plan tables lists (Done groups) session is same has not = absurd not
not_certified old between new stream priority plan tables lists PlaceFault session is same has not = absurd not
not_certified old between new stream priority plan tables lists (BadPriority fault) session is same has not = absurd not
not_certified old between new stream priority plan tables lists (BadStream scan) session is same has not = absurd not
not_certified old between new stream priority plan tables lists (BadPlan fault) session is same has not = absurd not
not_certified old between new stream priority plan tables lists PlanLong session is same has not = absurd not
not_certified old between new stream priority plan tables lists (Text line) session is same has not = absurd not

-- they are
pub certified : (old between : Seen) (stream priority plan : List ℕ) (tables : List Sizes) (lists : List (List Repeat))
    (n : ℕ) (session : HasSession old stream priority)
    → tables ≡ tables_in session.priority_bytes session.stream_bytes → between.files ≡ old.files
    → HasLists between plan lists → (n ≡ length tables) × AreLeast tables lists
    → (c : IsCertified old stream priority plan) × (n ≡ length (tables_of_files c.listed.files))
unfolding has_plan lists_read
certified old between stream priority plan tables lists n session is same has least = (
  record {
    lists = lists;
    listed = lists_read old between stream priority plan lists session same has;
    least = subst (λ (ts : List Sizes). AreLeast ts lists) is least.1;
  },
  least.0 ∙ ap (λ (ts : List Sizes). length ts) is,
)

-- the lists of a vector, lent as a slice
pub lists_lent : {A : Type 0} (items : A → List Repeat) (seen : Seen) (plan : List ℕ) (slice vector : List A)
    → slice ≡ vector → HasLists seen plan (map items vector) → HasLists seen plan (map items slice)
lists_lent items seen plan slice vector same has = subst (λ l. HasLists seen plan (map items l)) (sym same) has
