-- What is made of a seed: no reader refuses it.
use Rattle.std.proofs.Common.{◌≡◌, ◌≢◌, ℕ, zero, suc, ◌<◌, ◌≤◌, true, List, [], ◌∷◌, length, Option, None, Some, sym, subst}
use Rattle.std.proofs.Common.{ap, ◌∙◌, arith}
use Rattle.std.proofs.lemmas.Bool.{both_ways}
use Rattle.pet_base.specs.declared.limits.TheConstants.{MAX_SAMPLE_GROUPS}
use Rattle.mpeg_scan.specs.declared.piece.Piece.{Piece}
use Rattle.mpeg_scan.specs.declared.refusal.Scan.{Scan}
use Rattle.mpeg_scan.specs.Pieces.{pieces_of}
use Rattle.mpeg_scan.specs.Refusals.{IsAccepted, Refuses, holds}
use Rattle.priority_file.specs.declared.fault.PriorityFault.{PriorityFault}
use Rattle.priority_file.specs.Priority.{Priorities, layer_of}
use Rattle.priority_file.specs.Refusals.{priorities_of, refusal_of}
use Rattle.layer_split.specs.declared.fault.SplitFault.{SplitFault}
use Rattle.layer_split.specs.Faults.{fault_of}
use Rattle.layer_split.specs.Groups.{groups_of}
use Rattle.stream_sample.specs.SampleStream.{sample_text}
use Rattle.stream_session.specs.declared.pass.SessionPlan.{SessionPlan}
use Rattle.stream_session.specs.declared.pass.StreamFault.{StreamFault}
use Rattle.stream_session.specs.declared.pass.StreamFault.TheVariants.{Stream, Plan, NoMemory}
use Rattle.stream_session.specs.Accepted.{IsAcceptedSession}
use Rattle.stream_session.specs.Number.{session_number}
use Rattle.stream_session.specs.Passing.{IsPlanOf, IsStreamFault}
use Rattle.stream_session.specs.Sessions.{tables_in}
use Rattle.stream_session.specs.Tables.{tables_of, cuts_of_stream}
use Rattle.stream_session.specs.laws.FitLaws.{no_cause_within}
use Rattle.pet_base.specs.declared.limits.TheConstants.{MAX_SESSION}
use Rattle.command_sample.specs.SamplePriority.{sample_priority}
use Rattle.command_sample.specs.inside.Making.{IsMade}
use Rattle.command_sample.specs.declared.made.Made.{Made}
use Rattle.command_sample.specs.laws.SamplePriorityLaws.{priority_accepted}
use Rattle.command_sample.specs.laws.SessionLaws.{sample_is_session}

none_or_some : {A : Type 0} (o : Option A) (x : A) → o ≡ None → o ≡ Some x → ⊥
none_or_some o x none some = absurd cc

pub no_refusal : (text : List ℕ) (fault : PriorityFault) → text ≡ sample_priority → refusal_of text ≡ Some fault → ⊥
no_refusal text fault is refused =
    none_or_some (refusal_of text) fault (ap refusal_of is ∙ priority_accepted) refused

pub not_refused : (stream : List ℕ) → IsAccepted stream → (scan : Scan) → Refuses stream scan → ⊥
not_refused stream accepted scan refuses = both_ways (holds stream scan) (accepted scan) refuses.holding

pub no_stream_fault : (stream : List ℕ) → IsAcceptedSession sample_priority stream → (priority : Priorities)
    → priority ≡ priorities_of sample_priority → (fault : StreamFault) → fault ≢ NoMemory
    → IsStreamFault priority stream fault → ⊥
no_stream_fault stream accepted priority is (Stream scan) other fault =
    not_refused stream accepted.stream_read scan fault.0
no_stream_fault stream accepted priority is (Plan cause) other fault =
    none_or_some _ cause
    (ap (λ (p : Priorities). Rattle.stream_session.specs.Refusals.session_fault_within MAX_SESSION p (pieces_of stream)) is
    ∙ accepted.fits) fault.2
no_stream_fault stream accepted priority is NoMemory other fault = other Rattle.std.proofs.Common.refl

pub no_split_fault : (stream : List ℕ) → IsAcceptedSession sample_priority stream → (priority : Priorities)
    → priority ≡ priorities_of sample_priority → (pieces : List Piece) → pieces ≡ pieces_of stream → (fault : SplitFault)
    → fault_of (layer_of priority) (length priority.layers) (groups_of pieces) ≡ Some fault → ⊥
no_split_fault stream accepted priority is pieces are fault refused =
    none_or_some (fault_of (layer_of priority) (length priority.layers) (groups_of pieces)) fault
    (ap (λ (p : Priorities). fault_of (layer_of p) (length p.layers) (groups_of pieces)) is
    ∙ ap (λ (ps : List Piece). fault_of (layer_of (priorities_of sample_priority))
    (length (priorities_of sample_priority).layers) (groups_of ps)) are
    ∙ (no_cause_within MAX_SESSION (priorities_of sample_priority) (pieces_of stream) accepted.fits).0) refused

pub accepted_so : (seed groups : ℕ) (stream : List ℕ) → 0 < groups → groups ≤ MAX_SAMPLE_GROUPS
    → stream ≡ sample_text seed groups → IsAcceptedSession sample_priority stream
accepted_so seed zero stream some few is = absurd (omega arith)
accepted_so seed (suc before) stream some few is =
    subst (IsAcceptedSession sample_priority) (sym is) (sample_is_session seed before (omega arith))

pub made_so : (seed groups : ℕ) (made : Made) → 0 < groups → groups ≤ MAX_SAMPLE_GROUPS
    → made.stream.items ≡ sample_text seed groups
    → made.plan.number ≡ session_number sample_priority made.stream.items
    → made.plan.tables.items ≡ tables_in sample_priority made.stream.items
    → made.cuts.items ≡ cuts_of_stream (priorities_of sample_priority) made.stream.items → IsMade made
made_so seed zero made some few is number tables cuts = absurd (omega arith)
made_so seed (suc before) made some few is number tables cuts = record {
  seed = seed;
  before = before;
  few = omega arith;
  stream_is = is;
  number = number;
  tables = tables;
  cuts = cuts;
}

-- the tables of a plan under the priorities of the file are those of the file
pub planned_tables : (plan : SessionPlan) (priority : Priorities) (file stream : List ℕ)
    → priority ≡ priorities_of sample_priority → IsPlanOf plan priority file stream
    → plan.tables.items ≡ tables_in sample_priority stream
planned_tables plan priority file stream is planned =
    planned.tables ∙ ap (λ (p : Priorities). tables_of p (cuts_of_stream p stream)) is
