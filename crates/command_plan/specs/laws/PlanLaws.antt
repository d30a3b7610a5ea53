-- Laws of `plan`, for the proofs of callers: where no cause of another end holds it is done.
use Rattle.std.proofs.Common.{◌≡◌, ◌≢◌, ℕ, List, [], ◌∷◌, refl, ap, ◌∙◌}
use Rattle.pet_base.specs.Seen.{Seen}
use Rattle.session_source.specs.Sources.{IsSourceFault}
use Rattle.session_source.specs.declared.source.SourceFault.{SourceFault}
use Rattle.session_source.specs.declared.source.SourceFault.TheVariants as source
use Rattle.command_plan.specs.declared.planning.PlanEnd.{PlanEnd}
use Rattle.command_plan.specs.declared.planning.PlanEnd.TheVariants.{Done, NoMemory, PlaceFault, BadPriority, BadStream}
use Rattle.command_plan.specs.declared.planning.PlanEnd.TheVariants.{BadPlan}
use Rattle.command_plan.specs.Planned.{CanPlan, HasPlanned, PlansSession}
use Rattle.command_plan.specs.Plans.{PlanEnds, Plans}
use Rattle.command_plan.specs.SessionPlan.{session_plan}
use Rattle.stream_session.specs.Sessions.{HasSession, IsGiven}
use Rattle.session_source.specs.laws.SourceLaws.{priority_is, stream_is, no_fault}

module _ (stream priority : List ℕ) (old new : Seen) where
  module _ (p b : List ℕ) (end : PlanEnd) (can : CanPlan stream priority p b old new end) where
    plan_is : (s : HasSession old stream priority) → session_plan s.priority_bytes s.stream_bytes ≡ session_plan p b
    plan_is s =
        ap (λ (f : List ℕ). session_plan f s.stream_bytes)
        (priority_is old new stream priority p b can.given s.priority_bytes s.priority_file)
        ∙ ap (λ (t : List ℕ). session_plan p t)
        (stream_is old new stream priority p b can.given s.stream_bytes s.stream_file)

    none_is : (fault : SourceFault) → fault ≢ source.NoMemory → IsSourceFault old new stream priority fault → ⊥
    none_is fault memory is = no_fault old new stream priority p b can.given fault memory can.well is

    done : (told : PlanEnd) → end ≡ told → PlanEnds stream priority old new told → HasPlanned (session_plan p b) told
    done (Done text) same ends = record { made = text; ended = refl; is = ends.1 ∙ plan_is ends.0 }
    done NoMemory same ends = absurd (can.memory same)
    done PlaceFault same ends = absurd (none_is source.Failed (λ is. cc) ends)
    done (BadPriority fault) same ends = absurd (none_is (source.Priority fault) (λ is. cc) ends)
    done (BadStream scan) same ends = absurd (none_is (source.Stream scan) (λ is. cc) ends)
    done (BadPlan fault) same ends = absurd (none_is (source.Plan fault) (λ is. cc) ends)

  pub plans_session : (end : PlanEnd) → PlanEnds stream priority old new end → PlansSession stream priority old new end
  plans_session end ends p b can = done p b end can end refl ends
