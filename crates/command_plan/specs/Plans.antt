-- What `plan` does, by its end. This project's own.
use Rattle.std.specs.Prelude.{◌≡◌, ℕ, List}
use Rattle.pet_base.specs.Seen.{Seen}
use Rattle.session_source.specs.Sources.{IsSourceFault}
use Rattle.session_source.specs.declared.source.SourceFault.TheVariants as source
use Rattle.command_plan.specs.declared.planning.PlanEnd.{PlanEnd}
use Rattle.command_plan.specs.declared.planning.PlanEnd.TheVariants.{Done, NoMemory, PlaceFault, BadPriority, BadStream}
use Rattle.command_plan.specs.declared.planning.PlanEnd.TheVariants.{BadPlan}
use Rattle.command_plan.specs.SessionPlan.{session_plan}
use Rattle.stream_session.specs.Sessions.{HasSession}

-- The two files are a session, and the text is its plan; or the cause of the end holds of them.
abbrev pub PlanEnds : List ℕ → List ℕ → Seen → Seen → PlanEnd → Type 0
PlanEnds stream priority old new (Done text) =
    (s : HasSession old stream priority) × (text.items ≡ session_plan s.priority_bytes s.stream_bytes)
PlanEnds stream priority old new NoMemory = Unit {0}
PlanEnds stream priority old new PlaceFault = IsSourceFault old new stream priority source.Failed
PlanEnds stream priority old new (BadPriority fault) = IsSourceFault old new stream priority (source.Priority fault)
PlanEnds stream priority old new (BadStream scan) = IsSourceFault old new stream priority (source.Stream scan)
PlanEnds stream priority old new (BadPlan fault) = IsSourceFault old new stream priority (source.Plan fault)

-- what `plan` does: no file has changed
pub record Plans (stream priority : List ℕ) (old new : Seen) (end : PlanEnd) : Type 0 where
  pub files : new.files ≡ old.files
  pub ends : PlanEnds stream priority old new end
