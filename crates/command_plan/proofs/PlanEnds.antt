-- What each fault of the two files is as an end of `plan`.
use Rattle.std.proofs.Common.{◌≡◌, ℕ, List, refl}
use Rattle.pet_base.specs.Seen.{Seen}
use Rattle.session_source.specs.Sources.{IsSourceFault, has_failed}
use Rattle.session_source.specs.declared.source.SourceFault.{SourceFault}
use Rattle.session_source.specs.declared.source.SourceFault.TheVariants as source
use Rattle.command_plan.specs.Ends.{plan_end, plan_failed}
use Rattle.command_plan.specs.Plans.{PlanEnds}

pub plan_refused : (stream priority : List ℕ) (old new : Seen) (fault : SourceFault)
    → IsSourceFault old new stream priority fault → PlanEnds stream priority old new (plan_end fault)
plan_refused stream priority old new source.NoMemory is = tt
plan_refused stream priority old new source.Failed is = is
plan_refused stream priority old new (source.Priority fault) is = is
plan_refused stream priority old new (source.Stream scan) is = is
plan_refused stream priority old new (source.Plan fault) is = is

pub failed_alike : (fault : SourceFault) → has_failed fault ≡ plan_failed (plan_end fault)
failed_alike source.NoMemory = refl
failed_alike source.Failed = refl
failed_alike (source.Priority fault) = refl
failed_alike (source.Stream scan) = refl
failed_alike (source.Plan fault) = refl
