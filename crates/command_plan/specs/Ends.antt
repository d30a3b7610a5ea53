-- The end of each command that a fault of the session's two files makes. This project's own.
use Rattle.std.specs.Prelude.{Bool, true, false}
use Rattle.session_source.specs.declared.source.SourceFault.{SourceFault}
use Rattle.session_source.specs.declared.source.SourceFault.TheVariants as source
use Rattle.command_plan.specs.declared.checking.CheckEnd.{CheckEnd}
use Rattle.command_plan.specs.declared.checking.CheckEnd.TheVariants as check
use Rattle.command_plan.specs.declared.planning.PlanEnd.{PlanEnd}
use Rattle.command_plan.specs.declared.planning.PlanEnd.TheVariants as plan

abbrev pub plan_end : SourceFault → PlanEnd
plan_end source.NoMemory = plan.NoMemory
plan_end source.Failed = plan.PlaceFault
plan_end (source.Priority fault) = plan.BadPriority fault
plan_end (source.Stream scan) = plan.BadStream scan
plan_end (source.Plan fault) = plan.BadPlan fault

abbrev pub check_end : SourceFault → CheckEnd
check_end source.NoMemory = check.NoMemory
check_end source.Failed = check.PlaceFault
check_end (source.Priority fault) = check.BadPriority fault
check_end (source.Stream scan) = check.BadStream scan
check_end (source.Plan fault) = check.BadPlan fault

-- which ends tell of a failure of the place
abbrev pub plan_failed : PlanEnd → Bool
plan_failed (plan.Done text) = false
plan_failed plan.NoMemory = false
plan_failed plan.PlaceFault = true
plan_failed (plan.BadPriority fault) = false
plan_failed (plan.BadStream scan) = false
plan_failed (plan.BadPlan fault) = false

abbrev pub check_failed : CheckEnd → Bool
check_failed (check.Done groups) = false
check_failed check.NoMemory = false
check_failed check.PlaceFault = true
check_failed (check.BadPriority fault) = false
check_failed (check.BadStream scan) = false
check_failed (check.BadPlan fault) = false
check_failed check.PlanLong = false
check_failed (check.Text line) = false
check_failed (check.Lines lines) = false
check_failed (check.NotLeast group) = false
