-- What `check` leaves at each of its ends. This project's own.
use Rattle.std.specs.Prelude.{◌≡◌, ◌≢◌, ◌⊎◌, ℕ, ◌<◌, ◌≤◌, List, [], ◌∷◌, length, Err}
use Rattle.pet_base.specs.declared.limits.TheConstants.{MAX_PLAN_FILE}
use Rattle.pet_base.specs.Seen.{Seen}
use Rattle.outside_files.specs.Uses.{Failed, reading}
use Rattle.session_source.specs.Sources.{IsSourceFault}
use Rattle.session_source.specs.declared.source.SourceFault.TheVariants as source
use Rattle.text_plan.specs.declared.plan_file.Repeat.{Repeat}
use Rattle.text_plan.specs.PlanFile.{lists_of}
use Rattle.command_plan.specs.declared.checking.CheckEnd.{CheckEnd}
use Rattle.command_plan.specs.declared.checking.CheckEnd.TheVariants.{Done, NoMemory, PlaceFault, BadPriority}
use Rattle.command_plan.specs.declared.checking.CheckEnd.TheVariants.{BadStream, BadPlan, PlanLong, Text, Lines}
use Rattle.command_plan.specs.declared.checking.CheckEnd.TheVariants.{NotLeast}
use Rattle.command_plan.specs.Certified.{HasPlanFile, Lists, IsCertified, IsFirstNotLeast, tables_of_files}
use Rattle.stream_session.specs.Sessions.{HasSession}

-- What `check` does, by its end. The files are judged in order: a cause of the session's files
-- needs nothing of the plan file, and a cause of the plan file comes only where these are a session.
abbrev pub Checks : Seen → Seen → List ℕ → List ℕ → List ℕ → CheckEnd → Type 0
Checks old new stream priority plan (Done groups) =
    (c : IsCertified old stream priority plan) × (groups ≡ length (tables_of_files c.listed.files))
Checks old new stream priority plan NoMemory = Unit {0}
Checks old new stream priority plan PlaceFault =
    IsSourceFault old new stream priority source.Failed
    ⊎ (HasSession old stream priority × Failed (reading plan ∷ []) old new)
Checks old new stream priority plan (BadPriority fault) =
    IsSourceFault old new stream priority (source.Priority fault)
Checks old new stream priority plan (BadStream scan) =
    IsSourceFault old new stream priority (source.Stream scan)
Checks old new stream priority plan (BadPlan fault) =
    IsSourceFault old new stream priority (source.Plan fault)
Checks old new stream priority plan PlanLong =
    (f : HasPlanFile old stream priority plan) × (MAX_PLAN_FILE < length f.plan_bytes)
Checks old new stream priority plan (Text line) =
    (f : HasPlanFile old stream priority plan) × (length f.plan_bytes ≤ MAX_PLAN_FILE)
    × (lists_of f.plan_bytes ≡ Err line)
Checks old new stream priority plan (Lines lines) =
    (lists : List (List Repeat)) × (l : Lists old stream priority plan lists)
    × (lines ≡ length lists) × (length lists ≢ length (tables_of_files l.files))
Checks old new stream priority plan (NotLeast group) =
    (lists : List (List Repeat)) × (l : Lists old stream priority plan lists)
    × IsFirstNotLeast (tables_of_files l.files) lists group
