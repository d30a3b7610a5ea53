-- The plan text of a session that was read is that of its two files.
use Rattle.std.proofs.Common.{◌≡◌, ℕ, List, Option, ap, ◌∙◌}
use Rattle.pet_base.specs.Seen.{Files}
use Rattle.priority_file.specs.Refusals.{priorities_of}
use Rattle.priority_file.specs.Priority.{Priorities}
use Rattle.stripe_plan.specs.Sizes.{Sizes}
use Rattle.stream_session.specs.Number.{session_number}
use Rattle.session_source.specs.Sources.{IsSource}
use Rattle.session_source.specs.declared.source.Source.{Source}
use Rattle.text_plan.specs.PlanText.{plan_text}
use Rattle.command_plan.specs.SessionPlan.{session_plan}

pub plan_of_source : (files : Option Files) (stream priority : List ℕ) (source : Source)
    (is : IsSource files stream priority source)
    → plan_text source.number source.priority source.tables.items ≡ session_plan is.file is.bytes
plan_of_source files stream priority source is =
    ap (λ (n : List ℕ). plan_text n source.priority source.tables.items) is.number
    ∙ ap (λ (r : Priorities). plan_text (session_number is.file is.bytes) r source.tables.items) is.rules
    ∙ ap (λ (ts : List Sizes). plan_text (session_number is.file is.bytes) (priorities_of is.file) ts) is.tables
