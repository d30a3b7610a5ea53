-- The plan text of a session. This project's own.
use Rattle.std.specs.Prelude.{ℕ, List}
use Rattle.priority_file.specs.Refusals.{priorities_of}
use Rattle.stream_session.specs.Number.{session_number}
use Rattle.text_plan.specs.PlanText.{plan_text}
use Rattle.stream_session.specs.Sessions.{tables_in}

-- the plan text of the session that a priority file and a stream of these bytes are
abbrev pub session_plan : List ℕ → List ℕ → List ℕ
session_plan priority stream =
    plan_text (session_number priority stream) (priorities_of priority) (tables_in priority stream)
