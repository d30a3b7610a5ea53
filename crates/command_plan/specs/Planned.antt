-- When `plan` is done. This project's own.
use Rattle.std.specs.Prelude.{◌≡◌, ◌≢◌, ℕ, List, [], ◌∷◌, Vec}
use Rattle.pet_base.specs.Seen.{Seen}
use Rattle.outside_files.specs.Uses.{Failed, reading}
use Rattle.command_plan.specs.declared.planning.PlanEnd.{PlanEnd}
use Rattle.command_plan.specs.declared.planning.PlanEnd.TheVariants.{Done, NoMemory}
use Rattle.command_plan.specs.SessionPlan.{session_plan}
use Rattle.stream_session.specs.Sessions.{IsGiven}
use Rattle.std.specs.declared.alloc.Global.{Global}

-- Memory was found, the place had no fault of this call, and the two files, of these bytes, are told and a session.
pub record CanPlan (stream priority priority_bytes stream_bytes : List ℕ) (old new : Seen)
    (end : PlanEnd) : Type 0 where
  pub memory : end ≢ NoMemory
  pub well : Failed (reading stream ∷ reading priority ∷ []) old new → ⊥
  pub given : IsGiven old stream priority priority_bytes stream_bytes

-- it is done, and this is the text
pub record HasPlanned (text : List ℕ) (end : PlanEnd) : Type 0 where
  pub made : Vec ℕ Global
  pub ended : end ≡ Done made
  pub is : made.items ≡ text

-- then it is done, with the plan text of the session
abbrev pub PlansSession : List ℕ → List ℕ → Seen → Seen → PlanEnd → Type 0
PlansSession stream priority old new end =
    (p b : List ℕ) → CanPlan stream priority p b old new end → HasPlanned (session_plan p b) end
