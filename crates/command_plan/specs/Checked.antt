-- When `check` is done: on what `plan` printed. This project's own.
use Rattle.std.specs.Prelude.{◌≡◌, ◌≢◌, ℕ, List, [], ◌∷◌, length, Some}
use Rattle.pet_base.specs.Seen.{Seen}
use Rattle.outside_files.specs.Uses.{Failed, reading}
use Rattle.command_plan.specs.declared.checking.CheckEnd.{CheckEnd}
use Rattle.command_plan.specs.declared.checking.CheckEnd.TheVariants.{Done, NoMemory}
use Rattle.command_plan.specs.SessionPlan.{session_plan}
use Rattle.stream_session.specs.Sessions.{IsGiven, tables_in}

-- Memory was found, the place had no fault of this call, and the three files are told: two, of these bytes, are a
-- session, and
-- the third is its plan text.
pub record CanCheck (stream priority plan priority_bytes stream_bytes : List ℕ) (old new : Seen)
    (end : CheckEnd) : Type 0 where
  pub memory : end ≢ NoMemory
  pub well : Failed (reading stream ∷ reading priority ∷ reading plan ∷ []) old new → ⊥
  pub given : IsGiven old stream priority priority_bytes stream_bytes
  pub plan_there : given.files plan ≡ Some (session_plan priority_bytes stream_bytes)

-- then it is done, for all groups of the session
abbrev pub ChecksSession : List ℕ → List ℕ → List ℕ → Seen → Seen → CheckEnd → Type 0
ChecksSession stream priority plan old new end =
    (p b : List ℕ) → CanCheck stream priority plan p b old new end → end ≡ Done (length (tables_in p b))
