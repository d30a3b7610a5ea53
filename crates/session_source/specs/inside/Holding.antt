-- Where a pass stands that holds the stream, and what it answers at the end. This project's own.
use Rattle.std.specs.Prelude.{◌≡◌, ℕ, List}
use Rattle.pet_base.specs.declared.limits.TheConstants.{MAX_REPLAY_SESSION}
use Rattle.priority_file.specs.Priority.{Priorities}
use Rattle.packet_frame.specs.declared.format.Format.{Format}
use Rattle.stream_session.specs.Passing.{HasPassed, IsPlanIn}
use Rattle.session_source.specs.declared.whole.HeldPass.{HeldPass}
use Rattle.session_source.specs.declared.whole.HeldPlan.{HeldPlan}

-- The pass under this priority, of a priority file of these bytes, has read the stream, and holds it.
pub record HasHeld (held : HeldPass) (priority : Priorities) (file stream : List ℕ) : Type 0 where
  pub passed : HasPassed held.pass priority file stream
  pub bytes : held.bytes.items ≡ stream

-- the session that the stream is in a format, and its bytes
pub record IsHeldPlanOf (t : Format) (held : HeldPlan) (priority : Priorities) (file stream : List ℕ) : Type 0 where
  pub plan : IsPlanIn t MAX_REPLAY_SESSION held.plan priority file stream
  pub bytes : held.bytes.items ≡ stream
