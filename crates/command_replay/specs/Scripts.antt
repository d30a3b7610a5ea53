-- The events that the bytes of a script are, or the line that is told. This project's own.
use Rattle.std.specs.Prelude.{ℕ, List, length, nat_lt, if◌then◌else◌, Result, Err}
use Rattle.pet_base.specs.declared.event.Event.{Event}
use Rattle.pet_base.specs.declared.limits.TheConstants.{MAX_SCRIPT}
use Rattle.text_script.specs.Script.{script_of}

-- of a session of so many groups, and packets of each: the line 0 of a script that is too long, and else the first that
-- is no event of the session
abbrev pub events_in : ℕ → ℕ → List ℕ → Result (List Event) ℕ
events_in groups packets bytes =
    if nat_lt MAX_SCRIPT (length bytes) then Err 0 else script_of groups packets bytes
