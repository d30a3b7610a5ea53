-- The session that a stream and a priority file in two files are, for the contracts of what reads both. This project's
-- own.
use Rattle.std.specs.Prelude.{◌≡◌, ℕ, List, Some}
use Rattle.pet_base.specs.declared.limits.TheConstants.{MAX_SESSION}
use Rattle.pet_base.specs.Seen.{Seen, Files}
use Rattle.stripe_plan.specs.Sizes.{Sizes}
use Rattle.priority_file.specs.Refusals.{priorities_of}
use Rattle.packet_frame.specs.declared.format.Format.{Format}
use Rattle.packet_frame.specs.declared.format.TheConstants.{FORMAT}
use Rattle.stream_session.specs.Accepted.{IsAcceptedIn}
use Rattle.outside_files.specs.Inputs.{IsFile}
use Rattle.stream_session.specs.Tables.{tables_of, cuts_of_stream}

-- the two files, and that they are an accepted session in a format
pub record HasSessionIn (t : Format) (old : Seen) (stream priority : List ℕ) : Type 0 where
  pub priority_bytes : List ℕ
  pub stream_bytes : List ℕ
  pub priority_file : IsFile old.files priority priority_bytes
  pub stream_file : IsFile old.files stream stream_bytes
  pub session : IsAcceptedIn t MAX_SESSION priority_bytes stream_bytes

-- in the format that is written today
abbrev pub HasSession : Seen → List ℕ → List ℕ → Type 0
HasSession old stream priority = HasSessionIn FORMAT old stream priority

-- the files are told, and these two are an accepted session of so many bytes in a format
pub record IsGivenIn (t : Format) (limit : ℕ) (old : Seen) (stream priority priority_bytes stream_bytes : List ℕ)
    : Type 0 where
  pub files : Files
  pub told : old.files ≡ Some files
  pub priority_there : files priority ≡ Some priority_bytes
  pub stream_there : files stream ≡ Some stream_bytes
  pub session : IsAcceptedIn t limit priority_bytes stream_bytes

abbrev pub IsGivenWithin : ℕ → Seen → List ℕ → List ℕ → List ℕ → List ℕ → Type 0
IsGivenWithin limit old stream priority priority_bytes stream_bytes =
    IsGivenIn FORMAT limit old stream priority priority_bytes stream_bytes

abbrev pub IsGiven : Seen → List ℕ → List ℕ → List ℕ → List ℕ → Type 0
IsGiven old stream priority priority_bytes stream_bytes =
    IsGivenWithin MAX_SESSION old stream priority priority_bytes stream_bytes

-- the tables of a session's groups
abbrev pub tables_in : List ℕ → List ℕ → List Sizes
tables_in priority stream = tables_of (priorities_of priority) (cuts_of_stream (priorities_of priority) stream)
