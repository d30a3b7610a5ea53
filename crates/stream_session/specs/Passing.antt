-- Where a pass stands over a stream that came in portions, and what it answers at the end. This project's own.
use Rattle.std.specs.Prelude.{◌≡◌, ◌≢◌, ℕ, List, [], ◌++◌, take, None, Some, MatchOption}
use Rattle.mpeg_scan.specs.declared.piece.Piece.{Piece}
use Rattle.mpeg_scan.specs.Refusals.{Refuses, IsRefusal, IsAccepted}
use Rattle.mpeg_scan.specs.Pieces.{pieces_of}
use Rattle.mpeg_scan.specs.Scanning.{HasRead}
use Rattle.sha2.specs.Hashers.{Holds256}
use Rattle.sha2.specs.Sha256.{sha256}
use Rattle.priority_file.specs.Priority.{Priorities}
use Rattle.layer_split.specs.Groups.{groups_of}
use Rattle.layer_split.specs.Splitting.{cuts_of}
use Rattle.stream_session.specs.declared.fault.SessionFault.TheVariants as session
use Rattle.stream_session.specs.declared.pass.Pass.{Pass}
use Rattle.stream_session.specs.declared.pass.SessionPlan.{SessionPlan}
use Rattle.stream_session.specs.declared.pass.StreamFault.{StreamFault}
use Rattle.stream_session.specs.declared.pass.StreamFault.TheVariants.{Stream, Plan, NoMemory}
use Rattle.packet_frame.specs.declared.format.Format.{Format}
use Rattle.packet_frame.specs.declared.format.TheConstants.{FORMAT}
use Rattle.stream_session.specs.Tables.{tables_of_in, cuts_of_stream}
use Rattle.pet_base.specs.declared.limits.TheConstants.{MAX_SESSION}
use Rattle.stream_session.specs.Refusals.{session_fault_in}
use Rattle.stream_session.specs.Number.{hashed, session_number}
use Rattle.stream_session.specs.Planning.{HasPlanned}

-- nothing is refused so far: the pieces that the scanner gave went to the planner, and all bytes to the hasher
pub record IsLive (pass : Pass) (priority : Priorities) (file stream : List ℕ) : Type 0 where
  pub given : List Piece
  pub scanned : HasRead pass.scanner stream given
  pub planned : HasPlanned pass.planner priority given
  pub hashed : Holds256 pass.hasher (hashed file stream)
  pub empty : pass.pieces.items ≡ []

-- The pass under this priority, of a priority file of these bytes, has read the stream; once that is refused it is so
-- however it goes on.
abbrev pub HasPassed : Pass → Priorities → List ℕ → List ℕ → Type 0
HasPassed pass priority file stream =
    MatchOption pass.refused (IsLive pass priority file stream)
    (λ scan. (rest : List ℕ) → Refuses (stream ++ rest) scan)

-- the number and the tables of the session that the stream is in a format, where a session may have so many bytes
pub record IsPlanIn (t : Format) (limit : ℕ) (plan : SessionPlan) (priority : Priorities) (file stream : List ℕ) : Type 0 where
  pub accepted : IsAccepted stream
  pub fits : session_fault_in t limit priority (pieces_of stream) ≡ None
  pub number : plan.number ≡ session_number file stream
  pub tables : plan.tables.items ≡ tables_of_in t priority (cuts_of_stream priority stream)

-- in the format that is written today
abbrev pub IsPlanWithin : ℕ → SessionPlan → Priorities → List ℕ → List ℕ → Type 0
IsPlanWithin limit plan priority file stream = IsPlanIn FORMAT limit plan priority file stream

abbrev pub IsPlanOf : SessionPlan → Priorities → List ℕ → List ℕ → Type 0
IsPlanOf plan priority file stream = IsPlanWithin MAX_SESSION plan priority file stream

-- the same, of these pieces and of all that is hashed
pub record IsPlanBy (t : Format) (limit : ℕ) (plan : SessionPlan) (priority : Priorities) (pieces : List Piece)
    (message : List ℕ) : Type 0 where
  pub fits : session_fault_in t limit priority pieces ≡ None
  pub number : plan.number ≡ take 8 (sha256 message)
  pub tables : plan.tables.items ≡ tables_of_in t priority (cuts_of priority (groups_of pieces))

-- why there is no plan of these pieces
abbrev pub IsPlanFault : Format → ℕ → Priorities → List Piece → StreamFault → Type 0
IsPlanFault t limit priority pieces (Stream scan) = ⊥
IsPlanFault t limit priority pieces (Plan fault) =
    (fault ≢ session.NoMemory) × (session_fault_in t limit priority pieces ≡ Some fault)
IsPlanFault t limit priority pieces NoMemory = Unit {0}

-- Why the stream is no session of so many bytes in a format: its refusal, which holds however it goes on where it is too long
-- already, or else that of the plan. Want of memory says nothing.
abbrev pub IsStreamFaultIn : Format → ℕ → Priorities → List ℕ → StreamFault → Type 0
IsStreamFaultIn t limit priority stream (Stream scan) = IsRefusal stream scan
IsStreamFaultIn t limit priority stream (Plan fault) =
    IsAccepted stream × (fault ≢ session.NoMemory)
    × (session_fault_in t limit priority (pieces_of stream) ≡ Some fault)
IsStreamFaultIn t limit priority stream NoMemory = Unit {0}

abbrev pub IsStreamFaultWithin : ℕ → Priorities → List ℕ → StreamFault → Type 0
IsStreamFaultWithin limit priority stream fault = IsStreamFaultIn FORMAT limit priority stream fault

abbrev pub IsStreamFault : Priorities → List ℕ → StreamFault → Type 0
IsStreamFault priority stream fault = IsStreamFaultWithin MAX_SESSION priority stream fault
