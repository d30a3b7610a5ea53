-- The session of a stream and a priority file that a place holds, and why there is none. This project's own.
use Rattle.std.specs.Prelude.{◌≡◌, ◌≢◌, ◌⊎◌, Bool, true, false, ℕ, List, Option, None, Some}
use Rattle.pet_base.specs.declared.faults.Stop.{Stop}
use Rattle.pet_base.specs.declared.faults.Stop.TheVariants as stop
use Rattle.pet_base.specs.Seen.{Seen, Files, Blame, HadFault}
use Rattle.mpeg_scan.specs.Refusals.{Refuses, IsAccepted}
use Rattle.mpeg_scan.specs.Pieces.{pieces_of}
use Rattle.priority_file.specs.declared.fault.PriorityFault.{PriorityFault}
use Rattle.priority_file.specs.declared.fault.PriorityFault.TheVariants as rules
use Rattle.priority_file.specs.Refusals.{refusal_of, priorities_of}
use Rattle.stream_session.specs.declared.fault.SessionFault.TheVariants as session
use Rattle.stream_session.specs.declared.pass.StreamFault.{StreamFault}
use Rattle.stream_session.specs.declared.pass.StreamFault.TheVariants as pass
use Rattle.session_source.specs.declared.source.Source.{Source}
use Rattle.session_source.specs.declared.source.SourceFault.{SourceFault}
use Rattle.session_source.specs.declared.source.SourceFault.TheVariants.{NoMemory, Failed, Priority, Stream, Plan}
use Rattle.packet_frame.specs.declared.format.Format.{Format}
use Rattle.packet_frame.specs.declared.format.TheConstants.{FORMAT}
use Rattle.stream_session.specs.Tables.{tables_of_in, cuts_of_stream}
use Rattle.pet_base.specs.declared.limits.TheConstants.{MAX_SESSION}
use Rattle.stream_session.specs.Refusals.{session_fault_in}
use Rattle.stream_session.specs.Number.{session_number}
use Rattle.stream_session.specs.Accepted.{IsAcceptedIn}
use Rattle.outside_files.specs.Inputs.{IsFile, IsRead}

-- each cause as one of both files
abbrev pub of_stop : Stop → SourceFault
of_stop stop.NoMemory = NoMemory
of_stop stop.Failed = Failed

abbrev pub of_priority : PriorityFault → SourceFault
of_priority rules.NoMemory = NoMemory
of_priority fault = Priority fault

abbrev pub of_stream : StreamFault → SourceFault
of_stream (pass.Stream scan) = Stream scan
of_stream (pass.Plan fault) = Plan fault
of_stream pass.NoMemory = NoMemory

-- The files are an accepted session of so many bytes in a format, and this is its priority, its number and its tables.
pub record IsSourceIn (t : Format) (limit : ℕ) (files : Option Files) (stream priority : List ℕ) (source : Source)
    : Type 0 where
  pub file : List ℕ
  pub bytes : List ℕ
  pub priority_is : IsFile files priority file
  pub stream_is : IsFile files stream bytes
  pub accepted : IsAcceptedIn t limit file bytes
  pub rules : source.priority ≡ priorities_of file
  pub number : source.number ≡ session_number file bytes
  pub tables : source.tables.items ≡ tables_of_in t (priorities_of file) (cuts_of_stream (priorities_of file) bytes)

-- in the format that is written today
abbrev pub IsSourceWithin : ℕ → Option Files → List ℕ → List ℕ → Source → Type 0
IsSourceWithin limit files stream priority source = IsSourceIn FORMAT limit files stream priority source

abbrev pub IsSource : Option Files → List ℕ → List ℕ → Source → Type 0
IsSource files stream priority source = IsSourceWithin MAX_SESSION files stream priority source

-- The priority file is accepted, and this holds of both files.
pub record BothFiles (files : Option Files) (stream priority : List ℕ) (P : List ℕ → List ℕ → Type 0) : Type 0 where
  pub file : List ℕ
  pub bytes : List ℕ
  pub priority_is : IsFile files priority file
  pub stream_is : IsFile files stream bytes
  pub accepted : refusal_of file ≡ None
  pub holds : P file bytes

-- This was at one of the files. The priority file is judged first: the stream is blamed only where that is accepted.
abbrev pub IsOfSource : Option Files → List ℕ → List ℕ → Blame → Type 0
IsOfSource files stream priority blame =
    IsRead priority blame
    ⊎ (IsRead stream blame × (file : List ℕ) × IsFile files priority file × (refusal_of file ≡ None))

-- which of these tell of a failure of the place
abbrev pub has_failed : SourceFault → Bool
has_failed NoMemory = false
has_failed Failed = true
has_failed (Priority fault) = false
has_failed (Stream scan) = false
has_failed (Plan fault) = false

-- When each fault comes in a format, where a session may have so many bytes: want of memory at any time, a failure where the place
-- had a fault at one of the files, and else the first refusal, of the priority file, of the stream, or of the plan.
abbrev pub IsSourceFaultIn : Format → ℕ → Seen → Seen → List ℕ → List ℕ → SourceFault → Type 0
IsSourceFaultIn t limit old new stream priority NoMemory = Unit {0}
IsSourceFaultIn t limit old new stream priority Failed = HadFault old new (IsOfSource old.files stream priority)
IsSourceFaultIn t limit old new stream priority (Priority fault) =
    (file : List ℕ) × IsFile old.files priority file × (refusal_of file ≡ Some fault)
IsSourceFaultIn t limit old new stream priority (Stream scan) =
    BothFiles old.files stream priority (λ file bytes. Refuses bytes scan)
IsSourceFaultIn t limit old new stream priority (Plan fault) =
    BothFiles old.files stream priority (λ file bytes.
    IsAccepted bytes × (fault ≢ session.NoMemory)
    × (session_fault_in t limit (priorities_of file) (pieces_of bytes) ≡ Some fault))

abbrev pub IsSourceFaultWithin : ℕ → Seen → Seen → List ℕ → List ℕ → SourceFault → Type 0
IsSourceFaultWithin limit old new stream priority fault = IsSourceFaultIn FORMAT limit old new stream priority fault

abbrev pub IsSourceFault : Seen → Seen → List ℕ → List ℕ → SourceFault → Type 0
IsSourceFault old new stream priority fault = IsSourceFaultWithin MAX_SESSION old new stream priority fault
