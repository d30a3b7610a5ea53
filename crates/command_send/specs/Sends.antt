-- What a command that sends a session leaves at each of its ends: of any format and coding, and `send`, of the frames that are
-- written today over the field of 65,536 elements. This project's own.
use Rattle.std.specs.Prelude.{◌≡◌, ◌⊎◌, ℕ, ◌+◌, ◌*◌, ◌≤◌, List, [], ◌∷◌, length, Option, None, Some, option_map, IfSome}
use Rattle.std.specs.Prelude.{false}
use Rattle.std.specs.List.{sum_by}
use Rattle.std.specs.Str.{bytes_eq}
use Rattle.pet_base.specs.Seen.{Seen, Files, Blame, HadFault}
use Rattle.pet_base.specs.LinkSeen.{LinkSeen}
use Rattle.pet_base.specs.OutsideSeen.{OutsideSeen}
use Rattle.field_elements.specs.Field.{Coding}
use Rattle.field_elements.specs.Gf16.{gf16_coding}
use Rattle.packet_frame.specs.declared.format.Format.{Format}
use Rattle.packet_frame.specs.declared.format.TheConstants.{FORMAT}
use Rattle.pet_base.specs.declared.limits.TheConstants.{MAX_SESSION}
use Rattle.priority_file.specs.Refusals.{priorities_of}
use Rattle.stream_groups.specs.CutGroups.{CutGroup}
use Rattle.stream_session.specs.Accepted.{session_of_in}
use Rattle.stream_session.specs.Marks.{marks_of, mark_at, group_marks}
use Rattle.stream_session.specs.Number.{session_number}
use Rattle.session_source.specs.Sources.{IsOfSource, IsSourceFaultIn}
use Rattle.session_source.specs.declared.source.Source.{Source}
use Rattle.session_source.specs.declared.source.SourceFault.TheVariants as source
use Rattle.text_plan.specs.PlanLines.{send_text}
use Rattle.outside_files.specs.Uses.{writing}
use Rattle.outside_files.specs.Wrote.{File, Wrote}
use Rattle.outside_routes.specs.RouteFaults.{AimedFailed}
use Rattle.outside_routes.specs.Sending.{Routes, Sent, SentFirst}
use Rattle.outside_routes.specs.Way.{Way, OnFile, OnLink}
use Rattle.packet_session.specs.Datagrams.{datagrams_text_in, session_datagrams_in}
use Rattle.command_send.specs.declared.command.SendEnd.{SendEnd}
use Rattle.command_send.specs.declared.command.SendEnd.TheVariants.{Done, NoMemory, PlaceFault, LinkFault, BadPriority}
use Rattle.command_send.specs.declared.command.SendEnd.TheVariants.{BadStream, BadPlan, Changed}
use Rattle.command_send.specs.declared.sent_group.Change.{Change}
use Rattle.command_send.specs.declared.session.Sent.{Sent as SentNumbers}
use Rattle.command_send.specs.Sending.{words_cost, sent_datagrams, AgreeBelow, HaveTables, IsFirstPass, IsLeastChange}
use Rattle.stripe_plan.specs.Sizes.{Sizes}
use Rattle.stream_session.specs.Sessions.{HasSessionIn, tables_in}
use Rattle.stream_session.specs.Tables.{tables_of_in, cuts_of_stream}

-- the line that is printed once all packets are sent: each group has as many as the priority says
abbrev pub sent_line_text : List ℕ → List ℕ → List ℕ
sent_line_text priority stream =
    send_text (session_number priority stream) (length (tables_in priority stream))
    (length (tables_in priority stream) * (priorities_of priority).packets)

-- the numbers that this line tells
pub record IsSentOf (priority stream : List ℕ) (sent : SentNumbers) : Type 0 where
  pub session : sent.session ≡ session_number priority stream
  pub groups : sent.groups ≡ length (tables_in priority stream)
  pub datagrams : sent.datagrams ≡ length (tables_in priority stream) * (priorities_of priority).packets

-- where a file is written, it is another than the stream
abbrev pub IsOther : Way → List ℕ → Type 0
IsOther (OnFile to) stream = bytes_eq to stream ≡ false
IsOther (OnLink address) stream = Unit {0}

-- what is seen of the files and of the link
abbrev pub routes_in : OutsideSeen → Routes
routes_in outside = record { place = outside.place; link = outside.link }

-- the link was aimed at this address
abbrev pub IsAimedAt : List ℕ → LinkSeen → LinkSeen → Type 0
IsAimedAt address old new = new.aimed ≡ option_map (λ _. address) old.aimed

-- no file has changed, and nothing was sent
abbrev pub SendsNothing : Routes → Routes → Type 0
SendsNothing old new = Wrote [] None old.place new.place × (new.link ≡ old.link)

-- Where a file is written the link is as before; else only what it has sent, and where it sends to, has changed.
pub record OnlySendsOn (old new : LinkSeen) : Type 0 where
  pub feed : new.feed ≡ old.feed
  pub port : new.port ≡ old.port
  pub bound : new.bound ≡ old.bound
  pub later : old.faults ≤ new.faults

abbrev pub KeepsLink : Way → LinkSeen → LinkSeen → Type 0
KeepsLink (OnFile to) old new = new ≡ old
KeepsLink (OnLink address) old new = OnlySendsOn old new

-- the tables of a session's groups in a format, whose words its plans cut
abbrev pub plan_tables_in : Format → List ℕ → List ℕ → List Sizes
plan_tables_in t priority stream =
    tables_of_in t (priorities_of priority) (cuts_of_stream (priorities_of priority) stream)

-- A failure may be at the priority file, at the stream where that is accepted, and at the file TO where the two are a
-- session of the format.
abbrev pub MayBlameIn : Format → List ℕ → List ℕ → Way → Seen → Blame → Type 0
MayBlameIn t stream priority (OnFile to) old blame =
    IsOfSource old.files stream priority blame ⊎ ((blame ≡ writing to) × HasSessionIn t old stream priority)
MayBlameIn t stream priority (OnLink address) old blame = IsOfSource old.files stream priority blame

-- No step was counted, or the two files are a session, and each group has taken at most packets times words.
abbrev pub CostsIn : Format → List ℕ → List ℕ → Seen → ℕ → ℕ → Type 0
CostsIn t stream priority old before after =
    (after ≡ before)
    ⊎ ((s : HasSessionIn t old stream priority)
    × (after ≤ before + sum_by words_cost (plan_tables_in t s.priority_bytes s.stream_bytes)))

module _ {E : Type 0} (t : Format) (c : Coding E) where
  -- the datagram file of the session that a priority file and a stream are, under this name
  abbrev pub packets_file_in : List ℕ → List ℕ → List ℕ → File
  packets_file_in to priority stream =
      record { name = to; bytes = datagrams_text_in t c (session_of_in t priority stream) }

  -- the packets of that session as datagrams, by group, then number
  abbrev pub packets_sent_in : List ℕ → List ℕ → List (List ℕ)
  packets_sent_in priority stream = session_datagrams_in t c (session_of_in t priority stream)

  -- Datagrams of a session that the second reading found: those of groups that have marks and tables of the first
  -- reading, up to so many. A group with the mark of another is that other, but for two digests that are the same.
  pub record AreResent (p b : List ℕ) (groups : List CutGroup) (datagrams : List (List ℕ)) : Type 0 where
    pub source : Source
    pub first : IsFirstPass t p b source (marks_of (priorities_of p) b)
    pub agree : AgreeBelow (marks_of (priorities_of p) b) groups (length groups)
    pub tables : HaveTables t source groups
    pub are : datagrams ≡ sent_datagrams t c source groups

  -- The link has sent all packets of the session to this address; where the files are not told, those of groups with all
  -- its marks.
  pub record LinkSentAll (address p b : List ℕ) (files : Option Files) (old new : LinkSeen) : Type 0 where
    pub groups : List CutGroup
    pub datagrams : List (List ℕ)
    pub resent : AreResent p b groups datagrams
    pub all : (k : ℕ) → mark_at (marks_of (priorities_of p) b) k ≡ mark_at (group_marks groups) k
    pub aimed : IsAimedAt address old new
    pub sent : Sent datagrams old new
    pub told : IfSome files (λ _. datagrams ≡ packets_sent_in p b)

  -- or the first of them
  pub record LinkSentFirst (address p b : List ℕ) (files : Option Files) (old new : LinkSeen) : Type 0 where
    pub groups : List CutGroup
    pub datagrams : List (List ℕ)
    pub resent : AreResent p b groups datagrams
    pub aimed : IsAimedAt address old new
    pub sent : SentFirst datagrams old new
    pub told : IfSome files (λ _. SentFirst (packets_sent_in p b) old new)

  -- The file TO has all packets of the session, and no other file has changed; or the link has sent them to the address
  -- TO, and no file has changed.
  abbrev pub HasPackets : {stream priority : List ℕ} (old : Routes) → HasSessionIn t old.place stream priority → Way
      → Routes → Type 0
  HasPackets old s (OnFile to) new =
      Wrote (packets_file_in to s.priority_bytes s.stream_bytes ∷ []) None old.place new.place
  HasPackets old s (OnLink address) new =
      LinkSentAll address s.priority_bytes s.stream_bytes old.place.files old.link new.link
      × (new.place.files ≡ old.place.files)

  -- No file has changed, or the file TO alone, which has a front of the packets; or the link has sent nothing,
  -- or the first packets to the address TO.
  abbrev pub LeavesSentFront : List ℕ → List ℕ → Way → Routes → Routes → Type 0
  LeavesSentFront stream priority (OnFile to) old new =
      Wrote [] None old.place new.place
      ⊎ ((s : HasSessionIn t old.place stream priority)
      × Wrote [] (Some (packets_file_in to s.priority_bytes s.stream_bytes)) old.place new.place)
  LeavesSentFront stream priority (OnLink address) old new =
      ((new.link.sent ≡ old.link.sent)
      ⊎ ((s : HasSessionIn t old.place stream priority)
      × LinkSentFirst address s.priority_bytes s.stream_bytes old.place.files old.link new.link))
      × (new.place.files ≡ old.place.files)

  -- of these groups, by a link to its address; what stands in a file is not told
  abbrev pub HasSentBefore : List ℕ → List ℕ → List CutGroup → Way → LinkSeen → LinkSeen → Type 0
  HasSentBefore p b groups (OnFile to) old new = new ≡ old
  HasSentBefore p b groups (OnLink address) old new =
      (datagrams : List (List ℕ)) × AreResent p b groups datagrams × IsAimedAt address old new × Sent datagrams old new

  -- The stream was another when it was read again, and this is the least group whose marks differ: that happens only
  -- where the files are not told. By a link exactly the packets of the groups before it were sent, to its address.
  pub record StreamChanged (old new : Routes) (stream priority : List ℕ) (way : Way) (change : Change) : Type 0 where
    pub session : HasSessionIn t old.place stream priority
    pub again : List ℕ
    pub least : IsLeastChange t (priorities_of session.priority_bytes)
        (plan_tables_in t session.priority_bytes session.stream_bytes)
        (marks_of (priorities_of session.priority_bytes) session.stream_bytes) again change
    pub untold : old.place.files ≡ None
    pub sent : HasSentBefore session.priority_bytes session.stream_bytes least.before way old.link new.link

  -- What each end tells: all packets of the session were sent, and which these are. At every other end its cause holds; a
  -- refusal comes before any file is written or any datagram sent, and what stops the command later leaves a front of the
  -- packets.
  abbrev pub SendTellsIn : List ℕ → List ℕ → Way → OutsideSeen → OutsideSeen → SendEnd → Type 0
  SendTellsIn stream priority way before after (Done sent) =
      (s : HasSessionIn t before.place stream priority) × HasPackets (routes_in before) s way (routes_in after)
      × IsSentOf s.priority_bytes s.stream_bytes sent
  SendTellsIn stream priority way before after NoMemory =
      LeavesSentFront stream priority way (routes_in before) (routes_in after)
  SendTellsIn stream priority way before after PlaceFault =
      HadFault before.place after.place (MayBlameIn t stream priority way before.place)
      × LeavesSentFront stream priority way (routes_in before) (routes_in after)
  SendTellsIn stream priority way before after LinkFault =
      AimedFailed way before.link after.link × HasSessionIn t before.place stream priority
      × LeavesSentFront stream priority way (routes_in before) (routes_in after)
  SendTellsIn stream priority way before after (BadPriority fault) =
      IsSourceFaultIn t MAX_SESSION before.place after.place stream priority (source.Priority fault)
      × SendsNothing (routes_in before) (routes_in after)
  SendTellsIn stream priority way before after (BadStream scan) =
      IsSourceFaultIn t MAX_SESSION before.place after.place stream priority (source.Stream scan)
      × SendsNothing (routes_in before) (routes_in after)
  SendTellsIn stream priority way before after (BadPlan fault) =
      IsSourceFaultIn t MAX_SESSION before.place after.place stream priority (source.Plan fault)
      × SendsNothing (routes_in before) (routes_in after)
  SendTellsIn stream priority way before after (Changed change) =
      StreamChanged (routes_in before) (routes_in after) stream priority way change
      × LeavesSentFront stream priority way (routes_in before) (routes_in after)

  -- what the command does: nothing is printed
  pub record SendsIn (stream priority : List ℕ) (way : Way) (before after : OutsideSeen) (end : SendEnd) : Type 0 where
    pub link : KeepsLink way before.link after.link
    pub written : after.written ≡ before.written
    pub out_faults : after.out_faults ≡ before.out_faults
    pub costs : CostsIn t stream priority before.place before.steps after.steps
    pub tells : SendTellsIn stream priority way before after end

-- and what `send` does
abbrev pub packets_file : List ℕ → List ℕ → List ℕ → File
packets_file to priority stream = packets_file_in FORMAT gf16_coding to priority stream

abbrev pub packets_in : List ℕ → List ℕ → List (List ℕ)
packets_in priority stream = packets_sent_in FORMAT gf16_coding priority stream

abbrev pub SendTells : List ℕ → List ℕ → Way → OutsideSeen → OutsideSeen → SendEnd → Type 0
SendTells stream priority way before after end = SendTellsIn FORMAT gf16_coding stream priority way before after end

abbrev pub Sends : List ℕ → List ℕ → Way → OutsideSeen → OutsideSeen → SendEnd → Type 0
Sends stream priority way before after end = SendsIn FORMAT gf16_coding stream priority way before after end
