-- The session that was read with its marks, and what of it was sent.
use Rattle.std.proofs.Common.{◌≡◌, ℕ, ◌+◌, ◌*◌, ◌≤◌, List, [], ◌∷◌, length, Option, Some, None, refl, sym, ap, subst}
use Rattle.std.proofs.Common.{◌∙◌, inl, inr, arith}
use Rattle.std.specs.Prelude.{◌⊎◌, option_map}
use Rattle.std.specs.List.{sum_by}
use Rattle.outside_routes.specs.declared.fault.RouteStop.TheVariants as stop
use Rattle.outside_routes.specs.RouteFaults.{AimedFailed}
use Rattle.outside_routes.specs.Sending.{Routes}
use Rattle.outside_routes.specs.Way.{Way, OnFile, OnLink}
use Rattle.pet_base.specs.LinkSeen.{LinkSeen}
use Rattle.pet_base.specs.Seen.{Seen, Files, Blame}
use Rattle.pet_base.specs.laws.SeenLaws.{HadFault-since}
use Rattle.stripe_plan.specs.Sizes.{Sizes}
use Rattle.priority_file.specs.Priority.{Priorities}
use Rattle.priority_file.specs.Refusals.{priorities_of}
use Rattle.stream_session.specs.declared.mark.GroupMark.{GroupMark}
use Rattle.session_source.specs.declared.source.Source.{Source}
use Rattle.stream_session.specs.Marks.{mark_at, marks_of}
use Rattle.session_source.specs.Sources.{IsSourceIn}
use Rattle.session_source.specs.laws.SourceLaws.{session_in}
use Rattle.field_elements.specs.Field.{Coding}
use Rattle.packet_frame.specs.declared.format.Format.{Format}
use Rattle.pet_base.specs.declared.limits.TheConstants.{MAX_SESSION}
use Rattle.std.proofs.lemmas.List.{length-map}
use Rattle.stream_session.specs.Tables.{table_of, table_of_in, cuts_of_stream}
use Rattle.outside_files.specs.Inputs.{IsFile}
use Rattle.outside_files.specs.Wrote.{File, Wrote, with_files}
use Rattle.outside_files.specs.laws.WroteLaws.{Wrote-nothing}
use Rattle.command_send.specs.inside.Job.{Job}
use Rattle.command_send.specs.declared.fault.SendFault.{SendFault}
use Rattle.command_send.specs.declared.fault.SendFault.TheVariants as fault
use Rattle.command_send.specs.declared.sent_group.Change.{Change}
use Rattle.command_send.specs.declared.session.Sent.{Sent as SentNumbers}
use Rattle.command_send.specs.Sending.{words_cost, AgreeBelow, AreFound, IsLeastChange, IsFirstPass, IsNext, IsLost}
use Rattle.command_send.specs.inside.SendParts.{IsOfReopened, IsReadFrom, SessionSent, SessionLeft, SessionStops}
use Rattle.command_send.specs.inside.SendParts.{IsSendFault, SessionSentOn, SessionLeftOn}
use Rattle.command_send.specs.Sends.{packets_file_in, HasPackets, HasSentBefore, IsSentOf, KeepsLink, LeavesSentFront}
use Rattle.command_send.specs.Sends.{LinkSentAll, LinkSentFirst, MayBlameIn, CostsIn, plan_tables_in}
use Rattle.stream_session.specs.Sessions.{HasSessionIn, tables_in}

-- there is a table for each group, in any format
count_is : (t : Format) (p b : List ℕ) → length (plan_tables_in t p b) ≡ length (tables_in p b)
count_is t p b =
    let rules = priorities_of p in
    let cuts = cuts_of_stream rules b in
    length-map cuts (table_of_in t rules) ∙ sym (length-map cuts (table_of rules))

-- the numbers of a session that was read
pub numbers_of_pass : (t : Format) (p b : List ℕ) (source : Source) (marks : List GroupMark) (sent : SentNumbers)
    → IsFirstPass t p b source marks → sent.session ≡ source.number → sent.groups ≡ length source.tables.items
    → sent.datagrams ≡ length source.tables.items * source.priority.packets → IsSentOf p b sent
numbers_of_pass t p b source marks sent first session groups datagrams =
    let count : length source.tables.items ≡ length (tables_in p b) =
    ap (λ (ts : List Sizes). length ts) first.tables ∙ count_is t p b in
    record {
      session = session ∙ first.number;
      groups = groups ∙ count;
      datagrams =
          datagrams ∙ ap (λ (n : ℕ). n * source.priority.packets) count
          ∙ ap (λ (r : Priorities). length (tables_in p b) * r.packets) first.rules;
    }

pub session_read : (t : Format) (old : Seen) (stream priority : List ℕ) (source : Source) (marks : List GroupMark)
    → (is : IsSourceIn t MAX_SESSION old.files stream priority source)
    × (marks ≡ marks_of (priorities_of is.file) is.bytes)
    → IsReadFrom t old stream priority source marks
session_read t old stream priority source marks read =
    let is = read.0 in
    record {
      session = session_in old stream priority source is;
      first =
          record {
            accepted = is.accepted;
            rules = is.rules;
            number = is.number;
            tables = is.tables;
            marks_are = read.1;
          };
    }

module _ {E : Type 0} (j : Job E) (old mid new : Routes) (stream priority : List ℕ)
    (s : HasSessionIn j.format old.place stream priority)
    (first : IsFirstPass j.format s.priority_bytes s.stream_bytes j.source j.marks)
    (same : mid.place.files ≡ old.place.files) (link : mid.link ≡ old.link) where
  there : IsFile mid.place.files stream s.stream_bytes
  there = subst (λ (o : Option Files). IsFile o stream s.stream_bytes) (sym same) s.stream_file

  abbrev packets : List ℕ → File
  packets to = packets_file_in j.format j.coding to s.priority_bytes s.stream_bytes

  abbrev First : Option Files → LinkSeen → List ℕ → Type 0
  First files from address =
      LinkSentFirst j.format j.coding address s.priority_bytes s.stream_bytes files from new.link

  abbrev All : Option Files → LinkSeen → List ℕ → Type 0
  All files from address = LinkSentAll j.format j.coding address s.priority_bytes s.stream_bytes files from new.link

  -- what is left of the session that was read
  left_of : SessionLeft j stream mid new → LeavesSentFront j.format j.coding stream priority j.way old new
  left_of left = by j.way left
    where
      at_file : (to : List ℕ) → Wrote [] None mid.place new.place ⊎ Wrote [] (Some (packets to)) mid.place new.place
          → LeavesSentFront j.format j.coding stream priority (OnFile to) old new
      at_file to (inl none) = inl (none ∙ ap (option_map (with_files [])) same)
      at_file to (inr front) =
          inr (
            s,
            (
              front.0,
              front.1,
              front.2 ∙ ap (option_map (with_files (record { name = to; bytes = front.0 } ∷ []))) same,
            ),
          )

      by_link : (address : List ℕ) → (new.link.sent ≡ mid.link.sent) ⊎ First mid.place.files mid.link address
          → (new.link.sent ≡ old.link.sent)
          ⊎ ((u : HasSessionIn j.format old.place stream priority)
          × LinkSentFirst j.format j.coding address u.priority_bytes u.stream_bytes old.place.files old.link new.link)
      by_link address (inl none) = inl (none ∙ ap (λ l. l.sent) link)
      by_link address (inr sent) = inr (
        s,
        subst (λ (l : LinkSeen). First old.place.files l address) link
            (subst (λ (o : Option Files). First o mid.link address) same sent),
      )

      by : (way : Way) → SessionLeftOn way j stream mid new
          → LeavesSentFront j.format j.coding stream priority way old new
      by (OnFile to) left = at_file to (left s.priority_bytes s.stream_bytes first there)
      by (OnLink address) left = (by_link address (left.0 s.priority_bytes s.stream_bytes first there), left.1 ∙ same)

  -- all of it was sent
  sent_of : SessionSent j stream mid new → HasPackets j.format j.coding old s j.way new
  sent_of sent = by j.way sent
    where
      by : (way : Way) → SessionSentOn way j stream mid new → HasPackets j.format j.coding old s way new
      by (OnFile to) sent =
          sent s.priority_bytes s.stream_bytes first there ∙ ap (option_map (with_files (packets to ∷ []))) same
      by (OnLink address) sent = (
        subst (λ (l : LinkSeen). All old.place.files l address) link
            (subst (λ (o : Option Files). All o mid.link address) same
            (sent.0 s.priority_bytes s.stream_bytes first there)),
        sent.1 ∙ same,
      )

  -- the change is one of the session's marks
  least_of : (again : List ℕ) (change : Change)
      → IsLeastChange j.format j.source.priority j.source.tables.items j.marks again change
      → IsLeastChange j.format (priorities_of s.priority_bytes)
      (plan_tables_in j.format s.priority_bytes s.stream_bytes)
      (marks_of (priorities_of s.priority_bytes) s.stream_bytes) again change
  least_of again change least = record {
    before = least.before;
    found = subst (λ (r : Priorities). AreFound r again least.before) first.rules least.found;
    agree = subst (λ (ms : List GroupMark). AgreeBelow ms least.before change.group) first.marks_are least.agree;
    first_is = least.first_is ∙ ap (λ (ms : List GroupMark). mark_at ms change.group) first.marks_are;
    second_is =
        let p = s.priority_bytes in
        let b = s.stream_bytes in
        subst (λ (r : Priorities). Second r (plan_tables_in j.format p b) (marks_of (priorities_of p) b)) first.rules
        (subst (λ (ts : List Sizes). Second j.source.priority ts (marks_of (priorities_of p) b)) first.tables
        (subst (λ (ms : List GroupMark). Second j.source.priority j.source.tables.items ms) first.marks_are
        least.second_is));
    differ = least.differ;
  }
    where
      Second : Priorities → List Sizes → List GroupMark → Type 0
      Second r tables marks =
          IsNext j.format r tables marks again least.before change.group change.second
          ⊎ IsLost r again least.before change.group change.second

  may_blame : (way : Way) (blame : Blame) → IsOfReopened stream way blame
      → MayBlameIn j.format stream priority way old.place blame
  may_blame (OnFile to) blame (inl read) = inl (inr (read, s.priority_bytes, s.priority_file, s.session.priority_read))
  may_blame (OnFile to) blame (inr written) = inr (written, s)
  may_blame (OnLink address) blame read = inr (read, s.priority_bytes, s.priority_file, s.session.priority_read)

  -- why the sending stopped
  stops_of : old.place.faults ≤ mid.place.faults → (f : SendFault) → SessionStops j stream mid new f
      → IsSendFault j.format j.coding old new stream priority j.way f
  unfolding least_of
  stops_of later (fault.Stopped stop.NoMemory) stops = tt
  stops_of later (fault.Stopped stop.Place) stops =
      HadFault-since old.place mid.place new.place _ _ later (may_blame j.way) stops
  stops_of later (fault.Stopped stop.Link) stops =
      (subst (λ (l : LinkSeen). AimedFailed j.way l new.link) link stops, s)
  stops_of later (fault.Stopped stop.Out) stops = absurd stops
  stops_of later (fault.Source refused) stops = absurd stops
  stops_of later (fault.Changed change) stops =
      let told = stops.2 s.priority_bytes s.stream_bytes first there in
      record {
        session = s;
        again = stops.0;
        least = least_of stops.0 change stops.1;
        untold = sym same ∙ told.0;
        sent =
            subst (λ (l : LinkSeen). HasSentBefore j.format j.coding s.priority_bytes s.stream_bytes stops.1.before j.way
            l new.link) link told.1;
      }

-- the same in the format and of the way that were asked for, which the first reading hands on
module _ {E : Type 0} (j : Job E) (old mid new : Routes) {stream priority : List ℕ}
    (read : IsReadFrom j.format old.place stream priority j.source j.marks) (same : mid.place.files ≡ old.place.files)
    (link : mid.link ≡ old.link) {way : Way} (is : j.way ≡ way) {t : Format} (form : j.format ≡ t) where
  pub left_to : SessionLeft j stream mid new → LeavesSentFront t j.coding stream priority way old new
  left_to left =
      subst (λ (u : Format). LeavesSentFront u j.coding stream priority way old new) form
      (subst (λ (w : Way). LeavesSentFront j.format j.coding stream priority w old new) is
      (left_of j old mid new stream priority read.session read.first same link left))

  pub sent_to : (numbers : SentNumbers) → SessionSent j stream mid new → numbers.session ≡ j.source.number
      → numbers.groups ≡ length j.source.tables.items
      → numbers.datagrams ≡ length j.source.tables.items * j.source.priority.packets
      → (s : HasSessionIn t old.place stream priority) × HasPackets t j.coding old s way new
      × IsSentOf s.priority_bytes s.stream_bytes numbers
  sent_to numbers sent session groups datagrams =
      subst (λ (u : Format). (s : HasSessionIn u old.place stream priority) × HasPackets u j.coding old s way new
      × IsSentOf s.priority_bytes s.stream_bytes numbers) form (
        read.session,
        subst (λ (w : Way). HasPackets j.format j.coding old read.session w new) is
            (sent_of j old mid new stream priority read.session read.first same link sent),
        numbers_of_pass j.format read.session.priority_bytes read.session.stream_bytes j.source j.marks numbers
            read.first session groups datagrams,
      )

  pub stops_to : old.place.faults ≤ mid.place.faults → (f : SendFault) → SessionStops j stream mid new f
      → IsSendFault t j.coding old new stream priority way f
  stops_to later f stops =
      subst (λ (u : Format). IsSendFault u j.coding old new stream priority way f) form
      (subst (λ (w : Way). IsSendFault j.format j.coding old new stream priority w f) is
      (stops_of j old mid new stream priority read.session read.first same link later f stops))

-- how many steps it may have counted
pub costs_to : {E : Type 0} (j : Job E) {old : Seen} {stream priority : List ℕ} {t : Format}
    → IsReadFrom j.format old stream priority j.source j.marks → j.format ≡ t → (before after : ℕ)
    → after ≤ before + sum_by words_cost j.source.tables.items → CostsIn t stream priority old before after
costs_to j {old} {stream} {priority} read form before after few =
    subst (λ (u : Format). CostsIn u stream priority old before after) form
    (inr (read.session, subst (λ (ts : List Sizes). after ≤ before + sum_by words_cost ts) read.first.tables few))

-- where the link is as before, before it is used
pub keeps_since : (way : Way) (old mid new : LinkSeen) → mid ≡ old → KeepsLink way mid new → KeepsLink way old new
keeps_since way old mid new same keeps = subst (λ (l : LinkSeen). KeepsLink way l new) same keeps

pub keeps_same : (way : Way) (old : LinkSeen) → KeepsLink way old old
keeps_same (OnFile to) old = refl
keeps_same (OnLink address) old = record { feed = refl; port = refl; bound = refl; later = omega arith }

pub leaves_nothing : {E : Type 0} (t : Format) (c : Coding E) (stream priority : List ℕ) (way : Way) (old new : Routes) → new.place.files ≡ old.place.files
    → new.link ≡ old.link → LeavesSentFront t c stream priority way old new
leaves_nothing t c stream priority (OnFile to) old new files link = inl (Wrote-nothing old.place new.place files)
leaves_nothing t c stream priority (OnLink address) old new files link = (inl (ap (λ l. l.sent) link), files)
