-- The route is made ready, the stream is the input again, and its groups are sent, seen from before.
use Rattle.std.proofs.Common.{◌≡◌, ℕ, ◌≤◌, Bool, true, false, cond, List, [], ◌∷◌, ◌++◌, length, Option, None, Some}
use Rattle.std.proofs.Common.{refl, sym, ap, subst, ◌∙◌, inl, inr, arith}
use Rattle.std.specs.Prelude.{option_map, ◌⊎◌, Result, Ok, Err, OnOk, OnErr, IfErr, IfSome}
use Rattle.std.proofs.lemmas.Option.{IfSome_then}
use Rattle.std.specs.Str.{bytes_eq}
use Rattle.pet_base.specs.declared.place.Side.TheVariants.{Read, Written}
use Rattle.pet_base.specs.declared.link.LinkSide.TheVariants.{Aimed}
use Rattle.pet_base.specs.Causes.{Blames}
use Rattle.pet_base.specs.LinkSeen.{LinkSeen, Blame as LinkBlame}
use Rattle.pet_base.specs.Seen.{Seen, Files, Blame, Grows, appended, Names, KeepsOutput, HadFault, bytes_at, with_file}
use Rattle.pet_base.specs.laws.SeenLaws.{Grows-named, Blames-named, HadFault-since}
use Rattle.outside_files.specs.Inputs.{IsFile}
use Rattle.outside_files.specs.Outputs.{Puts, PutsPart}
use Rattle.outside_files.specs.Wrote.{Wrote}
use Rattle.outside_files.specs.laws.PrintedLaws.{Rose-since}
use Rattle.outside_files.specs.laws.WroteLaws.{Wrote-nothing}
use Rattle.outside_routes.specs.RouteFaults.{AimedFailed}
use Rattle.outside_routes.specs.declared.fault.RouteStop.TheVariants as stop
use Rattle.outside_routes.specs.Sending.{Routes, Sent, SentFirst, SendsPart, IsOpen, IsOpened, OnlyOpens, SendingFailed}
use Rattle.pet_base.specs.Entries.{entries_of}
use Rattle.outside_routes.specs.Way.{Way, OnFile, OnLink}
use Rattle.outside_routes.specs.laws.SendingLaws.{part_whole}
use Rattle.field_elements.specs.Field.{Coding}
use Rattle.packet_frame.specs.declared.format.Format.{Format}
use Rattle.packet_session.specs.Datagrams.{datagrams_text_in}
use Rattle.packet_sending.specs.laws.DatagramLaws.{entries_are_text_in}
use Rattle.stream_session.specs.Accepted.{session_of_in}
use Rattle.stream_session.specs.Marks.{mark_at, group_marks}
use Rattle.stream_session.specs.declared.mark.GroupMark.{GroupMark}
use Rattle.session_source.specs.declared.source.Source.{Source}
use Rattle.stream_groups.specs.CutGroups.{CutGroup}
use Rattle.command_send.specs.inside.Job.{Job}
use Rattle.command_send.specs.declared.fault.SendFault.{SendFault}
use Rattle.command_send.specs.declared.fault.SendFault.TheVariants.{Stopped, Source as Refused, Changed}
use Rattle.command_send.specs.Sending.{sent_datagrams, AgreeBelow, HaveTables, IsFirstPass}
use Rattle.command_send.specs.inside.Sending.{HasSentAll, HasSentToChange, SentPart, IsSendStop, IsOfOutput, PassFailed}
use Rattle.command_send.specs.inside.Second.{OnlyPasses}
use Rattle.command_send.specs.Sends.{packets_sent_in, IsOther, KeepsLink, AreResent, LinkSentAll, LinkSentFirst}
use Rattle.command_send.specs.Sends.{HasSentBefore}
use Rattle.command_send.specs.inside.SendParts.{IsReopened, IsLeftEmpty, IsOfReopened, SessionSent, SessionLeft}
use Rattle.command_send.specs.inside.SendParts.{SessionStops}
use Rattle.command_send.proofs.SameStream.{told_groups, told_part, told_changed}

-- another file is as before
other_file : (to stream bytes : List ℕ) (files : Option Files) → bytes_eq to stream ≡ false
    → bytes_at (option_map (with_file to bytes) files) stream ≡ bytes_at files stream
unfolding with_file
other_file to stream bytes None other = refl
other_file to stream bytes (Some f) other = ap (λ (t : Bool). cond t (Some bytes) (f stream)) other

names_before : (to name bytes : List ℕ) (files mid : Option Files) (told : Option (List ℕ))
    → mid ≡ option_map (with_file to bytes) files → Names mid told name → Names files told name
names_before to name bytes None mid told e is = subst (λ (o : Option Files). Names o told name) e is
names_before to name bytes (Some f) mid told e is = subst (λ (o : Option Files). Names o told name) e is

-- both calls went well
reopened_file : (stream to : List ℕ) (old mid new : Routes) → bytes_eq to stream ≡ false
    → mid.place.files ≡ option_map (with_file to []) old.place.files → Names old.place.files mid.place.target to → mid.place.has_output ≡ true
    → mid.link ≡ old.link → new.link ≡ mid.link
    → new.place.rest ≡ bytes_at mid.place.files stream → Names mid.place.files new.place.source stream
    → new.place.has_input ≡ true → KeepsOutput mid.place new.place → IsReopened stream (OnFile to) old new
reopened_file stream to old mid new other made target output link_made link rest source input keeps = record {
  rest = rest ∙ ap (λ (o : Option Files). bytes_at o stream) made ∙ other_file to stream [] old.place.files other;
  source = names_before to stream [] old.place.files mid.place.files new.place.source made source;
  has_input = input;
  way_open = record {
    files = keeps.files ∙ made;
    target = subst (λ (o : Option (List ℕ)). Names old.place.files o to) (sym keeps.target) target;
    has_output = keeps.has_output ∙ output;
    link = link ∙ link_made;
  };
}

reopened_link : (stream address : List ℕ) (old mid new : Routes) → mid.place ≡ old.place
    → mid.link.sent ≡ old.link.sent → mid.link.aimed ≡ option_map (λ _. address) old.link.aimed
    → old.link.faults ≤ mid.link.faults → new.link ≡ mid.link
    → new.place.rest ≡ bytes_at mid.place.files stream → Names mid.place.files new.place.source stream
    → new.place.has_input ≡ true → KeepsOutput mid.place new.place → IsReopened stream (OnLink address) old new
reopened_link stream address old mid new same sent aimed later link rest source input keeps =
    let files = ap (λ (s : Seen). s.files) same in
    record {
      rest = rest ∙ ap (λ (o : Option Files). bytes_at o stream) files;
      source = subst (λ (o : Option Files). Names o new.place.source stream) files source;
      has_input = input;
      way_open = record {
        files = keeps.files ∙ files;
        sent = ap (λ l. l.sent) link ∙ sent;
        aimed = ap (λ l. l.aimed) link ∙ aimed;
        later = let e = ap (λ l. l.faults) link in omega (arith, e, later);
      };
    }

pub reopened : (stream : List ℕ) (way : Way) (old mid new : Routes) → IsOther way stream → IsOpened way old mid
    → OnlyOpens old mid → new.link ≡ mid.link
    → new.place.rest ≡ bytes_at mid.place.files stream → Names mid.place.files new.place.source stream
    → new.place.has_input ≡ true → KeepsOutput mid.place new.place → IsReopened stream way old new
reopened stream (OnFile to) old mid new other opened opens link rest source input keeps =
    reopened_file stream to old mid new other opened.files opened.target opened.output opened.link link rest source input keeps
reopened stream (OnLink address) old mid new other opened opens link rest source input keeps =
    reopened_link stream address old mid new opened.place opened.others.sent opened.aimed opens.link_later link rest
    source input keeps

-- no files are told that could grow
untold_grows : (target : Option (List ℕ)) (bytes : List ℕ) (old new : Option Files) → old ≡ None
    → Grows target bytes old new → new ≡ None
untold_grows None bytes old new none grows = grows ∙ none
untold_grows (Some name) bytes old new none grows = grows ∙ ap (option_map (appended name bytes)) none

-- what is left of the input, where the files are told
rest_is : (stream : List ℕ) (way : Way) (old mid : Routes) → IsReopened stream way old mid → (f : Files) (b : List ℕ)
    → old.place.files ≡ Some f → IsFile old.place.files stream b → mid.place.rest ≡ Some b
rest_is stream way old mid opened f b told is =
    let known : f stream ≡ Some b = subst (λ (o : Option Files). IsFile o stream b) told is in
    opened.rest ∙ ap (λ (o : Option Files). bytes_at o stream) told ∙ known

-- what never comes where the files are told
untold : (stream : List ℕ) (way : Way) (old mid : Routes) → IsReopened stream way old mid → (b : List ℕ)
    → IsFile old.place.files stream b → (mid.place.rest ≡ Some b → ⊥) → old.place.files ≡ None
untold stream way old mid opened b is never = by old.place.files refl
  where
    by : (o : Option Files) → old.place.files ≡ o → old.place.files ≡ None
    by None e = e
    by (Some f) e = absurd (never (rest_is stream way old mid opened f b e is))

-- what holds where the files are told
if_told : (stream : List ℕ) (way : Way) (old mid : Routes) → IsReopened stream way old mid → (b : List ℕ)
    → IsFile old.place.files stream b → {P : Type 0} → (mid.place.rest ≡ Some b → P) → IfSome old.place.files (λ _. P)
if_told stream way old mid opened b is {P = P} holds = by old.place.files refl
  where
    by : (o : Option Files) → old.place.files ≡ o → IfSome o (λ _. P)
    by None e = tt
    by (Some f) e = holds (rest_is stream way old mid opened f b e is)

module _ (stream to : List ℕ) (old mid new : Routes) (opened : IsReopened stream (OnFile to) old mid) where
  mid_untold : old.place.files ≡ None → mid.place.files ≡ None
  mid_untold none = opened.way_open.files ∙ ap (option_map (with_file to [])) none

  named : (bytes : List ℕ) → Puts bytes mid.place new.place
      → new.place.files ≡ option_map (with_file to bytes) old.place.files
  named bytes puts =
      Grows-named to bytes mid.place.target old.place.files mid.place.files new.place.files opened.way_open.files opened.way_open.target puts

  -- all was put, where the rest of the input is told; whatever was put, where it is not
  all_put : (text some b : List ℕ) → IsFile old.place.files stream b
      → (mid.place.rest ≡ Some b → Puts text mid.place new.place) → Puts some mid.place new.place
      → Wrote (record { name = to; bytes = text } ∷ []) None old.place new.place
  all_put text some b is told puts = by old.place.files refl
    where
      by : (o : Option Files) → old.place.files ≡ o → new.place.files ≡ option_map (with_file to text) old.place.files
      by None e =
          untold_grows mid.place.target some mid.place.files new.place.files (mid_untold e) puts ∙ sym (ap (option_map (with_file to text)) e)
      by (Some f) e = named text (told (rest_is stream (OnFile to) old mid opened f b e is))

  -- a front of it
  part_put : (text some b : List ℕ) → IsFile old.place.files stream b
      → (mid.place.rest ≡ Some b → PutsPart text mid.place new.place) → PutsPart some mid.place new.place
      → Wrote [] None old.place new.place ⊎ Wrote [] (Some (record { name = to; bytes = text })) old.place new.place
  part_put text some b is told part = by old.place.files refl
    where
      by : (o : Option Files) → old.place.files ≡ o
          → Wrote [] None old.place new.place ⊎ Wrote [] (Some (record { name = to; bytes = text })) old.place new.place
      by None e =
          inl (Wrote-nothing old.place new.place
          (untold_grows mid.place.target part.0 mid.place.files new.place.files (mid_untold e) part.2 ∙ sym e))
      by (Some f) e = let p = told (rest_is stream (OnFile to) old mid opened f b e is) in inr (p.0, p.1, named p.0 p.2)

-- a fault on the files that were opened
fault_again : (stream : List ℕ) (way : Way) (old mid new : Routes) → IsReopened stream way old mid
    → old.place.faults ≤ mid.place.faults → PassFailed way mid.place new.place → HadFault old.place new.place (IsOfReopened stream way)
fault_again stream (OnFile to) old mid new opened later had =
    HadFault-since old.place mid.place new.place _ _ later of had
  where
    of : (b : Blame) → Blames Read mid.place.source b ⊎ IsOfOutput (OnFile to) mid.place b
        → IsOfReopened stream (OnFile to) b
    of b (inl read) = inl (Blames-named old.place.files mid.place.source stream Read b opened.source read)
    of b (inr written) = inr (Blames-named old.place.files mid.place.target to Written b opened.way_open.target written)
fault_again stream (OnLink address) old mid new opened later had =
    HadFault-since old.place mid.place new.place _ _ later of had
  where
    of : (b : Blame) → Blames Read mid.place.source b ⊎ IsOfOutput (OnLink address) mid.place b
        → IsOfReopened stream (OnLink address) b
    of b (inl read) = Blames-named old.place.files mid.place.source stream Read b opened.source read
    of b (inr written) = absurd written

-- a blame on the address that the link was aimed at
blames_aimed : (address : List ℕ) (told aimed : Option (List ℕ)) (b : LinkBlame)
    → aimed ≡ option_map (λ _. address) told → Blames Aimed aimed b → b ≡ (Aimed, address)
blames_aimed address None aimed b is blames =
    absurd (none_some b (subst (λ (o : Option (List ℕ)). Blames Aimed o b) is blames))
  where
    none_some : {A : Type 0} (x : A) → None ≡ Some x → ⊥
    none_some x e = cc
blames_aimed address (Some a) aimed b is blames =
    sym (some_same (Aimed, address) b (subst (λ (o : Option (List ℕ)). Blames Aimed o b) is blames))
  where
    some_same : {A : Type 0} (x y : A) → Some x ≡ Some y → x ≡ y
    some_same x y e = cc

-- a fault of the link that was aimed
aimed_again : (stream : List ℕ) (way : Way) (old mid new : Routes) → IsReopened stream way old mid
    → SendingFailed way mid.link new.link → AimedFailed way old.link new.link
aimed_again stream (OnFile to) old mid new opened had = absurd had
aimed_again stream (OnLink address) old mid new opened had = record {
  rose = Rose-since old.link.faults mid.link.faults new.link.faults opened.way_open.later had.rose;
  blame =
      IfSome_then new.link.blamed had.blame (λ b blames. blames_aimed address old.link.aimed mid.link.aimed b opened.way_open.aimed blames);
}

resent : {E : Type 0} (t : Format) (c : Coding E) (p b : List ℕ) (source : Source) (marks : List GroupMark)
    → IsFirstPass t p b source marks → (groups : List CutGroup) → AgreeBelow marks groups (length groups)
    → HaveTables t source groups → AreResent t c p b groups (sent_datagrams t c source groups)
resent t c p b source marks first groups agree tables = record {
  source = source;
  first = subst (IsFirstPass t p b source) first.marks_are first;
  agree = subst (λ (ms : List GroupMark). AgreeBelow ms groups (length groups)) first.marks_are agree;
  tables = tables;
  are = refl;
}

-- what the link has sent since it was aimed, it has sent since before
sent_since : (datagrams : List (List ℕ)) (old mid new : LinkSeen) → mid.sent ≡ old.sent → Sent datagrams mid new
    → Sent datagrams old new
sent_since datagrams old mid new same sent =
    sent ∙ ap (option_map (λ (before : List (List ℕ)). before ++ datagrams)) same

first_since : (datagrams : List (List ℕ)) (old mid new : LinkSeen) → mid.sent ≡ old.sent → SentFirst datagrams mid new
    → SentFirst datagrams old new
first_since datagrams old mid new same sent = (sent.0, sent.1, sent_since sent.0 old mid new same sent.2)

-- what is to be sent, on this way
abbrev on : {E : Type 0} → Job E → Way → Job E
on j way = record j { way = way }

module _ {E : Type 0} (j : Job E) (p b stream : List ℕ) (first : IsFirstPass j.format p b j.source j.marks)
    (old mid new : Routes) (passes : OnlyPasses mid new) (is : IsFile old.place.files stream b) where
  abbrev text : List ℕ
  text = datagrams_text_in j.format j.coding (session_of_in j.format p b)

  abbrev packets : List (List ℕ)
  packets = packets_sent_in j.format j.coding p b

  abbrev datagrams : List CutGroup → List (List ℕ)
  datagrams groups = sent_datagrams j.format j.coding j.source groups

  as_text : entries_of packets ≡ text
  as_text = entries_are_text_in j.format j.coding (session_of_in j.format p b)

  -- all packets, on each way
  file_sent : (to : List ℕ) → IsReopened stream (OnFile to) old mid → HasSentAll (on j (OnFile to)) mid new
      → Wrote (record { name = to; bytes = text } ∷ []) None old.place new.place
  file_sent to opened sent =
      all_put stream to old mid new opened text (entries_of (datagrams sent.all.groups)) b is
      (λ rest. subst (λ (t : List ℕ). Puts t mid.place new.place)
      (ap entries_of (told_groups (on j (OnFile to)) p b mid new first rest sent) ∙ as_text) sent.all.sent.sends.0)
      sent.all.sent.sends.0

  link_sent : (address : List ℕ) → IsReopened stream (OnLink address) old mid
      → HasSentAll (on j (OnLink address)) mid new
      → LinkSentAll j.format j.coding address p b old.place.files old.link new.link
  link_sent address opened sent = record {
    groups = sent.all.groups;
    datagrams = datagrams sent.all.groups;
    resent =
        resent j.format j.coding p b j.source j.marks first sent.all.groups sent.all.sent.agree sent.all.sent.tables;
    all =
        subst (λ (ms : List GroupMark). (k : ℕ) → mark_at ms k ≡ mark_at (group_marks sent.all.groups) k)
        first.marks_are sent.all.agree;
    aimed = passes.link.aimed ∙ opened.way_open.aimed;
    sent =
        sent_since (datagrams sent.all.groups) old.link mid.link new.link opened.way_open.sent sent.all.sent.sends.0;
    told =
        if_told stream (OnLink address) old mid opened b is
        (λ rest. told_groups (on j (OnLink address)) p b mid new first rest sent);
  }

  -- a front of them
  file_part : (to : List ℕ) → IsReopened stream (OnFile to) old mid → (groups : List CutGroup)
      → (mid.place.rest ≡ Some b → SendsPart (OnFile to) packets mid new)
      → SendsPart (OnFile to) (datagrams groups) mid new
      → Wrote [] None old.place new.place ⊎ Wrote [] (Some (record { name = to; bytes = text })) old.place new.place
  file_part to opened groups told part =
      part_put stream to old mid new opened text (entries_of (datagrams groups)) b is
      (λ rest. subst (λ (t : List ℕ). PutsPart t mid.place new.place) as_text (told rest).0)
      part.0

  link_part : (address : List ℕ) → IsReopened stream (OnLink address) old mid → (groups : List CutGroup)
      → AgreeBelow j.marks groups (length groups) → HaveTables j.format j.source groups
      → (mid.place.rest ≡ Some b → SendsPart (OnLink address) packets mid new)
      → SendsPart (OnLink address) (datagrams groups) mid new
      → LinkSentFirst j.format j.coding address p b old.place.files old.link new.link
  link_part address opened groups agree tables told part = record {
    groups = groups;
    datagrams = datagrams groups;
    resent = resent j.format j.coding p b j.source j.marks first groups agree tables;
    aimed = passes.link.aimed ∙ opened.way_open.aimed;
    sent = first_since (datagrams groups) old.link mid.link new.link opened.way_open.sent part.0;
    told =
        if_told stream (OnLink address) old mid opened b is
        (λ rest. first_since packets old.link mid.link new.link opened.way_open.sent (told rest).0);
  }

module _ {E : Type 0} (j : Job E) (stream : List ℕ) (old mid new : Routes)
    (opened : IsReopened stream j.way old mid) (passes : OnlyPasses mid new) where
  pub session_sent : (r : Result Unit SendFault) → OnOk r (HasSentAll j mid new) → OnOk r (SessionSent j stream old new)
  session_sent (Err e) sent = tt
  session_sent (Ok x) sent = by j.way opened sent
    where
      by : (w : Way) → IsReopened stream w old mid → HasSentAll (on j w) mid new
          → SessionSent (on j w) stream old new
      by (OnFile to) o s = λ p b first is. file_sent j p b stream first old mid new passes is to o s
      by (OnLink address) o s = (
        λ p b first is. link_sent j p b stream first old mid new passes is address o s,
        s.all.sent.sends.1 ∙ o.way_open.files,
      )

  left_part : SentPart j mid new → SessionLeft j stream old new
  left_part left = by j.way opened left
    where
      by : (w : Way) → IsReopened stream w old mid → SentPart (on j w) mid new → SessionLeft (on j w) stream old new
      by (OnFile to) o s = λ p b first is.
          file_part j p b stream first old mid new passes is to o s.part.groups
          (λ rest. told_part (on j (OnFile to)) p b mid new first rest s) s.part.sends
      by (OnLink address) o s = (
        λ p b first is. inr (link_part j p b stream first old mid new passes is address o s.part.groups
            s.part.agree s.part.tables (λ rest. told_part (on j (OnLink address)) p b mid new first rest s) s.part.sends),
        s.part.sends.1 ∙ o.way_open.files,
      )

  left_change : (change : _) → HasSentToChange j change mid new → SessionLeft j stream old new
  left_change change left = by j.way opened left
    where
      by : (w : Way) → IsReopened stream w old mid → HasSentToChange (on j w) change mid new
          → SessionLeft (on j w) stream old new
      by (OnFile to) o s = λ p b first is.
          file_part j p b stream first old mid new passes is to o s.change_is.least.before
          (λ rest. absurd (told_changed (on j (OnFile to)) p b mid new change first rest s))
          (part_whole (OnFile to) (sent_datagrams j.format j.coding j.source s.change_is.least.before) mid new
          s.change_is.sent.sends)
      by (OnLink address) o s = (
        λ p b first is. inr
            (link_part j p b stream first old mid new passes is address o s.change_is.least.before
            s.change_is.sent.agree s.change_is.sent.tables
            (λ rest. absurd (told_changed (on j (OnLink address)) p b mid new change first rest s))
            (part_whole (OnLink address)
            (sent_datagrams j.format j.coding j.source s.change_is.least.before) mid new s.change_is.sent.sends)),
        s.change_is.sent.sends.1 ∙ o.way_open.files,
      )

  pub session_left : (r : Result Unit SendFault) → IfErr r (IsSendStop j mid new)
      → OnErr r (SessionLeft j stream old new)
  session_left (Ok x) stops = tt
  session_left (Err (Stopped stop)) stops = left_part stops.1
  session_left (Err (Refused fault)) stops = absurd stops
  session_left (Err (Changed change)) stops = left_change change stops

  -- exactly the packets of the groups before a change
  sent_before : (change : _) → (s : HasSentToChange j change mid new) → (p b : List ℕ)
      → IsFirstPass j.format p b j.source j.marks
      → HasSentBefore j.format j.coding p b s.change_is.least.before j.way old.link new.link
  sent_before change sent p b first = by j.way opened sent
    where
      by : (w : Way) → IsReopened stream w old mid → (s : HasSentToChange (on j w) change mid new)
          → HasSentBefore j.format j.coding p b s.change_is.least.before w old.link new.link
      by (OnFile to) o s = s.change_is.sent.sends.1 ∙ o.way_open.link
      by (OnLink address) o s =
          let datagrams = sent_datagrams j.format j.coding j.source s.change_is.least.before in (
            datagrams,
            resent j.format j.coding p b j.source j.marks first s.change_is.least.before s.change_is.sent.agree
                s.change_is.sent.tables,
            passes.link.aimed ∙ o.way_open.aimed,
            sent_since datagrams old.link mid.link new.link o.way_open.sent s.change_is.sent.sends.0,
          )

  pub session_stops : (r : Result Unit SendFault) → old.place.faults ≤ mid.place.faults
      → IfErr r (IsSendStop j mid new) → IfErr r (SessionStops j stream old new)
  session_stops (Ok x) later stops = tt
  session_stops (Err (Stopped stop.NoMemory)) later stops = tt
  session_stops (Err (Stopped stop.Place)) later stops = fault_again stream j.way old mid new opened later stops.0
  session_stops (Err (Stopped stop.Link)) later stops = aimed_again stream j.way old mid new opened stops.0
  session_stops (Err (Stopped stop.Out)) later stops = absurd stops.0
  session_stops (Err (Refused fault)) later stops = absurd stops
  session_stops (Err (Changed change)) later stops = (
    stops.stream,
    stops.change_is.least,
    λ p b first is. (
      untold stream j.way old mid opened b is (λ rest. told_changed j p b mid new change first rest stops),
      sent_before change stops p b first,
    ),
  )

-- the route could not be made ready, or the stream not be opened again
pub not_reopened : {E : Type 0} (j : Job E) (stream : List ℕ) (old new : Routes) → IsLeftEmpty j.way old new
    → SessionLeft j stream old new
not_reopened j stream old new left = by j.way left
  where
    by : (w : Way) → IsLeftEmpty w old new → SessionLeft (on j w) stream old new
    by (OnFile to) (inl same) = λ p b first is. inl (Wrote-nothing old.place new.place same)
    by (OnFile to) (inr empty) = λ p b first is. inr
        ([], (datagrams_text_in j.format j.coding (session_of_in j.format p b), refl), empty)
    by (OnLink address) left = (λ p b first is. inl left.1, left.0)

-- the way is open
pub reopened_open : (stream : List ℕ) (way : Way) (old mid : Routes) → IsReopened stream way old mid → IsOpen way mid
reopened_open stream (OnFile to) old mid opened = opened.way_open.has_output
reopened_open stream (OnLink address) old mid opened = tt

-- what the link is left as
file_link : {E : Type 0} (j : Job E) (to : List ℕ) (mid new : Routes) (r : Result Unit SendFault)
    → OnOk r (HasSentAll (on j (OnFile to)) mid new) → IfErr r (IsSendStop (on j (OnFile to)) mid new)
    → new.link ≡ mid.link
file_link j to mid new (Ok x) sent stops = sent.all.sent.sends.1
file_link j to mid new (Err (Stopped stop)) sent stops = stops.1.part.sends.1
file_link j to mid new (Err (Refused fault)) sent stops = absurd stops
file_link j to mid new (Err (Changed change)) sent stops = stops.change_is.sent.sends.1

pub keeps_reopened : {E : Type 0} (j : Job E) (old mid new : Routes) (r : Result Unit SendFault)
    → KeepsLink j.way old.link mid.link → OnlyPasses mid new
    → OnOk r (HasSentAll j mid new) → IfErr r (IsSendStop j mid new) → KeepsLink j.way old.link new.link
keeps_reopened j old mid new r keeps passes sent stops = by j.way keeps sent stops
  where
    by : (w : Way) → KeepsLink w old.link mid.link → OnOk r (HasSentAll (on j w) mid new)
        → IfErr r (IsSendStop (on j w) mid new) → KeepsLink w old.link new.link
    by (OnFile to) k done s = file_link j to mid new r done s ∙ k
    by (OnLink address) k done s = record {
      feed = passes.link.feed ∙ k.feed;
      port = passes.link.port ∙ k.port;
      bound = passes.link.bound ∙ k.bound;
      later = omega (arith, k.later, passes.link_later);
    }
