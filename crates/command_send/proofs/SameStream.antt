-- What the second pass answers where the input is the stream of the first pass.
use Rattle.std.proofs.Common.{◌≡◌, ℕ, zero, suc, ◌+◌, ◌≤◌, List, [], ◌∷◌, ◌++◌, length, map, get_or, Option, Some, None}
use Rattle.std.proofs.Common.{refl, sym, ◌∙◌, ap, ap₂, subst, arith, inl, inr, append_assoc}
use Rattle.std.specs.Prelude.{slice_get, All, IsErrAnd, MatchResult, Result, Ok, Err}
use Rattle.std.specs.List.{flat_map}
use Rattle.std.specs.Io.KnownBytes.{prepend_known, IsAtEnd}
use Rattle.std.proofs.lemmas.List.{append-nil, length-append, length-map, map-append}
use Rattle.std.proofs.lemmas.Option.{MatchOption-at_some, none-some, same_Some}
use lib.Seq.{get_or-append_seam}
use Rattle.pet_base.specs.declared.limits.TheConstants.{MAX_SESSION, MAX_STREAM}
use Rattle.pet_base.specs.Seen.{Seen}
use Rattle.mpeg_scan.specs.declared.piece.Piece.{Piece}
use Rattle.mpeg_scan.specs.Pieces.{pieces_of}
use Rattle.priority_file.specs.Priority.{Priorities, layer_of}
use Rattle.priority_file.specs.Refusals.{priorities_of}
use Rattle.layer_split.specs.Groups.{groups_of}
use Rattle.layer_split.specs.Layers.{cut_of, message_by}
use Rattle.layer_split.specs.Splitting.{cuts_of}
use Rattle.packet_session.specs.Encoding.{Encoding, IsGroupOf}
use Rattle.packet_session.specs.Session.{Session, SessionGroup}
use Rattle.stream_session.specs.declared.mark.GroupMark.{GroupMark}
use Rattle.session_source.specs.declared.source.Source.{Source}
use Rattle.stream_groups.specs.CutGroups.{CutGroup}
use Rattle.stream_groups.specs.Cutting.{IsCuttable, cut_group, cut_groups}
use Rattle.stream_groups.specs.laws.CuttingLaws.{message_rebased_by}
use Rattle.stream_session.specs.laws.FitLaws.{no_cause_in}
use Rattle.layer_split.specs.laws.CutLaws.{StandsIn}
use Rattle.stream_groups.specs.laws.StandingLaws.{groups_stand}
use Rattle.stream_session.specs.Marks.{mark_of, no_mark, mark_at, group_marks, marks_of}
use Rattle.stream_session.specs.Tables.{table_of_in, tables_of_in, sizes_of, cuts_of_stream}
use Rattle.stream_session.specs.Accepted.{session_of_in, group_of_in}
use Rattle.session_source.proofs.Sourced.{short_stream}
use Rattle.command_send.specs.inside.Job.{Job}
use Rattle.command_send.specs.Sends.{packets_sent_in}
use Rattle.field_elements.specs.Field.{Coding}
use Rattle.packet_frame.specs.declared.format.Format.{Format}
use Rattle.stripe_plan.specs.Sizes.{planned}
use Rattle.command_send.specs.declared.fault.SendFault.{SendFault}
use Rattle.command_send.specs.declared.fault.SendFault.TheVariants.{Stopped}
use Rattle.command_send.specs.declared.sent_group.Change.{Change}
use Rattle.packet_session.specs.Datagrams.{session_datagrams_in, AreEncoders, group_datagrams_in}
use Rattle.outside_routes.specs.declared.fault.RouteStop.{RouteStop}
use Rattle.outside_routes.specs.Sending.{Routes, AreFirstDatagrams, Sends, SendsPart}
use Rattle.outside_routes.specs.Way.{Way}
use Rattle.command_send.specs.Sending.{encoding_of, encodings_from, sent_datagrams, IsFront, IsNext, IsLost}
use Rattle.command_send.specs.Sending.{IsFirstPass}
use Rattle.command_send.specs.inside.Sending.{IsChange, IsTaken, HasSentAll, HasSentToChange, SentPart, IsToldStop}
use Rattle.outside_routes.specs.laws.SendingLaws.{part_within}
use Rattle.packet_sending.specs.laws.DatagramLaws.{groups_make_datagrams_in}
use Rattle.command_send.proofs.FoundGroups.{found_front}
use Rattle.command_send.proofs.GroupsSoFar.{text_append, mark_past}

-- what stands at a place of the encodings
encoding_there : (t : Format) (source : Source) (first : ℕ) (groups : List CutGroup) (k : ℕ) (e : Encoding)
    → slice_get (encodings_from t source first groups) k ≡ Some e
    → (g : CutGroup) × (slice_get groups k ≡ Some g) × (e ≡ encoding_of t source (first + k) g)
encoding_there t source first [] k e is = absurd (none-some e is)
encoding_there t source first (g ∷ groups) zero e is = (
  g,
  refl,
  sym (same_Some (encoding_of t source first g) e is)
      ∙ ap (λ n. encoding_of t source n g) (let z : first ≡ first + 0 = omega arith in z),
)
encoding_there t source first (g ∷ groups) (suc k) e is =
    let later = encoding_there t source (first + 1) groups k e is in (
      later.0,
      later.1,
      later.2 ∙ ap (λ n. encoding_of t source n later.0) (let z : first + 1 + k ≡ first + suc k = omega arith in z),
    )

encodings_length : (t : Format) (source : Source) (first : ℕ) (groups : List CutGroup)
    → length (encodings_from t source first groups) ≡ length groups
encodings_length t source first [] = refl
encodings_length t source first (g ∷ groups) = ap suc (encodings_length t source (first + 1) groups)

-- what stands at a place of the groups, and what is made of it in the session
group_there : (t : Format) (priority : Priorities) (s : List ℕ) (groups : List (List Piece)) → All (StandsIn (length s)) groups
    → (k : ℕ) (g : CutGroup) → slice_get (map (cut_group priority s) groups) k ≡ Some g
    → slice_get (map (group_of_in t priority s) (cuts_of priority groups)) k
    ≡ Some (record {
      packets = priority.packets;
      layers = planned t.bounds (sizes_of priority g.cut);
      message = message_by t.word g.bytes g.cut.runs (length priority.layers);
    })
group_there t priority s [] stand k g is = absurd (none-some g is)
group_there t priority s (ps ∷ groups) stand zero g is =
    let here = stand 0 ps (omega arith) in
    let same : cut_group priority s ps ≡ g = same_Some (cut_group priority s ps) g is in
    subst (λ (x : CutGroup). Some (group_of_in t priority s (cut_of (layer_of priority) (length priority.layers) ps))
    ≡ Some (of_cut x)) same
    (ap (λ (m : List ℕ). Some (with_message m))
    (sym (message_rebased_by t.word priority s (length priority.layers) here.from here.to ps here.stand here.within)))
  where
    of_cut : CutGroup → SessionGroup
    of_cut x =
        record {
          packets = priority.packets;
          layers = planned t.bounds (sizes_of priority x.cut);
          message = message_by t.word x.bytes x.cut.runs (length priority.layers);
        }

    with_message : List ℕ → SessionGroup
    with_message m =
        record {
          packets = priority.packets;
          layers = planned t.bounds (sizes_of priority (cut_of (layer_of priority) (length priority.layers) ps));
          message = m;
        }
group_there t priority s (ps ∷ groups) stand (suc k) g is =
    group_there t priority s groups (λ j d lt. stand (suc j) d (omega arith)) k g is

abbrev session_with : Format → Source → List ℕ → Session
session_with t source b =
    record { number = source.number; groups = map (group_of_in t source.priority b) (cuts_of_stream source.priority b) }

tables_length : (t : Format) (source : Source) (b : List ℕ)
    → source.tables.items ≡ tables_of_in t source.priority (cuts_of_stream source.priority b)
    → length source.tables.items ≡ length (session_with t source b).groups
tables_length t source b tables =
    let cuts = cuts_of_stream source.priority b in
    ap length tables ∙ length-map cuts (table_of_in t source.priority)
    ∙ sym (length-map cuts (group_of_in t source.priority b))

is_group : (t : Format) (source : Source) (b : List ℕ)
    → source.tables.items ≡ tables_of_in t source.priority (cuts_of_stream source.priority b) → (k : ℕ) (g : CutGroup)
    → slice_get (cut_groups source.priority b) k ≡ Some g → IsGroupOf (session_with t source b) (encoding_of t source k g)
is_group t source b tables k g is = record {
  number = refl;
  groups = tables_length t source b tables;
  source = group_there t source.priority b (groups_of (pieces_of b)) (groups_stand b) k g is;
}

are_encoders : (t : Format) (source : Source) (b : List ℕ)
    → source.tables.items ≡ tables_of_in t source.priority (cuts_of_stream source.priority b)
    → AreEncoders (session_with t source b) (encodings_from t source 0 (cut_groups source.priority b))
are_encoders t source b tables = record {
  many =
      let groups = groups_of (pieces_of b) in
      let cuts = cuts_of_stream source.priority b in
      encodings_length t source 0 (cut_groups source.priority b) ∙ length-map groups (cut_group source.priority b)
      ∙ sym (length-map groups (cut_of (layer_of source.priority) (length source.priority.layers)))
      ∙ sym (length-map cuts (group_of_in t source.priority b));
  each = λ k e is.
      let there = encoding_there t source 0 (cut_groups source.priority b) k e is in
      let same : e ≡ encoding_of t source k there.0 =
      there.2 ∙ ap (λ n. encoding_of t source n there.0) (let z : 0 + k ≡ k = omega arith in z) in
      subst (λ (x : Encoding). IsGroupOf (session_with t source b) x × (x.header.group ≡ k)) (sym same)
      (is_group t source b tables k there.0 there.1, refl);
}

-- the facts of the first pass, by the source's own priority
abbrev Priced : Format → Source → List ℕ → Priorities → Type 0
Priced t source b r = source.tables.items ≡ tables_of_in t r (cuts_of_stream r b)

tables_here : (t : Format) (p b : List ℕ) (source : Source) (marks : List GroupMark) → IsFirstPass t p b source marks
    → Priced t source b source.priority
tables_here t p b source marks f = subst (Priced t source b) (sym f.rules) f.tables

marks_here : (t : Format) (p b : List ℕ) (source : Source) (marks : List GroupMark) → IsFirstPass t p b source marks
    → marks ≡ group_marks (cut_groups source.priority b)
marks_here t p b source marks f = subst (λ r. marks ≡ marks_of r b) (sym f.rules) f.marks_are

cuttable_here : (t : Format) (p b : List ℕ) (source : Source) (marks : List GroupMark) → IsFirstPass t p b source marks
    → IsCuttable source.priority b
cuttable_here t p b source marks f =
    subst (λ r. IsCuttable r b) (sym f.rules)
    (f.accepted.stream_read, (no_cause_in t MAX_SESSION (priorities_of p) (pieces_of b) f.accepted.fits).1)

session_here : (t : Format) (p b : List ℕ) (source : Source) (marks : List GroupMark) → IsFirstPass t p b source marks
    → session_with t source b ≡ session_of_in t p b
session_here t p b source marks f = ap₂ (λ (n : List ℕ) (r : Priorities). made n r) f.number f.rules
  where
    made : List ℕ → Priorities → Session
    made n r = record { number = n; groups = map (group_of_in t r b) (cuts_of_stream r b) }

-- the datagrams of all groups are those of the session
text_all : {E : Type 0} (t : Format) (c : Coding E) (p b : List ℕ) (source : Source) (marks : List GroupMark)
    → IsFirstPass t p b source marks
    → sent_datagrams t c source (cut_groups source.priority b) ≡ packets_sent_in t c p b
unfolding sent_datagrams
text_all t c p b source marks f =
    groups_make_datagrams_in t c (session_with t source b) (encodings_from t source 0 (cut_groups source.priority b))
    (are_encoders t source b (tables_here t p b source marks f))
    ∙ ap (session_datagrams_in t c) (session_here t p b source marks f)

-- and those of its first groups are the first of them
text_front : {E : Type 0} (t : Format) (c : Coding E) (p b : List ℕ) (source : Source) (marks : List GroupMark)
    → IsFirstPass t p b source marks → (groups : List CutGroup) → IsFront source.priority b groups
    → AreFirstDatagrams (sent_datagrams t c source groups) (packets_sent_in t c p b)
text_front t c p b source marks f groups front = (
  flat_map (group_datagrams_in t c) (encodings_from t source (length groups) front.0),
  sym (text_all t c p b source marks f) ∙ ap (sent_datagrams t c source) front.1
      ∙ text_append t c source groups front.0,
)

taken_some : (stream b : List ℕ) (now : Option (List ℕ)) → Some b ≡ prepend_known stream now → length b ≤ MAX_STREAM
    → (length stream ≤ MAX_STREAM → IsAtEnd now) → stream ≡ b
taken_some stream b None e short whole = absurd (none-some b (sym e))
taken_some stream b (Some more) e short whole =
    let is : b ≡ stream ++ more = same_Some b (stream ++ more) e in
    let none : more ≡ [] = whole (omega (arith, short, ap length is, length-append stream more)) in
    sym (append-nil stream) ∙ ap (λ (m : List ℕ). stream ++ m) (sym none) ∙ sym is

-- all of the stream was read
taken_told : (t : Format) (p b stream : List ℕ) (source : Source) (marks : List GroupMark) (old new : Seen)
    → IsFirstPass t p b source marks → old.rest ≡ Some b → IsTaken stream old new → stream ≡ b
taken_told t p b stream source marks old new f told taken =
    taken_some stream b new.rest (sym told ∙ taken.rest) (short_stream b f.accepted.stream_read) taken.whole

-- the mark of a group among others
mark_seam : (groups : List CutGroup) (g : CutGroup) (later : List CutGroup)
    → mark_at (group_marks (groups ++ g ∷ later)) (length groups) ≡ mark_of g.bytes
mark_seam groups g later =
    ap (λ ms. get_or ms (length groups) no_mark) (map-append (λ (x : CutGroup). mark_of x.bytes) groups (g ∷ later))
    ∙ ap (λ n. get_or (group_marks groups ++ mark_of g.bytes ∷ group_marks later) n no_mark)
    (sym (length-map groups (λ (x : CutGroup). mark_of x.bytes)))
    ∙ get_or-append_seam (group_marks groups) (mark_of g.bytes) (group_marks later) no_mark

module _ {E : Type 0} (j : Job E) (p b : List ℕ) (old new : Routes) (f : IsFirstPass j.format p b j.source j.marks)
    (told : old.place.rest ≡ Some b) where
  pub told_groups : (h : HasSentAll j old new)
      → sent_datagrams j.format j.coding j.source h.all.groups ≡ packets_sent_in j.format j.coding p b
  told_groups h =
      let priority = j.source.priority in
      let same = taken_told j.format p b h.stream j.source j.marks old.place new.place f told h.taken in
      let groups : h.all.groups ≡ cut_groups priority b =
      sym (h.all.all.all (subst (IsCuttable priority) (sym same) (cuttable_here j.format p b j.source j.marks f)))
      ∙ ap (cut_groups priority) same in
      ap (sent_datagrams j.format j.coding j.source) groups ∙ text_all j.format j.coding p b j.source j.marks f

  pub told_sent : HasSentAll j old new → Sends j.way (packets_sent_in j.format j.coding p b) old new
  told_sent h = subst (λ (ds : List (List ℕ)). Sends j.way ds old new) (told_groups h) h.all.sent.sends

  pub told_part : SentPart j old new → SendsPart j.way (packets_sent_in j.format j.coding p b) old new
  told_part h =
      let front = MatchOption-at_some {o = old.place.rest} (Unit {0})
      (λ bytes. IsFront j.source.priority bytes h.part.groups) b told h.told in
      part_within j.way (sent_datagrams j.format j.coding j.source h.part.groups)
      (packets_sent_in j.format j.coding p b) old new
      (text_front j.format j.coding p b j.source j.marks f h.part.groups front) h.part.sends

tables_by : (t : Format) (priority : Priorities) (s : List ℕ) (groups : List (List Piece))
    → tables_of_in t priority (cuts_of priority groups)
    ≡ map (λ (g : CutGroup). table_of_in t priority g.cut) (map (cut_group priority s) groups)
tables_by t priority s [] = refl
tables_by t priority s (ps ∷ groups) =
    ap (λ l. table_of_in t priority (cut_of (layer_of priority) (length priority.layers) ps) ∷ l)
    (tables_by t priority s groups)

there_seam : {A B : Type 0} (f : A → B) (xs : List A) (x : A) (ys : List A)
    → slice_get (map f ((xs ++ x ∷ []) ++ ys)) (length xs) ≡ Some (f x)
there_seam f [] x ys = refl
there_seam f (y ∷ xs) x ys = there_seam f xs x ys

same_next : (t : Format) (p b : List ℕ) (source : Source) (marks : List GroupMark) (before : List CutGroup) (group : ℕ)
    (second : GroupMark) → IsFirstPass t p b source marks
    → IsNext t source.priority source.tables.items marks b before group second → mark_at marks group ≡ second
same_next t p b source marks before group second f n =
    let priority = source.priority in
    let front = found_front priority b (before ++ n.next ∷ []) n.found in
    let later = front.0 in
    let all : cut_groups priority b ≡ (before ++ n.next ∷ []) ++ later = front.1 in
    let whole : cut_groups priority b ≡ before ++ n.next ∷ later = all ∙ append_assoc before (n.next ∷ []) later in
    let marked : mark_at marks group ≡ mark_of n.next.bytes =
    ap (mark_at marks) n.at
    ∙ ap (λ ms. mark_at ms (length before)) (marks_here t p b source marks f ∙ ap group_marks whole)
    ∙ mark_seam before n.next later in
    let table : slice_get source.tables.items group ≡ Some (table_of_in t priority n.next.cut) =
    ap (slice_get source.tables.items) n.at
    ∙ ap (λ ts. slice_get ts (length before))
    (tables_here t p b source marks f ∙ tables_by t priority b (groups_of (pieces_of b))
    ∙ ap (map (λ (g : CutGroup). table_of_in t priority g.cut)) all)
    ∙ there_seam (λ (g : CutGroup). table_of_in t priority g.cut) before n.next later in
    elim n.marked [
      | inl is ↦ marked ∙ sym is
      | inr other ↦ absurd (other.2 table)
    ]

same_lost : (t : Format) (p b : List ℕ) (source : Source) (marks : List GroupMark) (before : List CutGroup) (group : ℕ)
    (second : GroupMark) → IsFirstPass t p b source marks → IsLost source.priority b before group second
    → mark_at marks group ≡ second
same_lost t p b source marks before group second f l =
    let groups = l.all.all (cuttable_here t p b source marks f) in
    ap (λ ms. mark_at ms group) (marks_here t p b source marks f ∙ ap group_marks groups)
    ∙ mark_past before group l.beyond ∙ sym l.none

pub told_changed : {E : Type 0} (j : Job E) (p b : List ℕ) (old new : Routes) (change : Change)
    → IsFirstPass j.format p b j.source j.marks → old.place.rest ≡ Some b
    → HasSentToChange j change old new → ⊥
told_changed j p b old new change f told h =
    let at = subst (λ s. IsChange j s change old new)
    (taken_told j.format p b h.stream j.source j.marks old.place new.place f told h.taken) h.change_is in
    let least = at.least in
    let same : mark_at j.marks change.group ≡ change.second = elim least.second_is [
      | inl n ↦ same_next j.format p b j.source j.marks least.before change.group change.second f n
      | inr l ↦ same_lost j.format p b j.source j.marks least.before change.group change.second f l
    ] in
    least.differ (least.first_is ∙ same)

-- an early stop, through `?`
pub told_stop : {A : Type 0} (P : A → Type 0) (way : Way) (datagrams : List (List ℕ)) (old new : Routes)
    (stop : RouteStop) (result : Result A SendFault) → IsErrAnd result (λ answer. answer ≡ Stopped stop)
    → SendsPart way datagrams old new
    → MatchResult result P (IsToldStop way datagrams old new)
told_stop P way datagrams old new stop (Ok x) is part = absurd is
told_stop P way datagrams old new stop (Err answer) is part = subst (IsToldStop way datagrams old new) (sym is) part
