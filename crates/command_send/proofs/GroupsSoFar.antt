-- The groups that the second pass has sent, and one group more.
use Rattle.std.proofs.Common.{◌≡◌, ℕ, zero, suc, ◌+◌, ◌<◌, ◌≤◌, List, [], ◌∷◌, ◌++◌, length, map, take, drop, get_or}
use Rattle.std.proofs.Common.{Option, Some, None, refl, sym, ◌∙◌, ap, subst, arith, inl, inr, append_assoc}
use Rattle.std.specs.Prelude.{slice_get, sum_by, All, IfNone, is_some, false}
use Rattle.std.specs.List.{flat_map}
use Rattle.std.proofs.lemmas.Bool.{cases_lt}
use Rattle.std.proofs.lemmas.List.{append-nil, length-append, length-map, map_push, get_or_append_left, get_or_past}
use Rattle.std.proofs.lemmas.List.{take-append-drop, take_more, length-take-le, get_or-append-add}
use lib.Seq.{get_or-append_seam}
use Rattle.std.proofs.lemmas.List.Sums.{sum_by-cons}
use Rattle.std.proofs.lemmas.Grind.{flat_map-append}
use Rattle.stripe_plan.specs.Sizes.{Sizes}
use Rattle.priority_file.specs.Priority.{Priorities}
use Rattle.packet_session.specs.Encoding.{Encoding}
use Rattle.stream_session.specs.declared.mark.GroupMark.{GroupMark}
use Rattle.session_source.specs.declared.source.Source.{Source}
use Rattle.stream_groups.specs.CutGroups.{CutGroup}
use Rattle.stream_groups.specs.Cutting.{HasCut, HaveEnded, AreAll, cut_groups, pieces_left}
use Rattle.stream_groups.specs.laws.EndedLaws.{given_ended, ended_longer, ended_before}
use Rattle.stream_groups.specs.declared.groups.GroupCutter.{GroupCutter}
use Rattle.stream_groups.specs.laws.FilledLaws.{IsFilled, given_filled}
use Rattle.stream_groups.specs.laws.FittingLaws.{IsWhole, given_whole}
use Rattle.stream_session.specs.Marks.{mark_of, no_mark, mark_at, group_marks}
use Rattle.stream_session.specs.Tables.{table_of_in}
use Rattle.command_send.specs.inside.Job.{Job}
use Rattle.command_send.specs.declared.sent_group.Change.{Change}
use Rattle.command_send.specs.declared.second.SentGroups.{SentGroups}
use Rattle.packet_session.specs.Datagrams.{group_datagrams_in}
use Rattle.command_send.specs.Sending.{encoding_of, encodings_from, sent_datagrams, words_cost, AgreeBelow, HaveTables}
use Rattle.command_send.specs.Sending.{AreFound}
use Rattle.command_send.specs.inside.Sending.{HasSentSome, IsPart}
use Rattle.command_send.specs.inside.Second.{HasGone, HasReached, Knows, cost_at, cost_left, SendsGroup, SendsGroupPart}
use Rattle.command_send.specs.inside.Second.{datagrams_of}
use Rattle.field_elements.specs.Field.{Coding}
use Rattle.packet_frame.specs.declared.format.Format.{Format}
use Rattle.outside_routes.specs.Sending.{Routes, Sends, SendsPart}
use Rattle.outside_routes.specs.laws.SendingLaws.{sends_then, part_after, part_whole}
use Rattle.command_send.proofs.FoundGroups.{found_of_all}
use Rattle.command_send.proofs.EncodedGroup.{front_more}

-- the steps that one group may take, and those of the groups after it
pub cost_step : (tables : List Sizes) (n : ℕ)
    → cost_at (slice_get tables n) + cost_left tables (suc n) ≡ cost_left tables n
unfolding cost_left
cost_step [] zero = refl
cost_step [] (suc n) = refl
cost_step (t ∷ tables) zero = sym (sum_by-cons words_cost t tables)
cost_step (t ∷ tables) (suc n) = cost_step tables n

pub cost_next : (tables : List Sizes) (n : ℕ)
    → cost_at (slice_get tables n) + cost_left tables (n + 1) ≡ cost_left tables n
cost_next tables n =
    let more : n + 1 ≡ suc n = omega arith in
    ap (λ k. cost_at (slice_get tables n) + cost_left tables k) more ∙ cost_step tables n

pub cost_all : (tables : List Sizes) → cost_left tables 0 ≡ sum_by words_cost tables
unfolding cost_left
cost_all tables = refl

encodings_append : (t : Format) (source : Source) (first : ℕ) (a b : List CutGroup)
    → encodings_from t source first (a ++ b)
    ≡ encodings_from t source first a ++ encodings_from t source (first + length a) b
encodings_append t source first [] b = ap (λ (k : ℕ). encodings_from t source k b) (omega arith)
encodings_append t source first (g ∷ a) b =
    let along : first + 1 + length a ≡ first + length (g ∷ a) = omega arith in
    ap (λ (es : List Encoding). encoding_of t source first g ∷ es) (encodings_append t source (first + 1) a b)
    ∙ ap (λ (k : ℕ). encoding_of t source first g ∷ (encodings_from t source (first + 1) a ++ encodings_from t source k b))
    along

-- the entries of more groups
pub text_append : {E : Type 0} (t : Format) (c : Coding E) (source : Source) (a b : List CutGroup)
    → sent_datagrams t c source (a ++ b)
    ≡ sent_datagrams t c source a ++ flat_map (group_datagrams_in t c) (encodings_from t source (length a) b)
unfolding sent_datagrams
text_append t c source a b =
    let at : 0 + length a ≡ length a = omega arith in
    ap (flat_map (group_datagrams_in t c)) (encodings_append t source 0 a b)
    ∙ ap (λ (k : ℕ). flat_map (group_datagrams_in t c) (encodings_from t source 0 a ++ encodings_from t source k b)) at
    ∙ flat_map-append (group_datagrams_in t c) (encodings_from t source 0 a) (encodings_from t source (length a) b)

pub text_more : {E : Type 0} (t : Format) (c : Coding E) (source : Source) (groups : List CutGroup) (g : CutGroup)
    → sent_datagrams t c source (groups ++ g ∷ [])
    ≡ sent_datagrams t c source groups ++ group_datagrams_in t c (encoding_of t source (length groups) g)
text_more t c source groups g =
    text_append t c source groups (g ∷ [])
    ∙ ap (λ (ds : List (List ℕ)). sent_datagrams t c source groups ++ ds)
    (append-nil (group_datagrams_in t c (encoding_of t source (length groups) g)))

pub text_none : {E : Type 0} (t : Format) (c : Coding E) (source : Source) → sent_datagrams t c source [] ≡ []
unfolding sent_datagrams
text_none t c source = refl

-- the marks of the groups before
mark_left : (groups : List CutGroup) (g : CutGroup) (k : ℕ) → k < length groups
    → mark_at (group_marks (groups ++ g ∷ [])) k ≡ mark_at (group_marks groups) k
mark_left groups g k lt =
    ap (λ ms. get_or ms k no_mark) (map_push (λ (x : CutGroup). mark_of x.bytes) groups g)
    ∙ get_or_append_left (group_marks groups) (mark_of g.bytes ∷ []) no_mark k
    (omega (arith, lt, length-map groups (λ (x : CutGroup). mark_of x.bytes)))

-- and of the last
pub mark_last : (groups : List CutGroup) (g : CutGroup)
    → mark_at (group_marks (groups ++ g ∷ [])) (length groups) ≡ mark_of g.bytes
mark_last groups g =
    ap (λ ms. get_or ms (length groups) no_mark) (map_push (λ (x : CutGroup). mark_of x.bytes) groups g)
    ∙ ap (λ n. get_or (group_marks groups ++ mark_of g.bytes ∷ []) n no_mark)
    (sym (length-map groups (λ (x : CutGroup). mark_of x.bytes)))
    ∙ get_or-append_seam (group_marks groups) (mark_of g.bytes) [] no_mark

-- beyond the groups there is none
pub mark_past : (groups : List CutGroup) (k : ℕ) → length groups ≤ k → mark_at (group_marks groups) k ≡ no_mark
mark_past groups k le =
    get_or_past (group_marks groups) k no_mark
    (omega (arith, le, length-map groups (λ (x : CutGroup). mark_of x.bytes)))

agree_more : (marks : List GroupMark) (groups : List CutGroup) (g : CutGroup) → AgreeBelow marks groups (length groups)
    → mark_at marks (length groups) ≡ mark_of g.bytes → AgreeBelow marks (groups ++ g ∷ []) (length (groups ++ g ∷ []))
agree_more marks groups g agree same k lt = elim (cases_lt k (length groups)) [
  | inl below ↦ agree k below ∙ sym (mark_left groups g k below)
  | inr from ↦
      let at : length groups ≡ k = omega (arith, lt, from, length-append groups (g ∷ [])) in
      subst (λ n. mark_at marks n ≡ mark_at (group_marks (groups ++ g ∷ [])) n) at (same ∙ sym (mark_last groups g))
]

tables_more : (t : Format) (source : Source) (groups : List CutGroup) (g : CutGroup) → HaveTables t source groups
    → slice_get source.tables.items (length groups) ≡ Some (table_of_in t source.priority g.cut)
    → HaveTables t source (groups ++ g ∷ [])
tables_more t source groups g h at =
    let table : CutGroup → Sizes = λ x. table_of_in t source.priority x.cut in
    let first : List Sizes = map table groups in
    let more = front_more first h.0 (table g)
    (ap (λ ts. slice_get ts (length first)) (sym h.1)
    ∙ (ap (slice_get source.tables.items) (length-map groups table) ∙ at)) in
    (more.0, h.1 ∙ (more.1 ∙ ap (λ l. l ++ more.0) (sym (map_push table groups g))))

-- one group more was sent
pub some_more : {E : Type 0} (j : Job E) (groups : List CutGroup) (g : CutGroup)
    (first before after : Routes) → HasSentSome j groups first before
    → SendsGroup j (length groups) g before after → after.place.target ≡ before.place.target
    → HasSentSome j (groups ++ g ∷ []) first after
some_more j groups g first before after h sends target = record {
  agree = agree_more j.marks groups g h.agree sends.0.mark;
  tables = tables_more j.format j.source groups g h.tables sends.0.table;
  target = target ∙ h.target;
  sends =
      subst (λ (t : List (List ℕ)). Sends j.way t first after) (sym (text_more j.format j.coding j.source groups g))
      (sends_then j.way (sent_datagrams j.format j.coding j.source groups)
      (datagrams_of j (length groups) g) first before after h.target h.sends sends.1);
}

-- a front of the next group's packets
part_at : {E : Type 0} (j : Job E) (First : List CutGroup → Type 0)
    (groups : List CutGroup) (g : CutGroup) (first before after : Routes)
    → HasSentSome j groups first before → First (groups ++ g ∷ [])
    → SendsGroupPart j (length groups) g before after → IsPart j First first after
part_at j First groups g first before after h firsts sends = record {
  groups = groups ++ g ∷ [];
  first_groups = firsts;
  agree = agree_more j.marks groups g h.agree sends.0.mark;
  tables = tables_more j.format j.source groups g h.tables sends.0.table;
  sends =
      subst (λ (t : List (List ℕ)). SendsPart j.way t first after) (sym (text_more j.format j.coding j.source groups g))
      (part_after j.way (sent_datagrams j.format j.coding j.source groups)
      (datagrams_of j (length groups) g) first before after h.target h.sends sends.1);
}

-- a failure before a group's packets
part_some : {E : Type 0} (j : Job E) (First : List CutGroup → Type 0)
    (groups : List CutGroup) (first now : Routes) → HasSentSome j groups first now → First groups
    → IsPart j First first now
part_some j First groups first now h firsts = record {
  groups = groups;
  first_groups = firsts;
  agree = h.agree;
  tables = h.tables;
  sends = part_whole j.way (sent_datagrams j.format j.coding j.source groups) first now h.sends;
}

pub part_gone : {E : Type 0} (j : Job E) (stream : List ℕ) (pass : SentGroups)
    (first now : Routes) → HasGone j stream pass first now
    → IsPart j (HaveEnded j.source.priority stream) first now
part_gone j stream pass first now h =
    part_some j (HaveEnded j.source.priority stream) h.groups first now h.sent
    (given_ended pass.cutter j.source.priority stream h.groups h.cut)

pub part_stands : {E : Type 0} (j : Job E) (stream : List ℕ) (change : Option Change)
    (pass : SentGroups) (first now : Routes) → HasReached j stream change pass first now
    → IsPart j (HaveEnded j.source.priority stream) first now
part_stands j stream None pass first now h = part_gone j stream pass first now h.0
part_stands j stream (Some change) pass first now h =
    part_some j (HaveEnded j.source.priority stream) h.0.least.before first now h.0.sent
    (ended_before j.source.priority stream h.0.least.before (h.1.next ∷ []) h.2)

-- one group more has ended and was sent
pub gone_more : {E : Type 0} (j : Job E) (stream : List ℕ) (old new : SentGroups)
    (g : CutGroup) (first before after : Routes) → HasGone j stream old first before
    → ((given : List CutGroup) → HasCut old.cutter j.source.priority stream given
    → HasCut new.cutter j.source.priority stream (given ++ g ∷ [])) → new.sent ≡ old.sent + 1
    → SendsGroup j old.sent g before after → after.place.target ≡ before.place.target
    → HasGone j stream new first after
gone_more j stream old new g first before after h cut sent sends target = record {
  groups = h.groups ++ g ∷ [];
  cut = cut h.groups h.cut;
  number = omega (arith, sent, h.number, length-append h.groups (g ∷ []));
  sent =
      some_more j h.groups g first before after h.sent
      (subst (λ n. SendsGroup j n g before after) h.number sends) target;
}

pub gone_part : {E : Type 0} (j : Job E) (stream : List ℕ) (old : SentGroups)
    (cutter : GroupCutter) (g : CutGroup) (first before after : Routes)
    → HasGone j stream old first before
    → ((given : List CutGroup) → HasCut old.cutter j.source.priority stream given
    → HasCut cutter j.source.priority stream (given ++ g ∷ []))
    → SendsGroupPart j old.sent g before after
    → IsPart j (HaveEnded j.source.priority stream) first after
gone_part j stream old cutter g first before after h cut sends =
    part_at j (HaveEnded j.source.priority stream) h.groups g first before after h.sent
    (given_ended cutter j.source.priority stream (h.groups ++ g ∷ []) (cut h.groups h.cut))
    (subst (λ n. SendsGroupPart j n g before after) h.number sends)

-- the last of the groups that a cutter has given
at_last : (P : CutGroup → Type 0) (given : List CutGroup) (g : CutGroup) → All P (given ++ g ∷ []) → P g
at_last P given g all =
    subst P (get_or-append_seam given g [] g) (all (length given) g (omega (arith, length-append given (g ∷ []))))

pub knows_more : (old new : GroupCutter) (priority : Priorities) (g : CutGroup) → Knows old priority
    → ((p : Priorities) (stream : List ℕ) (given : List CutGroup) → HasCut old p stream given
    → HasCut new p stream (given ++ g ∷ [])) → Knows new priority
knows_more old new priority g k cut =
    record { stream = k.stream; given = k.given ++ g ∷ []; cut = cut priority k.stream k.given k.cut }

pub knows_whole : (old new : GroupCutter) (priority : Priorities) (g : CutGroup) → Knows old priority
    → ((p : Priorities) (stream : List ℕ) (given : List CutGroup) → HasCut old p stream given
    → HasCut new p stream (given ++ g ∷ [])) → IsWhole (length priority.layers) g
knows_whole old new priority g k cut =
    at_last (IsWhole (length priority.layers)) k.given g
    (given_whole new priority k.stream (k.given ++ g ∷ []) (cut priority k.stream k.given k.cut))

pub knows_filled : (old new : GroupCutter) (priority : Priorities) (g : CutGroup) → Knows old priority
    → ((p : Priorities) (stream : List ℕ) (given : List CutGroup) → HasCut old p stream given
    → HasCut new p stream (given ++ g ∷ [])) → IsFilled g
knows_filled old new priority g k cut =
    at_last IsFilled k.given g
    (given_filled new priority k.stream (k.given ++ g ∷ []) (cut priority k.stream k.given k.cut))

-- the groups so far, the next, and the rest
pub left_split : (before groups : List CutGroup) (i : ℕ) (g : CutGroup) → i < length groups → get_or groups i g ≡ g
    → (before ++ take (i + 1) groups ≡ (before ++ take i groups) ++ g ∷ [])
    × (before ++ groups ≡ ((before ++ take i groups) ++ g ∷ []) ++ drop (i + 1) groups)
left_split before groups i g lt is =
    let more : take (i + 1) groups ≡ take i groups ++ g ∷ [] =
    take_more groups i g lt ∙ ap (λ x. take i groups ++ x ∷ []) is in
    let one : before ++ take (i + 1) groups ≡ (before ++ take i groups) ++ g ∷ [] =
    ap (λ l. before ++ l) more ∙ sym (append_assoc before (take i groups) (g ∷ [])) in (
      one,
      ap (λ l. before ++ l) (sym (take-append-drop (i + 1) groups))
          ∙ sym (append_assoc before (take (i + 1) groups) (drop (i + 1) groups))
          ∙ ap (λ l. l ++ drop (i + 1) groups) one,
    )

pub left_length : (before groups : List CutGroup) (i from number : ℕ) → i < length groups → from ≡ length before
    → number ≡ from + i → number ≡ length (before ++ take i groups)
left_length before groups i from number lt at count =
    omega (arith, length-append before (take i groups), length-take-le i groups (omega arith), at, count)

-- one of the groups that are left was sent in part, and one more was sent whole
pub left_part : {E : Type 0} (j : Job E) (stream : List ℕ)
    (before groups : List CutGroup) (i from number : ℕ) (g : CutGroup) (first old new : Routes)
    → i < length groups → get_or groups i g ≡ g → from ≡ length before → number ≡ from + i
    → AreAll j.source.priority stream (before ++ groups)
    → HasSentSome j (before ++ take i groups) first old
    → SendsGroupPart j number g old new
    → IsPart j (AreFound j.source.priority stream) first new
left_part j stream before groups i from number g first old new lt is at count all h sends =
    let sent = before ++ take i groups in
    let found = found_of_all j.source.priority stream (sent ++ g ∷ []) (drop (i + 1) groups)
    (subst (AreAll j.source.priority stream) (left_split before groups i g lt is).1 all) in
    part_at j (AreFound j.source.priority stream) sent g first old new h found
    (subst (λ n. SendsGroupPart j n g old new)
    (left_length before groups i from number lt at count) sends)

pub left_more : {E : Type 0} (j : Job E) (before groups : List CutGroup)
    (i from number : ℕ) (g : CutGroup) (first old new : Routes)
    → i < length groups → get_or groups i g ≡ g → from ≡ length before → number ≡ from + i
    → HasSentSome j (before ++ take i groups) first old → SendsGroup j number g old new
    → new.place.target ≡ old.place.target → HasSentSome j (before ++ take (i + 1) groups) first new
left_more j before groups i from number g first old new lt is at count h sends target =
    subst (λ (l : List CutGroup). HasSentSome j l first new) (sym (left_split before groups i g lt is).0)
    (some_more j (before ++ take i groups) g first old new h
    (subst (λ n. SendsGroup j n g old new) (left_length before groups i from number lt at count) sends)
    target)

-- no change was found so far
pub stands_none : {E : Type 0} (j : Job E) (stream : List ℕ) (change : Option Change)
    (pass : SentGroups) (first now : Routes) → is_some change ≡ false
    → HasReached j stream change pass first now
    → HasGone j stream pass first now × (pieces_left pass.cutter ≡ 0)
stands_none j stream None pass first now none h = h
stands_none j stream (Some c) pass first now none h = absurd cc

-- until then the cutter stands somewhere in a stream
pub stands_known : {E : Type 0} (j : Job E) (stream : List ℕ) (change : Option Change)
    (pass : SentGroups) (first now : Routes) → HasReached j stream change pass first now
    → IfNone change (Knows pass.cutter j.source.priority)
stands_known j stream None pass first now h =
    record { stream = stream; given = h.0.groups; cut = h.0.cut }
stands_known j stream (Some c) pass first now h = tt

all_suffix : (P : CutGroup → Type 0) (xs ys : List CutGroup) → All P (xs ++ ys) → All P ys
all_suffix P xs ys h i d lt =
    subst P (get_or-append-add xs ys i d) (h (length xs + i) d (omega (arith, lt, length-append xs ys)))

-- what the groups that are left are
pub left_all : (P : CutGroup → Type 0) (priority : Priorities) (cutter : GroupCutter) (items groups : List CutGroup)
    → ((stream : List ℕ) → All P (cut_groups priority stream)) → Knows cutter priority
    → ((p : Priorities) (stream : List ℕ) (given : List CutGroup) → HasCut cutter p stream given
    → AreAll p stream (given ++ items)) → groups ≡ items → All P groups
left_all P priority cutter items groups each k all is =
    subst (All P) (sym is)
    (all_suffix P k.given items (subst (All P) (sym (all priority k.stream k.given k.cut).all) (each k.stream)))

-- groups that had ended were found
pub part_found : {E : Type 0} (j : Job E) (stream : List ℕ) (first now : Routes)
    → IsPart j (HaveEnded j.source.priority stream) first now
    → IsPart j (AreFound j.source.priority stream) first now
part_found j stream first now h =
    record { groups = h.groups; first_groups = inl h.first_groups; agree = h.agree; tables = h.tables; sends = h.sends }

-- and did, however the stream goes on
pub part_longer : {E : Type 0} (j : Job E) (stream portion : List ℕ) (first now : Routes)
    → IsPart j (HaveEnded j.source.priority stream) first now
    → IsPart j (HaveEnded j.source.priority (stream ++ portion)) first now
part_longer j stream portion first now h = record {
  groups = h.groups;
  first_groups = ended_longer j.source.priority stream portion h.groups h.first_groups;
  agree = h.agree;
  tables = h.tables;
  sends = h.sends;
}
