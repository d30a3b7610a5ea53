-- The group at which the second pass finds a change, and the end of the pass.
use Rattle.std.proofs.Common.{◌≡◌, ℕ, suc, ◌<◌, ◌≤◌, List, [], ◌∷◌, ◌++◌, length, take, drop, get_or, ◌+◌, Option, Some}
use Rattle.std.proofs.Common.{None, refl, sym, ◌∙◌, ap, subst, arith, inl, inr}
use Rattle.std.specs.Prelude.{slice_get, IfSome, IfNone, MatchOption, is_some, true, false}
use Rattle.std.proofs.lemmas.Bool.{cases_lt}
use Rattle.std.proofs.lemmas.Option.{slice_get_within}
use Rattle.outside_routes.specs.Sending.{Routes}
use Rattle.stream_session.specs.declared.mark.GroupMark.{GroupMark}
use Rattle.stream_groups.specs.CutGroups.{CutGroup}
use Rattle.stream_groups.specs.Cutting.{HasCut, HaveEnded, AreAll}
use Rattle.stream_groups.specs.laws.EndedLaws.{given_ended, ended_longer, ended_before}
use Rattle.stream_groups.specs.declared.groups.GroupCutter.{GroupCutter}
use Rattle.stream_session.specs.Tables.{table_of_in}
use Rattle.stream_session.specs.Marks.{no_mark, mark_at}
use Rattle.command_send.specs.inside.Job.{Job}
use Rattle.command_send.specs.declared.sent_group.Change.{Change}
use Rattle.command_send.specs.declared.second.SentGroups.{SentGroups}
use Rattle.command_send.specs.Sending.{AgreeBelow, AreFound, AreAllFound, IsNext}
use Rattle.command_send.specs.inside.Sending.{HasSentSome, IsChange, IsAllSent}
use Rattle.command_send.specs.inside.Second.{HasGone, HasMetChange, HasReached, Ends, SendsGroup, Differs, IsFirstLost}
use Rattle.command_send.specs.inside.Second.{NoneLost}
use Rattle.command_send.proofs.FoundGroups.{found_before, found_of_all}
use Rattle.command_send.proofs.GroupsSoFar.{mark_past, left_split, left_length}

-- whether a change was found
pub is_change : (change : Option Change) → is_some change ≡ true → (c : Change) × (change ≡ Some c)
is_change None some = absurd cc
is_change (Some c) some = (c, refl)

pub not_change : {P : Type 0} (change : Option Change) → is_some change ≡ false → IfNone change P → P
not_change None none p = p
not_change (Some c) none p = absurd cc

-- what holds where one was found
pub when_change : {P : Type 0} (change : Option Change) → is_some change ≡ true → IfSome change (λ _. P) → P
when_change None some p = absurd cc
when_change (Some c) some p = p

-- what `send_group` answered where it found none
pub sends_none : (A : Type 0) (B : Change → Type 0) (change : Option Change) → is_some change ≡ false
    → MatchOption change A B → A
sends_none A B None none a = a
sends_none A B (Some c) none b = absurd cc

-- its group then has a table
pub sent_within : {E : Type 0} (j : Job E) (number : ℕ) (g : CutGroup)
    (before after : Routes) (change : Option Change) → is_some change ≡ false
    → MatchOption change (SendsGroup j number g before after)
    (Differs j number g before after) → number < length j.source.tables.items
sent_within j number g before after None none sends =
    slice_get_within j.source.tables.items number (table_of_in j.format j.source.priority g.cut) sends.0.table
sent_within j number g before after (Some c) none sends = absurd cc

-- the next group is another
next_at : {E : Type 0} (j : Job E) (stream : List ℕ) (groups : List CutGroup)
    (g : CutGroup) (before after : Routes) (change : Change) → AreFound j.source.priority stream (groups ++ g ∷ [])
    → Differs j (length groups) g before after change
    → IsNext j.format j.source.priority j.source.tables.items j.marks stream groups change.group change.second
next_at j stream groups g before after change found d = record {
  next = g;
  at = d.group;
  found = found;
  marked = elim d.marked [
    | inl is ↦ inl is
    | inr other ↦ inr (
      other.0,
      ap (mark_at j.marks) d.group ∙ other.1,
      λ e. other.2 (subst (λ n. slice_get j.source.tables.items n ≡ Some (table_of_in j.format j.source.priority g.cut)) d.group e),
    )
  ];
}

change_is : {E : Type 0} (j : Job E) (stream : List ℕ) (groups : List CutGroup)
    (g : CutGroup) (first before after : Routes) (change : Change) → HasSentSome j groups first before
    → AreFound j.source.priority stream (groups ++ g ∷ [])
    → Differs j (length groups) g before after change → IsChange j stream change first after
change_is j stream groups g first before after change h found d = record {
  least = record {
    before = groups;
    found = found_before j.source.priority stream groups (g ∷ []) found;
    agree = subst (AgreeBelow j.marks groups) (sym d.group) h.agree;
    first_is = d.first_is ∙ ap (mark_at j.marks) (sym d.group);
    second_is = inl (next_at j stream groups g before after change found d);
    differ = d.differ;
  };
  sent = subst (HasSentSome j groups first) (sym d.still) h;
}

change_at : {E : Type 0} (j : Job E) (stream : List ℕ) (groups : List CutGroup)
    (g : CutGroup) (first before after : Routes) (change : Change) → HasSentSome j groups first before
    → HaveEnded j.source.priority stream (groups ++ g ∷ [])
    → Differs j (length groups) g before after change
    → HasMetChange j stream first after change
unfolding change_is next_at
change_at j stream groups g first before after change h ended d = (
  change_is j stream groups g first before after change h (inl ended) d,
  next_at j stream groups g before after change (inl ended) d,
  ended,
)

-- a change stays one, however the stream goes on
change_longer : {E : Type 0} (j : Job E) (stream portion : List ℕ) (change : Change)
    (first now : Routes) → HasMetChange j stream first now change
    → HasMetChange j (stream ++ portion) first now change
change_longer j stream portion change first now h =
    let priority = j.source.priority in
    let ended = ended_longer priority stream portion (h.0.least.before ++ h.1.next ∷ []) h.2 in
    let next : IsNext j.format priority j.source.tables.items j.marks
    (stream ++ portion) h.0.least.before change.group change.second =
    record { next = h.1.next; at = h.1.at; found = inl ended; marked = h.1.marked } in (
      record {
        least = record {
          before = h.0.least.before;
          found = inl (ended_before priority (stream ++ portion) h.0.least.before (h.1.next ∷ []) ended);
          agree = h.0.least.agree;
          first_is = h.0.least.first_is;
          second_is = inl next;
          differ = h.0.least.differ;
        };
        sent = h.0.sent;
      },
      next,
      ended,
    )

pub stands_longer : {E : Type 0} (j : Job E) (stream portion : List ℕ) (c : Change)
    (change : Option Change) (pass : SentGroups) (first now : Routes) → change ≡ Some c
    → HasReached j stream change pass first now
    → HasReached j (stream ++ portion) change pass first now
stands_longer j stream portion c None pass first now some h = absurd cc
stands_longer j stream portion c (Some change) pass first now some h =
    change_longer j stream portion change first now h

gone_change : {E : Type 0} (j : Job E) (stream : List ℕ) (old : SentGroups)
    (cutter : GroupCutter) (g : CutGroup) (first before after : Routes) (change : Change)
    → HasGone j stream old first before
    → ((given : List CutGroup) → HasCut old.cutter j.source.priority stream given
    → HasCut cutter j.source.priority stream (given ++ g ∷ []))
    → Differs j old.sent g before after change → HasMetChange j stream first after change
gone_change j stream old cutter g first before after change h cut d =
    change_at j stream h.groups g first before after change h.sent
    (given_ended cutter j.source.priority stream (h.groups ++ g ∷ []) (cut h.groups h.cut))
    (subst (λ n. Differs j n g before after change) h.number d)

-- and where it found one
pub stands_change : {E : Type 0} (j : Job E) (stream : List ℕ) (old new : SentGroups)
    (cutter : GroupCutter) (g : CutGroup) (first before after : Routes) (change : Option Change) → is_some change ≡ true
    → MatchOption change (SendsGroup j old.sent g before after)
    (Differs j old.sent g before after) → HasGone j stream old first before
    → ((given : List CutGroup) → HasCut old.cutter j.source.priority stream given
    → HasCut cutter j.source.priority stream (given ++ g ∷ []))
    → HasReached j stream change new first after
stands_change j stream old new cutter g first before after None some sends h cut = absurd cc
stands_change j stream old new cutter g first before after (Some c) some sends h cut =
    gone_change j stream old cutter g first before after c h cut sends

-- beyond the groups the marks agree where the first pass has none
agree_past : (marks : List GroupMark) (groups : List CutGroup) (limit : ℕ) → AgreeBelow marks groups (length groups)
    → ((k : ℕ) → length groups ≤ k → k < limit → mark_at marks k ≡ no_mark) → AgreeBelow marks groups limit
agree_past marks groups limit agree none k lt = elim (cases_lt k (length groups)) [
  | inl below ↦ agree k below
  | inr from ↦ none k from lt ∙ sym (mark_past groups k from)
]

lost_change : {E : Type 0} (j : Job E) (stream : List ℕ) (groups : List CutGroup)
    (from : ℕ) (first now : Routes) (change : Change) → from ≡ length groups
    → HasSentSome j groups first now
    → AreAllFound j.source.priority stream groups → IsFirstLost j.marks from change
    → IsChange j stream change first now
lost_change j stream groups from first now change at h all lost = record {
  least = record {
    before = groups;
    found = all.found;
    agree = agree_past j.marks groups change.group h.agree (λ k le lt. lost.before k (omega (arith, at, le)) lt);
    first_is = lost.first_is;
    second_is = inr (record { beyond = omega (arith, at, lost.beyond); all = all; none = lost.none });
    differ = lost.differ;
  };
  sent = h;
}

all_sent : {E : Type 0} (j : Job E) (stream : List ℕ) (groups : List CutGroup) (from : ℕ)
    (first now : Routes) → from ≡ length groups → HasSentSome j groups first now
    → AreAllFound j.source.priority stream groups → NoneLost j.marks from → IsAllSent j stream first now
all_sent j stream groups from first now at h all none = record {
  groups = groups;
  all = all;
  sent = h;
  agree = λ k. agree_past j.marks groups (suc k) h.agree (λ j le lt. none j (omega (arith, at, le))) k (omega arith);
}

-- the end of the pass, where these are all groups that it found
pub ends_lost : {E : Type 0} (j : Job E) (stream : List ℕ) (groups : List CutGroup)
    (from : ℕ) (first now : Routes) (change : Option Change) → from ≡ length groups
    → HasSentSome j groups first now
    → AreAllFound j.source.priority stream groups → IfSome change (IsFirstLost j.marks from)
    → IfNone change (NoneLost j.marks from) → Ends j stream change first now
ends_lost j stream groups from first now None at h all lost none =
    all_sent j stream groups from first now at h all none
ends_lost j stream groups from first now (Some change) at h all lost none =
    lost_change j stream groups from first now change at h all lost

-- one of the groups that are left is another
pub left_change : {E : Type 0} (j : Job E) (stream : List ℕ)
    (before groups : List CutGroup) (i from number : ℕ) (g : CutGroup) (first old new : Routes) (change : Option Change)
    → is_some change ≡ true → i < length groups → get_or groups i g ≡ g → from ≡ length before → number ≡ from + i
    → AreAll j.source.priority stream (before ++ groups)
    → HasSentSome j (before ++ take i groups) first old
    → MatchOption change (SendsGroup j number g old new) (Differs j number g old new)
    → Ends j stream change first new
left_change j stream before groups i from number g first old new None some lt is at count all h sends =
    absurd cc
left_change j stream before groups i from number g first old new (Some c) some lt is at count all h
    sends =
    let sent = before ++ take i groups in
    let found = found_of_all j.source.priority stream (sent ++ g ∷ []) (drop (i + 1) groups)
    (subst (AreAll j.source.priority stream) (left_split before groups i g lt is).1 all) in
    change_is j stream sent g first old new c h found
    (subst (λ n. Differs j n g old new c) (left_length before groups i from number lt at count) sends)
