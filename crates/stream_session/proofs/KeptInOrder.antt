-- From the groups that a cutter gives to the tables and the marks of the stream.
use Rattle.std.proofs.Common.{◌≡◌, ◌≢◌, ℕ, suc, ◌+◌, ◌<◌, ◌≤◌, Bool, true, false, nat_lt, List, [], ◌∷◌, ◌++◌, length, get_or, map, take}
use Rattle.std.proofs.Common.{Option, Some, None, position, refl, sym, ◌∙◌, ap, subst, arith, append-nil, append_assoc}
use Rattle.std.proofs.Common.{length-append}
use Rattle.std.specs.Prelude.{All, if◌then◌else◌}
use Rattle.std.specs.List.{position_from}
use Rattle.std.proofs.lemmas.Iterator.Adapters.{position_from-zero}
use Rattle.std.proofs.lemmas.List.{map-append, length-map, length_push, length-take-le, take_more}
use Rattle.std.proofs.lemmas.List.Elements.{All-cons, All-nil}
use Rattle.pet_base.specs.declared.limits.TheConstants.{MAX_GROUPS, MAX_SESSION}
use Rattle.sha2.specs.Sha256.{sha256}
use Rattle.mpeg_scan.specs.declared.piece.Piece.{Piece}
use Rattle.mpeg_scan.specs.Pieces.{pieces_of}
use Rattle.priority_file.specs.Priority.{Priorities, layer_of}
use Rattle.layer_split.specs.declared.fault.SplitFault.{SplitFault}
use Rattle.layer_split.specs.declared.fault.SplitFault.TheVariants as split
use Rattle.layer_split.specs.Groups.{groups_of}
use Rattle.layer_split.specs.Layers.{Cut, cut_of}
use Rattle.layer_split.specs.Faults.{is_too_long}
use Rattle.layer_split.specs.Splitting.{cuts_of}
use Rattle.stripe_plan.specs.Sizes.{Sizes}
use Rattle.stream_groups.specs.declared.fault.CutFault.{CutFault}
use Rattle.stream_groups.specs.declared.fault.CutFault.TheVariants.{Groups}
use Rattle.stream_groups.specs.declared.groups.GroupCutter.{GroupCutter}
use Rattle.stream_groups.specs.CutGroups.{CutGroup}
use Rattle.stream_groups.specs.Cutting.{HasCut, HaveEnded, AreAll, IsCutFault, groups_fault, cut_group, cut_groups}
use Rattle.stream_groups.specs.Cutting.{groups_in}
use Rattle.stream_groups.specs.laws.EndedLaws.{given_ended}
use Rattle.stream_session.specs.declared.fault.SessionFault.{SessionFault}
use Rattle.stream_session.specs.declared.fault.SessionFault.TheVariants as session
use Rattle.stream_session.specs.declared.mark.GroupMark.{GroupMark}
use Rattle.stream_session.specs.declared.marking.KeptGroups.{KeptGroups}
use Rattle.stream_session.specs.declared.marking.MarkedPlan.{MarkedPlan}
use Rattle.stream_session.specs.declared.pass.StreamFault.TheVariants.{Plan}
use Rattle.stream_session.specs.Tables.{table_of_in, tables_of_in, cuts_of_stream, IsFit}
use Rattle.packet_frame.specs.declared.format.Format.{Format}
use Rattle.stream_session.specs.Refusals.{is_long_in, is_wide_in, group_cost_in, first_above, size_fault, long_fault}
use Rattle.stream_session.specs.Refusals.{fault_after, many_fault, fault_of_cuts_in, session_fault_in}
use Rattle.stream_session.specs.Planning.{HasTables}
use Rattle.stream_session.specs.Passing.{IsStreamFaultIn}
use Rattle.stream_session.specs.Marks.{mark_of}
use Rattle.stream_session.specs.inside.Marking.{AreKept, HasKept, IsMarkedPlanOf, cuts_in_groups}
use Rattle.stream_session.specs.Number.{hashed, session_number}
use Rattle.stream_session.specs.laws.TableLaws.{cut_fits}
use Rattle.stream_session.specs.laws.FitLaws.{all_short, groups_few}
use Rattle.stream_session.proofs.Planned.{behind, fault_judged}

-- the group's cut is fit
abbrev FitsIn : Priorities → CutGroup → Type 0
FitsIn priority group = IsFit priority group.cut

-- so are those of groups that are not too long, wherever their runs are counted from
groups_fit : (priority : Priorities) (stream : List ℕ) (groups : List (List Piece))
    → All (λ group. is_too_long (layer_of priority) (length priority.layers) group ≡ false) groups
    → All (FitsIn priority) (map (cut_group priority stream) groups)
groups_fit priority stream [] short = All-nil (FitsIn priority)
groups_fit priority stream (group ∷ groups) short =
    let fit = cut_fits priority group (short 0 group (omega arith)) in
    All-cons (FitsIn priority) (cut_group priority stream group) (map (cut_group priority stream) groups)
    (record { count = fit.count; bytes = fit.bytes })
    (groups_fit priority stream groups (λ k d lt. short (suc k) d (omega arith)))

given_fit : (priority : Priorities) (stream : List ℕ) (groups : List CutGroup) → HaveEnded priority stream groups
    → All (FitsIn priority) groups × (length groups < MAX_GROUPS)
given_fit priority stream groups h =
    let count : length groups ≡ length h.ended =
    ap length h.groups_are ∙ length-map h.ended (cut_group priority h.front) in
    let few = h.few in
    (subst (All (FitsIn priority)) (sym h.groups_are) (groups_fit priority h.front h.ended h.fit), omega arith)

-- those of all groups of a stream that has no fault
pub all_given_fit : (priority : Priorities) (stream : List ℕ) (given left : List CutGroup)
    → AreAll priority stream (given ++ left) → All (FitsIn priority) left × (length (given ++ left) ≤ MAX_GROUPS)
all_given_fit priority stream given left h =
    let groups : List (List Piece) = groups_of (pieces_of stream) in
    let none = h.cuttable.1 in
    let few = groups_few priority groups none in
    let count : length (given ++ left) ≡ length groups =
    ap length h.all ∙ length-map groups (cut_group priority stream) in (
      behind (FitsIn priority) given left
          (subst (All (FitsIn priority)) (sym h.all)
          (groups_fit priority stream groups (all_short priority groups none))),
      omega arith,
    )

-- one group more
kept_more : (old new : KeptGroups) (priority : Priorities) (groups : List CutGroup) (group : CutGroup)
    → length groups < MAX_GROUPS → IsFit priority group.cut
    → ((p : Priorities) (cuts : List Cut) → length cuts < MAX_GROUPS → IsFit p group.cut → HasTables old.tables p cuts
    → HasTables new.tables p (cuts ++ group.cut ∷ []))
    → new.marks.items ≡ old.marks.items ++ mark_of group.bytes ∷ [] → AreKept old priority groups
    → AreKept new priority (groups ++ group ∷ [])
kept_more old new priority groups group few fit tables marks h =
    let count = length-map groups (λ (g : CutGroup). g.cut) in
    record {
      has_tables =
          subst (HasTables new.tables priority) (sym (map-append (λ (g : CutGroup). g.cut) groups (group ∷ [])))
          (tables priority (cuts_in_groups groups) (omega (arith, count)) fit h.has_tables);
      has_marks =
          marks ∙ (ap (λ l. l ++ mark_of group.bytes ∷ []) h.has_marks
          ∙ sym (map-append (λ (g : CutGroup). mark_of g.bytes) groups (group ∷ [])));
    }

pub pushed : (old new : List GroupMark) (mark : GroupMark) (bytes all : List ℕ) → mark ≡ mark_of bytes → bytes ≡ all
    → new ≡ old ++ mark ∷ [] → new ≡ old ++ mark_of all ∷ []
pushed old new mark bytes all is same e = e ∙ ap (λ (m : GroupMark). old ++ m ∷ []) (is ∙ ap mark_of same)

abbrev pub KeepsOne : KeptGroups → KeptGroups → CutGroup → Type 0
KeepsOne old new group =
    (priority : Priorities) (groups : List CutGroup) → length groups < MAX_GROUPS → IsFit priority group.cut
    → AreKept old priority groups → AreKept new priority (groups ++ group ∷ [])

pub keeps_group : (old new : KeptGroups) (group inside : CutGroup) → group ≡ inside
    → ((p : Priorities) (cuts : List Cut) → length cuts < MAX_GROUPS → IsFit p inside.cut → HasTables old.tables p cuts
    → HasTables new.tables p (cuts ++ inside.cut ∷ []))
    → new.marks.items ≡ old.marks.items ++ mark_of inside.bytes ∷ [] → KeepsOne old new group
keeps_group old new group inside is tables marks =
    subst (KeepsOne old new) (sym is)
    (λ priority groups few fit h. kept_more old new priority groups inside few fit tables marks h)

-- a group that the cutter gave
pub keeps_given : (old new : GroupCutter) (before after : KeptGroups) (given : Option CutGroup) (group : CutGroup)
    (priority : Priorities) (stream : List ℕ) → given ≡ Some group
    → ((p : Priorities) (s : List ℕ) (groups : List CutGroup) → HasCut old p s groups
    → HasCut new p s (groups ++ groups_in given)) → KeepsOne before after group → HasKept old before priority stream
    → HasKept new after priority stream
keeps_given old new before after given group priority stream is cuts keeps h =
    let cut = subst (λ o. HasCut new priority stream (h.given ++ groups_in o)) is
    (cuts priority stream h.given h.cut) in
    let fit = given_fit priority stream (h.given ++ group ∷ [])
    (given_ended new priority stream (h.given ++ group ∷ []) cut) in
    let few = fit.1 in
    let count = length_push h.given group in
    record {
      given = h.given ++ group ∷ [];
      cut = cut;
      are_kept =
          keeps priority h.given (omega arith)
          (behind (FitsIn priority) h.given (group ∷ []) fit.0 0 group (omega arith)) h.are_kept;
    }

-- and none
pub keeps_none : (old new : GroupCutter) (kept : KeptGroups) (given : Option CutGroup) (priority : Priorities)
    (stream : List ℕ) → given ≡ None
    → ((p : Priorities) (s : List ℕ) (groups : List CutGroup) → HasCut old p s groups
    → HasCut new p s (groups ++ groups_in given)) → HasKept old kept priority stream → HasKept new kept priority stream
keeps_none old new kept given priority stream is cuts h = record {
  given = h.given;
  cut =
      subst (HasCut new priority stream) (append-nil h.given)
      (subst (λ o. HasCut new priority stream (h.given ++ groups_in o)) is (cuts priority stream h.given h.cut));
  are_kept = h.are_kept;
}

-- one more of the groups that are left
pub keeps_next : (old new : KeptGroups) (priority : Priorities) (before groups : List CutGroup) (i : ℕ)
    (group : CutGroup) → group ≡ get_or groups i group → i < length groups → length (before ++ groups) ≤ MAX_GROUPS
    → All (FitsIn priority) groups → KeepsOne old new group → AreKept old priority (before ++ take i groups)
    → AreKept new priority (before ++ take (i + 1) groups)
keeps_next old new priority before groups i group is lt few fit keeps h =
    let whole = length-append before groups in
    let part = length-append before (take i groups) in
    let len = length-take-le i groups (omega (arith, lt)) in
    let more : take (i + 1) groups ≡ take i groups ++ group ∷ [] =
    take_more groups i group lt ∙ ap (λ g. take i groups ++ g ∷ []) (sym is) in
    subst (AreKept new priority) (append_assoc before (take i groups) (group ∷ []) ∙ ap (λ l. before ++ l) (sym more))
    (keeps priority (before ++ take i groups) (omega (arith, whole, part, len))
    (subst (FitsIn priority) (sym is) (fit i group lt)) h)

-- A table tells nothing of where runs begin: the cuts of the groups have the tables, the widths and the costs of those
-- of
-- the stream.
cuts_same : {B : Type 0} (f : Cut → B) (priority : Priorities) (stream : List ℕ) (groups : List (List Piece))
    → ((group : List Piece)
    → f (cut_group priority stream group).cut ≡ f (cut_of (layer_of priority) (length priority.layers) group))
    → map f (cuts_in_groups (map (cut_group priority stream) groups)) ≡ map f (cuts_of priority groups)
cuts_same f priority stream [] same = refl
cuts_same f priority stream (group ∷ groups) same =
    ap (λ x. x ∷ map f (cuts_in_groups (map (cut_group priority stream) groups))) (same group)
    ∙ ap (λ l. f (cut_of (layer_of priority) (length priority.layers) group) ∷ l)
    (cuts_same f priority stream groups same)

-- so the first of a kind stands in the same place
first_from : (is : Cut → Bool) (priority : Priorities) (stream : List ℕ) (i : ℕ) (groups : List (List Piece))
    → ((group : List Piece)
    → is (cut_group priority stream group).cut ≡ is (cut_of (layer_of priority) (length priority.layers) group))
    → position_from is i (cuts_in_groups (map (cut_group priority stream) groups))
    ≡ position_from is i (cuts_of priority groups)
first_from is priority stream i [] same = refl
first_from is priority stream i (group ∷ groups) same =
    ap (λ (b : Bool). if b then Some i
    else position_from is (i + 1) (cuts_in_groups (map (cut_group priority stream) groups))) (same group)
    ∙ ap (λ o. if is (cut_of (layer_of priority) (length priority.layers) group) then Some i else o)
    (first_from is priority stream (i + 1) groups same)

first_same : (is : Cut → Bool) (priority : Priorities) (stream : List ℕ) (groups : List (List Piece))
    → ((group : List Piece)
    → is (cut_group priority stream group).cut ≡ is (cut_of (layer_of priority) (length priority.layers) group))
    → position is (cuts_in_groups (map (cut_group priority stream) groups)) ≡ position is (cuts_of priority groups)
first_same is priority stream groups same =
    position_from-zero is (cuts_in_groups (map (cut_group priority stream) groups))
    ∙ (first_from is priority stream 0 groups same ∙ sym (position_from-zero is (cuts_of priority groups)))

fault_same : (t : Format) (limit : ℕ) (priority : Priorities) (stream : List ℕ)
    → fault_of_cuts_in t limit priority (cuts_in_groups (cut_groups priority stream))
    ≡ fault_of_cuts_in t limit priority (cuts_of_stream priority stream)
fault_same t limit priority stream =
    let groups : List (List Piece) = groups_of (pieces_of stream) in
    let mine : List Cut = cuts_in_groups (map (cut_group priority stream) groups) in
    let costs = first_above limit 0 (map (group_cost_in t priority) mine) in
    ap (λ o. long_fault o (size_fault (position (is_wide_in t priority) mine) costs))
    (first_same (is_long_in t priority) priority stream groups (λ group. refl))
    ∙ ap (λ o. long_fault (position (is_long_in t priority) (cuts_of priority groups)) (size_fault o costs))
    (first_same (is_wide_in t priority) priority stream groups (λ group. refl))
    ∙ ap (λ l. long_fault (position (is_long_in t priority) (cuts_of priority groups))
    (size_fault (position (is_wide_in t priority) (cuts_of priority groups)) (first_above limit 0 l)))
    (cuts_same (group_cost_in t priority) priority stream groups (λ group. refl))

-- what was kept of all groups
kept_all : (kept : KeptGroups) (priority : Priorities) (stream : List ℕ) (groups : List CutGroup)
    → AreAll priority stream groups → AreKept kept priority groups → AreKept kept priority (cut_groups priority stream)
kept_all kept priority stream groups all h = subst (AreKept kept priority) all.all h

fault_is : (t : Format) (limit : ℕ) (priority : Priorities) (stream : List ℕ) (groups : List CutGroup)
    (o : Option SessionFault) → AreAll priority stream groups
    → many_fault t priority (fault_of_cuts_in t limit priority (cuts_in_groups (cut_groups priority stream))) ≡ o
    → session_fault_in t limit priority (pieces_of stream) ≡ o
fault_is t limit priority stream groups o all judged =
    fault_judged t limit priority (pieces_of stream) (cuts_of_stream priority stream) o all.cuttable.1 refl
    (ap (many_fault t priority) (sym (fault_same t limit priority stream)) ∙ judged)

tables_are : (t : Format) (priority : Priorities) (stream : List ℕ) (tables : List Sizes)
    → tables ≡ tables_of_in t priority (cuts_in_groups (cut_groups priority stream))
    → tables ≡ tables_of_in t priority (cuts_of_stream priority stream)
tables_are t priority stream tables is =
    is ∙ cuts_same (table_of_in t priority) priority stream (groups_of (pieces_of stream)) (λ group. refl)

-- a fault of the groups of an accepted stream is one of its plan
told_after : (t : Format) (priority : Priorities) (fault : SplitFault) (cause : SessionFault) → fault ≢ split.NoMemory
    → many_fault t priority (fault_after (Some fault) None) ≡ Some cause → cause ≢ session.NoMemory
told_after t priority fault cause told is =
    by_flag (nat_lt t.bounds.packets priority.packets) fault told is
  where
    by_flag : (many : Bool) (f : SplitFault) → f ≢ split.NoMemory
        → (if many then Some (session.ManyPackets priority.packets) else fault_after (Some f) None) ≡ Some cause
        → cause ≢ session.NoMemory
    by_flag true f told is e = cc
    by_flag false (split.GroupTooLong group) told is e = cc
    by_flag false split.TooManyGroups told is e = cc
    by_flag false split.NoMemory told is e = told refl

groups_stop : (t : Format) (limit : ℕ) (priority : Priorities) (stream : List ℕ) (fault : SplitFault)
    (cause : SessionFault)
    → fault ≢ split.NoMemory → groups_fault priority stream ≡ Some fault
    → ((later : Option SessionFault) → many_fault t priority (fault_after (Some fault) later) ≡ Some cause)
    → (cause ≢ session.NoMemory) × (session_fault_in t limit priority (pieces_of stream) ≡ Some cause)
unfolding session_fault_in
groups_stop t limit priority stream fault cause told is after =
    let later = fault_of_cuts_in t limit priority (cuts_of priority (groups_of (pieces_of stream))) in (
      told_after t priority fault cause told (after None),
      ap (λ f. many_fault t priority (fault_after f later)) is ∙ after later,
    )

pub groups_told : (t : Format) (limit : ℕ) (priority : Priorities) (stream : List ℕ) (why : CutFault)
    (fault : SplitFault) (cause : SessionFault) → why ≡ Groups fault → IsCutFault priority stream why
    → ((later : Option SessionFault) → many_fault t priority (fault_after (Some fault) later) ≡ Some cause)
    → IsStreamFaultIn t limit priority stream (Plan cause)
groups_told t limit priority stream why fault cause e is after =
    let of = subst (IsCutFault priority stream) e is in
    let stop = groups_stop t limit priority stream fault cause of.1 of.2 after in
    (of.0, stop.0, stop.1)

-- the plan of all groups
pub marked_plan : (t : Format) (marked : MarkedPlan) (after : KeptGroups) (priority : Priorities) (file stream : List ℕ)
    (groups : List CutGroup) → AreAll priority stream groups → AreKept after priority groups
    → marked.plan.number ≡ take 8 (sha256 (hashed file stream)) → marked.marks.items ≡ after.marks.items
    → ((p : Priorities) (cuts : List Cut) → HasTables after.tables p cuts
    → (many_fault t p (fault_of_cuts_in t MAX_SESSION p cuts) ≡ None)
    × (marked.plan.tables.items ≡ tables_of_in t p cuts))
    → IsMarkedPlanOf t marked priority file stream
unfolding session_number
marked_plan t marked after priority file stream groups all kept number marks judged =
    let h = kept_all after priority stream groups all kept in
    let of = judged priority (cuts_in_groups (cut_groups priority stream)) h.has_tables in
    record {
      plan =
          record {
            accepted = all.cuttable.0;
            fits = fault_is t MAX_SESSION priority stream groups None all of.0;
            number = number;
            tables = tables_are t priority stream marked.plan.tables.items of.1;
          };
      marks = marks ∙ h.has_marks;
    }

pub marked_fault : (t : Format) (after : KeptGroups) (fault : SessionFault) (priority : Priorities) (stream : List ℕ)
    (groups : List CutGroup) → AreAll priority stream groups → AreKept after priority groups → fault ≢ session.NoMemory
    → ((p : Priorities) (cuts : List Cut) → HasTables after.tables p cuts
    → many_fault t p (fault_of_cuts_in t MAX_SESSION p cuts) ≡ Some fault)
    → IsStreamFaultIn t MAX_SESSION priority stream (Plan fault)
marked_fault t after fault priority stream groups all kept told judged =
    let h = kept_all after priority stream groups all kept in (
      all.cuttable.0,
      told,
      fault_is t MAX_SESSION priority stream groups (Some fault) all
          (judged priority (cuts_in_groups (cut_groups priority stream)) h.has_tables),
    )
