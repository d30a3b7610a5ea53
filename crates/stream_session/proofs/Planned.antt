-- From the tables that are kept to what the pieces have.
use Rattle.std.proofs.Common.{◌≡◌, ◌≢◌, ℕ, suc, ◌<◌, ◌≤◌, true, false, nat_lt, position, List, [], ◌∷◌, ◌++◌, length, map, Option, Some, None}
use Rattle.std.proofs.Common.{is_some, refl, sym, ◌∙◌, ap, subst, arith, inl, inr, append-nil, append_assoc}
use Rattle.std.specs.Prelude.{All}
use Rattle.std.proofs.lemmas.Bool.{both_ways, le-ltb, lt-ltb}
use Rattle.pet_base.specs.declared.limits.TheConstants.{MAX_GROUPS}
use Rattle.mpeg_scan.specs.declared.piece.Piece.{Piece}
use Rattle.priority_file.specs.Priority.{Priorities, layer_of}
use Rattle.layer_split.specs.declared.fault.SplitFault.{SplitFault}
use Rattle.layer_split.specs.declared.splitter.Splitter.{Splitter}
use Rattle.layer_split.specs.Groups.{groups_of}
use Rattle.layer_split.specs.Layers.{Cut}
use Rattle.layer_split.specs.Faults.{is_too_long, fault_of}
use Rattle.layer_split.specs.Splitting.{HasAdded, cuts_of, cuts_in}
use Rattle.stream_session.specs.declared.fault.SessionFault.{SessionFault}
use Rattle.stream_session.specs.declared.group_tables.GroupTables.{GroupTables}
use Rattle.stream_session.specs.declared.planner.Planner.{Planner}
use Rattle.stream_session.specs.declared.fault.SessionFault.TheVariants.{ManyPackets}
use Rattle.stream_session.specs.Tables.{tables_of_in, IsFit}
use Rattle.stream_session.specs.Refusals.{group_cost_in, first_above, large_fault, size_fault, long_fault}
use Rattle.stream_session.specs.Refusals.{fault_after, fault_of_cuts_in, session_fault_in, many_fault}
use Rattle.stream_session.specs.Refusals.{is_long_in, is_wide_in}
use Rattle.stream_session.specs.laws.FitLaws.{all_fit, all_short, many_on, many_off}
use Rattle.stream_session.specs.Planning.{AreOf, HasPlanned, HasTables, IsLive}
use Rattle.packet_frame.specs.declared.format.Format.{Format}
use Rattle.stripe_plan.specs.Sizes.{Sizes}
use Rattle.stream_session.specs.declared.needs.LayerNeeds.{LayerNeeds}
use Rattle.stream_session.specs.inside.Planning.{HasRefused, KeepsRest, table_cost}

some_not_none : {A : Type 0} (x : A) → Some x ≡ None → ⊥
some_not_none x e = cc

-- each cut is that of a group that is not too long
abbrev IsShort : Priorities → List Piece → Type 0
IsShort priority group = is_too_long (layer_of priority) (length priority.layers) group ≡ false

pub behind : {A : Type 0} (Fact : A → Type 0) (front rest : List A) → All Fact (front ++ rest) → All Fact rest
behind Fact [] rest h = h
behind Fact (x ∷ front) rest h = behind Fact front rest (λ k d lt. h (suc k) d (omega arith))

last_fits : (priority : Priorities) (cuts more : List Cut) (groups : List (List Piece))
    → cuts ++ more ≡ cuts_of priority groups → All (IsShort priority) groups → All (IsFit priority) more
last_fits priority cuts more groups e h =
    behind (IsFit priority) cuts more (subst (All (IsFit priority)) (sym e) (all_fit priority groups h))

cuts_length : (priority : Priorities) (groups : List (List Piece)) → length (cuts_of priority groups) ≡ length groups
cuts_length priority [] = refl
cuts_length priority (group ∷ groups) = ap suc (cuts_length priority groups)

few_cuts : (splitter : Splitter) (priority : Priorities) (pieces : List Piece) (cuts : List Cut)
    → HasAdded splitter priority pieces cuts → length cuts < MAX_GROUPS
few_cuts splitter priority pieces cuts h =
    let count : length cuts ≡ length h.gone = ap length h.cut ∙ cuts_length priority h.gone in
    let few = h.few in
    omega arith

-- the costs of the tables are those of the cuts
costs_same : (t : Format) (priority : Priorities) (cuts : List Cut)
    → map (table_cost t.word) (tables_of_in t priority cuts) ≡ map (group_cost_in t priority) cuts
costs_same t priority [] = refl
costs_same t priority (cut ∷ cuts) = ap (λ ns. group_cost_in t priority cut ∷ ns) (costs_same t priority cuts)

-- where no cut is too long and none too wide, the tables tell which is too large
pub judged_large : (t : Format) (limit : ℕ) (priority : Priorities) (cuts : List Cut) (tables : List Sizes)
    (large : Option ℕ) → position (is_long_in t priority) cuts ≡ None → position (is_wide_in t priority) cuts ≡ None
    → tables ≡ tables_of_in t priority cuts → large ≡ first_above limit 0 (map (table_cost t.word) tables)
    → fault_of_cuts_in t limit priority cuts ≡ large_fault large
judged_large t limit priority cuts tables large short narrow is found =
    let costs = first_above limit 0 (map (group_cost_in t priority) cuts) in
    ap (λ o. long_fault o (size_fault (position (is_wide_in t priority) cuts) costs)) short
    ∙ ap (λ o. size_fault o costs) narrow
    ∙ sym (ap large_fault
    (found ∙ ap (first_above limit 0) (ap (map (table_cost t.word)) is ∙ costs_same t priority cuts)))

-- whether a format allows the packets of a priority whose needs these are
pub allowed_by : (t : Format) (held : LayerNeeds) (priority : Priorities) → AreOf held priority
    → held.packets ≤ t.bounds.packets → nat_lt t.bounds.packets priority.packets ≡ false
allowed_by t held priority are few = le-ltb t.bounds.packets priority.packets (omega (arith, are.packets, few))

pub many_by : (t : Format) (held : LayerNeeds) (priority : Priorities) (fault : SessionFault)
    (later : Option SessionFault) → AreOf held priority
    → (t.bounds.packets < held.packets) × (fault ≡ ManyPackets held.packets)
    → many_fault t priority later ≡ Some fault
many_by t held priority fault later are is =
    many_on t priority later (lt-ltb t.bounds.packets priority.packets (omega (arith, are.packets, is.0)))
    ∙ sym (ap (λ (f : SessionFault). Some f) (is.1 ∙ ap (λ n. ManyPackets n) are.packets))

-- what the groups and the cuts say of the pieces, where a format allows as many packets
pub fault_refused : (t : Format) (limit : ℕ) (priority : Priorities) (pieces : List Piece) (fault : SplitFault)
    (o : Option SessionFault) → nat_lt t.bounds.packets priority.packets ≡ false
    → fault_of (layer_of priority) (length priority.layers) (groups_of pieces) ≡ Some fault
    → ((later : Option SessionFault) → fault_after (Some fault) later ≡ o) → session_fault_in t limit priority pieces ≡ o
unfolding session_fault_in
fault_refused t limit priority pieces fault o few is after =
    many_off t priority _ few
    ∙ ap (λ f. fault_after f (fault_of_cuts_in t limit priority (cuts_of priority (groups_of pieces)))) is
    ∙ after (fault_of_cuts_in t limit priority (cuts_of priority (groups_of pieces)))

-- or more than that, where it does not
pub fault_many : (t : Format) (limit : ℕ) (held : LayerNeeds) (priority : Priorities) (pieces : List Piece)
    (fault : SessionFault) → AreOf held priority
    → (t.bounds.packets < held.packets) × (fault ≡ ManyPackets held.packets)
    → session_fault_in t limit priority pieces ≡ Some fault
unfolding session_fault_in
fault_many t limit held priority pieces fault are is = many_by t held priority fault _ are is

pub fault_judged : (t : Format) (limit : ℕ) (priority : Priorities) (pieces : List Piece) (cuts : List Cut)
    (o : Option SessionFault)
    → fault_of (layer_of priority) (length priority.layers) (groups_of pieces) ≡ None
    → cuts ≡ cuts_of priority (groups_of pieces)
    → many_fault t priority (fault_of_cuts_in t limit priority cuts) ≡ o
    → session_fault_in t limit priority pieces ≡ o
unfolding session_fault_in
fault_judged t limit priority pieces cuts o none is judged =
    ap (λ f. many_fault t priority
    (fault_after f (fault_of_cuts_in t limit priority (cuts_of priority (groups_of pieces))))) none
    ∙ (ap (λ cs. many_fault t priority (fault_of_cuts_in t limit priority cs)) (sym is) ∙ judged)

-- a piece more
abbrev Adds : Splitter → Splitter → Piece → Option Cut → Type 0
Adds old new piece cut =
    (priority : Priorities) (pieces : List Piece) (cuts : List Cut) → HasAdded old priority pieces cuts
    → HasAdded new priority (pieces ++ piece ∷ []) (cuts ++ cuts_in cut)

abbrev Keeps : GroupTables → GroupTables → Option Cut → Type 0
Keeps old new cut =
    (priority : Priorities) (cuts : List Cut) → length cuts < MAX_GROUPS → All (IsFit priority) (cuts_in cut)
    → HasTables old priority cuts → HasTables new priority (cuts ++ cuts_in cut)

pub keeps_some : (old new : GroupTables) (told : Option Cut) (cut : Cut) → told ≡ Some cut
    → ((priority : Priorities) (cuts : List Cut) → length cuts < MAX_GROUPS → IsFit priority cut
    → HasTables old priority cuts → HasTables new priority (cuts ++ cut ∷ [])) → Keeps old new told
keeps_some old new told cut is one =
    subst (Keeps old new) (sym is) (λ priority cuts few fit h. one priority cuts few (fit 0 cut (omega arith)) h)

pub stays_live : (old new : Planner) (splitter : Splitter) (piece : Piece) (cut : Option Cut)
    → is_some old.refused ≡ false → Adds old.splitter splitter piece cut
    → KeepsRest (record old { splitter = splitter }) new → Keeps old.tables new.tables cut
    → (priority : Priorities) (pieces : List Piece) → HasPlanned old priority pieces
    → HasPlanned new priority (pieces ++ piece ∷ [])
stays_live old new splitter piece cut live adds rest keeps priority pieces (inr h) =
    absurd (both_ways (is_some old.refused) live h.some)
stays_live old new splitter piece cut live adds rest keeps priority pieces (inl h) =
    let added = adds priority pieces h.cuts h.added in
    let fit = last_fits priority h.cuts (cuts_in cut) added.gone added.cut added.fit in
    inl (record {
      cuts = h.cuts ++ cuts_in cut;
      none = rest.refused ∙ h.none;
      added = subst (λ s. HasAdded s priority (pieces ++ piece ∷ []) (h.cuts ++ cuts_in cut)) (sym rest.splitter) added;
      kept = keeps priority h.cuts (few_cuts old.splitter priority pieces h.cuts h.added) fit h.kept;
    })

pub becomes_refused : (old new : Planner) (piece : Piece) (fault : SplitFault) → is_some old.refused ≡ false
    → HasRefused new fault → new.tables.needs ≡ old.tables.needs
    → ((priority : Priorities) (pieces : List Piece) (cuts : List Cut) → HasAdded old.splitter priority pieces cuts
    → (later : List Piece)
    → fault_of (layer_of priority) (length priority.layers) (groups_of (pieces ++ piece ∷ later)) ≡ Some fault)
    → (priority : Priorities) (pieces : List Piece) → HasPlanned old priority pieces
    → HasPlanned new priority (pieces ++ piece ∷ [])
becomes_refused old new piece fault live refused same is priority pieces (inr h) =
    absurd (both_ways (is_some old.refused) live h.some)
becomes_refused old new piece fault live refused same is priority pieces (inl h) =
    let fault_in : List Piece → Option SplitFault =
    λ ps. fault_of (layer_of priority) (length priority.layers) (groups_of ps) in
    inr (record {
      needs = subst (λ (n : LayerNeeds). AreOf n priority) (sym same) h.kept.needs;
      some = refused.some;
      fault = λ later rest.
          ap (λ ps. fault_after (fault_in ps) rest) (append_assoc pieces (piece ∷ []) later)
          ∙ ap (λ f. fault_after f rest) (is priority pieces h.cuts h.added later) ∙ refused.after rest;
    })

-- a planner that has refused stays so
pub still_refused : (planner : Planner) (piece : Piece) → is_some planner.refused ≡ true → (priority : Priorities)
    (pieces : List Piece) → HasPlanned planner priority pieces → HasPlanned planner priority (pieces ++ piece ∷ [])
still_refused planner piece some priority pieces (inl h) =
    absurd (both_ways (is_some planner.refused) (ap is_some h.none) some)
still_refused planner piece some priority pieces (inr h) =
    let fault_in : List Piece → Option SplitFault =
    λ ps. fault_of (layer_of priority) (length priority.layers) (groups_of ps) in
    inr (record {
      needs = h.needs;
      some = h.some;
      fault = λ later rest.
          ap (λ ps. fault_after (fault_in ps) rest) (append_assoc pieces (piece ∷ []) later)
          ∙ h.fault (piece ∷ later) rest;
    })

-- what a planner was given tells what its priority needs
pub needs_planned : (planner : Planner) (priority : Priorities) (pieces : List Piece)
    → HasPlanned planner priority pieces → AreOf planner.tables.needs priority
needs_planned planner priority pieces (inl h) = h.kept.needs
needs_planned planner priority pieces (inr h) = h.needs

-- the end
pub ends_refused : (t : Format) (limit : ℕ) (planner : Planner) (fault : SessionFault) → planner.refused ≡ Some fault
    → (priority : Priorities) (pieces : List Piece) → nat_lt t.bounds.packets priority.packets ≡ false
    → HasPlanned planner priority pieces
    → session_fault_in t limit priority pieces ≡ Some fault
unfolding session_fault_in
ends_refused t limit planner fault is priority pieces few (inl h) = absurd (some_not_none fault (sym is ∙ h.none))
ends_refused t limit planner fault is priority pieces few (inr h) =
    let rest = fault_of_cuts_in t limit priority (cuts_of priority (groups_of pieces)) in
    many_off t priority _ few
    ∙ ap (λ ps. fault_after (fault_of (layer_of priority) (length priority.layers) (groups_of ps)) rest)
    (sym (append-nil pieces)) ∙ (h.fault [] rest ∙ is)

pub live_of : (planner : Planner) (priority : Priorities) (pieces : List Piece)
    → ((fault : SessionFault) → planner.refused ≢ Some fault) → HasPlanned planner priority pieces
    → IsLive planner priority pieces
live_of planner priority pieces none (inl h) = h
live_of planner priority pieces none (inr h) = absurd (told planner.refused none h.some)
  where
    told : (o : Option SessionFault) → ((fault : SessionFault) → o ≢ Some fault) → is_some o ≡ true → ⊥
    told None none some = cc
    told (Some fault) none some = none fault refl

-- what holds for the last cut, at the end of a live planner
pub record AtEnd (planner : Planner) (cut : Option Cut) (priority : Priorities) (pieces : List Piece) : Type 0 where
  pub cuts : List Cut
  pub few : length cuts < MAX_GROUPS
  pub fit : All (IsFit priority) (cuts_in cut)
  pub kept : HasTables planner.tables priority cuts
  pub none : fault_of (layer_of priority) (length priority.layers) (groups_of pieces) ≡ None
  pub all : cuts ++ cuts_in cut ≡ cuts_of priority (groups_of pieces)

pub at_end : (planner : Planner) (cut : Option Cut) (priority : Priorities) (pieces : List Piece)
    → ((priority : Priorities) (pieces : List Piece) (cuts : List Cut) → HasAdded planner.splitter priority pieces cuts
    → (cuts ++ cuts_in cut ≡ cuts_of priority (groups_of pieces))
    × (fault_of (layer_of priority) (length priority.layers) (groups_of pieces) ≡ None))
    → IsLive planner priority pieces → AtEnd planner cut priority pieces
at_end planner cut priority pieces ends h =
    let (all, none) = ends priority pieces h.cuts h.added in
    record {
      cuts = h.cuts;
      few = few_cuts planner.splitter priority pieces h.cuts h.added;
      fit = last_fits priority h.cuts (cuts_in cut) (groups_of pieces) all (all_short priority (groups_of pieces) none);
      kept = h.kept;
      none = none;
      all = all;
    }

pub no_fault : {A : Type 0} (o : Option A) → ((x : A) → o ≢ Some x) → o ≡ None
no_fault None none = refl
no_fault (Some x) none = absurd (none x refl)
