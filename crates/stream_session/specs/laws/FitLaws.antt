-- What a stream that has a session keeps, for callers: its groups are not too many, each has a table, and their packets
-- have at most the bytes of a session. This project's own.
use Rattle.std.proofs.Common.{◌≡◌, ℕ, suc, ◌+◌, ◌≤◌, Bool, true, false, List, [], ◌∷◌, length, map, take, Option, Some}
use Rattle.std.proofs.Common.{None, position, nat_lt, refl, sym, ◌∙◌, ap, arith, inl, inr}
use Rattle.std.specs.Prelude.{All, sum, option_map}
use Rattle.std.specs.List.{position_from}
use Rattle.std.proofs.lemmas.Iterator.Adapters.{position_from-zero}
use Rattle.std.proofs.lemmas.Bool.{cond-true, cond-false, cases_Bool}
use Rattle.std.proofs.lemmas.Bool.Decides.{nat_tests}
use Rattle.std.proofs.lemmas.List.{take_all}
use Rattle.std.proofs.lemmas.List.Sums.{sum_by-cons}
use Rattle.std.proofs.lemmas.List.Elements.{All-cons, All-nil}
use Rattle.pet_base.specs.declared.limits.TheConstants.{MAX_GROUPS, MAX_LAYERS, MAX_SESSION}
use Rattle.mpeg_scan.specs.declared.piece.Piece.{Piece}
use Rattle.stripe_plan.specs.Sizes.{Sizes, IsTable, IsTableIn}
use Rattle.packet_frame.specs.declared.format.Format.{Format}
use Rattle.packet_frame.specs.declared.format.TheConstants.{FORMAT}
use Rattle.priority_file.specs.Priority.{Priorities, layer_of, is_priority}
use Rattle.layer_split.specs.declared.fault.SplitFault.{SplitFault}
use Rattle.layer_split.specs.declared.fault.SplitFault.TheVariants as split
use Rattle.layer_split.specs.Groups.{groups_of}
use Rattle.layer_split.specs.Layers.{Cut, cut_of}
use Rattle.layer_split.specs.Faults.{is_too_long, fault_of, fault_by}
use Rattle.layer_split.specs.Splitting.{cuts_of}
use Rattle.stream_session.specs.declared.fault.SessionFault.{SessionFault}
use Rattle.stream_session.specs.declared.fault.SessionFault.TheVariants.{ManyPackets}
use Rattle.stream_session.specs.Tables.{table_of, tables_of, sizes_of, IsFit}
use Rattle.stream_session.specs.Refusals.{is_wide, is_wide_in, is_long_in, cost_in, group_cost_in, first_above}
use Rattle.stream_session.specs.Refusals.{size_fault, long_fault, fault_after, many_fault}
use Rattle.stream_session.specs.Refusals.{fault_of_cuts, fault_of_cuts_in, fault_of_cuts_within, session_fault}
use Rattle.stream_session.specs.Refusals.{session_fault_in, session_fault_within}
use Rattle.stream_session.specs.laws.TableLaws.{cut_fits, is_table, is_table_in, packets_allowed, never_long}

some_not_none : {A : Type 0} (x : A) → Some x ≡ None → ⊥
some_not_none x e = cc

-- no place at which a test passes
from_none : {A : Type 0} (p : A → Bool) (i : ℕ) (xs : List A) → position_from p i xs ≡ None → All (λ x. p x ≡ false) xs
from_none p i [] e = All-nil (λ x. p x ≡ false)
from_none p i (x ∷ xs) e = elim (cases_Bool (p x)) [
  | inl t ↦ absurd (some_not_none i (sym (cond-true (p x) (Some i) (position_from p (i + 1) xs) t) ∙ e))
  | inr f ↦ All-cons (λ x. p x ≡ false) x xs f
      (from_none p (i + 1) xs (sym (cond-false (p x) (Some i) (position_from p (i + 1) xs) f) ∙ e))
]

nowhere : {A : Type 0} (p : A → Bool) (xs : List A) → position p xs ≡ None → All (λ x. p x ≡ false) xs
nowhere p xs e = from_none p 0 xs (sym (position_from-zero p xs) ∙ e)

fault_none : (o : Option ℕ) (n : ℕ) → fault_by o n ≡ None → (o ≡ None) × (n ≤ MAX_GROUPS)
fault_none (Some group) n e = absurd cc
fault_none None n e = elim (cases_Bool (nat_lt MAX_GROUPS n)) [
  | inl t ↦ absurd (some_not_none _ (sym (cond-true (nat_lt MAX_GROUPS n) _ None t) ∙ e))
  | inr f ↦ (refl, grind (arith, nat_tests))
]

-- groups that are not refused are not too long
pub all_short : (priority : Priorities) (groups : List (List Piece))
    → fault_of (layer_of priority) (length priority.layers) groups ≡ None
    → All (λ group. is_too_long (layer_of priority) (length priority.layers) group ≡ false) groups
all_short priority groups e =
    let p : List Piece → Bool = is_too_long (layer_of priority) (length priority.layers) in
    let (none, few) = fault_none (position p (take MAX_GROUPS groups)) (length groups) e in
    nowhere p groups (ap (position p) (sym (take_all MAX_GROUPS groups few)) ∙ none)

-- nor too many
pub groups_few : (priority : Priorities) (groups : List (List Piece))
    → fault_of (layer_of priority) (length priority.layers) groups ≡ None → length groups ≤ MAX_GROUPS
groups_few priority groups e =
    (fault_none (position (is_too_long (layer_of priority) (length priority.layers)) (take MAX_GROUPS groups))
    (length groups) e).1

-- and so their cuts
pub all_fit : (priority : Priorities) (groups : List (List Piece))
    → All (λ group. is_too_long (layer_of priority) (length priority.layers) group ≡ false) groups
    → All (IsFit priority) (cuts_of priority groups)
all_fit priority [] h = All-nil (IsFit priority)
all_fit priority (group ∷ groups) h =
    All-cons (IsFit priority) (cut_of (layer_of priority) (length priority.layers) group) (cuts_of priority groups)
    (cut_fits priority group (h 0 group (omega arith))) (all_fit priority groups (λ k d lt. h (suc k) d (omega arith)))

-- no cause of either sort
after_none : (fault : Option SplitFault) (later : Option SessionFault) → fault_after fault later ≡ None
    → (fault ≡ None) × (later ≡ None)
after_none None later e = (refl, e)
after_none (Some (split.GroupTooLong group)) later e = absurd cc
after_none (Some split.TooManyGroups) later e = absurd cc
after_none (Some split.NoMemory) later e = absurd cc

size_none : (wide large : Option ℕ) → size_fault wide large ≡ None → (wide ≡ None) × (large ≡ None)
size_none (Some group) large e = absurd cc
size_none None (Some group) e = absurd cc
size_none None None e = (refl, refl)

long_none : (long : Option ℕ) (later : Option SessionFault) → long_fault long later ≡ None
    → (long ≡ None) × (later ≡ None)
long_none (Some group) later e = absurd cc
long_none None later e = (refl, e)

-- more packets than a format allows come before all, and else nothing does
pub many_on : (t : Format) (priority : Priorities) (later : Option SessionFault)
    → nat_lt t.bounds.packets priority.packets ≡ true
    → many_fault t priority later ≡ Some (ManyPackets priority.packets)
many_on t priority later e =
    cond-true (nat_lt t.bounds.packets priority.packets) (Some (ManyPackets priority.packets)) later e

pub many_off : (t : Format) (priority : Priorities) (later : Option SessionFault)
    → nat_lt t.bounds.packets priority.packets ≡ false → many_fault t priority later ≡ later
many_off t priority later e =
    cond-false (nat_lt t.bounds.packets priority.packets) (Some (ManyPackets priority.packets)) later e

many_none : (t : Format) (priority : Priorities) (later : Option SessionFault) → many_fault t priority later ≡ None
    → (nat_lt t.bounds.packets priority.packets ≡ false) × (later ≡ None)
many_none t priority later e = elim (cases_Bool (nat_lt t.bounds.packets priority.packets)) [
  | inl on ↦ absurd (some_not_none (ManyPackets priority.packets) (sym (many_on t priority later on) ∙ e))
  | inr off ↦ (off, sym (many_off t priority later off) ∙ e)
]

-- no cause of any sort, in a format
pub no_cause_in : (t : Format) (limit : ℕ) (priority : Priorities) (pieces : List Piece)
    → session_fault_in t limit priority pieces ≡ None
    → (nat_lt t.bounds.packets priority.packets ≡ false)
    × (fault_of (layer_of priority) (length priority.layers) (groups_of pieces) ≡ None)
    × (fault_of_cuts_in t limit priority (cuts_of priority (groups_of pieces)) ≡ None)
unfolding session_fault_in
no_cause_in t limit priority pieces e =
    let (few, rest) = many_none t priority
    (fault_after (fault_of (layer_of priority) (length priority.layers) (groups_of pieces))
    (fault_of_cuts_in t limit priority (cuts_of priority (groups_of pieces)))) e in
    let both = after_none (fault_of (layer_of priority) (length priority.layers) (groups_of pieces))
    (fault_of_cuts_in t limit priority (cuts_of priority (groups_of pieces))) rest in
    (few, both.0, both.1)

pub no_cause_within : (limit : ℕ) (priority : Priorities) (pieces : List Piece)
    → session_fault_within limit priority pieces ≡ None
    → (fault_of (layer_of priority) (length priority.layers) (groups_of pieces) ≡ None)
    × (fault_of_cuts_within limit priority (cuts_of priority (groups_of pieces)) ≡ None)
no_cause_within limit priority pieces e =
    let none = no_cause_in FORMAT limit priority pieces e in (none.1, none.2)

-- nothing against the cuts: none is too long, none too wide, and they are not too large together
pub cuts_none : (t : Format) (limit : ℕ) (priority : Priorities) (cuts : List Cut)
    → fault_of_cuts_in t limit priority cuts ≡ None
    → (position (is_long_in t priority) cuts ≡ None) × (position (is_wide_in t priority) cuts ≡ None)
    × (first_above limit 0 (map (group_cost_in t priority) cuts) ≡ None)
cuts_none t limit priority cuts e =
    let wide = position (is_wide_in t priority) cuts in
    let large = first_above limit 0 (map (group_cost_in t priority) cuts) in
    let (long, rest) = long_none (position (is_long_in t priority) cuts) (size_fault wide large) e in
    let both = size_none wide large rest in
    (long, both.0, both.1)

pub few_groups_in : (t : Format) (limit : ℕ) (priority : Priorities) (pieces : List Piece)
    → session_fault_in t limit priority pieces ≡ None
    → length (groups_of pieces) ≤ MAX_GROUPS
few_groups_in t limit priority pieces e =
    groups_few priority (groups_of pieces) (no_cause_in t limit priority pieces e).1

pub few_groups_within : (limit : ℕ) (priority : Priorities) (pieces : List Piece)
    → session_fault_within limit priority pieces ≡ None
    → length (groups_of pieces) ≤ MAX_GROUPS
few_groups_within limit priority pieces e = few_groups_in FORMAT limit priority pieces e

-- the same of a session of the most bytes that one may have
pub no_cause : (priority : Priorities) (pieces : List Piece) → session_fault priority pieces ≡ None
    → (fault_of (layer_of priority) (length priority.layers) (groups_of pieces) ≡ None)
    × (fault_of_cuts priority (cuts_of priority (groups_of pieces)) ≡ None)
no_cause priority pieces e = no_cause_within MAX_SESSION priority pieces e

pub few_groups : (priority : Priorities) (pieces : List Piece) → session_fault priority pieces ≡ None
    → length (groups_of pieces) ≤ MAX_GROUPS
few_groups priority pieces e = few_groups_within MAX_SESSION priority pieces e

-- each group has a table
abbrev pub IsWithinBounds : Sizes → Type 0
IsWithinBounds table = IsTable table.packets table.layers

all_stand : (priority : Priorities) (cuts : List Cut) → is_priority priority ≡ true
    → length priority.layers ≤ MAX_LAYERS → All (IsFit priority) cuts → All (λ cut. is_wide priority cut ≡ false) cuts
    → All IsWithinBounds (tables_of priority cuts)
all_stand priority [] lawful few fit narrow = All-nil IsWithinBounds
all_stand priority (cut ∷ cuts) lawful few fit narrow =
    All-cons IsWithinBounds (table_of priority cut) (tables_of priority cuts)
    (is_table priority cut lawful few (fit 0 cut (omega arith)) (narrow 0 cut (omega arith)))
    (all_stand priority cuts lawful few (λ k d lt. fit (suc k) d (omega arith))
    (λ k d lt. narrow (suc k) d (omega arith)))

pub tables_stand_within : (limit : ℕ) (priority : Priorities) (pieces : List Piece) → is_priority priority ≡ true
    → length priority.layers ≤ MAX_LAYERS → session_fault_within limit priority pieces ≡ None
    → All IsWithinBounds (tables_of priority (cuts_of priority (groups_of pieces)))
tables_stand_within limit priority pieces lawful few e =
    let cuts : List Cut = cuts_of priority (groups_of pieces) in
    let (groups, sizes) = no_cause_within limit priority pieces e in
    let wide = (cuts_none FORMAT limit priority cuts sizes).1 in
    all_stand priority cuts lawful few (all_fit priority (groups_of pieces)
    (all_short priority (groups_of pieces) groups)) (nowhere (is_wide priority) cuts wide)

pub tables_stand : (priority : Priorities) (pieces : List Piece) → is_priority priority ≡ true
    → length priority.layers ≤ MAX_LAYERS → session_fault priority pieces ≡ None
    → All IsWithinBounds (tables_of priority (cuts_of priority (groups_of pieces)))
tables_stand priority pieces lawful few e = tables_stand_within MAX_SESSION priority pieces lawful few e

-- the costs together
mapped_none : (o : Option ℕ) → option_map (λ n. n + 1) o ≡ None → o ≡ None
mapped_none None e = refl
mapped_none (Some n) e = absurd cc

none_above : (limit before : ℕ) (costs : List ℕ) → before ≤ limit → first_above limit before costs ≡ None
    → before + sum costs ≤ limit
none_above limit before [] le e = let s : sum [] ≡ 0 = refl in omega arith
none_above limit before (cost ∷ costs) le e = elim (cases_Bool (nat_lt limit (before + cost))) [
  | inl t ↦ absurd (some_not_none 0 (sym (cond-true (nat_lt limit (before + cost)) (Some 0)
      (option_map (λ n. n + 1) (first_above limit (before + cost) costs)) t) ∙ e))
  | inr f ↦
      (let le : before + cost ≤ limit = grind (arith, nat_tests) in
      let later = none_above limit (before + cost) costs le
      (mapped_none (first_above limit (before + cost) costs)
      (sym (cond-false (nat_lt limit (before + cost)) (Some 0)
      (option_map (λ n. n + 1) (first_above limit (before + cost) costs)) f) ∙ e)) in
      let whole : sum (cost ∷ costs) ≡ cost + sum costs = sum_by-cons (λ (n : ℕ). n) cost costs in
      omega arith)
]

pub costs_fit_in : (t : Format) {limit : ℕ} (priority : Priorities) (pieces : List Piece)
    → session_fault_in t limit priority pieces ≡ None
    → sum (map (group_cost_in t priority) (cuts_of priority (groups_of pieces))) ≤ limit
costs_fit_in t {limit} priority pieces e =
    let cuts : List Cut = cuts_of priority (groups_of pieces) in
    let large = (cuts_none t limit priority cuts (no_cause_in t limit priority pieces e).2).2 in
    let fits = none_above limit 0 (map (group_cost_in t priority) cuts) (omega arith) large in
    omega arith

pub costs_fit : {limit : ℕ} (priority : Priorities) (pieces : List Piece)
    → session_fault_within limit priority pieces ≡ None
    → sum (map (cost_in priority) (cuts_of priority (groups_of pieces))) ≤ limit
costs_fit priority pieces e = costs_fit_in FORMAT priority pieces e

-- in a format each cut has a table
all_stand_in : (t : Format) (priority : Priorities) (cuts : List Cut) → t.bounds.layers ≡ MAX_LAYERS
    → is_priority priority ≡ true → length priority.layers ≤ MAX_LAYERS
    → nat_lt t.bounds.packets priority.packets ≡ false → All (IsFit priority) cuts
    → All (λ cut. is_long_in t priority cut ≡ false) cuts → All (λ cut. is_wide_in t priority cut ≡ false) cuts
    → All (λ cut. IsTableIn t.bounds priority.packets (sizes_of priority cut)) cuts
all_stand_in t priority [] most lawful few packets fit short narrow =
    All-nil (λ (cut : Cut). IsTableIn t.bounds priority.packets (sizes_of priority cut))
all_stand_in t priority (cut ∷ cuts) most lawful few packets fit short narrow =
    All-cons (λ (c : Cut). IsTableIn t.bounds priority.packets (sizes_of priority c)) cut cuts
    (is_table_in t priority cut most lawful few (fit 0 cut (omega arith)) packets (short 0 cut (omega arith))
    (narrow 0 cut (omega arith)))
    (all_stand_in t priority cuts most lawful few packets (λ k d lt. fit (suc k) d (omega arith))
    (λ k d lt. short (suc k) d (omega arith)) (λ k d lt. narrow (suc k) d (omega arith)))

pub tables_stand_in : (t : Format) (limit : ℕ) (priority : Priorities) (pieces : List Piece)
    → t.bounds.layers ≡ MAX_LAYERS → is_priority priority ≡ true → length priority.layers ≤ MAX_LAYERS
    → session_fault_in t limit priority pieces ≡ None
    → All (λ cut. IsTableIn t.bounds priority.packets (sizes_of priority cut)) (cuts_of priority (groups_of pieces))
tables_stand_in t limit priority pieces most lawful few e =
    let cuts : List Cut = cuts_of priority (groups_of pieces) in
    let none = no_cause_in t limit priority pieces e in
    let sizes = cuts_none t limit priority cuts none.2 in
    all_stand_in t priority cuts most lawful few none.0
    (all_fit priority (groups_of pieces) (all_short priority (groups_of pieces) none.1))
    (nowhere (is_long_in t priority) cuts sizes.0) (nowhere (is_wide_in t priority) cuts sizes.1)

-- in the format that is written today no cut that is not too long is longer than it allows
short_from : (priority : Priorities) (i : ℕ) (cuts : List Cut) → All (IsFit priority) cuts
    → position_from (is_long_in FORMAT priority) i cuts ≡ None
short_from priority i [] h = refl
short_from priority i (cut ∷ cuts) h =
    cond-false (is_long_in FORMAT priority cut) (Some i) (position_from (is_long_in FORMAT priority) (i + 1) cuts)
    (never_long priority cut (h 0 cut (omega arith)))
    ∙ short_from priority (i + 1) cuts (λ k d lt. h (suc k) d (omega arith))

all_short_today : (priority : Priorities) (cuts : List Cut) → All (IsFit priority) cuts
    → position (is_long_in FORMAT priority) cuts ≡ None
all_short_today priority cuts fit =
    position_from-zero (is_long_in FORMAT priority) cuts ∙ short_from priority 0 cuts fit

-- what refuses the cuts there
abbrev sizes_today : ℕ → Priorities → List Piece → Option SessionFault
sizes_today limit priority pieces =
    size_fault (position (is_wide priority) (cuts_of priority (groups_of pieces)))
    (first_above limit 0 (map (cost_in priority) (cuts_of priority (groups_of pieces))))

groups_today : (limit : ℕ) (priority : Priorities) (pieces : List Piece) (o : Option SplitFault)
    → fault_of (layer_of priority) (length priority.layers) (groups_of pieces) ≡ o
    → fault_after o (fault_of_cuts_in FORMAT limit priority (cuts_of priority (groups_of pieces)))
    ≡ fault_after o (sizes_today limit priority pieces)
groups_today limit priority pieces None e =
    ap (λ long. long_fault long (sizes_today limit priority pieces))
    (all_short_today priority (cuts_of priority (groups_of pieces))
    (all_fit priority (groups_of pieces) (all_short priority (groups_of pieces) e)))
groups_today limit priority pieces (Some (split.GroupTooLong group)) e = refl
groups_today limit priority pieces (Some split.TooManyGroups) e = refl
groups_today limit priority pieces (Some split.NoMemory) e = refl

-- In the format that is written today no priority has more packets than it allows, and no group that is not too long is
-- longer than it allows: a fault is one of the groups, a datagram that is too long, or a session that is too large.
pub fault_today : (limit : ℕ) (priority : Priorities) (pieces : List Piece) → is_priority priority ≡ true
    → session_fault_within limit priority pieces
    ≡ fault_after (fault_of (layer_of priority) (length priority.layers) (groups_of pieces))
    (size_fault (position (is_wide priority) (cuts_of priority (groups_of pieces)))
    (first_above limit 0 (map (cost_in priority) (cuts_of priority (groups_of pieces)))))
unfolding session_fault_in
fault_today limit priority pieces lawful =
    many_off FORMAT priority _ (packets_allowed priority lawful)
    ∙ groups_today limit priority pieces (fault_of (layer_of priority) (length priority.layers) (groups_of pieces)) refl
