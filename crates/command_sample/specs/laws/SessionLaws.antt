-- What callers know of the session of `sample`: every group is cut alike, so the stream is an accepted session with its
-- priority file, of so many groups.
use Rattle.std.proofs.Common.{◌≡◌, ℕ, zero, suc, ◌+◌, ◌*◌, ◌<◌, ◌≤◌, Bool, false, cond, List, [], ◌∷◌, length}
use Rattle.std.proofs.Common.{map, take, not, Option, None, Some, position, refl, sym, ap, subst, ◌∙◌, arith}
use Rattle.std.specs.Prelude.{All, nat_lt, option_map}
use Rattle.std.specs.List.{position_or_len}
use Rattle.std.proofs.lemmas.Bool.{cond-false, le-ltb}
use Rattle.std.proofs.lemmas.List.{length-map}
use Rattle.std.proofs.lemmas.List.Elements.{All-nil, All-cons, All-head, All-tail, All-take}
use Rattle.pet_base.specs.declared.limits.TheConstants.{MAX_GROUPS, MAX_SAMPLE_GROUPS, MAX_SESSION, MAX_DATAGRAM}
use Rattle.pet_base.specs.declared.kind.Kind.{Kind}
use Rattle.mpeg_scan.specs.declared.piece.Piece.{Piece}
use Rattle.mpeg_scan.specs.Pieces.{pieces_of}
use Rattle.stripe_plan.specs.declared.layer.LayerSize.{LayerSize}
use Rattle.stripe_plan.specs.Layers.{AllNeeded, bound_of}
use Rattle.stripe_plan.specs.Sizes.{datagram_length_of}
use Rattle.stripe_plan.proofs.PlanLemmas.{plan_ends_bound}
use Rattle.priority_file.specs.Priority.{Priorities, layer_of}
use Rattle.priority_file.specs.Refusals.{priorities_of}
use Rattle.layer_split.specs.Faults.{fault_by, fault_of, is_too_long}
use Rattle.layer_split.specs.declared.fault.SplitFault.TheVariants.{TooManyGroups}
use Rattle.layer_split.specs.Groups.{groups_of}
use Rattle.layer_split.specs.Layers.{Cut, cut_of}
use Rattle.layer_split.specs.Splitting.{cuts_of}
use Rattle.packet_session.specs.Session.{SessionGroup}
use Rattle.stream_sample.specs.SampleStream.{sample_text}
use Rattle.stream_session.specs.Accepted.{IsAcceptedSession, group_of, session_of}
use Rattle.stream_session.specs.Refusals.{session_fault_within, is_wide, cost_in, first_above, fault_after, size_fault}
use Rattle.stream_session.specs.Refusals.{large_fault}
use Rattle.stream_session.specs.laws.FitLaws.{fault_today}
use Rattle.stream_session.specs.laws.SessionOfLaws.{accepted_lawful}
use Rattle.stream_session.specs.declared.fault.SessionFault.{SessionFault}
use Rattle.stream_session.specs.Tables.{sizes_of, cuts_of_stream}
use Rattle.command_sample.specs.SamplePriority.{sample_priority}
use Rattle.command_sample.specs.laws.AcceptedLaws.{sample_accepted}
use Rattle.command_sample.specs.laws.GroupLaws.{group_from, groups_on, sample_groups}
use Rattle.command_sample.specs.laws.SamplePriorityLaws.{priorities_are, priority_accepted, sample_rules}

abbrev size : ℕ → ℕ → LayerSize
size bytes need = record { length = bytes; need = need }

-- the layers of every group
abbrev pub sample_layers : List LayerSize
sample_layers = size 20000 60 ∷ size 30000 80 ∷ size 22000 95 ∷ []

-- the cut of a group that begins at this byte
abbrev pub cut_from : ℕ → Cut
cut_from from = cut_of (layer_of sample_rules) 3 (group_from from)

pub lengths_are : (from : ℕ) → (cut_from from).lengths ≡ 20000 ∷ 30000 ∷ 22000 ∷ []
lengths_are from = refl

pub layers_are : (from : ℕ) → sizes_of sample_rules (cut_from from) ≡ sample_layers
layers_are from = refl

needed : AllNeeded sample_layers
needed =
    All-cons (λ (l : LayerSize). 0 < l.need) (size 20000 60) (size 30000 80 ∷ size 22000 95 ∷ []) (omega arith)
    (All-cons (λ (l : LayerSize). 0 < l.need) (size 30000 80) (size 22000 95 ∷ []) (omega arith)
    (All-cons (λ (l : LayerSize). 0 < l.need) (size 22000 95) [] (omega arith)
    (All-nil (λ (l : LayerSize). 0 < l.need))))

pub layers_needed : AllNeeded sample_layers
layers_needed = needed

bound : bound_of sample_layers ≡ 471
bound = refl

short : datagram_length_of sample_layers ≤ 2000
short = let few = plan_ends_bound sample_layers needed in omega (arith, few, bound)

-- ---- no cause against the session

none_passes : {A : Type 0} (p : A → Bool) (xs : List A) → All (λ x. p x ≡ false) xs → position_or_len p xs ≡ length xs
none_passes p [] none = refl
none_passes {A} p (x ∷ xs) none =
    ap (λ (b : Bool). cond (not b) (1 + position_or_len p xs) 0) (All-head (λ y. p y ≡ false) x xs none)
    ∙ ap (λ (n : ℕ). 1 + n) (none_passes p xs (All-tail (λ y. p y ≡ false) x xs none)) ∙ omega arith

no_position : {A : Type 0} (p : A → Bool) (xs : List A) → All (λ x. p x ≡ false) xs → position p xs ≡ None
no_position p xs none =
    cond-false (nat_lt (position_or_len p xs) (length xs)) (Some (position_or_len p xs)) None
    (le-ltb (position_or_len p xs) (length xs) (omega (arith, none_passes p xs none)))

-- the layer of a piece by the rules, and why a group is too long
abbrev pub layer_by : Kind → ℕ → ℕ
layer_by kind place = layer_of sample_rules kind place

fits_all : (from groups : ℕ) → All (λ group. is_too_long layer_by 3 group ≡ false) (groups_on from groups)
fits_all from zero = All-nil (λ (group : List Piece). is_too_long layer_by 3 group ≡ false)
fits_all from (suc groups) =
    All-cons (λ (group : List Piece). is_too_long layer_by 3 group ≡ false) (group_from from)
    (groups_on (from + 71961) groups) refl (fits_all (from + 71961) groups)

pub groups_many : (from groups : ℕ) → length (groups_on from groups) ≡ groups
groups_many from zero = refl
groups_many from (suc groups) = ap suc (groups_many (from + 71961) groups)

no_split_fault : (from groups : ℕ) → groups ≤ MAX_GROUPS → fault_of layer_by 3 (groups_on from groups) ≡ None
no_split_fault from groups few =
    ap (λ (o : Option ℕ). fault_by o (length (groups_on from groups)))
    (no_position (is_too_long layer_by 3) (take MAX_GROUPS (groups_on from groups))
    (All-take (λ (group : List Piece). is_too_long layer_by 3 group ≡ false) MAX_GROUPS (groups_on from groups)
    (fits_all from groups)))
    ∙ ap (λ (b : Bool). cond b (Some TooManyGroups) None)
    (le-ltb MAX_GROUPS (length (groups_on from groups)) (omega (arith, few, groups_many from groups)))

-- the cuts of so many groups
abbrev pub cuts_on : ℕ → ℕ → List Cut
cuts_on from groups = map (cut_of layer_by 3) (groups_on from groups)

narrow_all : (from groups : ℕ) → All (λ cut. is_wide sample_rules cut ≡ false) (cuts_on from groups)
narrow_all from zero = All-nil (λ (cut : Cut). is_wide sample_rules cut ≡ false)
narrow_all from (suc groups) =
    All-cons (λ (cut : Cut). is_wide sample_rules cut ≡ false) (cut_from from) (cuts_on (from + 71961) groups)
    (le-ltb MAX_DATAGRAM (datagram_length_of sample_layers) (omega (arith, short)))
    (narrow_all (from + 71961) groups)

abbrev group_cost : ℕ
group_cost = 100 * datagram_length_of sample_layers

none_above : (before from groups : ℕ) → before + groups * 200000 ≤ MAX_SESSION
    → first_above MAX_SESSION before (map (cost_in sample_rules) (cuts_on from groups)) ≡ None
none_above before from zero room = refl
none_above before from (suc groups) room =
    let later : List ℕ = map (cost_in sample_rules) (cuts_on (from + 71961) groups) in
    cond-false (nat_lt MAX_SESSION (before + group_cost)) (Some 0)
    (option_map (λ n. n + 1) (first_above MAX_SESSION (before + group_cost) later))
    (le-ltb MAX_SESSION (before + group_cost) (omega (arith, room, short)))
    ∙ ap (option_map (λ n. n + 1)) (none_above (before + group_cost) (from + 71961) groups (omega (arith, room, short)))

-- what refuses these cuts
abbrev sizes_fault : Priorities → List Cut → Option SessionFault
sizes_fault priority cuts =
    size_fault (position (is_wide priority) cuts) (first_above MAX_SESSION 0 (map (cost_in priority) cuts))

no_fault : (from groups : ℕ) → groups ≤ MAX_SAMPLE_GROUPS
    → fault_after (fault_of layer_by 3 (groups_on from groups))
    (sizes_fault sample_rules (cuts_on from groups)) ≡ None
no_fault from groups few =
    ap (λ o. fault_after o (sizes_fault sample_rules (cuts_on from groups)))
    (no_split_fault from groups (omega (arith, few)))
    ∙ ap (λ (o : Option ℕ). size_fault o (first_above MAX_SESSION 0 (map (cost_in sample_rules) (cuts_on from groups))))
    (no_position (is_wide sample_rules) (cuts_on from groups) (narrow_all from groups))
    ∙ ap large_fault (none_above 0 from groups (omega (arith, few)))

abbrev fault_with : Priorities → List (List Piece) → Option SessionFault
fault_with priority groups =
    fault_after (fault_of (layer_of priority) (length priority.layers) groups)
    (sizes_fault priority (cuts_of priority groups))

sample_fits : (x groups : ℕ) → groups < MAX_SAMPLE_GROUPS
    → session_fault_within MAX_SESSION (priorities_of sample_priority) (pieces_of (sample_text x (suc groups))) ≡ None
sample_fits x groups few =
    fault_today MAX_SESSION (priorities_of sample_priority) (pieces_of (sample_text x (suc groups)))
    (accepted_lawful sample_priority priority_accepted)
    ∙ ap (λ (p : Priorities). fault_with p (groups_of (pieces_of (sample_text x (suc groups))))) priorities_are
    ∙ ap (fault_with sample_rules) (sample_groups x groups) ∙ no_fault 0 (suc groups) (omega (arith, few))

-- for callers: of one group more
pub sample_is_session : (x groups : ℕ) → groups < MAX_SAMPLE_GROUPS
    → IsAcceptedSession sample_priority (sample_text x (suc groups))
sample_is_session x groups few = record {
  priority_read = priority_accepted;
  stream_read = sample_accepted x groups few;
  fits = sample_fits x groups few;
}

-- ---- the groups of the session

pub cuts_are : (x groups : ℕ)
    → cuts_of_stream (priorities_of sample_priority) (sample_text x (suc groups)) ≡ cuts_on 0 (suc groups)
cuts_are x groups =
    ap (λ (p : Priorities). cuts_of_stream p (sample_text x (suc groups))) priorities_are
    ∙ ap (cuts_of sample_rules) (sample_groups x groups)

-- the groups of a session with this stream, cut so
abbrev pub groups_with : List ℕ → List Cut → List SessionGroup
groups_with stream cuts = map (group_of sample_rules stream) cuts

pub groups_are : (x groups : ℕ)
    → (session_of sample_priority (sample_text x (suc groups))).groups
    ≡ groups_with (sample_text x (suc groups)) (cuts_on 0 (suc groups))
groups_are x groups =
    ap (λ (p : Priorities). map (group_of p (sample_text x (suc groups))) (cuts_of_stream p (sample_text x (suc groups))))
    priorities_are
    ∙ ap (λ (cuts : List (List Piece)). groups_with (sample_text x (suc groups)) (cuts_of sample_rules cuts))
    (sample_groups x groups)

-- a group with 100 packets, and these layers
pub record IsLikeAll (g : SessionGroup) : Type 0 where
  pub packets : g.packets ≡ 100
  pub layers : g.layers ≡ sample_layers

alike : (stream : List ℕ) (from groups : ℕ) → All IsLikeAll (groups_with stream (cuts_on from groups))
alike stream from zero = All-nil IsLikeAll
alike stream from (suc groups) =
    All-cons IsLikeAll (group_of sample_rules stream (cut_from from))
    (groups_with stream (cuts_on (from + 71961) groups)) (record { packets = refl; layers = refl })
    (alike stream (from + 71961) groups)

-- for callers: all groups are so, and how many they are
pub groups_alike : (x groups : ℕ)
    → All IsLikeAll (session_of sample_priority (sample_text x (suc groups))).groups
groups_alike x groups =
    subst (All IsLikeAll) (sym (groups_are x groups)) (alike (sample_text x (suc groups)) 0 (suc groups))

pub groups_count : (x groups : ℕ)
    → length (session_of sample_priority (sample_text x (suc groups))).groups ≡ suc groups
groups_count x groups =
    ap (λ (gs : List SessionGroup). length gs) (groups_are x groups)
    ∙ length-map (cuts_on 0 (suc groups)) (group_of sample_rules (sample_text x (suc groups)))
    ∙ length-map (groups_on 0 (suc groups)) (cut_of layer_by 3) ∙ groups_many 0 (suc groups)
