-- A receiver after one frame more, and the verdict of a frame step by step.
use Rattle.std.specs.Prelude.{is_some, is_none, not, if◌then◌else◌, nat_lt, filter, option_map, option_and_then}
use Rattle.std.specs.Prelude.{MatchOption}
use Rattle.std.proofs.Common.{◌≡◌, ◌≢◌, ℕ, ◌+◌, ◌<◌, ◌≤◌, ◌==◌, cond, Bool, true, false, ◌&&◌, ◌||◌, List, [], ◌∷◌}
use Rattle.std.proofs.Common.{◌++◌, length, All, Option, None, Some, nat_cmp, get_or, map, unwrap_or, refl, sym, ap}
use Rattle.std.proofs.Common.{ap₂, ◌∙◌, arith, subst, inl, inr}
use Rattle.std.specs.Str.{bytes_eq}
use Rattle.std.specs.List.{list_any, slice_get}
use Rattle.std.specs.Option.{option_map_or}
use Rattle.std.specs.Map.{lookup, keys_of}
use Rattle.std.specs.List.Sorted.{IsStrictlySortedBy}
use Rattle.std.specs.BTreeMap.{is_at, insert_entry}
use Rattle.std.proofs.lemmas.Bool.{cases_eq, eq-eqb, ne_eqb}
use Rattle.std.proofs.lemmas.Option.{same_Some}
use Rattle.std.proofs.lemmas.List.{map-append, append-nil}
use Rattle.std.proofs.lemmas.List.Elements.{filter-append, All-head}
use Rattle.std.proofs.lemmas.List.Folds.{list_any_none}
use Rattle.field_elements.specs.Field.{Coding}
use Rattle.stripe_plan.specs.Same.{same_table}
use Rattle.packet_frame.specs.Frame.{Fields, IsFrameBy}
use Rattle.packet_frame.specs.declared.frame.Header.{Header}
use Rattle.packet_set.specs.Packets.{Packets, slot_at, with_packet, count_in, no_packets_of}
use Rattle.stripe_plan.specs.Sizes.{cost_by}
use Rattle.packet_verdicts.specs.declared.verdict.Verdict.{Verdict}
use Rattle.packet_verdicts.specs.declared.verdict.Verdict.TheVariants.{Foreign, Clash, Repeated, Full, Kept}
use Rattle.packet_verdicts.specs.KeptSet.{KeptSet, IsKeptSetBy, open_group, payload_of, count_kept, cost_kept}
use Rattle.packet_verdicts.specs.KeptSet.{header_of, group_with_by, keep_by, told_by}
use Rattle.packet_verdicts.specs.Verdicts.{tells_other_count, clashes, is_too_much_by, newly_shown, frame_verdict_by}
use Rattle.packet_verdicts.specs.Verdicts.{layer_set, shown_between, is_kept}
use Rattle.packet_receiver.specs.Arrivals.{GroupState, ReceiverState, Order, HoldsAfter, HasKept, kept_set, state_of}
use Rattle.packet_receiver.specs.Arrivals.{numbers_of}
use Rattle.packet_verdicts.specs.GroupVerdict.{verdict_at, verdict_in}
use Rattle.packet_receiver.specs.Receiving.{IsReceiver}
use Rattle.packet_receiver.proofs.Fields.{same_by, other_by}
use Rattle.packet_receiver.specs.inside.Receiving.{IsReadyFor, HasGrown, verdict_new, verdict_by}
use Rattle.packet_verdicts.specs.laws.EntryLaws.{lookup_here, lookup_other, lookup_values, insert_values, all_found}
use Rattle.packet_verdicts.specs.laws.ToldLaws.{open_tells}
use Rattle.packet_verdicts.specs.laws.KeptSetLaws.{IsKeepableBy, keepable, keep_sound, open_here_by, header_with}
use Rattle.packet_verdicts.specs.laws.KeptSetLaws.{cost_opened, cost_same, same_header}

any_by : {A : Type 0} (test : A → Bool) (x : A) (xs : List A) (b : Bool) → All (λ t. test t ≡ b) (x ∷ xs)
    → list_any test (x ∷ xs) ≡ b
any_by test x xs true h = ap (λ a. a || list_any test xs) (All-head (λ t. test t ≡ true) x xs h)
any_by test x xs false h = list_any_none test (x ∷ xs) h

count_by_first : {word : ℕ} (set : KeptSet) → IsKeptSetBy word set → (f : Fields) (es : List (ℕ × Packets))
    → set.groups ≡ es
    → list_any (λ (e : ℕ × Packets). not (e.1.header.groups == f.groups)) es
    ≡ option_map_or (λ n. not (n == f.groups))
    (option_map (λ (e : ℕ × Packets). e.1.header.groups) (slice_get es 0)) false
count_by_first set sound f [] is = refl
count_by_first set sound f (e ∷ es) is =
    let rises = subst (λ (xs : List (ℕ × Packets)). IsStrictlySortedBy nat_cmp (keys_of xs)) is sound.rising in
    let found : (i : ℕ) (d : ℕ × Packets) → i < length (e ∷ es)
    → open_group set (get_or (e ∷ es) i d).0 ≡ Some (get_or (e ∷ es) i d).1 =
    λ i d l. subst (λ (xs : List (ℕ × Packets)). lookup (is_at (nat_cmp (get_or (e ∷ es) i d).0)) xs
    ≡ Some (get_or (e ∷ es) i d).1) (sym is) (all_found (e ∷ es) rises i d l) in
    any_by (λ (t : ℕ × Packets). not (t.1.header.groups == f.groups)) e es (not (e.1.header.groups == f.groups))
    (λ i d l. ap (λ n. not (n == f.groups))
    (sound.one_count (get_or (e ∷ es) i d).0 e.0 (get_or (e ∷ es) i d).1 e.1 (found i d l) (found 0 e (omega arith))))

pub count_told : {word : ℕ} (set : KeptSet) → IsKeptSetBy word set → (f : Fields)
    → tells_other_count set f ≡ option_map_or (λ n. not (n == f.groups)) (told_by set) false
count_told set sound f = count_by_first set sound f set.groups refl

-- ---- the verdict, step by step

pub is_foreign : (word : ℕ) (set : KeptSet) (f : Fields) → bytes_eq f.session set.session ≡ false
    → frame_verdict_by word set f ≡ Foreign
unfolding frame_verdict_by
is_foreign word set f e =
    ap (λ b. if not b then Foreign else if clashes set f then Clash else if is_some
    (payload_of set f.group f.number) then Repeated else if is_too_much_by word set f then Full else Kept
    (layer_set (newly_shown set f))) e

-- what is left of the verdict where the session is the receiver's and the number of groups is the one told
rest_of : ℕ → KeptSet → Fields → Bool → Option Packets → Verdict
rest_of word set f other p =
    if other || option_map_or (λ (q : Packets). not (same_table q.header.table (header_of f).table)) p false ||
    option_map_or (λ payload. not (bytes_eq payload f.payload))
    (option_and_then (λ (q : Packets). slot_at q f.number) p) false then Clash
    else if is_some (option_and_then (λ (q : Packets). slot_at q f.number) p) then Repeated
    else if is_none p && nat_lt set.limit (cost_kept set + cost_by word f.packets f.layers) then Full
    else Kept (layer_set
    (shown_between f.layers (unwrap_or (option_map count_in p) 0) (unwrap_or (option_map count_in p) 0 + 1)))

is_rest : (word : ℕ) (set : KeptSet) (f : Fields) → bytes_eq f.session set.session ≡ true
    → frame_verdict_by word set f ≡ rest_of word set f (tells_other_count set f) (open_group set f.group)
unfolding frame_verdict_by rest_of
is_rest word set f e =
    ap (λ b. if not b then Foreign else if clashes set f then Clash else if is_some
    (payload_of set f.group f.number) then Repeated else if is_too_much_by word set f then Full else Kept
    (layer_set (newly_shown set f))) e

rest_clash : (word : ℕ) (set : KeptSet) (f : Fields) (p : Option Packets) → rest_of word set f true p ≡ Clash
unfolding rest_of
rest_clash word set f p = refl

rest_none : (word : ℕ) (set : KeptSet) (f : Fields)
    → rest_of word set f false None ≡ verdict_new word f set.limit (cost_kept set)
unfolding rest_of
rest_none word set f = refl

rest_some_by : (f : Fields) (same : Bool) (slot : Option (List ℕ)) (n : ℕ)
    → (if not same || option_map_or (λ payload. not (bytes_eq payload f.payload)) slot false then Clash else if is_some
    slot then Repeated else Kept (layer_set (shown_between f.layers n (n + 1))))
    ≡ (if not same then Clash else verdict_at f n slot)
rest_some_by f false slot n = refl
rest_some_by f true None n = refl
rest_some_by f true (Some payload) n = by (bytes_eq payload f.payload)
  where
    by : (b : Bool) → (if not b then Clash else Repeated) ≡ (if b then Repeated else Clash)
    by true = refl
    by false = refl

rest_some : (word : ℕ) (set : KeptSet) (f : Fields) (p : Packets) → rest_of word set f false (Some p) ≡ verdict_in f p
unfolding rest_of
rest_some word set f p =
    rest_some_by f (same_table p.header.table (header_of f).table) (slot_at p f.number) (count_in p)

pub is_clash : (word : ℕ) (set : KeptSet) (f : Fields) → bytes_eq f.session set.session ≡ true
    → tells_other_count set f ≡ true → frame_verdict_by word set f ≡ Clash
is_clash word set f e t =
    is_rest word set f e ∙ ap (λ b. rest_of word set f b (open_group set f.group)) t
    ∙ rest_clash word set f (open_group set f.group)

is_new : (word : ℕ) (set : KeptSet) (f : Fields) → bytes_eq f.session set.session ≡ true
    → tells_other_count set f ≡ false → open_group set f.group ≡ None
    → frame_verdict_by word set f ≡ verdict_new word f set.limit (cost_kept set)
is_new word set f e t none = is_rest word set f e ∙ ap₂ (λ b p. rest_of word set f b p) t none ∙ rest_none word set f

is_in : (word : ℕ) (set : KeptSet) (f : Fields) (p : Packets) → bytes_eq f.session set.session ≡ true
    → tells_other_count set f ≡ false → open_group set f.group ≡ Some p → frame_verdict_by word set f ≡ verdict_in f p
is_in word set f p e t opened =
    is_rest word set f e ∙ ap₂ (λ b o. rest_of word set f b o) t opened ∙ rest_some word set f p

-- by what is kept of the frame's group
pub is_by : (word : ℕ) (set : KeptSet) (f : Fields) → bytes_eq f.session set.session ≡ true
    → tells_other_count set f ≡ false → (o : Option Packets) → open_group set f.group ≡ o
    → frame_verdict_by word set f ≡ verdict_by word f o set.limit (cost_kept set)
is_by word set f same told None closed = is_new word set f same told closed
is_by word set f same told (Some p) opened = is_in word set f p same told opened

-- the steps of the verdict by the fields, at the receiver as it is seen
module _ {E : Type 0} {r v : ReceiverState E} (is : r ≡ v) (word : ℕ) (f : Fields) (foreign : Bool)
    (is_other : foreign ≡ not (bytes_eq f.session r.session)) where
  verdict_of : (x : Verdict) → frame_verdict_by word (kept_set r) f ≡ x → x ≡ frame_verdict_by word (kept_set v) f
  verdict_of x e = sym e ∙ ap (λ (t : ReceiverState E). frame_verdict_by word (kept_set t) f) is

  pub foreign_seen : foreign ≡ true → Foreign ≡ frame_verdict_by word (kept_set v) f
  foreign_seen e =
      verdict_of Foreign (is_foreign word (kept_set r) f (other_by foreign (bytes_eq f.session r.session) is_other e))

  module _ (mine : foreign ≡ false) (sound : IsKeptSetBy word (kept_set r)) (told : Option ℕ)
      (told_is : told ≡ told_by (kept_set r)) (clash : Bool)
      (counts : clash ≡ option_map_or (λ n. not (n == f.groups)) told false) where
    same : bytes_eq f.session r.session ≡ true
    same = same_by foreign (bytes_eq f.session r.session) is_other mine

    tells : tells_other_count (kept_set r) f ≡ clash
    tells =
        count_told (kept_set r) sound f
        ∙ ap (λ o. option_map_or (λ n. not (n == f.groups)) o false) (sym told_is) ∙ sym counts

    pub clash_seen : clash ≡ true → Clash ≡ frame_verdict_by word (kept_set v) f
    clash_seen e = verdict_of Clash (is_clash word (kept_set r) f same (tells ∙ e))

    pub verdict_seen : clash ≡ false → (o : Option Packets) → o ≡ open_group (kept_set r) f.group
        → verdict_by word f o r.limit (cost_kept (kept_set r)) ≡ frame_verdict_by word (kept_set v) f
    verdict_seen e o opened =
        verdict_of (verdict_by word f o r.limit (cost_kept (kept_set r)))
        (is_by word (kept_set r) f same (tells ∙ e) o (sym opened))

-- ---- one pair more in an order

numbers_by : (order : Order) (group number at : ℕ) (b : Bool) → (group == at) ≡ b
    → numbers_of (order ++ ((group, number) ∷ [])) at ≡ numbers_of order at ++ cond b (number ∷ []) []
numbers_by order group number at b e =
    let test : ℕ × ℕ → Bool = λ p. p.0 == at in
    let second : ℕ × ℕ → ℕ = λ p. p.1 in
    ap (map second) (filter-append test order ((group, number) ∷ []))
    ∙ map-append second (filter test order) (cond (group == at) ((group, number) ∷ []) [])
    ∙ ap (λ t. numbers_of order at ++ t) (ap (λ t. map second (cond t ((group, number) ∷ []) [])) e ∙ last b)
  where
    last : (b : Bool) → map (λ (p : ℕ × ℕ). p.1) (cond b ((group, number) ∷ []) []) ≡ cond b (number ∷ []) []
    last true = refl
    last false = refl

pub numbers_here : (order : Order) (group number : ℕ)
    → numbers_of (order ++ ((group, number) ∷ [])) group ≡ numbers_of order group ++ (number ∷ [])
numbers_here order group number = numbers_by order group number group true (eq-eqb group group refl)

pub numbers_other : (order : Order) (group number at : ℕ) → group ≢ at
    → numbers_of (order ++ ((group, number) ∷ [])) at ≡ numbers_of order at
numbers_other order group number at ne =
    numbers_by order group number at false (ne_eqb group at ne) ∙ append-nil (numbers_of order at)

-- ---- the receiver

pub found_in : {E : Type 0} (r : ReceiverState E) (group : ℕ)
    → open_group (kept_set r) group ≡ option_map (λ (g : GroupState E). g.packets) (state_of r group)
found_in r group = lookup_values (λ (g : GroupState _). g.packets) (is_at (nat_cmp group)) r.groups

count_through : {E : Type 0} (o : Option (GroupState E))
    → unwrap_or (option_map (λ (g : GroupState E). count_in g.packets) o) 0
    ≡ unwrap_or (option_map count_in (option_map (λ (g : GroupState E). g.packets) o)) 0
count_through None = refl
count_through (Some g) = refl

pub count_is : {E : Type 0} (r : ReceiverState E) (group : ℕ)
    → unwrap_or (option_map (λ (g : GroupState E). count_in g.packets) (state_of r group)) 0
    ≡ count_kept (kept_set r) group
count_is r group =
    let count : Option Packets → ℕ = λ o. unwrap_or (option_map count_in o) 0 in
    count_through (state_of r group) ∙ ap count (sym (found_in r group))

-- ---- a group that is found by the fields, at the receiver as it is seen

module _ {E : Type 0} {r v : ReceiverState E} (is : r ≡ v) (group : ℕ) where
  found_seen : (o : Option (GroupState E)) → o ≡ state_of r group
      → open_group (kept_set v) group ≡ option_map (λ (g : GroupState E). g.packets) o
  found_seen o found =
      sym (ap (λ (t : ReceiverState E). open_group (kept_set t) group) is) ∙ found_in r group
      ∙ ap (option_map (λ (g : GroupState E). g.packets)) (sym found)

  pub closed_seen : None ≡ state_of r group → open_group (kept_set v) group ≡ None
  closed_seen found = found_seen None found

  module _ (state : GroupState E) (found : Some state ≡ state_of r group) where
    pub opened_seen : open_group (kept_set v) group ≡ Some state.packets
    opened_seen = found_seen (Some state) found

    pub packets_seen : (p : Packets) → open_group (kept_set v) group ≡ Some p → state.packets ≡ p
    packets_seen p opened = same_Some state.packets p (sym opened_seen ∙ opened)

    pub holds_seen : (P : E → Type 0) (c : Coding E) (order : Order) → HasKept P c v order
        → HoldsAfter P c state (numbers_of order group)
    holds_seen P c order kept =
        subst (λ o. MatchOption o (numbers_of order group ≡ [])
        (λ (g : GroupState E). HoldsAfter P c g (numbers_of order group))) (sym found)
        (subst (λ (t : ReceiverState E). HasKept P c t order) (sym is) kept group)

-- where a group is open, and what of it is held
pub is_some_of : {A : Type 0} (o : Option A) → is_some o ≡ true → (x : A) × (o ≡ Some x)
is_some_of None e = absurd (cc)
is_some_of (Some x) e = (x, refl)

-- a frame whose verdict is `Kept` at a receiver, where its fields say so
pub keepable_at : {E : Type 0} {word : ℕ} (r v : ReceiverState E) (f : Fields) → r ≡ v
    → is_kept (frame_verdict_by word (kept_set v) f) ≡ true → IsKeepableBy word (kept_set r) f
keepable_at {word = word} r v f is kept =
    keepable (kept_set r) f
    (subst (λ (t : ReceiverState _). is_kept (frame_verdict_by word (kept_set t) f) ≡ true) (sym is) kept)

-- what a receiver is that has kept a frame, and has these entries since
pub record HasKeptOne {E : Type 0} (P : E → Type 0) (count : ℕ) (c : Coding E) (r : ReceiverState E) (cost : ℕ)
    (f : Fields) (es : List (ℕ × GroupState E)) : Type 0 where
  pub set : kept_set (record { format = r.format; session = r.session; limit = r.limit; groups = es })
      ≡ keep_by c.width (kept_set r) f
  pub order : (order : Order) → HasKept P c r order
      → HasKept P c (record { format = r.format; session = r.session; limit = r.limit; groups = es })
      (order ++ ((f.group, f.number) ∷ []))
  pub again : IsReceiver P count c (record { format = r.format; session = r.session; limit = r.limit; groups = es })
      (Some f.groups) (cost + cond (is_none (state_of r f.group)) (cost_by c.width f.packets f.layers) 0)

module _ {E : Type 0} (P : E → Type 0) (count : ℕ) (c : Coding E) (r : ReceiverState E) (told : Option ℕ) (cost : ℕ)
    (h : IsReceiver P count c r told cost) (f : Fields) (frame : IsFrameBy c.width f) (small : f.packets ≤ count)
    (k : IsKeepableBy c.width (kept_set r) f) where
  opened_is : (g : GroupState E) → state_of r f.group ≡ Some g → open_group (kept_set r) f.group ≡ Some g.packets
  opened_is g is = found_in r f.group ∙ ap (option_map (λ (t : GroupState E). t.packets)) is

  pub is_ready : IsReadyFor P c r.groups f
  is_ready = record {
    header = λ g is. same_header (kept_set r) h.set f frame k g.packets (opened_is g is);
    word = λ g is. (h.set.groups f.group g.packets (opened_is g is)).word_is;
    absent = λ g is. subst (λ t. option_and_then (λ (q : Packets). slot_at q f.number) t ≡ None)
        (opened_is g is) k.absent;
    slots = λ g is. (h.set.groups f.group g.packets (opened_is g is)).slots;
    holds = λ g is. (
      numbers_of h.stands.0 f.group,
      subst (λ t. MatchOption t (numbers_of h.stands.0 f.group ≡ [])
          (λ s. HoldsAfter P c s (numbers_of h.stands.0 f.group))) is (h.stands.1 f.group),
    );
  }

  module _ (es : List (ℕ × GroupState E)) (gr : HasGrown P c r.groups f es) where
    abbrev pub after_it : ReceiverState E
    after_it = record { format = r.format; session = r.session; limit = r.limit; groups = es }

    packets_are : gr.state.packets ≡ group_with_by c.width (kept_set r) f
    packets_are =
        gr.packets ∙ ap (λ t. with_packet (unwrap_or t (no_packets_of c.width (header_of f))) f.number f.payload)
        (sym (found_in r f.group))

    set_after : kept_set after_it ≡ keep_by c.width (kept_set r) f
    unfolding keep_by
    set_after =
        ap (λ t. record {
          session = r.session;
          limit = r.limit;
          groups = map (λ (e : ℕ × GroupState E). (e.0, e.1.packets)) t;
        }) gr.entries
        ∙ ap (λ t. record { session = r.session; limit = r.limit; groups = t })
        (insert_values (λ (g : GroupState E). g.packets) r.groups f.group gr.state
        ∙ ap (insert_entry nat_cmp (map (λ (e : ℕ × GroupState E). (e.0, e.1.packets)) r.groups) f.group) packets_are)

    order_after : (order : Order) → HasKept P c r order → HasKept P c after_it (order ++ ((f.group, f.number) ∷ []))
    order_after order kept group =
        elim (cases_eq f.group group) [
          | inl here ↦
              let found : state_of after_it f.group ≡ Some gr.state =
              ap (lookup (is_at (nat_cmp f.group))) gr.entries ∙ lookup_here r.groups f.group gr.state in
              subst (λ at. MatchOption (state_of after_it at)
              (numbers_of (order ++ ((f.group, f.number) ∷ [])) at ≡ [])
              (λ s. HoldsAfter P c s (numbers_of (order ++ ((f.group, f.number) ∷ [])) at))) here
              (subst (λ t. MatchOption t (numbers_of (order ++ ((f.group, f.number) ∷ [])) f.group ≡ [])
              (λ s. HoldsAfter P c s (numbers_of (order ++ ((f.group, f.number) ∷ [])) f.group))) (sym found)
              (subst (HoldsAfter P c gr.state) (sym (numbers_here order f.group f.number))
              (gr.holds (numbers_of order f.group) (kept f.group))))
          | inr ne ↦
              let other : group ≢ f.group = λ e. ne (sym e) in
              let found : state_of after_it group ≡ state_of r group =
              ap (lookup (is_at (nat_cmp group))) gr.entries ∙ lookup_other r.groups f.group gr.state group other in
              subst (λ t. MatchOption t (numbers_of (order ++ ((f.group, f.number) ∷ [])) group ≡ [])
              (λ s. HoldsAfter P c s (numbers_of (order ++ ((f.group, f.number) ∷ [])) group))) (sym found)
              (subst (λ ns. MatchOption (state_of r group) (ns ≡ []) (λ s. HoldsAfter P c s ns))
              (sym (numbers_other order f.group f.number group ne)) (kept group))
        ]

    sound_after : IsKeptSetBy c.width (kept_set after_it)
    sound_after = subst (IsKeptSetBy c.width) (sym set_after) (keep_sound (kept_set r) h.set f frame k)

    told_after : Some f.groups ≡ told_by (kept_set after_it)
    told_after =
        let here : open_group (kept_set after_it) f.group ≡ Some (group_with_by c.width (kept_set r) f) =
        ap (λ s. open_group s f.group) set_after ∙ open_here_by c.width (kept_set r) f in
        sym (open_tells (kept_set after_it) sound_after f.group (group_with_by c.width (kept_set r) f) here
        ∙ ap Some (ap (λ (t : Header). t.groups) (header_with (kept_set r) h.set f frame k)))

    cost_case : (t : Option (GroupState E)) → state_of r f.group ≡ t
        → cost + cond (is_none t) (cost_by c.width f.packets f.layers) 0 ≡ cost_kept (kept_set after_it)
    cost_case None is =
        ap (λ n. n + cost_by c.width f.packets f.layers) h.cost_is
        ∙ sym (ap cost_kept set_after
        ∙ cost_opened (kept_set r) h.set f frame k
        (found_in r f.group ∙ ap (option_map (λ (t : GroupState E). t.packets)) is))
    cost_case (Some g) is =
        ap (λ n. n + 0) h.cost_is ∙ omega arith
        ∙ sym (ap cost_kept set_after ∙ cost_same (kept_set r) h.set f frame k g.packets (opened_is g is))

    cost_after : cost + cond (is_none (state_of r f.group)) (cost_by c.width f.packets f.layers) 0
        ≡ cost_kept (kept_set after_it)
    cost_after = cost_case (state_of r f.group) refl

    few_after : (group : ℕ) (g : GroupState E) → state_of after_it group ≡ Some g
        → g.packets.header.table.packets ≤ count
    few_after group g is =
        elim (cases_eq f.group group) [
          | inl here ↦
              let found : state_of after_it f.group ≡ Some gr.state =
              ap (lookup (is_at (nat_cmp f.group))) gr.entries ∙ lookup_here r.groups f.group gr.state in
              let same : gr.state ≡ g = same_Some gr.state g (sym found ∙ ap (state_of after_it) here ∙ is) in
              let table : gr.state.packets.header ≡ header_of f =
              ap (λ (p : Packets). p.header) packets_are ∙ header_with (kept_set r) h.set f frame k in
              let many : g.packets.header.table.packets ≡ f.packets =
              ap (λ (s : GroupState E). s.packets.header.table.packets) (sym same)
              ∙ ap (λ (t : Header). t.table.packets) table in
              omega (arith, many, small)
          | inr ne ↦
              let other : group ≢ f.group = λ e. ne (sym e) in
              let found : state_of after_it group ≡ state_of r group =
              ap (lookup (is_at (nat_cmp group))) gr.entries ∙ lookup_other r.groups f.group gr.state group other in
              h.few group g (sym found ∙ is)
        ]

    sound_again : IsReceiver P count c after_it (Some f.groups)
        (cost + cond (is_none (state_of r f.group)) (cost_by c.width f.packets f.layers) 0)
    sound_again = record {
      format = h.format;
      plan = h.plan;
      word = h.word;
      points = h.points;
      few = few_after;
      fits = h.fits;
      set = sound_after;
      stands = (h.stands.0 ++ ((f.group, f.number) ∷ []), order_after h.stands.0 h.stands.1);
      told_is = told_after;
      cost_is = cost_after;
    }

    pub kept_one : HasKeptOne P count c r cost f es
    kept_one = record { set = set_after; order = order_after; again = sound_again }
