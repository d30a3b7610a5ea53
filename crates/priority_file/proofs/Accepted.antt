-- What an accepted file stands for is a priority.
use Rattle.std.proofs.Common.{◌≡◌, ◌+◌, zero, suc, nat_eq, ℕ, ◌*◌, ◌/◌, ◌<◌, ◌≤◌, max, Bool, true, false, cond, not}
use Rattle.std.proofs.Common.{◌==◌, ◌&&◌, ◌||◌, nat_lt, List, [], ◌∷◌, ◌++◌, length, map, Option, Some, None, refl, ap}
use Rattle.std.proofs.Common.{sym, ◌∙◌, arith, count_by, inl, inr, if◌then◌else◌}
use Rattle.std.specs.List.{list_any, list_all, range_with_len}
use Rattle.std.proofs.lemmas.Bool.{cases_Bool}
use Rattle.std.proofs.Math.Nat.{mul-le-mul_left}
use Rattle.std.proofs.lemmas.Bool.Decides.{nat_tests}
use Rattle.std.proofs.lemmas.List.Sums.{sum_by-cons}
use Rattle.priority_file.specs.declared.kinds.TheConstants.{LAST_PLACE}
use Rattle.pet_base.specs.declared.Kind.{Kind}
use Rattle.pet_base.specs.declared.Kind.TheVariants.{Head, I, P, B, D}
use Rattle.priority_file.specs.declared.fault.PriorityFault.{PriorityFault}
use Rattle.priority_file.specs.declared.draft.Need.{Need}
use Rattle.priority_file.specs.declared.draft.Need.TheVariants.{Packets, Percent}
use Rattle.priority_file.specs.Kinds.{index_of, lists, has_class, has_some_class, place_after}
use Rattle.priority_file.specs.Priority.{Rule, Priorities, layers_with, has_places_once, has_each_kind_once}
use Rattle.priority_file.specs.Priority.{has_no_place_twice, is_priority, is_packets, is_need, head_is_first}
use Rattle.priority_file.specs.Draft.{LayerText, FileText}
use Rattle.priority_file.specs.Bounds.{count_of, packets_of, need_in, is_name, is_need_out_of_range, need_out_of_range}
use Rattle.priority_file.specs.Bounds.{packets_out_of_range, has_bad_name, has_repeat, listed_kinds, lists_kind_twice}
use Rattle.priority_file.specs.Bounds.{misses_kind, kinds_of_first, head_is_not_first, has_too_many_layers}
use Rattle.priority_file.specs.Refusals.{Row, number_rows, layer_rows, first_of, kinds_with_d, rule_of}
use Rattle.priority_file.specs.Refusals.{priorities_of_text}
use Rattle.pet_base.specs.declared.limits.TheConstants.{MAX_LAYERS, MAX_PACKETS}
use Rattle.priority_file.specs.laws.OnlyOne.{count_by-none, nothing_passes}
use Rattle.priority_file.proofs.KindLaws.{has_class-bits_of, list_any-append, none_lists, one_lists, or_parts, or_false}
use Rattle.priority_file.proofs.KindLaws.{listed_in, layers_listing}

abbrev AllFalse : List Row → Type 0
AllFalse [] = Unit {0}
AllFalse (row ∷ rows) = (row.0 ≡ false) × AllFalse rows

first_of-none : (b : Bool) (f : PriorityFault) (rest : Option PriorityFault) → (if b then Some f else rest) ≡ None
    → (b ≡ false) × (rest ≡ None)
first_of-none true f rest h = absurd (cc)
first_of-none false f rest h = (refl, h)

first_of-all : (rows : List Row) → first_of rows ≡ None → AllFalse rows
first_of-all [] h = tt
first_of-all (row ∷ rows) h =
    let parts = first_of-none row.0 row.1 (first_of rows) h in
    (parts.0, first_of-all rows parts.1)

-- no fault
pub record IsSound (d : FileText) : Type 0 where
  pub packets : packets_out_of_range d ≡ false
  pub needs : need_out_of_range d ≡ false
  pub names : has_bad_name d ≡ false
  pub once : lists_kind_twice d ≡ false
  pub present : misses_kind d ≡ false
  pub head : head_is_not_first d ≡ false
  pub few : has_too_many_layers d ≡ false

pub IsSound-from : (d : FileText) → first_of (number_rows d ++ layer_rows d) ≡ None → IsSound d
IsSound-from d h =
    let a = first_of-all (number_rows d ++ layer_rows d) h in
    record {
      packets = a.0;
      needs = a.1.0;
      names = a.1.1.0;
      once = a.1.1.1.0;
      present = a.1.1.1.1.0;
      head = a.1.1.1.1.1.0;
      few = a.1.1.1.1.1.1.0;
    }

pub from_not_false : (b : Bool) → not b ≡ false → b ≡ true
from_not_false true h = refl
from_not_false false h = absurd (cc)

and_true : (b c : Bool) → b ≡ true → c ≡ true → (b && c) ≡ true
and_true true c h k = k
and_true false c h k = absurd (cc)

not_true : (b : Bool) → b ≡ false → not b ≡ true
not_true false h = refl
not_true true h = absurd (cc)

within : (most n : ℕ) → is_need most n ≡ true → (0 < n) × (n ≤ most)
within most n h = (grind (arith, nat_tests), grind (arith, nat_tests))

is_within : (most n : ℕ) → 0 < n → n ≤ most → is_need most n ≡ true
is_within most n low high = grind (arith, nat_tests)

-- a percentage of the packets is a need
share : (p packets : ℕ) → is_packets packets ≡ true → is_need 100 p ≡ true
    → is_need packets (max 1 (p * packets / 100)) ≡ true
share p packets a b =
    let (low, high) = within MAX_PACKETS packets a in
    let (p_low, p_high) = within 100 p b in
    let most : packets * p ≤ packets * 100 = mul-le-mul_left packets p_high in
    is_within packets (max 1 (p * packets / 100)) (omega arith) (omega (arith, most))

needs_fit-one : (packets : ℕ) (need : Need) → is_packets packets ≡ true → is_need_out_of_range packets need ≡ false
    → is_need packets (need_in packets need) ≡ true
needs_fit-one packets (Packets n) a h = from_not_false (is_need packets (count_of n)) h
needs_fit-one packets (Percent p) a h = share (count_of p) packets a (from_not_false (is_need 100 (count_of p)) h)

needs_fit : (packets : ℕ) (with_d : Bool) (ls : List LayerText) → is_packets packets ≡ true
    → list_any (λ l. is_need_out_of_range packets l.need) ls ≡ false
    → list_all (λ r. is_need packets r.need) (map (rule_of packets with_d) ls) ≡ true
needs_fit packets with_d [] a h = refl
needs_fit packets with_d (l ∷ ls) a h =
    let parts = or_parts (is_need_out_of_range packets l.need)
    (list_any (λ l. is_need_out_of_range packets l.need) ls) h in
    and_true (is_need packets (need_in packets l.need)) _ (needs_fit-one packets l.need a parts.0)
    (needs_fit packets with_d ls a parts.1)

-- D beside I changes no other class
lists-with_d : (k : ℕ) (with_d : Bool) (ks : List ℕ) → nat_eq k (index_of D) ≡ false
    → lists k (kinds_with_d with_d ks) ≡ lists k ks
lists-with_d k true ks other = refl
lists-with_d k false ks other =
    elim (cases_Bool (lists (index_of I) ks)) [
      | inl i ↦ rw i (list_any-append (nat_eq k) ks (index_of D ∷ [])
          ∙ or_false (lists k ks) (nat_eq k (index_of D) || false) (rw other))
      | inr none_i ↦ rw none_i
    ]

-- and where D is listed nowhere it goes where I is
lists_d-with_d : (ks : List ℕ) → lists (index_of D) ks ≡ false
    → lists (index_of D) (kinds_with_d false ks) ≡ lists (index_of I) ks
lists_d-with_d ks none =
    elim (cases_Bool (lists (index_of I) ks)) [
      | inl i ↦ rw i (list_any-append (nat_eq (index_of D)) ks (index_of D ∷ []) ∙ rw none)
      | inr none_i ↦ rw none_i none
    ]

-- the layers whose sets have the class
abbrev classes_in : ℕ → List Rule → ℕ
classes_in k rules = count_by (λ r. has_class r.kinds k) rules

with_rules : (packets : ℕ) (with_d : Bool) (k : ℕ) (ls : List LayerText)
    → classes_in k (map (rule_of packets with_d) ls) ≡ count_by (λ l. lists k (kinds_with_d with_d l.kinds)) ls
with_rules packets with_d k [] = refl
with_rules packets with_d k (l ∷ ls) =
    let rest = map (rule_of packets with_d) ls in
    sum_by-cons (λ r. cond (has_class r.kinds k) 1 0) (rule_of packets with_d l) rest
    ∙ rw (has_class-bits_of k (kinds_with_d with_d l.kinds), with_rules packets with_d k ls)
    (sym (sum_by-cons (λ l. cond (lists k (kinds_with_d with_d l.kinds)) 1 0) l ls))

-- two tests that agree on a list count the same
count_same-other : (k : ℕ) (with_d : Bool) (ls : List LayerText) → nat_eq k (index_of D) ≡ false
    → count_by (λ l. lists k (kinds_with_d with_d l.kinds)) ls ≡ layers_listing k ls
count_same-other k with_d [] other = refl
count_same-other k with_d (l ∷ ls) other =
    sum_by-cons (λ l. cond (lists k (kinds_with_d with_d l.kinds)) 1 0) l ls
    ∙ rw (lists-with_d k with_d l.kinds other, count_same-other k with_d ls other)
    (sym (sum_by-cons (λ l. cond (lists k l.kinds) 1 0) l ls))

count_same-d : (ls : List LayerText) → lists (index_of D) (listed_in ls) ≡ false
    → count_by (λ l. lists (index_of D) (kinds_with_d false l.kinds)) ls ≡ layers_listing (index_of I) ls
count_same-d [] none = refl
count_same-d (l ∷ ls) none =
    let parts = or_parts (lists (index_of D) l.kinds) (lists (index_of D) (listed_in ls))
    (sym (list_any-append (nat_eq (index_of D)) l.kinds (listed_in ls)) ∙ none) in
    sum_by-cons (λ l. cond (lists (index_of D) (kinds_with_d false l.kinds)) 1 0) l ls
    ∙ rw (lists_d-with_d l.kinds parts.0, count_same-d ls parts.1)
    (sym (sum_by-cons (λ l. cond (lists (index_of I) l.kinds) 1 0) l ls))

one : (n : ℕ) → n ≡ 1 → (n == 1) ≡ true
one n h = rw h

parted_d : (ls : List LayerText) → has_repeat nat_eq (listed_in ls) ≡ false → lists (index_of I) (listed_in ls) ≡ true
    → count_by (λ l. lists (index_of D) (kinds_with_d (lists (index_of D) (listed_in ls)) l.kinds)) ls ≡ 1
parted_d ls once has_i =
    let count : Bool → ℕ = λ b. count_by (λ l. lists (index_of D) (kinds_with_d b l.kinds)) ls in
    elim (cases_Bool (lists (index_of D) (listed_in ls))) [
      | inl listed ↦ ap count listed ∙ one_lists (index_of D) ls once listed
      | inr missing ↦ ap count missing ∙ count_same-d ls missing ∙ one_lists (index_of I) ls once has_i
    ]

-- a class other than D is in the sets of as many layers as list it
as_listed : (d : FileText) (k : ℕ) → nat_eq k (index_of D) ≡ false
    → classes_in k (priorities_of_text d).layers ≡ layers_listing k d.layers
as_listed d k other =
    let with_d = lists (index_of D) (listed_kinds d) in
    with_rules (packets_of d) with_d k d.layers ∙ count_same-other k with_d d.layers other

-- each kind is in one layer
parted : (d : FileText) → IsSound d → (k : Kind) → (layers_with k (priorities_of_text d).layers == 1) ≡ true
parted d s k =
    let ls = d.layers in
    let with_d = lists (index_of D) (listed_kinds d) in
    let missing : Kind → Bool = λ k. not (lists (index_of k) (listed_in ls)) in
    let required = or_parts (missing Head) (list_any missing (I ∷ P ∷ B ∷ [])) s.present in
    let after_head = or_parts (missing I) (list_any missing (P ∷ B ∷ [])) required.1 in
    let after_i = or_parts (missing P) (list_any missing (B ∷ [])) after_head.1 in
    let after_p = or_parts (missing B) false after_i.1 in
    let other : (k : Kind) → nat_eq (index_of k) (index_of D) ≡ false → missing k ≡ false
    → (layers_with k (priorities_of_text d).layers == 1) ≡ true =
    λ k apart present. one _ (as_listed d (index_of k) apart
    ∙ one_lists (index_of k) ls s.once (from_not_false (lists (index_of k) (listed_in ls)) present)) in
    elim k as (λ k. (layers_with k (priorities_of_text d).layers == 1) ≡ true) [
      | Head ↦ other Head refl required.0
      | I ↦ other I refl after_head.0
      | P ↦ other P refl after_i.0
      | B ↦ other B refl after_p.0
      | D ↦ one _ (with_rules (packets_of d) with_d (index_of D) ls
          ∙ parted_d ls s.once (from_not_false (lists (index_of I) (listed_in ls)) after_head.0))
    ]

at_most_one : (n : ℕ) → n ≤ 1 → not (nat_lt 1 n) ≡ true
at_most_one n h = grind (arith, nat_tests)

-- a class other than D is in one layer at most
class_once : (d : FileText) → IsSound d → (k : ℕ) → nat_eq k (index_of D) ≡ false
    → not (nat_lt 1 (classes_in k (priorities_of_text d).layers)) ≡ true
class_once d s k other =
    let same = as_listed d k other in
    elim (cases_Bool (lists k (listed_in d.layers))) [
      | inl listed ↦
          let here = one_lists k d.layers s.once listed in
          at_most_one _ (omega (arith, same, here))
      | inr missing ↦
          let none = none_lists k d.layers missing in
          at_most_one _ (omega (arith, same, none))
    ]

above : (i j : ℕ) → j < i → nat_eq i j ≡ false
above i j h = grind (arith, nat_tests)

-- so is the class of a place, where the number is a place
place_once : (rules : List Rule) (i : ℕ) (b : Bool) → not (nat_lt 1 (classes_in i rules)) ≡ true
    → not (nat_lt 1 (count_by (λ (r : Rule). has_some_class r.kinds (if b then Some i else None)) rules)) ≡ true
place_once rules i true h = h
place_once rules i false h =
    let none = count_by-none (λ (r : Rule). false) rules (nothing_passes rules) in
    at_most_one _ (omega (arith, none))

list_all-range : (p : ℕ → Bool) → ((n : ℕ) → 0 < n → p n ≡ true) → (a len : ℕ) → 0 < a
    → list_all p (range_with_len a len) ≡ true
list_all-range p pass a zero some = refl
list_all-range p pass a (suc len) some =
    and_true (p a) _ (pass a some) (list_all-range p pass (a + 1) len (omega arith))

-- each place is in one layer at most
places_once : (d : FileText) → IsSound d → has_no_place_twice (priorities_of_text d).layers ≡ true
unfolding has_no_place_twice
places_once d s =
    let rules = (priorities_of_text d).layers in
    let once : (bit n : ℕ) → index_of D ≤ bit → 0 < n
    → not (nat_lt 1 (count_by (λ (r : Rule). has_some_class r.kinds (place_after bit n)) rules)) ≡ true =
    λ bit n low some. place_once rules (bit + n) (nat_lt 0 n && not (nat_lt LAST_PLACE n))
    (class_once d s (bit + n) (above (bit + n) (index_of D) (omega (arith, low, some)))) in
    list_all-range (has_places_once rules)
    (λ n some. and_true _ _ (once 4 n (omega arith) some) (once 13 n (omega arith) some)) 1 LAST_PLACE (omega arith)

head_first : (packets : ℕ) (with_d : Bool) (ls : List LayerText) → lists (index_of Head) (kinds_of_first ls) ≡ true
    → head_is_first (map (rule_of packets with_d) ls) ≡ true
head_first packets with_d [] h = absurd (cc)
head_first packets with_d (l ∷ ls) h =
    has_class-bits_of (index_of Head) (kinds_with_d with_d l.kinds) ∙ lists-with_d (index_of Head) with_d l.kinds refl
    ∙ h

pub accepted : (d : FileText) → first_of (number_rows d ++ layer_rows d) ≡ None
    → is_priority (priorities_of_text d) ≡ true
unfolding has_each_kind_once
accepted d h =
    let s = IsSound-from d h in
    let with_d = lists (index_of D) (listed_kinds d) in
    let packets : is_packets (packets_of d) ≡ true = from_not_false (is_packets (packets_of d)) s.packets in
    let rules = map (rule_of (packets_of d) with_d) d.layers in
    let here = parted d s in
    let all : has_each_kind_once rules ≡ true =
    and_true _ _ (here Head)
    (and_true _ _ (here I) (and_true _ _ (here P) (and_true _ _ (here B) (and_true _ _ (here D) refl)))) in
    and_true _ _
    (and_true _ _
    (and_true _ _ (and_true _ _ packets (needs_fit (packets_of d) with_d d.layers packets s.needs)) all)
    (places_once d s))
    (head_first (packets_of d) with_d d.layers
    (from_not_false (lists (index_of Head) (kinds_of_first d.layers)) s.head))

-- `Priority::new` of the packets and the rules of an accepted file
pub made : (d : FileText) (packets : ℕ) (with_d : Bool) (layers : List LayerText) (rules : List Rule)
    (made : Option Priorities) → first_of (number_rows d ++ layer_rows d) ≡ None
    → packets ≡ packets_of d → with_d ≡ lists (index_of D) (listed_kinds d) → layers ≡ d.layers
    → rules ≡ map (rule_of packets with_d) layers
    → made ≡ (let p : Priorities = record { packets = packets; layers = rules } in
    if is_priority p then Some p else None) → made ≡ Some (priorities_of_text d)
made d packets with_d layers rules result sound same_packets same_d same_layers are gives =
    let items : rules ≡ (priorities_of_text d).layers = are ∙ rw (same_packets, same_d, same_layers) in
    let keeps : is_priority (record { packets = packets; layers = rules }) ≡ true =
    rw (same_packets, items) (accepted d sound) in
    gives ∙ rw keeps (rw (same_packets, items))

-- the bounds of an accepted file that its rules ask for
pub record HasBounds (packets : ℕ) (layers : List LayerText) : Type 0 where
  pub packets_fit : packets ≤ MAX_PACKETS
  pub few : length layers ≤ MAX_LAYERS
  pub needs : list_any (λ l. is_need_out_of_range packets l.need) layers ≡ false
  pub names : list_any (λ l. not (is_name l.name)) layers ≡ false

up_to : (most n : ℕ) → nat_lt most n ≡ false → n ≤ most
up_to most n h = grind (arith, nat_tests)

pub has_bounds : (d : FileText) (packets : ℕ) (layers : List LayerText)
    → first_of (number_rows d ++ layer_rows d) ≡ None → packets ≡ packets_of d → layers ≡ d.layers
    → HasBounds packets layers
has_bounds d packets layers sound same_packets same_layers =
    let s = IsSound-from d sound in
    rw (same_packets, same_layers) (record {
      packets_fit = (within MAX_PACKETS (packets_of d) (from_not_false (is_packets (packets_of d)) s.packets)).1;
      few = up_to MAX_LAYERS (length d.layers) s.few;
      needs = s.needs;
      names = (or_parts (list_any (λ l. not (is_name l.name)) d.layers) _ s.names).0;
    })
