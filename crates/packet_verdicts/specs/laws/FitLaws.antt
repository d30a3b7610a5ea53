-- Laws of two kept sets that can be joined, for callers: what it tells that no frame of the one clashes with the other.
use Rattle.std.specs.Prelude.{IfSome, not, option_map, option_and_then}
use Rattle.std.proofs.Common.{◌≡◌, ℕ, ◌<◌, ◌==◌, cond, Bool, true, false, ◌||◌, List, [], ◌∷◌, length, All, get_or}
use Rattle.std.proofs.Common.{Option, None, Some, nat_cmp, refl, sym, ap, ap₂, ◌∙◌, arith, subst, inl, inr}
use Rattle.std.specs.Str.{bytes_eq}
use Rattle.std.specs.List.{find, flat_map, filter_map, cons_option, range_with_len}
use Rattle.std.specs.Option.{option_map_or, option_or}
use Rattle.std.specs.BTreeMap.{is_at}
use Rattle.std.proofs.lemmas.Bool.{cases_lt}
use Rattle.std.proofs.lemmas.List.{get_or_past}
use Rattle.std.proofs.lemmas.List.Elements.{All-nil, All-cons, All-head, All-tail}
use Rattle.std.proofs.lemmas.List.Folds.{find-append, list_any_none}
use Rattle.std.proofs.lemmas.List.FromFn.{length-range_with_len, get_or-range_with_len}
use Rattle.std.proofs.lemmas.Map.Entries.{All-lookup}
use Rattle.std.proofs.lemmas.Slice.Eq.{bytes_eq-Decides}
use Rattle.stripe_plan.specs.Same.{same_table}
use Rattle.stripe_plan.specs.laws.SameLaws.{same_table-exact}
use Rattle.packet_frame.specs.Frame.{Fields}
use Rattle.packet_frame.specs.View.{fields_with}
use Rattle.packet_set.specs.Packets.{Packets, slot_at, count_in}
use Rattle.packet_verdicts.specs.KeptSet.{KeptSet, IsKeptSet, open_group, payload_of, header_of}
use Rattle.packet_verdicts.specs.laws.ToldLaws.{first_some}
use Rattle.packet_verdicts.specs.Verdicts.{clashes, tells_other_count, tells_other_table, tells_other_payload}
use Rattle.packet_verdicts.specs.Union.{frames_in_group, frames_in}
use Rattle.packet_verdicts.specs.laws.EntryLaws.{all_found}
use Rattle.packet_verdicts.specs.laws.KeptSetLaws.{none_told, neither, not_false, same_number}

-- ---- where a search finds nothing

none_or : {A : Type 0} (o p : Option A) → option_or o p ≡ None → (o ≡ None) × (p ≡ None)
none_or None p e = (refl, e)
none_or (Some x) p e = absurd (cc)

or_none : {A : Type 0} (o p : Option A) → o ≡ None → p ≡ None → option_or o p ≡ None
or_none o p e f = ap₂ option_or e f

module _ {X Y : Type 0} (p : Y → Bool) where
  none_in_each : (h : X → List Y) (xs : List X) → find p (flat_map h xs) ≡ None → All (λ x. find p (h x) ≡ None) xs
  none_in_each h [] e = All-nil (λ x. find p (h x) ≡ None)
  none_in_each h (x ∷ xs) e =
      let both = none_or (find p (h x)) (find p (flat_map h xs)) (sym (find-append p (h x) (flat_map h xs)) ∙ e) in
      All-cons (λ t. find p (h t) ≡ None) x xs both.0 (none_in_each h xs both.1)

  none_in_all : (h : X → List Y) (xs : List X) → All (λ x. find p (h x) ≡ None) xs → find p (flat_map h xs) ≡ None
  none_in_all h [] a = refl
  none_in_all h (x ∷ xs) a =
      find-append p (h x) (flat_map h xs)
      ∙ or_none (find p (h x)) (find p (flat_map h xs)) (All-head (λ t. find p (h t) ≡ None) x xs a)
      (none_in_all h xs (All-tail (λ t. find p (h t) ≡ None) x xs a))

module _ {Y : Type 0} (p : Y → Bool) where
  fails_by : (b : Bool) (y : Y) (o : Option Y) → cond b (Some y) o ≡ None → (b ≡ false) × (o ≡ None)
  fails_by true y o e = absurd (cc)
  fails_by false y o e = (refl, e)

  first_fails : (o : Option Y) (ys : List Y) → find p (cons_option o ys) ≡ None
      → IfSome o (λ y. p y ≡ false) × (find p ys ≡ None)
  first_fails None ys e = (tt, e)
  first_fails (Some y) ys e = fails_by (p y) y (find p ys) e

  fails_first : (o : Option Y) (ys : List Y) → IfSome o (λ y. p y ≡ false) → find p ys ≡ None
      → find p (cons_option o ys) ≡ None
  fails_first None ys h e = e
  fails_first (Some y) ys h e = ap (λ b. cond b (Some y) (find p ys)) h ∙ e

module _ {X Y : Type 0} (p : Y → Bool) where
  fails_each : (h : X → Option Y) (xs : List X) → find p (filter_map h xs) ≡ None
      → All (λ x. IfSome (h x) (λ y. p y ≡ false)) xs
  fails_each h [] e = All-nil (λ x. IfSome (h x) (λ y. p y ≡ false))
  fails_each h (x ∷ xs) e =
      let both = first_fails p (h x) (filter_map h xs) e in
      All-cons (λ t. IfSome (h t) (λ y. p y ≡ false)) x xs both.0 (fails_each h xs both.1)

  fails_all : (h : X → Option Y) (xs : List X) → All (λ x. IfSome (h x) (λ y. p y ≡ false)) xs
      → find p (filter_map h xs) ≡ None
  fails_all h [] a = refl
  fails_all h (x ∷ xs) a =
      fails_first p (h x) (filter_map h xs) (All-head (λ t. IfSome (h t) (λ y. p y ≡ false)) x xs a)
      (fails_all h xs (All-tail (λ t. IfSome (h t) (λ y. p y ≡ false)) x xs a))

-- ---- the frames of a group

in_slots : (p : Packets) (i : ℕ) (payload : List ℕ) → slot_at p i ≡ Some payload → i < length p.slots
in_slots p i payload e =
    elim (cases_lt i (length p.slots)) [
      | inl l ↦ l
      | inr past ↦ let no : None ≡ Some payload = sym (get_or_past p.slots i None past) ∙ e in absurd (cc)
    ]

module _ (test : Fields → Bool) (q : Packets) where
  abbrev frame_at : ℕ → Option Fields
  frame_at i = option_map (fields_with q.header i) (slot_at q i)

  group_passes : find test (frames_in_group q) ≡ None → (i : ℕ) (payload : List ℕ) → slot_at q i ≡ Some payload
      → test (fields_with q.header i payload) ≡ false
  group_passes e i payload kept =
      let l = in_slots q i payload kept in
      let n = length q.slots in
      let at : get_or (range_with_len 0 n) i 0 ≡ i = omega (arith, get_or-range_with_len 0 n i 0 l) in
      let each = fails_each test frame_at (range_with_len 0 n) e i 0 (omega (arith, length-range_with_len 0 n)) in
      subst (λ o. IfSome (option_map (fields_with q.header i) o) (λ f. test f ≡ false)) kept
      (subst (λ j. IfSome (frame_at j) (λ f. test f ≡ false)) at each)

  passes_by : (i : ℕ)
      → ((payload : List ℕ) → slot_at q i ≡ Some payload → test (fields_with q.header i payload) ≡ false)
      → (o : Option (List ℕ)) → slot_at q i ≡ o
      → IfSome (option_map (fields_with q.header i) o) (λ f. test f ≡ false)
  passes_by i each None is = tt
  passes_by i each (Some payload) is = each payload is

  passes_group : ((i : ℕ) (payload : List ℕ) → slot_at q i ≡ Some payload
      → test (fields_with q.header i payload) ≡ false) → find test (frames_in_group q) ≡ None
  passes_group each =
      fails_all test frame_at (range_with_len 0 (length q.slots))
      (λ k d l. passes_by (get_or (range_with_len 0 (length q.slots)) k d)
      (each (get_or (range_with_len 0 (length q.slots)) k d))
      (slot_at q (get_or (range_with_len 0 (length q.slots)) k d)) refl)

-- no frame that is kept passes the test, exactly where a search finds none
pub frames_pass : (test : Fields → Bool) (set : KeptSet) → find test (frames_in set) ≡ None
    → (group : ℕ) (q : Packets) → open_group set group ≡ Some q → (i : ℕ) (payload : List ℕ)
    → slot_at q i ≡ Some payload → test (fields_with q.header i payload) ≡ false
frames_pass test set none group q opened =
    let each = none_in_each test (λ (e : ℕ × Packets). frames_in_group e.1) set.groups none in
    group_passes test q (subst (λ o. IfSome o (λ (p : Packets). find test (frames_in_group p) ≡ None)) opened
    (All-lookup (λ (p : Packets). find test (frames_in_group p) ≡ None) (is_at (nat_cmp group)) set.groups each))

pub pass_frames : (test : Fields → Bool) (set : KeptSet) → IsKeptSet set
    → ((group : ℕ) (q : Packets) → open_group set group ≡ Some q → (i : ℕ) (payload : List ℕ)
    → slot_at q i ≡ Some payload → test (fields_with q.header i payload) ≡ false)
    → find test (frames_in set) ≡ None
pass_frames test set sound each =
    none_in_all test (λ (e : ℕ × Packets). frames_in_group e.1) set.groups
    (λ k d l. passes_group test (get_or set.groups k d).1
    (each (get_or set.groups k d).0 (get_or set.groups k d).1 (all_found set.groups sound.rising k d l)))

-- of an open group some frame is kept
pub some_frame : (p : Packets) → 0 < count_in p → (i : ℕ) × (payload : List ℕ) × (slot_at p i ≡ Some payload)
some_frame p l = first_some p.slots l

-- ---- sets that agree

-- no frame of the one clashes with the other
pub record Agrees (a b : KeptSet) : Type 0 where
  pub session : a.session ≡ b.session
  pub count : (g h : ℕ) (p q : Packets) → open_group a g ≡ Some p → open_group b h ≡ Some q
      → p.header.groups ≡ q.header.groups
  pub table : (g : ℕ) (p q : Packets) → open_group a g ≡ Some p → open_group b g ≡ Some q
      → p.header.table ≡ q.header.table
  pub payload : (g : ℕ) (p q : Packets) → open_group a g ≡ Some p → open_group b g ≡ Some q → (i : ℕ) (x y : List ℕ)
      → slot_at p i ≡ Some x → slot_at q i ≡ Some y → x ≡ y

pub agrees_back : (a b : KeptSet) → Agrees a b → Agrees b a
agrees_back a b h = record {
  session = sym h.session;
  count = λ g k p q o u. sym (h.count k g q p u o);
  table = λ g p q o u. sym (h.table g q p u o);
  payload = λ g p q o u i x y s t. sym (h.payload g q p u o i y x t s);
}

module _ (a : KeptSet) (f : Fields) where
  count_passes : tells_other_count a f ≡ false → (g : ℕ) (p : Packets) → open_group a g ≡ Some p
      → p.header.groups ≡ f.groups
  count_passes e g p opened =
      let each : All (λ (t : ℕ × Packets). t.1.header.groups ≡ f.groups) a.groups =
      λ i d l. same_number (get_or a.groups i d).1.header.groups f.groups
      (none_told (λ (t : ℕ × Packets). not (t.1.header.groups == f.groups)) a.groups e i d l) in
      subst (λ o. IfSome o (λ (q : Packets). q.header.groups ≡ f.groups)) opened
      (All-lookup (λ (q : Packets). q.header.groups ≡ f.groups) (is_at (nat_cmp g)) a.groups each)

  same_is : (n m : ℕ) → n ≡ m → not (n == m) ≡ false
  same_is n m e = grind (arith, e)

  passes_count : IsKeptSet a → ((g : ℕ) (p : Packets) → open_group a g ≡ Some p → p.header.groups ≡ f.groups)
      → tells_other_count a f ≡ false
  passes_count sound each =
      list_any_none (λ (t : ℕ × Packets). not (t.1.header.groups == f.groups)) a.groups
      (λ i d l. same_is (get_or a.groups i d).1.header.groups f.groups
      (each (get_or a.groups i d).0 (get_or a.groups i d).1 (all_found a.groups sound.rising i d l)))

  table_passes : tells_other_table a f ≡ false → (p : Packets) → open_group a f.group ≡ Some p
      → p.header.table ≡ (header_of f).table
  table_passes e p opened =
      let other = subst (λ o. option_map_or
      (λ (q : Packets). not (same_table q.header.table (header_of f).table)) o false ≡ false) opened e in
      (same_table-exact p.header.table (header_of f).table).0
      (not_false (same_table p.header.table (header_of f).table) other)

  passes_table : (o : Option Packets) → ((p : Packets) → o ≡ Some p → p.header.table ≡ (header_of f).table)
      → option_map_or (λ (q : Packets). not (same_table q.header.table (header_of f).table)) o false ≡ false
  passes_table None each = refl
  passes_table (Some p) each = ap not ((same_table-exact p.header.table (header_of f).table).1 (each p refl))

  payload_passes : tells_other_payload a f ≡ false → (p : Packets) → open_group a f.group ≡ Some p → (x : List ℕ)
      → slot_at p f.number ≡ Some x → x ≡ f.payload
  payload_passes e p opened x kept =
      let here = subst (λ o. option_map_or (λ (t : List ℕ). not (bytes_eq t f.payload))
      (option_and_then (λ (q : Packets). slot_at q f.number) o) false ≡ false) opened e in
      let other = subst (λ o. option_map_or (λ (t : List ℕ). not (bytes_eq t f.payload)) o false ≡ false) kept here in
      (bytes_eq-Decides x f.payload).0 (not_false (bytes_eq x f.payload) other)

  passes_payload : (o : Option (List ℕ)) → ((x : List ℕ) → o ≡ Some x → x ≡ f.payload)
      → option_map_or (λ (t : List ℕ). not (bytes_eq t f.payload)) o false ≡ false
  passes_payload None each = refl
  passes_payload (Some x) each = ap not ((bytes_eq-Decides x f.payload).1 (each x refl))

  -- a frame clashes with nothing, exactly where it agrees with each frame
  pub record Passes : Type 0 where
    pub count : (g : ℕ) (p : Packets) → open_group a g ≡ Some p → p.header.groups ≡ f.groups
    pub table : (p : Packets) → open_group a f.group ≡ Some p → p.header.table ≡ (header_of f).table
    pub payload : (p : Packets) → open_group a f.group ≡ Some p → (x : List ℕ) → slot_at p f.number ≡ Some x
        → x ≡ f.payload

  pub no_clash : clashes a f ≡ false → Passes
  no_clash e =
      let last = neither (tells_other_count a f || tells_other_table a f) (tells_other_payload a f) e in
      let both = neither (tells_other_count a f) (tells_other_table a f) last.0 in
      record { count = count_passes both.0; table = table_passes both.1; payload = payload_passes last.1 }

  kept_by : (o : Option Packets)
      → ((p : Packets) → o ≡ Some p → (x : List ℕ) → slot_at p f.number ≡ Some x → x ≡ f.payload)
      → (x : List ℕ) → option_and_then (λ (p : Packets). slot_at p f.number) o ≡ Some x → x ≡ f.payload
  kept_by None each x e = absurd (cc)
  kept_by (Some p) each x e = each p refl x e

  neither_holds : (x y z : Bool) → x ≡ false → y ≡ false → z ≡ false → (x || y || z) ≡ false
  neither_holds x y z e g h = cc

  pub clash_none : IsKeptSet a → Passes → clashes a f ≡ false
  clash_none sound h =
      neither_holds (tells_other_count a f) (tells_other_table a f) (tells_other_payload a f)
      (passes_count sound h.count)
      (passes_table (open_group a f.group) h.table)
      (passes_payload (payload_of a f.group f.number) (kept_by (open_group a f.group) h.payload))
