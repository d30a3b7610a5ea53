-- Why two receivers cannot be joined, as it is found step by step.
use Rattle.std.specs.Prelude.{not, if◌then◌else◌, option_map}
use Rattle.std.proofs.Common.{◌≡◌, ℕ, ◌==◌, ◌||◌, cond, Bool, true, false, List, [], ◌∷◌, length, Option, None, Some}
use Rattle.std.proofs.Common.{nat_cmp, get_or, refl, sym, ap, ap₂, ◌∙◌, subst}
use Rattle.std.specs.Str.{bytes_eq}
use Rattle.std.specs.List.{find, flat_map, filter_map, cons_option, range_with_len, AllByRecursion}
use Rattle.std.specs.List.Sorted.{IsStrictlySortedBy}
use Rattle.std.specs.Option.{option_map_or, option_or}
use Rattle.std.specs.BTreeMap.{is_at}
use Rattle.std.proofs.lemmas.List.Elements.{recursion_from_All}
use Rattle.std.proofs.lemmas.List.Folds.{find-append}
use Rattle.field_elements.specs.Field.{Coding}
use Rattle.stripe_plan.specs.Same.{same_table}
use Rattle.packet_frame.specs.Frame.{Fields}
use Rattle.packet_frame.specs.View.{fields_with}
use Rattle.packet_frame.specs.declared.frame.Header.{Header}
use Rattle.packet_set.specs.Packets.{Packets, slot_at}
use Rattle.packet_verdicts.specs.declared.union.Absorb.{Absorb}
use Rattle.packet_verdicts.specs.declared.union.Absorb.TheVariants.{OtherSession, Clash, Full}
use Rattle.packet_verdicts.specs.KeptSet.{KeptSet, IsKeptSet, IsKeptSetBy, told_by}
use Rattle.packet_verdicts.specs.Verdicts.{clashes, tells_other_count}
use Rattle.packet_receiver.specs.Arrivals.{GroupState, ReceiverState, kept_set}
use Rattle.packet_verdicts.specs.Union.{frames_in_group, first_clash, first_full, first_past, then_clash, then_full}
use Rattle.packet_verdicts.specs.Union.{absorb_fault}
use Rattle.packet_verdicts.specs.GroupClash.{is_other_payload, clashes_by}
use Rattle.packet_receiver.specs.Receiving.{IsReceiver}
use Rattle.packet_receiver.specs.inside.Joining.{packets_of, packets_at, clash_or, clash_from, new_of}
use Rattle.packet_verdicts.specs.laws.EntryLaws.{lookup_values, keys_values, all_found}
use Rattle.packet_verdicts.specs.laws.JoinedGroups.{Rises}
use Rattle.packet_receiver.proofs.Fields.{same_by, other_by}
use Rattle.packet_receiver.proofs.Received.{count_told}
use Rattle.packet_receiver.proofs.Clashes.{clash_next, clash_end}

abbrev pub clash_of : Fields → Absorb
clash_of f = Clash f.group f.number

-- ---- the first of a group

module _ (p : Packets) (k : ℕ) (group : p.header.group ≡ k) (s t : Fields → Bool)
    (alike : (n : ℕ) (x : List ℕ) → s (fields_with p.header n x) ≡ t (fields_with p.header n x))
    (later : Option Absorb) where
  abbrev frame_at : ℕ → Option Fields
  frame_at n = option_map (fields_with p.header n) (slot_at p n)

  bool_by : (n : ℕ) (x : List ℕ) (b : Bool) (us vs : Option Fields)
      → clash_or k (option_map (λ f. f.number) vs) later ≡ option_or (option_map clash_of us) later
      → clash_or k (option_map (λ f. f.number) (cond b (Some (fields_with p.header n x)) vs)) later
      ≡ option_or (option_map clash_of (cond b (Some (fields_with p.header n x)) us)) later
  bool_by n x true us vs ih = ap (λ g. Some (Clash g n)) (sym group)
  bool_by n x false us vs ih = ih

  slot_by : (n : ℕ) (o : Option (List ℕ)) (xs : List Fields)
      → clash_or k (option_map (λ f. f.number) (find t xs)) later ≡ option_or (option_map clash_of (find s xs)) later
      → clash_or k (option_map (λ f. f.number) (find t (cons_option (option_map (fields_with p.header n) o) xs))) later
      ≡ option_or (option_map clash_of (find s (cons_option (option_map (fields_with p.header n) o) xs))) later
  slot_by n None xs ih = ih
  slot_by n (Some x) xs ih =
      ap (λ b. clash_or k (option_map (λ (f : Fields). f.number)
      (cond b (Some (fields_with p.header n x)) (find t xs))) later) (sym (alike n x))
      ∙ bool_by n x (s (fields_with p.header n x)) (find s xs) (find t xs) ih

  in_group : (ns : List ℕ)
      → clash_or k (option_map (λ f. f.number) (find t (filter_map frame_at ns))) later
      ≡ option_or (option_map clash_of (find s (filter_map frame_at ns))) later
  in_group [] = refl
  in_group (n ∷ ns) = slot_by n (slot_at p n) (filter_map frame_at ns) (in_group ns)

or_map : {A B : Type 0} (f : A → B) (x y : Option A)
    → option_or (option_map f x) (option_map f y) ≡ option_map f (option_or x y)
or_map f None y = refl
or_map f (Some x) y = refl

-- ---- of all groups

module _ {E : Type 0} (r : ReceiverState E) (told : Option ℕ) (kept : IsKeptSet (kept_set r))
    (is : told ≡ told_by (kept_set r)) where
  clash_same : (h : Header) (k n : ℕ) (x : List ℕ) → h.group ≡ k
      → clashes (kept_set r) (fields_with h n x) ≡ clashes_by told (packets_at (packets_of r.groups) k) h n x
  clash_same h k n x group =
      let f : Fields = fields_with h n x in
      let other : Option ℕ → Bool = λ o. option_map_or (λ m. not (m == h.groups)) o false in
      let count : tells_other_count (kept_set r) f ≡ other told = count_told (kept_set r) kept f ∙ ap other (sym is) in
      let table : ℕ
      → Bool = λ j. option_map_or (λ (p : Packets). not (same_table p.header.table h.table))
      (packets_at (packets_of r.groups) j) false in
      let payload : ℕ → Bool = λ j. is_other_payload (packets_at (packets_of r.groups) j) n x in
      ap (λ b. b || table h.group || payload h.group) count ∙ ap (λ j. other told || table j || payload j) group

  clash_all : (ts : List (ℕ × GroupState E)) → AllByRecursion (λ e. e.1.packets.header.group ≡ e.0) ts
      → clash_from told (packets_of r.groups) (packets_of ts)
      ≡ option_map clash_of
      (find (clashes (kept_set r)) (flat_map (λ (e : ℕ × Packets). frames_in_group e.1) (packets_of ts)))
  clash_all [] h = clash_end (packets_of r.groups) told
  clash_all (e ∷ rest) h =
      let p = e.1.packets in
      let s : Fields → Bool = clashes (kept_set r) in
      let t : Fields → Bool = λ f. clashes_by told (packets_at (packets_of r.groups) e.0) p.header f.number f.payload in
      let more = flat_map (λ (x : ℕ × Packets). frames_in_group x.1) (packets_of rest) in
      clash_next (packets_of r.groups) told (e.0, e.1.packets) (packets_of rest)
      ∙ in_group p e.0 h.0 s t (λ n x. clash_same p.header e.0 n x h.0)
      (clash_from told (packets_of r.groups) (packets_of rest)) (range_with_len 0 (length p.slots))
      ∙ ap (option_or (option_map clash_of (find s (frames_in_group p)))) (clash_all rest h.1)
      ∙ or_map clash_of (find s (frames_in_group p)) (find s more)
      ∙ ap (option_map clash_of) (sym (find-append s (frames_in_group p) more))

  clash_is : (o : ReceiverState E) → IsKeptSet (kept_set o)
      → clash_from told (packets_of r.groups) (packets_of o.groups)
      ≡ option_map clash_of (first_clash (kept_set r) (kept_set o))
  clash_is o other =
      let rises : Rises o.groups = subst (IsStrictlySortedBy nat_cmp)
      (keys_values (λ (g : GroupState E). g.packets) o.groups) other.rising in
      clash_all o.groups (recursion_from_All (λ (e : ℕ × GroupState E). e.1.packets.header.group ≡ e.0) o.groups
      (λ i d l. (other.groups (get_or o.groups i d).0 (get_or o.groups i d).1.packets
      (lookup_values (λ (g : GroupState E). g.packets) (is_at (nat_cmp (get_or o.groups i d).0)) o.groups
      ∙ ap (option_map (λ (g : GroupState E). g.packets)) (all_found o.groups rises i d l))).same_group))

-- ---- the answer

module _ (a b : KeptSet) where
  fault_session : bytes_eq a.session b.session ≡ false → absorb_fault a b ≡ Some OtherSession
  unfolding absorb_fault
  fault_session e =
      ap (λ s. if not s then Some OtherSession else then_clash (first_clash a b) (then_full (first_full a b))) e

  past_session : bytes_eq a.session b.session ≡ true
      → absorb_fault a b ≡ then_clash (first_clash a b) (then_full (first_full a b))
  unfolding absorb_fault
  past_session e =
      ap (λ s. if not s then Some OtherSession else then_clash (first_clash a b) (then_full (first_full a b))) e

  clash_by : (o : Option Fields) (later : Option Absorb) (x : Absorb) → Some x ≡ option_map clash_of o
      → then_clash o later ≡ Some x
  clash_by None later x e = absurd (cc)
  clash_by (Some f) later x e = sym e

  none_by : (o : Option Fields) (later : Option Absorb) → None ≡ option_map clash_of o → then_clash o later ≡ later
  none_by None later e = refl
  none_by (Some f) later e = absurd (cc)

  fault_clash : bytes_eq a.session b.session ≡ true → (x : Absorb) → Some x ≡ option_map clash_of (first_clash a b)
      → absorb_fault a b ≡ Some x
  fault_clash e x is = past_session e ∙ clash_by (first_clash a b) (then_full (first_full a b)) x is

  fault_full : bytes_eq a.session b.session ≡ true → None ≡ option_map clash_of (first_clash a b) → (group : ℕ)
      → first_full a b ≡ Some group → absorb_fault a b ≡ Some (Full group)
  fault_full e none group is =
      past_session e ∙ none_by (first_clash a b) (then_full (first_full a b)) none ∙ ap then_full is

  fault_none : bytes_eq a.session b.session ≡ true → None ≡ option_map clash_of (first_clash a b)
      → first_full a b ≡ None → absorb_fault a b ≡ None
  fault_none e none is = past_session e ∙ none_by (first_clash a b) (then_full (first_full a b)) none ∙ ap then_full is

-- ---- the answer by the fields of both, for the receivers as they are seen

module _ {E : Type 0} {P : E → Type 0} {count : ℕ} {c : Coding E} {r o v w : ReceiverState E} {told there : Option ℕ}
    {cost costs : ℕ} (two : c.width ≡ 2) (h : IsReceiver P count c r told cost) (ho : IsReceiver P count c o there costs)
    (is : r ≡ v) (is_other : o ≡ w) (foreign : Bool) (test : foreign ≡ not (bytes_eq r.session o.session)) where
  fault_of : (x : Option Absorb) → absorb_fault (kept_set r) (kept_set o) ≡ x
      → absorb_fault (kept_set v) (kept_set w) ≡ x
  fault_of x e = sym (ap₂ (λ (s t : ReceiverState E). absorb_fault (kept_set s) (kept_set t)) is is_other) ∙ e

  pub session_refused : foreign ≡ true → absorb_fault (kept_set v) (kept_set w) ≡ Some OtherSession
  session_refused e =
      fault_of (Some OtherSession)
      (fault_session (kept_set r) (kept_set o) (other_by foreign (bytes_eq r.session o.session) test e))

  module _ (mine : foreign ≡ false) where
    same : bytes_eq r.session o.session ≡ true
    same = same_by foreign (bytes_eq r.session o.session) test mine

    clash : clash_from told (packets_of r.groups) (packets_of o.groups)
        ≡ option_map clash_of (first_clash (kept_set r) (kept_set o))
    clash =
        clash_is r told (subst (λ n. IsKeptSetBy n (kept_set r)) two h.set) h.told_is o
        (subst (λ n. IsKeptSetBy n (kept_set o)) two ho.set)

    pub clash_refused : (x : Absorb) → Some x ≡ clash_from told (packets_of r.groups) (packets_of o.groups)
        → absorb_fault (kept_set v) (kept_set w) ≡ Some x
    clash_refused x e = fault_of (Some x) (fault_clash (kept_set r) (kept_set o) same x (e ∙ clash))

    module _ (none : None ≡ clash_from told (packets_of r.groups) (packets_of o.groups)) where
      full : first_full (kept_set r) (kept_set o)
          ≡ first_past r.limit cost (new_of (packets_of r.groups) (packets_of o.groups))
      full = ap (λ n. first_past r.limit n (new_of (packets_of r.groups) (packets_of o.groups))) (sym h.cost_is)

      pub full_refused : (group : ℕ)
          → first_past r.limit cost (new_of (packets_of r.groups) (packets_of o.groups)) ≡ Some group
          → absorb_fault (kept_set v) (kept_set w) ≡ Some (Full group)
      full_refused group e =
          fault_of (Some (Full group)) (fault_full (kept_set r) (kept_set o) same (none ∙ clash) group (full ∙ e))

      pub all_fit : first_past r.limit cost (new_of (packets_of r.groups) (packets_of o.groups)) ≡ None
          → absorb_fault (kept_set v) (kept_set w) ≡ None
      all_fit e = fault_of None (fault_none (kept_set r) (kept_set o) same (none ∙ clash) (full ∙ e))
