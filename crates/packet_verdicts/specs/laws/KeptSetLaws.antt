-- Laws of kept sets and verdicts, for callers: what a frame that is kept tells, and what the set is after it.
use Rattle.std.specs.Prelude.{IfSome, is_some, is_none, not, if◌then◌else◌, nat_lt, option_map, option_and_then}
use Rattle.std.proofs.Common.{◌≡◌, ◌≢◌, ℕ, ◌+◌, ◌<◌, ◌≤◌, ◌==◌, Bool, true, false, ◌&&◌, ◌||◌, List, [], ◌∷◌, ◌++◌}
use Rattle.std.proofs.Common.{zero, suc, length, All, Option, None, Some, nat_cmp, get_or, set, unwrap_or, refl, sym}
use Rattle.std.proofs.Common.{ap, ap₂, ◌∙◌, arith, subst, inl, inr}
use Rattle.std.specs.Str.{bytes_eq}
use Rattle.std.specs.List.{list_any}
use Rattle.std.specs.Option.{option_map_or}
use Rattle.std.specs.Map.{keys_of}
use Rattle.std.specs.BTreeMap.{is_at}
use Rattle.std.proofs.lemmas.Bool.{cases_eq}
use Rattle.std.specs.List.Sorted.{IsStrictlySortedBy}
use Rattle.std.proofs.lemmas.Option.{same_Some}
use Rattle.std.proofs.lemmas.Map.Entries.{All-lookup}
use Rattle.std.proofs.lemmas.Map.Views.{exact_unsigned_eq}
use Rattle.std.proofs.lemmas.Slice.Eq.{bytes_eq-Decides}
use Rattle.std.proofs.lemmas.List.{length-set, length-replicate, get_or-set_same, get_or-set_other}
use Rattle.stripe_plan.specs.Same.{same_table}
use Rattle.stripe_plan.specs.laws.SameLaws.{same_table-exact}
use Rattle.packet_frame.specs.Frame.{Fields, IsFrameBy}
use Rattle.packet_frame.specs.Refusals.{first_fault_in}
use Rattle.packet_frame.specs.Planned.{planned_fields}
use Rattle.packet_frame.specs.declared.format.Format.{Format}
use Rattle.packet_frame.specs.declared.format.TheConstants.{FORMAT}
use Rattle.packet_frame.specs.declared.fault.FrameFault.{FrameFault}
use Rattle.packet_frame.specs.View.{fields_with}
use Rattle.packet_frame.specs.declared.frame.Header.{Header}
use Rattle.packet_set.specs.Packets.{Packets, slot_at, with_packet, count_in, no_packets_of}
use Rattle.stripe_plan.specs.Sizes.{cost_by}
use Rattle.packet_verdicts.specs.declared.verdict.Verdict.{Verdict}
use Rattle.packet_verdicts.specs.declared.verdict.Verdict.TheVariants.{Damaged, Foreign, Clash, Repeated, Full, Kept}
use Rattle.packet_verdicts.specs.declared.verdict.LayerSet.{LayerSet}
use Rattle.packet_verdicts.specs.KeptSet.{KeptSet, IsKeptSetBy, empty_set, IsKeptGroupBy, open_group, payload_of}
use Rattle.packet_verdicts.specs.KeptSet.{count_kept, kept_in_all, cost_in, cost_kept, header_of, group_with_by}
use Rattle.packet_verdicts.specs.KeptSet.{keep_by}
use Rattle.packet_verdicts.specs.Verdicts.{verdict_in, after_in, after_all_in, tells_other_count, tells_other_table}
use Rattle.packet_verdicts.specs.Verdicts.{tells_other_payload, clashes, opens, is_too_much_by, newly_shown, layer_set}
use Rattle.packet_verdicts.specs.Verdicts.{frame_verdict_by, is_kept}
pub use Rattle.packet_set.specs.laws.SlotCounts.{count_set, count_none, none_in}
use Rattle.packet_verdicts.specs.laws.EntryLaws.{lookup_here, lookup_other, rises_insert, sum_insert}

-- ---- what the verdict Kept tells of a frame

pub record IsKeepableBy (word : ℕ) (set : KeptSet) (f : Fields) : Type 0 where
  pub session : f.session ≡ set.session
  pub count : tells_other_count set f ≡ false
  pub table : (p : Packets) → open_group set f.group ≡ Some p → p.header.table ≡ (header_of f).table
  pub absent : payload_of set f.group f.number ≡ None
  pub room : open_group set f.group ≡ None → cost_kept set + cost_by word f.packets f.layers ≤ set.limit
  pub verdict : frame_verdict_by word set f ≡ Kept (layer_set (newly_shown set f))

abbrev pub IsKeepable : KeptSet → Fields → Type 0
IsKeepable set f = IsKeepableBy 2 set f

record Chain (a b c d : Bool) (k : LayerSet) (v : Verdict) : Type 0 where
  first : a ≡ true
  second : b ≡ false
  third : c ≡ false
  fourth : d ≡ false
  is : v ≡ Kept k

chain : (a b c d : Bool) (k : LayerSet)
    → is_kept (if not a then Foreign else if b then Clash else if c then Repeated else if d then Full else Kept k) ≡ true
    → Chain a b c d k (if not a then Foreign else if b then Clash else if c then Repeated else if d then Full else Kept k)
chain false b c d k e = absurd (cc)
chain true true c d k e = absurd (cc)
chain true false true d k e = absurd (cc)
chain true false false true k e = absurd (cc)
chain true false false false k e = record { first = refl; second = refl; third = refl; fourth = refl; is = refl }

pub neither : (a b : Bool) → (a || b) ≡ false → (a ≡ false) × (b ≡ false)
neither true b e = absurd (cc)
neither false b e = (refl, e)

pub not_false : (b : Bool) → not b ≡ false → b ≡ true
not_false true e = refl
not_false false e = absurd (cc)

pub none_from : {A : Type 0} (o : Option A) → is_some o ≡ false → o ≡ None
none_from None e = refl
none_from (Some x) e = absurd (cc)

fits_from : (a : Bool) (limit cost : ℕ) → a ≡ true → (a && nat_lt limit cost) ≡ false → cost ≤ limit
fits_from a limit cost h e = grind (arith, h, e)

-- the packets of a group before a frame is kept, of which n are kept
record IsReady (word : ℕ) (f : Fields) (n : ℕ) (p : Packets) : Type 0 where
  header : p.header ≡ header_of f
  word_is : p.word ≡ word
  slots : length p.slots ≡ f.packets
  absent : slot_at p f.number ≡ None
  frames : (number : ℕ) (payload : List ℕ) → slot_at p number ≡ Some payload → IsFrameBy word (fields_with p.header number payload)
  count : count_in p ≡ n

pub none_told : {A : Type 0} (test : A → Bool) (xs : List A) → list_any test xs ≡ false → (i : ℕ) (d : A)
    → i < length xs → test (get_or xs i d) ≡ false
none_told test [] e i d l = absurd (omega arith)
none_told test (x ∷ xs) e zero d l = (neither (test x) (list_any test xs) e).0
none_told test (x ∷ xs) e (suc i) d l = none_told test xs (neither (test x) (list_any test xs) e).1 i d (omega arith)

header_same : (h : Header) (f : Fields) → h.session ≡ f.session → h.groups ≡ f.groups → h.group ≡ f.group
    → h.table ≡ (header_of f).table → h ≡ header_of f
header_same h f s n g t =
    ap (λ x. record { session = x; groups = h.groups; group = h.group; table = h.table }) s
    ∙ ap (λ x. record { session = f.session; groups = x; group = h.group; table = h.table }) n
    ∙ ap (λ x. record { session = f.session; groups = f.groups; group = x; table = h.table }) g
    ∙ ap (λ x. record { session = f.session; groups = f.groups; group = f.group; table = x }) t

pub same_number : (a b : ℕ) → not (a == b) ≡ false → a ≡ b
same_number a b e = exact_unsigned_eq a b (not_false (a == b) e)

pub open_here_by : (word : ℕ) (set : KeptSet) (f : Fields)
    → open_group (keep_by word set f) f.group ≡ Some (group_with_by word set f)
unfolding keep_by
open_here_by word set f = lookup_here set.groups f.group (group_with_by word set f)

pub open_here : (set : KeptSet) (f : Fields) → open_group (keep_by 2 set f) f.group ≡ Some (group_with_by 2 set f)
open_here = open_here_by 2

pub open_other_by : (word : ℕ) (set : KeptSet) (f : Fields) (group : ℕ) → group ≢ f.group
    → open_group (keep_by word set f) group ≡ open_group set group
unfolding keep_by
open_other_by word set f group ne = lookup_other set.groups f.group (group_with_by word set f) group ne

pub open_other : (set : KeptSet) (f : Fields) (group : ℕ) → group ≢ f.group
    → open_group (keep_by 2 set f) group ≡ open_group set group
open_other = open_other_by 2

pub keep_session_by : (word : ℕ) (set : KeptSet) (f : Fields) → (keep_by word set f).session ≡ set.session
unfolding keep_by
keep_session_by word set f = refl

pub keep_session : (set : KeptSet) (f : Fields) → (keep_by 2 set f).session ≡ set.session
keep_session = keep_session_by 2

pub keep_limit_by : (word : ℕ) (set : KeptSet) (f : Fields) → (keep_by word set f).limit ≡ set.limit
unfolding keep_by
keep_limit_by word set f = refl

pub keep_limit : (set : KeptSet) (f : Fields) → (keep_by 2 set f).limit ≡ set.limit
keep_limit = keep_limit_by 2

module _ {word : ℕ} where
  pub keepable : (set : KeptSet) (f : Fields) → is_kept (frame_verdict_by word set f) ≡ true → IsKeepableBy word set f
  unfolding frame_verdict_by
  keepable set f kept =
      let k = chain (bytes_eq f.session set.session) (clashes set f) (is_some (payload_of set f.group f.number))
      (is_too_much_by word set f) (layer_set (newly_shown set f)) kept in
      let clash = neither (tells_other_count set f || tells_other_table set f) (tells_other_payload set f) k.second in
      let parts = neither (tells_other_count set f) (tells_other_table set f) clash.0 in
      record {
        session = (bytes_eq-Decides f.session set.session).0 k.first;
        count = parts.0;
        table =
            λ p opened.
            let other = subst (λ o. option_map_or
            (λ (q : Packets). not (same_table q.header.table (header_of f).table)) o false ≡ false) opened parts.1 in
            (same_table-exact p.header.table (header_of f).table).0
            (not_false (same_table p.header.table (header_of f).table) other);
        absent = none_from (payload_of set f.group f.number) k.third;
        room = λ none. fits_from (opens set f) set.limit (cost_kept set + cost_by word f.packets f.layers)
            (ap is_none none) k.fourth;
        verdict = k.is;
      }

  -- ---- the set with one frame more

  ready_none : (f : Fields) → IsReady word f 0 (no_packets_of word (header_of f))
  ready_none f = record {
    header = refl;
    word_is = refl;
    slots = length-replicate f.packets None;
    absent = none_in (List ℕ) f.packets f.number;
    frames = λ number payload e. let no : None ≡ Some payload = sym (none_in (List ℕ) f.packets number) ∙ e in absurd (cc);
    count = count_none (List ℕ) f.packets;
  }

  frames_more : (f : Fields) (p : Packets) (n : ℕ) → IsReady word f n p → IsFrameBy word f
      → (number : ℕ) (payload : List ℕ) → slot_at (with_packet p f.number f.payload) number ≡ Some payload
      → IsFrameBy word (fields_with p.header number payload)
  frames_more f p n r frame number payload e =
      elim (cases_eq number f.number) [
        | inl here ↦
            let inside : f.number < length p.slots = omega (arith, r.slots, frame.number) in
            let same : Some f.payload ≡ Some payload =
            sym (get_or-set_same p.slots f.number (Some f.payload) None inside) ∙ ap (slot_at (with_packet p f.number f.payload)) (sym here) ∙ e in
            subst (λ h. IsFrameBy word (fields_with h number payload)) (sym r.header)
            (subst (λ i. IsFrameBy word (fields_with (header_of f) i payload)) (sym here)
            (subst (λ x. IsFrameBy word (fields_with (header_of f) f.number x)) (same_Some f.payload payload same) frame))
        | inr other ↦ r.frames number payload (sym (get_or-set_other p.slots f.number number (Some f.payload) None other) ∙ e)
      ]

  module _ (set : KeptSet) (sound : IsKeptSetBy word set) (f : Fields) (frame : IsFrameBy word f) (k : IsKeepableBy word set f) where
    -- an open group tells the frame's number of groups
    pub same_count : (group : ℕ) (p : Packets) → open_group set group ≡ Some p → p.header.groups ≡ f.groups
    same_count group p opened =
        let each : All (λ (e : ℕ × Packets). e.1.header.groups ≡ f.groups) set.groups =
        λ i d l. same_number (get_or set.groups i d).1.header.groups f.groups
        (none_told (λ (e : ℕ × Packets). not (e.1.header.groups == f.groups)) set.groups k.count i d l) in
        subst (λ o. IfSome o (λ (q : Packets). q.header.groups ≡ f.groups)) opened
        (All-lookup (λ (q : Packets). q.header.groups ≡ f.groups) (is_at (nat_cmp group)) set.groups each)

    -- the header of the frame's group, where it is open, is the frame's
    pub same_header : (p : Packets) → open_group set f.group ≡ Some p → p.header ≡ header_of f
    same_header p opened =
        let g = sound.groups f.group p opened in
        header_same p.header f (g.same_session ∙ sym k.session) (same_count f.group p opened) g.same_group (k.table p opened)

    ready_some : (p : Packets) → open_group set f.group ≡ Some p → IsReady word f (count_in p) p
    ready_some p opened =
        let g = sound.groups f.group p opened in
        let same = same_header p opened in
        record {
          header = same;
          word_is = g.word_is;
          slots = g.slots ∙ ap (λ (h : Header). h.table.packets) same;
          absent = subst (λ o. option_and_then (λ (q : Packets). slot_at q f.number) o ≡ None) opened k.absent;
          frames = g.frames;
          count = refl;
        }

    ready_by : (o : Option Packets) → open_group set f.group ≡ o
        → IsReady word f (unwrap_or (option_map count_in o) 0) (unwrap_or o (no_packets_of word (header_of f)))
    ready_by None opened = ready_none f
    ready_by (Some p) opened = ready_some p opened

    ready : IsReady word f (count_kept set f.group) (unwrap_or (open_group set f.group) (no_packets_of word (header_of f)))
    ready = ready_by (open_group set f.group) refl

    -- the frame's number has a slot in its group
    pub slot_inside : f.number < length (unwrap_or (open_group set f.group) (no_packets_of word (header_of f))).slots
    slot_inside = omega (arith, ready.slots, frame.number)

    pub header_with : (group_with_by word set f).header ≡ header_of f
    header_with = ready.header

    pub count_with : count_in (group_with_by word set f) ≡ count_kept set f.group + 1
    count_with =
        omega (arith, count_set (List ℕ) (unwrap_or (open_group set f.group) (no_packets_of word (header_of f))).slots f.number f.payload slot_inside ready.absent, ready.count)

    group_sound : IsKeptGroupBy word set.session f.group (group_with_by word set f)
    group_sound = record {
      word_is = ready.word_is;
      same_session = ap (λ (h : Header). h.session) ready.header ∙ k.session;
      same_group = ap (λ (h : Header). h.group) ready.header;
      slots =
          length-set (unwrap_or (open_group set f.group) (no_packets_of word (header_of f))).slots f.number (Some f.payload) ∙ ready.slots ∙ sym (ap (λ (h : Header). h.table.packets) ready.header);
      some = omega (arith, count_with);
      frames =
          frames_more f (unwrap_or (open_group set f.group) (no_packets_of word (header_of f))) (count_kept set f.group) ready frame;
    }

    count_by_case : (group : ℕ) (p : Packets) → open_group (keep_by word set f) group ≡ Some p → p.header.groups ≡ f.groups
    count_by_case group p opened =
        elim (cases_eq group f.group) [
          | inl here ↦
              let found : Some (group_with_by word set f) ≡ Some p =
              sym (open_here_by word set f) ∙ ap (open_group (keep_by word set f)) (sym here) ∙ opened in
              ap (λ (q : Packets). q.header.groups) (sym (same_Some (group_with_by word set f) p found))
              ∙ ap (λ (h : Header). h.groups) header_with
          | inr other ↦ same_count group p (sym (open_other_by word set f group other) ∙ opened)
        ]

    -- the group's cost comes to the sum where the frame opens it
    cost_case : (o : Option Packets) → open_group set f.group ≡ o
        → cost_kept (keep_by word set f) + unwrap_or (option_map cost_in o) 0 ≡ cost_kept set + cost_in (group_with_by word set f)
    unfolding keep_by
    cost_case o opened =
        subst (λ t. cost_kept (keep_by word set f) + unwrap_or (option_map cost_in t) 0 ≡ cost_kept set + cost_in (group_with_by word set f)) opened (sum_insert cost_in set.groups f.group (group_with_by word set f) sound.rising)

    cost_with : cost_in (group_with_by word set f) ≡ cost_by word f.packets f.layers
    cost_with = ap₂ (λ (n : ℕ) (h : Header). cost_by n h.table.packets h.table.layers) ready.word_is header_with

    pub cost_opened : open_group set f.group ≡ None → cost_kept (keep_by word set f) ≡ cost_kept set + cost_by word f.packets f.layers
    cost_opened none = omega (arith, cost_case None none, cost_with)

    pub cost_same : (p : Packets) → open_group set f.group ≡ Some p → cost_kept (keep_by word set f) ≡ cost_kept set
    cost_same p opened =
        omega (arith, cost_case (Some p) opened, cost_with, ap₂ (λ (n : ℕ) (h : Header). cost_by n h.table.packets h.table.layers) (sound.groups f.group p opened).word_is (same_header p opened))

    within_by : (o : Option Packets) → open_group set f.group ≡ o → cost_kept (keep_by word set f) ≤ set.limit
    within_by None opened = omega (arith, cost_opened opened, k.room opened)
    within_by (Some p) opened = omega (arith, cost_same p opened, sound.within)

    -- one packet more is kept of the frame's group, and in all
    pub count_keep : count_kept (keep_by word set f) f.group ≡ count_kept set f.group + 1
    count_keep = ap (λ o. unwrap_or (option_map count_in o) 0) (open_here_by word set f) ∙ count_with

    pub count_keep_other : (group : ℕ) → group ≢ f.group → count_kept (keep_by word set f) group ≡ count_kept set group
    count_keep_other group ne = ap (λ o. unwrap_or (option_map count_in o) 0) (open_other_by word set f group ne)

    pub all_keep : kept_in_all (keep_by word set f) ≡ kept_in_all set + 1
    unfolding keep_by
    all_keep = omega (arith, sum_insert count_in set.groups f.group (group_with_by word set f) sound.rising, count_with)

    keep_rises : IsStrictlySortedBy nat_cmp (keys_of (keep_by word set f).groups)
    unfolding keep_by
    keep_rises = rises_insert set.groups f.group (group_with_by word set f) sound.rising

    keep_groups : (group : ℕ) (p : Packets) → open_group (keep_by word set f) group ≡ Some p
        → IsKeptGroupBy word (keep_by word set f).session group p
    keep_groups group p opened =
        subst (λ s. IsKeptGroupBy word s group p) (sym (keep_session_by word set f))
        (elim (cases_eq group f.group) [
          | inl here ↦
              let found : Some (group_with_by word set f) ≡ Some p =
              sym (open_here_by word set f) ∙ ap (open_group (keep_by word set f)) (sym here) ∙ opened in
              subst (λ g. IsKeptGroupBy word set.session g p) (sym here)
              (subst (λ q. IsKeptGroupBy word set.session f.group q) (same_Some (group_with_by word set f) p found) group_sound)
          | inr other ↦ sound.groups group p (sym (open_other_by word set f group other) ∙ opened)
        ])

    -- and the set is a kept set again
    pub keep_sound : IsKeptSetBy word (keep_by word set f)
    keep_sound = record {
      rising = keep_rises;
      groups = keep_groups;
      one_count = λ a b p q opened other. count_by_case a p opened ∙ sym (count_by_case b q other);
      within =
          subst (λ l. cost_kept (keep_by word set f) ≤ l) (sym (keep_limit_by word set f)) (within_by (open_group set f.group) refl);
    }

  -- ---- what is kept after a datagram, and after some

  pub empty_sound : (session : List ℕ) (limit : ℕ) → IsKeptSetBy word (empty_set session limit)
  unfolding IsStrictlySortedBy
  empty_sound session limit = record {
    rising = tt;
    groups = λ group p e. absurd (cc);
    one_count = λ a b p q e g. absurd (cc);
    within = omega arith;
  }

pub after_more_in : (t : Format) → (set : KeptSet) (datagrams : List (List ℕ)) (bytes : List ℕ)
    → after_all_in t set (datagrams ++ (bytes ∷ [])) ≡ after_in t (after_all_in t set datagrams) bytes
unfolding after_all_in
after_more_in t set [] bytes = refl
after_more_in t set (first ∷ rest) bytes = after_more_in t (after_in t set first) rest bytes

pub after_more : (set : KeptSet) (datagrams : List (List ℕ)) (bytes : List ℕ)
    → after_all_in FORMAT set (datagrams ++ (bytes ∷ [])) ≡ after_in FORMAT (after_all_in FORMAT set datagrams) bytes
after_more = after_more_in FORMAT

-- the verdict of a datagram that is read is that of its frame
pub verdict_read_in : (t : Format) → (set : KeptSet) (bytes : List ℕ) → first_fault_in t bytes ≡ None
    → verdict_in t set bytes ≡ frame_verdict_by t.word set (planned_fields t bytes)
unfolding verdict_in
verdict_read_in t set bytes e = ap (λ o. if is_some o then Damaged else frame_verdict_by t.word set (planned_fields t bytes)) e

pub verdict_read : (set : KeptSet) (bytes : List ℕ) → first_fault_in FORMAT bytes ≡ None
    → verdict_in FORMAT set bytes ≡ frame_verdict_by 2 set (planned_fields FORMAT bytes)
verdict_read = verdict_read_in FORMAT

pub verdict_damaged_in : (t : Format) → (set : KeptSet) (bytes : List ℕ) (fault : FrameFault)
    → first_fault_in t bytes ≡ Some fault → verdict_in t set bytes ≡ Damaged
unfolding verdict_in
verdict_damaged_in t set bytes fault e =
    ap (λ o. if is_some o then Damaged else frame_verdict_by t.word set (planned_fields t bytes)) e

pub verdict_damaged : (set : KeptSet) (bytes : List ℕ) (fault : FrameFault) → first_fault_in FORMAT bytes ≡ Some fault
    → verdict_in FORMAT set bytes ≡ Damaged
verdict_damaged = verdict_damaged_in FORMAT

pub after_kept_in : (t : Format) → (set : KeptSet) (bytes : List ℕ) → is_kept (verdict_in t set bytes) ≡ true
    → after_in t set bytes ≡ keep_by t.word set (planned_fields t bytes)
unfolding after_in
after_kept_in t set bytes e = ap (λ b. if b then keep_by t.word set (planned_fields t bytes) else set) e

pub after_kept : (set : KeptSet) (bytes : List ℕ) → is_kept (verdict_in FORMAT set bytes) ≡ true
    → after_in FORMAT set bytes ≡ keep_by 2 set (planned_fields FORMAT bytes)
after_kept = after_kept_in FORMAT

pub after_other_in : (t : Format) → (set : KeptSet) (bytes : List ℕ) → is_kept (verdict_in t set bytes) ≡ false
    → after_in t set bytes ≡ set
unfolding after_in
after_other_in t set bytes e = ap (λ b. if b then keep_by t.word set (planned_fields t bytes) else set) e

pub after_other : (set : KeptSet) (bytes : List ℕ) → is_kept (verdict_in FORMAT set bytes) ≡ false → after_in FORMAT set bytes ≡ set
after_other = after_other_in FORMAT

after_by_in : (t : Format) → (set : KeptSet) (bytes : List ℕ) → IsKeptSetBy t.word set
    → (first_fault_in t bytes ≡ None → IsFrameBy t.word (planned_fields t bytes)) → (o : Option FrameFault) → first_fault_in t bytes ≡ o → (b : Bool) → is_kept (verdict_in t set bytes) ≡ b
    → IsKeptSetBy t.word (after_in t set bytes)
after_by_in t set bytes sound reads o fault false e = subst (IsKeptSetBy t.word) (sym (after_other_in t set bytes e)) sound
after_by_in t set bytes sound reads None fault true e =
    let k = keepable set (planned_fields t bytes) (ap is_kept (sym (verdict_read_in t set bytes fault)) ∙ e) in
    subst (IsKeptSetBy t.word) (sym (after_kept_in t set bytes e)) (keep_sound set sound (planned_fields t bytes) (reads fault) k)
after_by_in t set bytes sound reads (Some x) fault true e =
    let no : false ≡ true = ap is_kept (sym (verdict_damaged_in t set bytes x fault)) ∙ e in absurd (cc)

-- a kept set stays one, where what is read is a frame
pub after_sound_in : (t : Format) → (set : KeptSet) (bytes : List ℕ) → IsKeptSetBy t.word set
    → (first_fault_in t bytes ≡ None → IsFrameBy t.word (planned_fields t bytes)) → IsKeptSetBy t.word (after_in t set bytes)
after_sound_in t set bytes sound reads =
    after_by_in t set bytes sound reads (first_fault_in t bytes) refl (is_kept (verdict_in t set bytes)) refl

pub after_sound : (set : KeptSet) (bytes : List ℕ) → IsKeptSetBy 2 set
    → (first_fault_in FORMAT bytes ≡ None → IsFrameBy 2 (planned_fields FORMAT bytes)) → IsKeptSetBy 2 (after_in FORMAT set bytes)
after_sound = after_sound_in FORMAT
