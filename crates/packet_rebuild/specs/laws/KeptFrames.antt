-- A packet of an open group that is not kept: its verdict is Kept, and what is kept then.
use Rattle.std.proofs.Common.{◌≡◌, ◌≢◌, ℕ, ◌+◌, Bool, true, false, cond, List, [], ◌∷◌, get_or, set, All, Option}
use Rattle.std.proofs.Common.{None, Some, refl, sym, ap, ◌∙◌, eqb, ltb}
use Rattle.std.specs.Prelude.{not, ◌||◌, ◌&&◌, is_some, is_none, option_map, unwrap_or}
use Rattle.std.specs.Option.{option_map_or, option_and_then}
use Rattle.std.specs.List.{list_any}
use Rattle.std.specs.Str.{bytes_eq}
use Rattle.std.proofs.lemmas.Bool.{eq-eqb}
use Rattle.std.proofs.lemmas.List.{get_or-set_other}
use Rattle.std.proofs.lemmas.List.Elements.{All-head, All-tail}
use Rattle.std.proofs.lemmas.Slice.Eq.{bytes_eq-Decides}
use Rattle.packet_frame.specs.Frame.{Fields, IsFrame, text}
use Rattle.packet_frame.specs.declared.frame.Header.{Header}
use Rattle.packet_frame.specs.laws.Laws.{texts_are_read}
use Rattle.packet_set.specs.Packets.{Packets, slot_at, with_packet, no_packets}
use Rattle.packet_set.specs.laws.SlotCounts.{none_in}
use Rattle.stripe_plan.specs.Sizes.{Sizes}
use Rattle.stripe_plan.specs.Same.{same_table}
use Rattle.stripe_plan.specs.laws.SameLaws.{same_table_laws}
use Rattle.packet_verdicts.specs.declared.verdict.Verdict.TheVariants.{Foreign, Clash, Repeated, Full, Kept}
use Rattle.packet_verdicts.specs.KeptSet.{KeptSet, IsKeptSet, open_group, payload_of, header_of, group_with, keep}
use Rattle.packet_verdicts.specs.Verdicts.{tells_other_count, tells_other_table, tells_other_payload, clashes}
use Rattle.packet_verdicts.specs.Verdicts.{is_too_much, newly_shown, layer_set, frame_verdict, frame_verdict_by}
use Rattle.packet_verdicts.specs.Verdicts.{verdict_of, is_kept, after}
use Rattle.packet_verdicts.specs.laws.EntryLaws.{all_found}
use Rattle.packet_verdicts.specs.laws.KeptSetLaws.{open_here, verdict_read, after_kept}

-- what is kept of the group's other numbers is what it was
pub payload_other : (set : KeptSet) (f : Fields) (m : ℕ) → m ≢ f.number
    → payload_of (keep set f) f.group m ≡ payload_of set f.group m
payload_other set f m apart = ap (λ (o : Option Packets). option_and_then (λ p. slot_at p m) o) (open_here set f)
    ∙ by (open_group set f.group)
  where
    by : (o : Option Packets)
        → slot_at (with_packet (unwrap_or o (no_packets (header_of f))) f.number f.payload) m ≡ option_and_then
        (λ p. slot_at p m) o
    by None = get_or-set_other (no_packets (header_of f)).slots f.number m (Some f.payload) None apart
        ∙ none_in (List ℕ) f.packets m
    by (Some p) = get_or-set_other p.slots f.number m (Some f.payload) None apart

-- and an open group has the header that it had
pub header_stays : (set : KeptSet) (f : Fields) (h : Header)
    → option_map (λ p. p.header) (open_group set f.group) ≡ Some h
    → option_map (λ p. p.header) (open_group (keep set f) f.group) ≡ Some h
header_stays set f h is = ap (option_map (λ (p : Packets). p.header)) (open_here set f)
    ∙ by (open_group set f.group) is
  where
    by : (o : Option Packets) → option_map (λ p. p.header) o ≡ Some h
        → Some (unwrap_or o (no_packets (header_of f))).header ≡ Some h
    by None e = absurd cc
    by (Some p) e = e

count_same : (n : ℕ) (es : List (ℕ × Packets)) → All (λ e. e.1.header.groups ≡ n) es
    → list_any (λ e. not (eqb e.1.header.groups n)) es ≡ false
count_same n [] all = refl
count_same n (e ∷ es) all =
    ap (λ (b : Bool). not b || list_any (λ t. not (eqb t.1.header.groups n)) es)
    (eq-eqb e.1.header.groups n (All-head (λ (t : ℕ × Packets). t.1.header.groups ≡ n) e es all))
    ∙ count_same n es (All-tail (λ (t : ℕ × Packets). t.1.header.groups ≡ n) e es all)

module _ (set : KeptSet) (f : Fields) (sound : IsKeptSet set) (p : Packets) (opened : open_group set f.group ≡ Some p)
    (same : p.header ≡ header_of f) (absent : payload_of set f.group f.number ≡ None) where
  no_count : tells_other_count set f ≡ false
  no_count =
      let groups : p.header.groups ≡ f.groups = ap (λ (h : Header). h.groups) same in
      count_same f.groups set.groups
      (λ k d lt.
      let e = get_or set.groups k d in
      sound.one_count e.0 f.group e.1 p (all_found set.groups sound.rising k d lt) opened ∙ groups)

  no_table : tells_other_table set f ≡ false
  no_table =
      let table : p.header.table ≡ (header_of f).table = ap (λ (h : Header). h.table) same in
      ap (λ (o : Option Packets). option_map_or (λ p. not (same_table p.header.table (header_of f).table)) o false)
      opened
      ∙ ap (λ (t : Sizes). not (same_table t (header_of f).table)) table
      ∙ ap not (same_table_laws.refl (header_of f).table)

  no_payload : tells_other_payload set f ≡ false
  no_payload = ap (λ (o : Option (List ℕ)). option_map_or (λ payload. not (bytes_eq payload f.payload)) o false)
      absent

  -- its verdict is Kept
  pub is_kept_now : is_kept (frame_verdict set f) ≡ true
  unfolding frame_verdict_by
  is_kept_now =
      let session : bytes_eq f.session set.session ≡ true =
      (bytes_eq-Decides f.session set.session).1 (sym (ap (λ (h : Header). h.session) same)
      ∙ (sound.groups f.group p opened).same_session) in
      let clash : clashes set f ≡ false =
      ap (λ (b : Bool). b || tells_other_table set f || tells_other_payload set f) no_count
      ∙ ap (λ (b : Bool). b || tells_other_payload set f) no_table ∙ no_payload in
      let room : is_too_much set f ≡ false =
      ap (λ (o : Option Packets). is_none o && ltb set.limit
      (Rattle.packet_verdicts.specs.KeptSet.cost_kept set + Rattle.stripe_plan.specs.Sizes.cost_of f.packets
      f.layers)) opened in
      let last = Kept (layer_set (newly_shown set f)) in
      ap (λ (b : Bool). is_kept
      (cond (not b) Foreign
      (cond (clashes set f) Clash (cond (is_some (payload_of set f.group f.number)) Repeated
      (cond (is_too_much set f) Full last))))) session
      ∙ ap (λ (b : Bool). is_kept
      (cond b Clash (cond (is_some (payload_of set f.group f.number)) Repeated
      (cond (is_too_much set f) Full last)))) clash
      ∙ ap (λ (o : Option (List ℕ)). is_kept (cond (is_some o) Repeated (cond (is_too_much set f) Full last))) absent
      ∙ ap (λ (b : Bool). is_kept (cond b Full last)) room

  -- so is that of its text
  pub kept_text : IsFrame f → is_kept (verdict_of set (text f)) ≡ true
  kept_text frame =
      let read = texts_are_read f frame in
      ap is_kept (verdict_read set (text f) read.accepted)
      ∙ ap (λ (x : Fields). is_kept (frame_verdict set x)) read.fields ∙ is_kept_now

  -- and the set after it has the frame
  pub after_text : IsFrame f → after set (text f) ≡ keep set f
  after_text frame = after_kept set (text f) (kept_text frame) ∙ ap (keep set) (texts_are_read f frame).fields
