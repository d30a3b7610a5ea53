-- Packets of a group made again, range by range.
use Rattle.std.proofs.Common.{◌≡◌, ℕ, suc, ◌+◌, ◌<◌, ◌≤◌, Bool, true, false, cond, List, [], ◌∷◌, ◌++◌, map}
use Rattle.std.proofs.Common.{get_or, All, Option, None, Some, refl, sym, ap, ap₂, subst, ◌∙◌, arith}
use Rattle.std.specs.Prelude.{filter, is_none, is_some, option_map, count_by}
use Rattle.std.specs.List.{range_with_len}
use Rattle.std.proofs.lemmas.List.Sums.{sum_by-cons}
use Rattle.pet_base.specs.declared.limits.TheConstants.{MAX_PACKETS}
use Rattle.std.proofs.lemmas.List.{map-append}
use Rattle.std.proofs.lemmas.List.Elements.{All-head, All-tail, filter-append}
use Rattle.field_elements.specs.Field.{Coding}
use Rattle.packet_frame.specs.Frame.{Fields, IsFrame, text}
use Rattle.packet_frame.specs.declared.frame.Header.{Header}
use Rattle.packet_set.specs.Packets.{Packets}
use Rattle.packet_session.specs.Encoding.{Encoding, frame_of}
use Rattle.packet_verdicts.specs.KeptSet.{KeptSet, IsKeptSet, IsKeptGroup, open_group, payload_of, keep}
use Rattle.packet_verdicts.specs.Verdicts.{after, verdict_of, is_kept}
use Rattle.packet_rebuild.specs.Repairs.{not_kept, made_again, keep_all}
use Rattle.packet_rebuild.specs.Rebuilding.{HasRebuilt, IsOpenFor}
use Rattle.packet_rebuild.specs.laws.RangeLaws.{range_append, filter_same_range, below_end}
use Rattle.packet_rebuild.specs.laws.KeptFrames.{payload_other, header_stays, kept_text, after_text}

pub keep_append : (set : KeptSet) (fs gs : List Fields) → keep_all set (fs ++ gs) ≡ keep_all (keep_all set fs) gs
unfolding keep_all
keep_append set [] gs = refl
keep_append set (f ∷ fs) gs = keep_append (keep set f) fs gs

-- something is kept of an open group
pub some_slot : (slots : List (Option (List ℕ))) → 0 < count_by is_some slots → (i : ℕ) × (payload : List ℕ)
    × (get_or slots i None ≡ Some payload)
some_slot [] some = absurd (omega (arith, some))
some_slot (Some payload ∷ slots) some = (0, payload, refl)
some_slot (None ∷ slots) some =
    let rest = some_slot slots
    (omega (arith, some, sum_by-cons (λ (o : Option (List ℕ)). cond (is_some o) 1 0) None slots)) in
    (suc rest.0, rest.1, rest.2)

-- whether a payload is there
pub some_kept : (o : Option (List ℕ)) → is_some o ≡ true → is_none o ≡ false
some_kept None e = absurd cc
some_kept (Some payload) e = refl

pub none_kept : (o : Option (List ℕ)) (b : Bool) → (is_some o ≡ true → b ≡ true) → b ≡ false → o ≡ None
none_kept None b each e = refl
none_kept (Some payload) b each e = let no : true ≡ false = sym (each refl) ∙ e in absurd cc

-- the packets of the group
pub open_of : (set : KeptSet) (group : ℕ) (h : Header) → option_map (λ p. p.header) (open_group set group) ≡ Some h
    → (p : Packets) × (open_group set group ≡ Some p) × (p.header ≡ h)
open_of set group h header = by (open_group set group) refl header
  where
    by : (o : Option Packets) → open_group set group ≡ o → option_map (λ p. p.header) o ≡ Some h → (p : Packets)
        × (open_group set group ≡ Some p) × (p.header ≡ h)
    by None f is = absurd cc
    by (Some p) f is = (p, f, Rattle.std.proofs.lemmas.Option.same_Some p.header h is)

pub closed_of : (set : KeptSet) (group : ℕ) → None ≡ option_map (λ p. p.header) (open_group set group)
    → open_group set group ≡ None
closed_of set group header = by (open_group set group) header
  where
    by : (o : Option Packets) → None ≡ option_map (λ p. p.header) o → o ≡ None
    by None is = refl
    by (Some p) is = absurd cc

open_in : (e : Encoding) (set : KeptSet) → IsOpenFor set e → (p : Packets) × (open_group set e.header.group ≡ Some p)
    × (p.header ≡ e.header)
open_in e set opened = open_of set e.header.group e.header opened.header

module _ {E : Type 0} (c : Coding E) (e : Encoding) where
  -- packets of numbers below b leave what is kept of those from b on
  payload_above : (set : KeptSet) (ns : List ℕ) (b m : ℕ) → All (λ n. n < b) ns → b ≤ m
      → payload_of (keep_all set (map (frame_of c e) ns)) e.header.group m ≡ payload_of set e.header.group m
  unfolding keep_all
  payload_above set [] b m low le = refl
  payload_above set (n ∷ ns) b m low le =
      let first : n < b = All-head (λ n. n < b) n ns low in
      payload_above (keep set (frame_of c e n)) ns b m (All-tail (λ n. n < b) n ns low) le
      ∙ payload_other set (frame_of c e n) m (λ same. omega (arith, same, first, le))

  -- so which of them are not kept
  later_same : (set : KeptSet) (first a b : ℕ) → not_kept (keep_all set (made_again c set e first a)) e
      (first + a) b ≡ not_kept set e (first + a) b
  later_same set first a b =
      filter_same_range (λ n. is_none (payload_of (keep_all set (made_again c set e first a)) e.header.group n))
      (λ n. is_none (payload_of set e.header.group n)) (first + a) b
      (λ m low high. ap is_none (payload_above set (not_kept set e first a) (first + a) m
      (below_end (λ n. is_none (payload_of set e.header.group n)) first a) low))

  not_kept_append : (set : KeptSet) (first a b : ℕ)
      → not_kept set e first (a + b) ≡ not_kept set e first a ++ not_kept set e (first + a) b
  not_kept_append set first a b =
      let p : ℕ → Bool = λ n. is_none (payload_of set e.header.group n) in
      ap (filter p) (range_append first a b) ∙ filter-append p (range_with_len first a) (range_with_len (first + a) b)

  made_append : (set : KeptSet) (first a b : ℕ)
      → made_again c set e first (a + b) ≡ made_again c set e first a ++ made_again c
      (keep_all set (made_again c set e first a)) e (first + a) b
  made_append set first a b =
      ap (map (frame_of c e)) (not_kept_append set first a b ∙ ap (λ (t : List ℕ). not_kept set e first a ++ t)
      (sym (later_same set first a b)))
      ∙ map-append (frame_of c e) (not_kept set e first a) (not_kept (keep_all set (made_again c set e first a)) e
      (first + a) b)

  pub rebuilt_none : (set : KeptSet) (first : ℕ) → HasRebuilt c set e first 0 [] set
  unfolding keep_all
  rebuilt_none set first = record { sent_is = refl; kept = refl }

  pub rebuilt_then : (set mid now : KeptSet) (first a next b k : ℕ) (s t : List (List ℕ))
      → HasRebuilt c set e first a s mid → next ≡ first + a → HasRebuilt c mid e next b t now → k ≡ a + b
      → HasRebuilt c set e first k (s ++ t) now
  rebuilt_then set mid now first a next b k s t one at two total =
      subst (λ (k : ℕ). HasRebuilt c set e first k (s ++ t) now) (sym total)
      (on (subst (λ (s : KeptSet). HasRebuilt c s e (first + a) b t now) one.kept
      (subst (λ (i : ℕ). HasRebuilt c mid e i b t now) at two)))
    where
      on : HasRebuilt c (keep_all set (made_again c set e first a)) e (first + a) b t now
          → HasRebuilt c set e first (a + b) (s ++ t) now
      on two =
          let front = made_again c set e first a in
          let r = keep_all set front in
          let rest = made_again c r e (first + a) b in
          record {
            sent_is =
                ap₂ (λ (x y : List (List ℕ)). x ++ y) one.sent_is two.sent_is ∙ sym (map-append text front rest)
                ∙ ap (map text) (sym (made_append set first a b));
            kept = two.kept ∙ sym (keep_append set front rest) ∙ ap (keep_all set) (sym (made_append set first a b));
          }

  -- all of a range
  pub rebuilt_whole : (set now : KeptSet) (first n count : ℕ) (sent : List (List ℕ)) → n ≡ count
      → HasRebuilt c set e first n sent now → HasRebuilt c set e first count sent now
  rebuilt_whole set now first n count sent is has = subst (λ (k : ℕ). HasRebuilt c set e first k sent now) is has

  -- one packet, that is kept already
  pub rebuilt_had : (set : KeptSet) (n : ℕ) → is_none (payload_of set e.header.group n) ≡ false
      → HasRebuilt c set e n 1 [] set
  unfolding keep_all
  rebuilt_had set n there =
      let none : not_kept set e n 1 ≡ [] = ap (λ (b : Bool). cond b (n ∷ []) []) there in
      record {
        sent_is = ap (λ (ns : List ℕ). map text (map (frame_of c e) ns)) (sym none);
        kept = ap (λ (ns : List ℕ). keep_all set (map (frame_of c e) ns)) (sym none);
      }

  -- and one that is not
  pub rebuilt_one : (set now : KeptSet) (n : ℕ) (frame : List ℕ) → IsOpenFor set e → IsFrame (frame_of c e n)
      → payload_of set e.header.group n ≡ None → frame ≡ text (frame_of c e n)
      → now ≡ after set frame → HasRebuilt c set e n 1 (frame ∷ []) now
  unfolding keep_all
  rebuilt_one set now n frame opened is absent same kept =
      let f = frame_of c e n in
      let one : not_kept set e n 1 ≡ n ∷ [] = ap (λ (o : Option (List ℕ)). cond (is_none o) (n ∷ []) []) absent in
      let p = open_in e set opened in
      record {
        sent_is = ap (λ (t : List ℕ). t ∷ []) same ∙ ap (λ (ns : List ℕ). map text (map (frame_of c e) ns)) (sym one);
        kept = kept ∙ ap (after set) same ∙ after_text set f opened.sound p.0 p.1 p.2 absent is
            ∙ ap (λ (ns : List ℕ). keep_all set (map (frame_of c e) ns)) (sym one);
      }

  -- its verdict is Kept
  pub verdict_kept : (set : KeptSet) (n : ℕ) (frame : List ℕ) → IsOpenFor set e → IsFrame (frame_of c e n)
      → payload_of set e.header.group n ≡ None → frame ≡ text (frame_of c e n) → is_kept (verdict_of set frame) ≡ true
  verdict_kept set n frame opened is absent same =
      let p = open_in e set opened in
      ap (λ (d : List ℕ). is_kept (verdict_of set d)) same
      ∙ kept_text set (frame_of c e n) opened.sound p.0 p.1 p.2 absent is

  -- the group is open still
  pub open_then : (set now : KeptSet) (n : ℕ) (frame : List ℕ) → IsOpenFor set e → IsFrame (frame_of c e n)
      → payload_of set e.header.group n ≡ None → frame ≡ text (frame_of c e n) → now ≡ after set frame → IsKeptSet now
      → IsOpenFor now e
  unfolding keep_all
  open_then set now n frame opened is absent same kept sound =
      let f = frame_of c e n in
      let one = rebuilt_one set now n frame opened is absent same kept in
      let now_is : now ≡ keep set f = one.kept
      ∙ ap (λ (o : Option (List ℕ)). keep_all set (map (frame_of c e) (cond (is_none o) (n ∷ []) []))) absent in
      record {
        header = subst (λ (s : KeptSet). option_map (λ p. p.header) (open_group s e.header.group) ≡ Some e.header)
            (sym now_is) (header_stays set f e.header opened.header);
        sound = sound;
      }

-- a group has few packets
pub few_packets : (set : KeptSet) (e : Encoding) → IsOpenFor set e → e.header.table.packets ≤ MAX_PACKETS
few_packets set e opened =
    let p = open_in e set opened in
    let g = opened.sound.groups e.header.group p.0 p.1 in
    subst (λ (h : Header). h.table.packets ≤ MAX_PACKETS) p.2 (few p.0 g)
  where
    few : (p : Packets) → IsKeptGroup set.session e.header.group p → p.header.table.packets ≤ MAX_PACKETS
    few p g = let one = some_slot p.slots g.some in (g.frames one.0 one.1 one.2).table.few_packets
