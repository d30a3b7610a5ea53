-- One arrival of a relay is the rule's, where what is kept are packets of a session.
use Rattle.std.proofs.Common.{◌≡◌, ℕ, zero, suc, ◌+◌, ◌<◌, Bool, true, false, cond, List, [], ◌∷◌, ◌++◌, length, map}
use Rattle.std.proofs.Common.{All, Option, None, Some, refl, sym, ap, ap₂, subst, ◌∙◌, arith, append_assoc, leb}
use Rattle.std.specs.Prelude.{slice_get, not, ◌&&◌, is_none, option_map, filter}
use Rattle.std.specs.List.{find, list_all, range_with_len}
use Rattle.std.specs.Option.{option_map_or, option_and_then}
use Rattle.std.specs.Str.{bytes_eq}
use Rattle.std.proofs.lemmas.Bool.{lt-leb}
use Rattle.std.proofs.lemmas.List.{append-nil}
use Rattle.std.proofs.lemmas.List.Elements.{All-head, All-tail}
use Rattle.std.proofs.lemmas.Option.{same_Some}
use Rattle.std.proofs.lemmas.Slice.Eq.{bytes_eq-Decides}
use Rattle.stripe_plan.specs.declared.layer.LayerSize.{LayerSize}
use Rattle.stripe_plan.specs.Layers.{count_of, words_before, plan_stripes}
use Rattle.field_elements.specs.Field.{Coding}
use Rattle.packet_frame.specs.Frame.{Fields}
use Rattle.packet_frame.specs.View.{fields_with}
use Rattle.packet_frame.specs.declared.frame.Header.{Header}
use Rattle.packet_set.specs.Packets.{Packets, slot_at, count_in, layers_of}
use Rattle.packet_session.specs.Encoding.{Encoding, IsGroupOf, frame_of}
use Rattle.packet_session.specs.Payload.{payload_at}
use Rattle.packet_session.specs.Session.{Session, SessionGroup, IsSession, IsSessionGroup, IsMessage, packet_of}
use Rattle.packet_session.specs.Session.{IsPacketOf}
use Rattle.packet_verdicts.specs.KeptSet.{KeptSet, open_group, payload_of, keep}
use Rattle.packet_verdicts.specs.laws.EntryLaws.{weight}
use Rattle.pet_receive.specs.Arrivals.{ReceiverState, kept_set}
use Rattle.packet_met.specs.Met.{Pair, has_pair, distinct_met, shows}
use Rattle.packet_met.specs.laws.CountsAreMet.{some_count}
use Rattle.packet_met.specs.laws.DatagramMore.{made, is_made, agrees}
use Rattle.packet_met.specs.laws.KeptIsMet.{header_in, HasMet, Follows}
use Rattle.packet_met.specs.laws.PacketMore.{follows_keep}
use Rattle.packet_met.specs.laws.PacketText.{count_kept_is}
use Rattle.pet_repair.specs.Relay.{all_layers, lacking}
use Rattle.packet_rebuild.specs.Message.{HasZeroEnds, HaveZeroEnds}
use Rattle.packet_rebuild.specs.Repairs.{fault_in, repair_fault, IsEncoderOf, is_unlike, first_unlike_of, not_kept}
use Rattle.packet_rebuild.specs.Repairs.{made_again, keep_all}
use Rattle.packet_rebuild.specs.declared.fault.RepairFault.TheVariants.{NotShown}
use Rattle.packet_rebuild.specs.laws.MessageLaws.{message_is}
use Rattle.packet_rebuild.specs.laws.RangeLaws.{all_fail, filter_same_range, below_end}
use Rattle.packet_rebuild.specs.laws.RebuiltLaws.{open_of}

pub all_at : {X : Type 0} (P : X → Type 0) (xs : List X) (i : ℕ) (x : X) → slice_get xs i ≡ Some x → All P xs → P x
all_at P [] i x e all = absurd cc
all_at P (y ∷ xs) zero x e all = subst P (same_Some y x e) (All-head P y xs all)
all_at P (y ∷ xs) (suc i) x e all = all_at P xs i x e (All-tail P y xs all)

-- ---- when a group is whole

none_fails : (q : ℕ → Bool) (xs : List ℕ) → is_none (option_map NotShown (find (λ j. not (q j)) xs)) ≡ list_all q xs
none_fails q [] = refl
none_fails q (x ∷ xs) = by (q x) (none_fails q xs)
  where
    by : (b : Bool) → is_none (option_map NotShown (find (λ j. not (q j)) xs)) ≡ list_all q xs
        → is_none (option_map NotShown (cond (not b) (Some x) (find (λ j. not (q j)) xs))) ≡ (b && list_all q xs)
    by true later = later
    by false later = refl

first_fails : (q : ℕ → Bool) (n : ℕ) → 0 < n → q 0 ≡ false → list_all q (range_with_len 0 n) ≡ false
first_fails q zero lt out = absurd (omega (arith, lt))
first_fails q (suc n) lt out = ap (λ (b : Bool). b && list_all q (range_with_len (0 + 1) n)) out

module _ {E : Type 0} (c : Coding E) (s : Session) (limit : ℕ) (pairs : List Pair) (set : KeptSet)
    (is_session : IsSession c.width s) (follows : Follows (made c) s limit pairs set)
    (group : ℕ) (g : SessionGroup) (at : slice_get s.groups group ≡ Some g) where
  has_met : (p : Packets) → open_group set group ≡ Some p → HasMet (made c) s pairs group g p
  has_met p opened =
      let has = follows.opened group p opened in
      subst (λ (x : SessionGroup). HasMet (made c) s pairs group x p) (same_Some has.0 g (sym has.1 ∙ at)) has.2

  -- all its layers are shown by what is kept exactly where they are by what was met
  pub whole_is : is_none (repair_fault set group) ≡ all_layers pairs group g
  unfolding repair_fault
  whole_is = by (open_group set group) refl
    where
      by : (o : Option Packets) → open_group set group ≡ o → is_none (fault_in o) ≡ all_layers pairs group g
      by None e =
          let nothing : distinct_met pairs group g.packets ≡ 0 =
          sym (count_kept_is (made c) s limit pairs set group g follows at) ∙ ap (weight count_in) e in
          let its = all_at (IsSessionGroup c.width) s.groups group g at is_session.groups in
          sym (first_fails (λ layer. shows pairs group g layer) (length g.layers) its.table.some_layers
          (lt-leb (count_of g.layers 0) (distinct_met pairs group g.packets)
          (omega (
            arith,
            nothing,
            some_count (words_before g.layers 0) (words_before g.layers (0 + 1))
                (plan_stripes g.layers),
          ))))
      by (Some p) e =
          let has = has_met p e in
          let layers : layers_of p ≡ g.layers = ap (λ (h : Header). h.table.layers) has.header in
          let count : count_in p ≡ distinct_met pairs group g.packets = sym (ap (weight count_in) e)
          ∙ count_kept_is (made c) s limit pairs set group g follows at in
          none_fails (λ layer. leb (count_of (layers_of p) layer) (count_in p))
          (range_with_len 0 (length (layers_of p)))
          ∙ ap (λ (l : List LayerSize). list_all (λ layer. leb (count_of l layer) (count_in p))
          (range_with_len 0 (length l))) layers
          ∙ ap (λ (n : ℕ). list_all (λ layer. leb (count_of g.layers layer) n) (range_with_len 0 (length g.layers)))
          count

  -- what is kept of its payloads
  pub payload_is : (n : ℕ) → payload_of set group n ≡ cond (has_pair pairs group n) (Some (made c g n)) None
  payload_is n = by (open_group set group) refl
    where
      by : (o : Option Packets) → open_group set group ≡ o
          → option_and_then (λ p. slot_at p n) o ≡ cond (has_pair pairs group n) (Some (made c g n)) None
      by None e = ap (λ (b : Bool). cond b (Some (made c g n)) None) (sym (follows.closed group e n))
      by (Some p) e = (has_met p e).each n

-- the encoder is that of the group
pub record IsEncoderIn (s : Session) (group : ℕ) (g : SessionGroup) (e : Encoding) : Type 0 where
  pub header : e.header ≡ header_in s group g
  pub message : e.message ≡ g.message

-- so it is that of a group of the session
pub is_group : (s : Session) (group : ℕ) (g : SessionGroup) (e : Encoding) → slice_get s.groups group ≡ Some g
    → IsEncoderIn s group g e → IsGroupOf s e
is_group s group g e at is = record {
  number = ap (λ (h : Header). h.session) is.header;
  groups = ap (λ (h : Header). h.groups) is.header;
  source =
      ap (λ (h : Header). slice_get s.groups h.group) is.header ∙ at
      ∙ ap (λ (m : List ℕ). Some (record { packets = g.packets; layers = g.layers; message = m })) (sym is.message)
      ∙ ap (λ (h : Header). Some (record { packets = h.table.packets; layers = h.table.layers; message = e.message }))
      (sym is.header);
}

module _ {E : Type 0} (P : E → Type 0) (c : Coding E) (s : Session) (limit : ℕ) (pairs : List Pair)
    (r : ReceiverState E) (two : c.width ≡ 2) (is_session : IsSession c.width s) (zeros : HaveZeroEnds s)
    (follows : Follows (made c) s limit pairs (kept_set r)) (group : ℕ) (g : SessionGroup)
    (at : slice_get s.groups group ≡ Some g) (e : Encoding) where
  -- the encoder of what is kept of it
  pub encoder_in : IsEncoderOf P c r group e → IsEncoderIn s group g e
  encoder_in is =
      let p = open_of (kept_set r) group e.header is.header in
      let has = has_met c s limit pairs (kept_set r) is_session follows group g at p.0 p.1 in
      let layers : layers_of p.0 ≡ g.layers = ap (λ (h : Header). h.table.layers) has.header in
      let its = all_at (IsSessionGroup c.width) s.groups group g at is_session.groups in
      let ends = all_at (λ (x : SessionGroup). HasZeroEnds x.layers x.message) s.groups group g at zeros in
      record {
        header = sym p.2 ∙ has.header;
        message =
            message_is P c r group e.message g.message p.0 two
            (subst (λ (h : Header). Rattle.packet_rebuild.specs.Making.HasLayers P c r group
            (length h.table.layers) e.message) (sym p.2) is.layers)
            p.1
            (subst (λ (l : List LayerSize). IsMessage c.width l g.message) (sym layers) its.message)
            (agrees c s pairs group g p.0 has)
            (subst (λ (l : List LayerSize). HasZeroEnds l g.message) (sym layers) ends);
      }

  module _ (its : IsEncoderIn s group g e) where
    -- its packets are the session's
    pub frame_is : (n : ℕ) → frame_of c e n ≡ packet_of c s group g n
    frame_is n =
        ap (λ (h : Header). fields_with h n (payload_at c h.table.layers e.message (c.point_of n))) its.header
        ∙ ap (λ (m : List ℕ). fields_with (header_in s group g) n (payload_at c g.layers m (c.point_of n)))
        its.message

    same_bytes : (x y : List ℕ) → x ≡ y → not (bytes_eq x y) ≡ false
    same_bytes x y same = ap not ((bytes_eq-Decides x y).1 same)

    -- it makes what is kept
    pub never_unlike : first_unlike_of c (kept_set r) e ≡ None
    unfolding first_unlike_of made
    never_unlike = all_fail (is_unlike c (kept_set r) e) 0 e.header.table.packets (λ n lt. one (0 + n))
      where
        one : (n : ℕ) → is_unlike c (kept_set r) e n ≡ false
        one n =
            ap (λ (h : Header). option_map_or (λ payload. not (bytes_eq payload (frame_of c e n).payload))
            (payload_of (kept_set r) h.group n) false) its.header
            ∙ ap (λ (o : Option (List ℕ)). option_map_or (λ payload. not (bytes_eq payload (frame_of c e n).payload))
            o false) (payload_is c s limit pairs (kept_set r) is_session follows group g at n)
            ∙ by (has_pair pairs group n)
          where
            by : (b : Bool) → option_map_or (λ payload. not (bytes_eq payload (frame_of c e n).payload))
                (cond b (Some (payload_at c g.layers g.message (c.point_of n))) None) false ≡ false
            by true = same_bytes (payload_at c g.layers g.message (c.point_of n)) (frame_of c e n).payload
                (sym (ap (λ (f : Fields). f.payload) (frame_is n)))
            by false = refl

    -- what is not kept are the packets that were not met
    pub lacking_is : not_kept (kept_set r) e 0 e.header.table.packets ≡ lacking pairs group g
    lacking_is =
        ap (λ (h : Header). filter (λ n. is_none (payload_of (kept_set r) h.group n))
        (range_with_len 0 h.table.packets)) its.header
        ∙ filter_same_range (λ n. is_none (payload_of (kept_set r) group n))
        (λ n. not (has_pair pairs group n)) 0 g.packets
        (λ n low high. ap is_none (payload_is c s limit pairs (kept_set r) is_session follows group g at n)
        ∙ by (has_pair pairs group n) n)
      where
        by : (b : Bool) (n : ℕ) → is_none (cond b (Some (made c g n)) None) ≡ not b
        by true n = refl
        by false n = refl

    pub again_is : made_again c (kept_set r) e 0 e.header.table.packets ≡ map (packet_of c s group g)
        (lacking pairs group g)
    again_is = each (not_kept (kept_set r) e 0 e.header.table.packets) ∙ ap (map (packet_of c s group g)) lacking_is
      where
        each : (ns : List ℕ) → map (frame_of c e) ns ≡ map (packet_of c s group g) ns
        each [] = refl
        each (n ∷ ns) = ap₂ (λ (f : Fields) (fs : List Fields). f ∷ fs) (frame_is n) (each ns)

-- packets of the group that are kept besides
pub follows_all : {E : Type 0} (c : Coding E) (s : Session) (limit group : ℕ) (g : SessionGroup)
    → slice_get s.groups group ≡ Some g → (ns : List ℕ) → All (λ n. n < 0 + g.packets) ns
    → (pairs : List Pair) (set : KeptSet)
    → Follows (made c) s limit pairs set → Follows (made c) s limit (pairs ++ map (λ n. (group, n)) ns)
    (keep_all set (map (packet_of c s group g) ns))
unfolding keep_all
follows_all c s limit group g at [] low pairs set follows = subst (λ (t : List Pair). Follows (made c) s limit t set)
    (sym (append-nil pairs)) follows
follows_all c s limit group g at (n ∷ ns) low pairs set follows =
    let f = packet_of c s group g n in
    let lt : n < 0 + g.packets = All-head (λ (k : ℕ). k < 0 + g.packets) n ns low in
    let its : IsPacketOf c s f = record { source = g; group = at; number = omega (arith, lt); made = refl } in
    let more : Follows (made c) s limit (pairs ++ (group, n) ∷ []) (keep set f) =
    follows_keep (made c) s limit pairs set f g follows (is_made c s f its) in
    subst (λ (t : List Pair). Follows (made c) s limit t (keep_all (keep set f) (map (packet_of c s group g) ns)))
    (append_assoc pairs ((group, n) ∷ []) (map (λ n. (group, n)) ns))
    (follows_all c s limit group g at ns (All-tail (λ (k : ℕ). k < 0 + g.packets) n ns low) (pairs ++ (group, n) ∷ [])
    (keep set f) more)

pub lacking_low : (pairs : List Pair) (group : ℕ) (g : SessionGroup)
    → All (λ n. n < 0 + g.packets) (lacking pairs group g)
lacking_low pairs group g = below_end (λ number. not (has_pair pairs group number)) 0 g.packets
