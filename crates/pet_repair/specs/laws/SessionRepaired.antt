-- The store of a session's packets is repaired, from what each end tells.
use Rattle.std.proofs.Common.{◌≡◌, ℕ, zero, suc, ◌+◌, ◌<◌, Bool, cond, List, [], ◌∷◌, ◌++◌, length, map}
use Rattle.std.proofs.Common.{All, None, Some, refl, sym, ap, ap₂, subst, ◌∙◌, arith, inl, inr}
use Rattle.std.proofs.Common.{leb}
use Rattle.std.specs.Prelude.{count_by, slice_get, ◌≤◌}
use Rattle.std.specs.List.{flat_map, list_all, enumerate_from, range_with_len}
use Rattle.std.proofs.lemmas.List.{length-map}
use Rattle.std.proofs.lemmas.List.Elements.{All-contains}
use Rattle.std.proofs.lemmas.List.Sums.{sum_by-cons}
use Rattle.stripe_plan.specs.Layers.{count_of}
use Rattle.pet_base.specs.declared.limits.TheConstants.{MAX_SESSION}
use Rattle.pet_base.specs.Seen.{Seen, Blame, Files}
use Rattle.pet_base.specs.laws.SeenLaws.{HadFault-since}
use Rattle.outside_files.specs.Uses.{IsOneOf}
use Rattle.outside_routes.specs.Sending.{Routes}
use Rattle.outside_routes.specs.Way.{Way, OnFile, OnLink}
use Rattle.field_elements.specs.Gf16.{gf16_coding}
use Rattle.packet_frame.specs.Frame.{Fields, text}
use Rattle.packet_session.specs.Session.{Session, SessionGroup, packet_of, packets_of, IsPacketOf}
use Rattle.packet_session.specs.Session.{packets_of_group}
use Rattle.packet_session.specs.laws.SessionLaws.{packets_are}
use Rattle.packet_verdicts.specs.KeptSet.{KeptSet}
use Rattle.pet_receive.specs.Arrivals.{kept_set}
use Rattle.pet_receive.specs.ShownBytes.{groups_told}
use Rattle.store_text.specs.declared.fault.BadStore.TheVariants.{At}
use Rattle.packet_met.specs.Met.{Pair, has_pair}
use Rattle.packet_met.specs.laws.DatagramMore.{made}
use Rattle.packet_met.specs.laws.FramesAreMet.{is_met}
use Rattle.packet_met.specs.laws.KeptIsMet.{Follows}
use Rattle.packet_met.specs.laws.StoreRead.{IsStoreOf, store_is, read_so, not_refused}
use Rattle.pet_repair.specs.Relay.{all_layers}
use Rattle.packet_rebuild.specs.laws.RebuiltLaws.{open_of}
use Rattle.pet_repair.specs.Repaired.{IsUnlike, is_whole, on_end, complete_packets, complete_groups}
use Rattle.pet_repair.specs.Repairs.{HasState, RepairsStore, MayBlame, Repairs, CanRepair, RepairsSession}
use Rattle.pet_repair.specs.Repairs.{CompletesRepair, uses}
use Rattle.pet_repair.specs.SentTo.{SentTo}
use Rattle.pet_repair.specs.declared.repair.RepairEnd.{RepairEnd}
use Rattle.pet_repair.specs.declared.repair.RepairEnd.TheVariants.{Done, NoMemory, PlaceFault, LinkFault, BadStore}
use Rattle.pet_repair.specs.declared.repair.RepairEnd.TheVariants.{Unlike}
use Rattle.pet_repair.specs.laws.RepairLaws.{texts_are, count_is}
use Rattle.pet_repair.specs.laws.SessionRelay.{encoder_in, never_unlike}

-- two tests that agree along a range
count_same_range : (p q : ℕ → Bool) (a n : ℕ) → ((m : ℕ) → a ≤ m → m < a + n → p m ≡ q m)
    → count_by p (range_with_len a n) ≡ count_by q (range_with_len a n)
count_same_range p q a zero same = refl
count_same_range p q a (suc n) same =
    omega (
      arith,
      ap {B = ℕ} (λ (b : Bool). cond b 1 0) (same a (omega arith) (omega arith)),
      count_same_range p q (a + 1) n (λ m low high. same m (omega (arith, low)) (omega (arith, high))),
      sum_by-cons (λ (m : ℕ). cond (p m) 1 0) a (range_with_len (a + 1) n),
      sum_by-cons (λ (m : ℕ). cond (q m) 1 0) a (range_with_len (a + 1) n),
    )

module _ (s : Session) (a b : List Pair)
    (same : All (λ f. is_met a f ≡ is_met b f) (packets_of gf16_coding s)) where
  same_pair : (k n : ℕ) (g : SessionGroup) → slice_get s.groups k ≡ Some g → n < g.packets
      → has_pair a k n ≡ has_pair b k n
  same_pair k n g at lt =
      let f = packet_of gf16_coding s k g n in
      let its : IsPacketOf gf16_coding s f = record { source = g; group = at; number = lt; made = refl } in
      All-contains (λ f. is_met a f ≡ is_met b f) (packets_of gf16_coding s) f same
      ((packets_are gf16_coding s f).1 its)

  -- whether a group is whole
  same_layers : (k : ℕ) (g : SessionGroup) → slice_get s.groups k ≡ Some g → all_layers a k g ≡ all_layers b k g
  same_layers k g at =
      ap (λ (m : ℕ). list_all (λ layer. leb (count_of g.layers layer) m) (range_with_len 0 (length g.layers)))
      (count_same_range (has_pair a k) (has_pair b k) 0 g.packets
      (λ n low high. same_pair k n g at (omega (arith, high))))

  packets_from : (gs : List SessionGroup) (k : ℕ)
      → ((i n : ℕ) (g : SessionGroup) → k + i ≡ n → slice_get gs i ≡ Some g → all_layers a n g ≡ all_layers b n g)
      → flat_map (λ e. cond (all_layers a e.0 e.1) (packets_of_group gf16_coding s e.0 e.1) []) (enumerate_from k gs)
      ≡ flat_map (λ e. cond (all_layers b e.0 e.1) (packets_of_group gf16_coding s e.0 e.1) []) (enumerate_from k gs)
  packets_from [] k each = refl
  packets_from (g ∷ gs) k each =
      ap₂ (λ (t : Bool) (rest : List Fields). cond t (packets_of_group gf16_coding s k g) [] ++ rest)
      (each 0 k g (omega arith) refl)
      (packets_from gs (k + 1) (λ i n x at is. each (suc i) n x (omega (arith, at)) is))

  groups_from : (gs : List SessionGroup) (k : ℕ)
      → ((i n : ℕ) (g : SessionGroup) → k + i ≡ n → slice_get gs i ≡ Some g → all_layers a n g ≡ all_layers b n g)
      → count_by (λ (e : ℕ × SessionGroup). all_layers a e.0 e.1) (enumerate_from k gs)
      ≡ count_by (λ (e : ℕ × SessionGroup). all_layers b e.0 e.1) (enumerate_from k gs)
  groups_from [] k each = refl
  groups_from (g ∷ gs) k each =
      omega (
        arith,
        ap {B = ℕ} (λ (t : Bool). cond t 1 0) (each 0 k g (omega arith) refl),
        groups_from gs (k + 1) (λ i n x at is. each (suc i) n x (omega (arith, at)) is),
        sum_by-cons (λ (e : ℕ × SessionGroup). cond (all_layers a e.0 e.1) 1 0) (k, g) (enumerate_from (k + 1) gs),
        sum_by-cons (λ (e : ℕ × SessionGroup). cond (all_layers b e.0 e.1) 1 0) (k, g) (enumerate_from (k + 1) gs),
      )

  each_layers : (i n : ℕ) (g : SessionGroup) → 0 + i ≡ n → slice_get s.groups i ≡ Some g
      → all_layers a n g ≡ all_layers b n g
  each_layers i n g at is =
      let here : i ≡ n = omega (arith, at) in
      same_layers n g (ap (slice_get s.groups) (sym here) ∙ is)

  same_packets : complete_packets gf16_coding s a ≡ complete_packets gf16_coding s b
  same_packets = packets_from s.groups 0 each_layers

  same_groups : complete_groups s a ≡ complete_groups s b
  same_groups = groups_from s.groups 0 each_layers

-- a file that a failure may be at is one of those that are used
is_used : (store : List ℕ) (to : Way) (old : Seen) (blame : Blame) → MayBlame store to old blame
    → IsOneOf (uses store to) blame
is_used store (OnFile to) old blame (inl is) = inl is
is_used store (OnFile to) old blame (inr is) = inr is.0
is_used store (OnLink address) old blame is = is

no_some : {P : Type 0} (n : ℕ) → None ≡ Some n → P
no_some n e = cc

module _ (s : Session) (pairs : List Pair) (files : Files) (store : List ℕ) (to : Way) (old new : Routes)
    (whole : RepairEnd) (can : CanRepair s pairs files store to old new whole) where
  one : (set : KeptSet) × IsStoreOf s pairs set
  one = store_is s pairs can.given.session can.given.fits

  met : List Pair
  met = one.1.is_met.met

  follows : (h : HasState store old.place) → Follows (made gf16_coding) s MAX_SESSION met (kept_set h.state)
  unfolding met one
  follows h =
      subst (Follows (made gf16_coding) s MAX_SESSION met)
      (sym (read_so s files old.place.files store pairs one.0 (kept_set h.state) can.given.told can.given.found one.1 h.file))
      one.1.is_met.follows

  -- what was sent, and the numbers
  sent_all : (r : RepairsStore store to old new) → on_end r.groups ≡ map text (complete_packets gf16_coding s pairs)
  unfolding met one
  sent_all r =
      texts_are (λ a. a < 65536) gf16_coding s MAX_SESSION met r.held.state refl can.given.session can.given.zeros
      (follows r.held) r.groups r.are
      ∙ ap (map text) (same_packets s met pairs one.1.is_met.same)

  counted : (h : HasState store old.place)
      → Rattle.pet_repair.specs.Repaired.count_whole (kept_set h.state) (groups_told (kept_set h.state))
      ≡ complete_groups s pairs
  unfolding met one
  counted h =
      count_is (λ a. a < 65536) gf16_coding s MAX_SESSION met h.state refl can.given.session can.given.zeros (follows h)
      ∙ same_groups s met pairs one.1.is_met.same

  -- no packet is unlike
  like_all : (h : HasState store old.place) (group number : ℕ)
      → IsUnlike (λ a. a < 65536) gf16_coding h.state group number → ⊥
  unfolding met one
  like_all h group number is =
      let p = open_of (kept_set h.state) group is.encoder.header is.is_its.header in
      let at = (follows h).opened group p.0 p.1 in
      let its = encoder_in (λ a. a < 65536) gf16_coding s MAX_SESSION met h.state refl can.given.session can.given.zeros
      (follows h) group at.0 at.1 is.encoder is.is_its in
      no_some number (sym (never_unlike (λ a. a < 65536) gf16_coding s MAX_SESSION met h.state refl can.given.session
      can.given.zeros (follows h) group at.0 at.1 is.encoder its) ∙ is.unlike)

  repaired : (end : RepairEnd) → whole ≡ end → Repairs store to old new end → RepairsSession s pairs to old new end
  unfolding met one
  repaired (Done groups datagrams) is repairs =
      let r = repairs.0 in
      record {
        sent = subst (λ (ds : List (List ℕ)). SentTo to ds old new) (sent_all r) r.sent;
        ended =
            ap₂ (λ (g n : ℕ). Done g n) (repairs.1 ∙ counted r.held)
            (repairs.2 ∙ ap length (sent_all r) ∙ length-map (complete_packets gf16_coding s pairs) text);
      }
  repaired NoMemory is repairs = absurd (can.memory is)
  repaired PlaceFault is repairs =
      absurd (can.well (HadFault-since old.place old.place new.place _ _ (omega arith) (is_used store to old.place)
      repairs.0))
  repaired LinkFault is repairs = absurd (can.link repairs.0)
  repaired (BadStore at kind) is repairs =
      not_refused s files old.place.files store pairs one.0 (At at kind) can.given.told can.given.found one.1 repairs.0
  repaired (Unlike group number) is repairs = absurd (like_all repairs.held group number repairs.unlike)

-- the headline follows from what `repair` does
pub completes_repair : (store : List ℕ) (to : Way) (old new : Routes) (end : RepairEnd)
    → Repairs store to old new end → CompletesRepair store to old new end
completes_repair store to old new end repairs = λ s pairs files can.
    repaired s pairs files store to old new end can end refl repairs
