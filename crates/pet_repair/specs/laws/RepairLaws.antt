-- All packets of the complete groups, group by group, and that they are the session's.
use Rattle.std.proofs.Common.{◌≡◌, ℕ, suc, ◌+◌, ◌<◌, Bool, true, false, cond, List, [], ◌∷◌, ◌++◌, length, map}
use Rattle.std.proofs.Common.{None, Some, refl, sym, ap, ap₂, subst, ◌∙◌, arith, inl, inr}
use Rattle.std.specs.Prelude.{slice_get, slice_index_or, is_none, option_map, unwrap_or, count_by}
use Rattle.std.specs.List.{flat_map, range_with_len, enumerate_from}
use Rattle.std.specs.Map.{lookup}
use Rattle.std.specs.BTreeMap.{is_at}
use Rattle.std.specs.Ordering.{nat_cmp}
use Rattle.std.proofs.lemmas.Bool.{cases_lt}
use Rattle.std.proofs.lemmas.Grind.{flat_map-append}
use Rattle.std.proofs.lemmas.List.{append-nil, length_push, get_or_append_left, map-append}
use Rattle.std.proofs.lemmas.List.Sums.{sum_by-cons, sum_by_push}
use Rattle.field_elements.specs.Field.{Coding}
use Rattle.packet_frame.specs.Frame.{Fields, text}
use Rattle.packet_frame.specs.declared.frame.Header.{Header}
use Rattle.packet_set.specs.Packets.{Packets}
use Rattle.packet_session.specs.Encoding.{Encoding, frame_of}
use Rattle.packet_session.specs.Session.{Session, SessionGroup, IsSession, packet_of, packets_of_group}
use Rattle.packet_verdicts.specs.KeptSet.{KeptSet, IsKeptSet, open_group}
use Rattle.pet_receive.specs.Arrivals.{ReceiverState, kept_set}
use Rattle.pet_receive.specs.ShownBytes.{groups_told}
use Rattle.packet_met.specs.Met.{Pair}
use Rattle.packet_met.specs.laws.CountsAreMet.{told_is, below_get}
use Rattle.packet_met.specs.laws.DatagramMore.{made}
use Rattle.packet_met.specs.laws.KeptIsMet.{Follows}
use Rattle.packet_rebuild.specs.declared.fault.RepairFault.TheVariants as repair
use Rattle.packet_rebuild.specs.Message.{HaveZeroEnds}
use Rattle.pet_repair.specs.Relay.{all_layers}
use Rattle.pet_repair.specs.Repaired.{IsRepaired, AreRepaired, is_whole, count_whole, on_end}
use Rattle.pet_repair.specs.Repaired.{complete_packets, complete_groups}
use Rattle.packet_rebuild.specs.Repairs.{fault_in, repair_fault, IsEncoderOf}
use Rattle.pet_repair.specs.laws.SessionRelay.{whole_is, encoder_in, frame_is}
use Rattle.packet_rebuild.specs.Rebuilding.{IsOpenFor}
use Rattle.packet_rebuild.specs.laws.RangeLaws.{range_append}
use Rattle.packet_rebuild.specs.laws.RebuiltLaws.{open_of}

module _ {E : Type 0} (P : E → Type 0) (c : Coding E) (r : ReceiverState E) where
  pub are_none : AreRepaired P c r 0 []
  are_none = record { many = refl; each = λ group lt. absurd (omega (arith, lt)) }

  last_group : (xs : List (List (List ℕ))) (x : List (List ℕ)) → slice_index_or (xs ++ x ∷ []) (length xs) [] ≡ x
  last_group [] x = refl
  last_group (y ∷ xs) x = last_group xs x

  -- one group more
  pub are_more : (n : ℕ) (groups : List (List (List ℕ))) (sent : List (List ℕ)) → AreRepaired P c r n groups
      → IsRepaired P c r n sent → AreRepaired P c r (n + 1) (groups ++ sent ∷ [])
  are_more n groups sent are is = record {
    many = length_push groups sent ∙ omega (arith, are.many);
    each =
        λ group lt.
        elim (cases_lt group n) [
          | inl low ↦
              subst (IsRepaired P c r group)
              (sym (get_or_append_left groups (sent ∷ []) [] group (omega (arith, low, are.many))))
              (are.each group low)
          | inr high ↦
              let here : group ≡ n = omega (arith, lt, high) in
              let last : n ≡ length groups = sym are.many in
              let at : slice_index_or (groups ++ sent ∷ []) group [] ≡ sent =
              ap (λ (i : ℕ). slice_index_or (groups ++ sent ∷ []) i []) (here ∙ last) ∙ last_group groups sent in
              subst (IsRepaired P c r group) (sym at) (subst (λ (i : ℕ). IsRepaired P c r i sent) (sym here) is)
        ];
  }

pub on_end_push : (groups : List (List (List ℕ))) (sent : List (List ℕ))
    → on_end (groups ++ sent ∷ []) ≡ on_end groups ++ sent
on_end_push groups sent =
    flat_map-append (λ t. t) groups (sent ∷ []) ∙ ap (λ (t : List (List ℕ)). on_end groups ++ t) (append-nil sent)

-- the encoder of a group that is kept has the header of it
pub opened_for : {E : Type 0} (P : E → Type 0) (c : Coding E) (r : ReceiverState E) (group : ℕ) (e : Encoding)
    → IsKeptSet (kept_set r) → IsEncoderOf P c r group e → IsOpenFor (kept_set r) e
opened_for P c r group e sound is =
    let p = open_of (kept_set r) group e.header is.header in
    let same : group ≡ e.header.group =
    sym (sound.groups group p.0 p.1).same_group ∙ ap (λ (h : Header). h.group) p.2 in
    record {
      header =
          subst (λ (k : ℕ). option_map (λ (p : Packets). p.header) (open_group (kept_set r) k) ≡ Some e.header) same
          is.header;
      sound = sound;
    }

-- one number more is counted
pub count_last : (q : ℕ → Bool) (n : ℕ)
    → count_by q (range_with_len 0 (n + 1)) ≡ count_by q (range_with_len 0 n) + cond (q n) 1 0
count_last q n =
    let z : 0 + n ≡ n = omega arith in
    ap (count_by q) (range_append 0 n 1) ∙ sum_by_push (λ (k : ℕ). cond (q k) 1 0) (range_with_len 0 n) (0 + n)
    ∙ ap (λ (k : ℕ). count_by q (range_with_len 0 n) + cond (q k) 1 0) z

-- ---- the session's packets

not_open_now : (set : KeptSet) (group : ℕ) → open_group set group ≡ None
    → repair_fault set group ≡ Some repair.NotOpen
unfolding repair_fault
not_open_now set group closed = ap fault_in closed

each_text : (f g : ℕ → Fields) → ((n : ℕ) → f n ≡ g n) → (ns : List ℕ)
    → map (λ n. text (f n)) ns ≡ map text (map g ns)
each_text f g same [] = refl
each_text f g same (n ∷ ns) =
    ap₂ (λ (x : Fields) (t : List (List ℕ)). text x ∷ t) (same n) (each_text f g same ns)

module _ {E : Type 0} (c : Coding E) (s : Session) (pairs : List Pair) where
  -- the packets of one group, where it is complete
  abbrev one_group : ℕ → SessionGroup → List Fields
  one_group group g = cond (all_layers pairs group g) (packets_of_group c s group g) []

  abbrev from_group : ℕ → List SessionGroup → List Fields
  from_group k gs = flat_map (λ e. one_group e.0 e.1) (enumerate_from k gs)

  texts_of_groups : (gs : List SessionGroup) (k : ℕ) (texts : List (List (List ℕ))) → length texts ≡ length gs
      → ((i n : ℕ) (g : SessionGroup) → k + i ≡ n → slice_get gs i ≡ Some g
      → slice_index_or texts i [] ≡ map text (one_group n g))
      → on_end texts ≡ map text (from_group k gs)
  texts_of_groups [] k [] many each = refl
  texts_of_groups [] k (t ∷ texts) many each = absurd (omega (arith, many))
  texts_of_groups (g ∷ gs) k [] many each = absurd (omega (arith, many))
  texts_of_groups (g ∷ gs) k (t ∷ texts) many each =
      ap₂ (λ (x y : List (List ℕ)). x ++ y) (each 0 k g (omega arith) refl)
      (texts_of_groups gs (k + 1) texts (omega (arith, many))
      (λ i n x at is. each (suc i) n x (omega (arith, at)) is))
      ∙ sym (map-append text (one_group k g) (from_group (k + 1) gs))

  none_whole : (gs : List SessionGroup) (k : ℕ) → ((i n : ℕ) (g : SessionGroup) → k + i ≡ n → slice_get gs i ≡ Some g
      → all_layers pairs n g ≡ false) → [] ≡ from_group k gs
  none_whole [] k each = refl
  none_whole (g ∷ gs) k each =
      none_whole gs (k + 1) (λ i n x at is. each (suc i) n x (omega (arith, at)) is)
      ∙ ap (λ (b : Bool). cond b (packets_of_group c s k g) [] ++ from_group (k + 1) gs)
      (sym (each 0 k g (omega arith) refl))

module _ (pairs : List Pair) where
  abbrev in_all : List (ℕ × SessionGroup) → ℕ
  in_all es = count_by (λ (e : ℕ × SessionGroup). all_layers pairs e.0 e.1) es

  counts_of_groups : (q : ℕ → Bool) (gs : List SessionGroup) (k : ℕ)
      → ((i n : ℕ) (g : SessionGroup) → k + i ≡ n → slice_get gs i ≡ Some g → q n ≡ all_layers pairs n g)
      → count_by q (range_with_len k (length gs)) ≡ in_all (enumerate_from k gs)
  counts_of_groups q [] k each = refl
  counts_of_groups q (g ∷ gs) k each =
      omega (
        arith,
        counts_of_groups q gs (k + 1) (λ i n x at is. each (suc i) n x (omega (arith, at)) is),
        ap {B = ℕ} (λ (b : Bool). cond b 1 0) (each 0 k g (omega arith) refl),
        sum_by-cons (λ (n : ℕ). cond (q n) 1 0) k (range_with_len (k + 1) (length gs)),
        sum_by-cons (λ (e : ℕ × SessionGroup). cond (all_layers pairs e.0 e.1) 1 0) (k, g)
            (enumerate_from (k + 1) gs),
      )

  counts_none : (gs : List SessionGroup) (k : ℕ)
      → ((i n : ℕ) (g : SessionGroup) → k + i ≡ n → slice_get gs i ≡ Some g → all_layers pairs n g ≡ false)
      → in_all (enumerate_from k gs) ≡ 0
  counts_none [] k each = refl
  counts_none (g ∷ gs) k each =
      omega (
        arith,
        counts_none gs (k + 1) (λ i n x at is. each (suc i) n x (omega (arith, at)) is),
        ap {B = ℕ} (λ (b : Bool). cond b 1 0) (each 0 k g (omega arith) refl),
        sum_by-cons (λ (e : ℕ × SessionGroup). cond (all_layers pairs e.0 e.1) 1 0) (k, g)
            (enumerate_from (k + 1) gs),
      )

module _ {E : Type 0} (P : E → Type 0) (c : Coding E) (s : Session) (limit : ℕ) (pairs : List Pair)
    (r : ReceiverState E) (two : c.width ≡ 2) (is_session : IsSession c.width s) (zeros : HaveZeroEnds s)
    (follows : Follows (made c) s limit pairs (kept_set r)) where
  -- what is written of one group
  pub text_of_group : (group : ℕ) (g : SessionGroup) → slice_get s.groups group ≡ Some g → (t : List (List ℕ))
      → IsRepaired P c r group t → t ≡ map text (one_group c s pairs group g)
  text_of_group group g at t is = by (is_none (repair_fault (kept_set r) group)) refl
    where
      by : (b : Bool) → is_none (repair_fault (kept_set r) group) ≡ b → t ≡ map text (one_group c s pairs group g)
      by false e =
          is.hidden e ∙ ap (λ (b : Bool). map text (cond b (packets_of_group c s group g) [])) (sym e
          ∙ whole_is c s limit pairs (kept_set r) is_session follows group g at)
      by true e =
          let all = is.shown e in
          let its = encoder_in P c s limit pairs r two is_session zeros follows group g at all.encoder all.is_its in
          all.sent_is
          ∙ each_text (frame_of c all.encoder) (packet_of c s group g)
          (frame_is P c s limit pairs r two is_session zeros follows group g at all.encoder its)
          (range_with_len 0 all.encoder.header.table.packets)
          ∙ ap (λ (h : Header). map text (map (packet_of c s group g) (range_with_len 0 h.table.packets))) its.header
          ∙ ap (λ (b : Bool). map text (cond b (packets_of_group c s group g) [])) (sym e
          ∙ whole_is c s limit pairs (kept_set r) is_session follows group g at)

  -- what is written of all groups
  pub texts_are : (texts : List (List (List ℕ))) → AreRepaired P c r (groups_told (kept_set r)) texts
      → on_end texts ≡ map text (complete_packets c s pairs)
  texts_are texts are = by (kept_set r).groups refl
    where
      by : (es : List (ℕ × Packets)) → (kept_set r).groups ≡ es → on_end texts ≡ map text (complete_packets c s pairs)
      by (e ∷ es) is =
          let some : 0 < length (kept_set r).groups = omega (arith, ap length is) in
          texts_of_groups c s pairs s.groups 0 texts (are.many
          ∙ told_is (made c) s limit pairs (kept_set r) is_session follows some)
          (λ i n g at there.
          let here : slice_get s.groups i ≡ Some g = there in
          let n_is : i ≡ n = omega (arith, at) in
          let low : i < groups_told (kept_set r) = omega (
            arith,
            below_get s.groups i g here,
            told_is (made c) s limit pairs (kept_set r) is_session follows some,
          ) in
          text_of_group i g here (slice_index_or texts i []) (are.each i low)
          ∙ ap (λ (k : ℕ). map text (one_group c s pairs k g)) n_is)
      by [] is =
          let nothing : groups_told (kept_set r) ≡ 0 =
          ap (λ (es : List (ℕ × Packets)). unwrap_or (option_map (λ (e : ℕ × Packets). e.1.header.groups)
          (slice_get es 0)) 0) is in
          ap on_end (no_texts texts (are.many ∙ nothing))
          ∙ ap (map text)
          (none_whole c s pairs s.groups 0
          (λ i n g at there.
          let n_is : i ≡ n = omega (arith, at) in
          let here : slice_get s.groups n ≡ Some g = ap (slice_get s.groups) (sym n_is) ∙ there in
          sym (whole_is c s limit pairs (kept_set r) is_session follows n g here)
          ∙ closed n (ap (λ (es : List (ℕ × Packets)). Rattle.std.specs.Map.lookup
          (Rattle.std.specs.BTreeMap.is_at (Rattle.std.specs.Ordering.nat_cmp n)) es) is)))
        where
          no_texts : (ts : List (List (List ℕ))) → length ts ≡ 0 → ts ≡ []
          no_texts [] e = refl
          no_texts (t ∷ ts) e = absurd (omega (arith, e))

          closed : (n : ℕ) → open_group (kept_set r) n ≡ None → is_none (repair_fault (kept_set r) n) ≡ false
          closed n e = ap is_none (not_open_now (kept_set r) n e)

  -- how many groups are whole
  pub count_is : count_whole (kept_set r) (groups_told (kept_set r)) ≡ complete_groups s pairs
  count_is = by (kept_set r).groups refl
    where
      closed_at : (n : ℕ) → (kept_set r).groups ≡ [] → open_group (kept_set r) n ≡ None
      closed_at n is = ap (λ (es : List (ℕ × Packets)). lookup (is_at (nat_cmp n)) es) is

      by : (es : List (ℕ × Packets)) → (kept_set r).groups ≡ es
          → count_whole (kept_set r) (groups_told (kept_set r)) ≡ complete_groups s pairs
      by (e ∷ es) is =
          let some : 0 < length (kept_set r).groups = omega (arith, ap length is) in
          ap (count_whole (kept_set r)) (told_is (made c) s limit pairs (kept_set r) is_session follows some)
          ∙ counts_of_groups pairs (is_whole (kept_set r)) s.groups 0
          (λ i n g at there.
          let n_is : i ≡ n = omega (arith, at) in
          whole_is c s limit pairs (kept_set r) is_session follows n g (ap (slice_get s.groups) (sym n_is) ∙ there))
      by [] is =
          let nothing : groups_told (kept_set r) ≡ 0 =
          ap (λ (es : List (ℕ × Packets)). unwrap_or (option_map (λ (e : ℕ × Packets). e.1.header.groups)
          (slice_get es 0)) 0) is in
          ap (count_whole (kept_set r)) nothing
          ∙ sym (counts_none pairs s.groups 0
          (λ i n g at there.
          let n_is : i ≡ n = omega (arith, at) in
          let here : slice_get s.groups n ≡ Some g = ap (slice_get s.groups) (sym n_is) ∙ there in
          sym (whole_is c s limit pairs (kept_set r) is_session follows n g here)
          ∙ ap is_none (not_open_now (kept_set r) n (closed_at n is))))
