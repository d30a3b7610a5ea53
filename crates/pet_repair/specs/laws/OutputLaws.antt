-- What a relay has sent after some datagrams, and what a receiver of its output has met.
use Rattle.std.proofs.Common.{◌≡◌, ℕ, Bool, true, cond, List, [], ◌∷◌, ◌++◌, map, All, Option, None, Some, refl, sym, ap, ap₂, subst, ◌∙◌, append_assoc}
use Rattle.std.specs.Prelude.{◌&&◌, is_none, option_map, IfSome}
use Rattle.std.specs.List.{cons_option}
use Rattle.std.specs.Str.{bytes_eq}
use Rattle.std.proofs.lemmas.List.{append-nil, map-append}
use Rattle.std.proofs.lemmas.List.Elements.{All-nil, All-cons, All-head, All-tail, filter_map-append}
use Rattle.std.proofs.lemmas.Slice.Eq.{bytes_eq-Decides}
use Rattle.field_elements.specs.Field.{Coding}
use Rattle.packet_frame.specs.Frame.{Fields, IsFrame, text}
use Rattle.packet_frame.specs.Refusals.{fields_of}
use Rattle.packet_frame.specs.declared.fault.FrameFault.{FrameFault}
use Rattle.packet_frame.specs.laws.Laws.{texts_are_read}
use Rattle.packet_session.specs.Session.{Session, SessionGroup, packet_of, IsPacketOf}
use Rattle.packet_verdicts.specs.KeptSet.{KeptSet}
use Rattle.packet_met.specs.Met.{Pair, pair_in, met_in, shows}
use Rattle.packet_met.specs.laws.DatagramMore.{made, IsPlain}
use Rattle.packet_met.specs.laws.KeptIsMet.{Follows}
use Rattle.pet_repair.specs.Relay.{sends_at, output_from, arrivals_of, pairs_of, packet_at, packets_at}
use Rattle.pet_repair.specs.laws.RelayIsRule.{IsRelayed, told}
use Rattle.pet_repair.specs.laws.RelayLaws.{IsPairOf, Within, each_of_session, keeps_up, shows_more, output_append}

-- the datagrams of the rule's output for some datagrams were handed out, and what is kept follows all that was sent
pub record HasRelayed {E : Type 0} (c : Coding E) (s : Session) (limit : ℕ) (pairs : List Pair) (ds sent : List (List ℕ)) (now : KeptSet) : Type 0 where
  pub sent_is : sent ≡ map text (packets_at c s (output_from s pairs (arrivals_of s ds)))
  pub follows : Follows (made c) s limit (pairs ++ output_from s pairs (arrivals_of s ds)) now

pub relayed_none : {E : Type 0} (c : Coding E) (s : Session) (limit : ℕ) (pairs : List Pair) (set : KeptSet) → Follows (made c) s limit pairs set → HasRelayed c s limit pairs [] [] set
unfolding output_from
relayed_none c s limit pairs set follows = record { sent_is = refl; follows = subst (λ (t : List Pair). Follows (made c) s limit t set) (sym (append-nil pairs)) follows }

one_more : (s : Session) (set : List Pair) (a : Option Pair) → output_from s set (a ∷ []) ≡ sends_at s set a
unfolding output_from
one_more s set a = append-nil (sends_at s set a)

-- one datagram more
pub relayed_push : {E : Type 0} (c : Coding E) (s : Session) (limit : ℕ) (pairs : List Pair) (ds sent : List (List ℕ)) (mid : KeptSet) (d : List ℕ) (more : List (List ℕ)) (now : KeptSet) → HasRelayed c s limit pairs ds sent mid
    → IsRelayed c s limit (pairs ++ output_from s pairs (arrivals_of s ds)) d more now → HasRelayed c s limit pairs (ds ++ d ∷ []) (sent ++ more) now
relayed_push c s limit pairs ds sent mid d more now has one =
    let a = arrivals_of s ds in
    let q = output_from s pairs a in
    let b = pair_in s.number d in
    let next = sends_at s (pairs ++ q) b in
    let all : output_from s pairs (arrivals_of s (ds ++ d ∷ [])) ≡ q ++ next =
    ap (output_from s pairs) (map-append (pair_in s.number) ds (d ∷ [])) ∙ output_append s pairs a (b ∷ []) ∙ ap (λ (t : List Pair). q ++ t) (one_more s (pairs ++ q) b) in
    record {
      sent_is =
          ap₂ (λ (x y : List (List ℕ)). x ++ y) has.sent_is one.sent_is
          ∙ sym (map-append text (packets_at c s q) (packets_at c s next)) ∙ ap (map text) (sym (filter_map-append (packet_at c s) q next))
          ∙ ap (λ (t : List Pair). map text (packets_at c s t)) (sym all);
      follows =
          subst (λ (t : List Pair). Follows (made c) s limit (pairs ++ t) now) (sym all) (subst (λ (t : List Pair). Follows (made c) s limit t now) (append_assoc pairs q next) one.follows);
    }

-- ---- a receiver of the output

module _ {E : Type 0} (c : Coding E) (s : Session) (frames : (f : Fields) → IsPacketOf c s f → IsFrame f) where
  -- the pair that is read of a packet
  pair_read : (f : Fields) → IsPacketOf c s f → pair_in s.number (text f) ≡ Some (f.group, f.number)
  pair_read f its =
      let read = texts_are_read f (frames f its) in
      let number : bytes_eq f.session s.number ≡ true = (bytes_eq-Decides f.session s.number).1 (ap (λ (x : Fields). x.session) its.made) in
      ap (λ (o : Option FrameFault). cond (is_none o && bytes_eq (fields_of (text f)).session s.number) (Some ((fields_of (text f)).group, (fields_of (text f)).number)) None) read.accepted
      ∙ ap (λ (x : Fields). cond (bytes_eq x.session s.number) (Some (x.group, x.number)) None) read.fields
      ∙ ap (λ (b : Bool). cond b (Some (f.group, f.number)) None) number

  -- it meets exactly what was sent
  pub output_met : (out : List Pair) → All (IsPairOf s) out → met_in s.number (map text (packets_at c s out)) ≡ out
  output_met [] are = refl
  output_met (p ∷ ps) are =
      let is = All-head (IsPairOf s) p ps are in
      let f = packet_of c s p.0 is.0 p.1 in
      let its : IsPacketOf c s f = record { source = is.0; group = is.1; number = is.2; made = refl } in
      ap (λ (o : Option SessionGroup). met_in s.number (map text (cons_option (option_map (λ g. packet_of c s p.0 g p.1) o) (packets_at c s ps)))) is.1
      ∙ ap (λ (o : Option Pair). cons_option o (met_in s.number (map text (packets_at c s ps)))) (pair_read f its)
      ∙ ap (λ (t : List Pair). (p.0, p.1) ∷ t) (output_met ps (All-tail (IsPairOf s) p ps are))

-- the pairs of arrivals are those that are met
pub pairs_are_met : (s : Session) (ds : List (List ℕ)) → pairs_of (arrivals_of s ds) ≡ met_in s.number ds
pairs_are_met s [] = refl
pairs_are_met s (d ∷ ds) = ap (cons_option (pair_in s.number d)) (pairs_are_met s ds)

-- where each datagram of the session's number is one of its packets, so is the pair of each arrival
pub arrivals_in : {E : Type 0} (c : Coding E) (s : Session) (ds : List (List ℕ)) → All (IsPlain c s) ds → All (λ a. IfSome a (IsPairOf s)) (arrivals_of s ds)
arrivals_in c s [] plain = All-nil (λ (a : Option Pair). IfSome a (IsPairOf s))
arrivals_in c s (d ∷ ds) plain =
    All-cons (λ (a : Option Pair). IfSome a (IsPairOf s)) (pair_in s.number d) (arrivals_of s ds) (by (pair_in s.number d) refl) (arrivals_in c s ds (All-tail (IsPlain c s) d ds plain))
  where
    by : (o : Option Pair) → pair_in s.number d ≡ o → IfSome o (IsPairOf s)
    by None e = tt
    by (Some p) e =
        let t = told s d p e in
        let its = All-head (IsPlain c s) d ds plain t.whole t.session in
        subst (IsPairOf s) (sym t.pair) (its.source, its.group, its.number)

-- A receiver of the output has shown all that a receiver of the datagrams has shown. So it is after each arrival, since the
-- output of the first arrivals is a front of the output.
pub never_behind : {E : Type 0} (c : Coding E) (s : Session) → ((f : Fields) → IsPacketOf c s f → IsFrame f) → (ds : List (List ℕ)) → All (IsPlain c s) ds → (group : ℕ) (g : SessionGroup) (layer : ℕ)
    → shows (met_in s.number ds) group g layer ≡ true
    → shows (met_in s.number (map text (packets_at c s (output_from s [] (arrivals_of s ds))))) group g layer ≡ true
never_behind c s frames ds plain group g layer shown =
    let out = output_from s [] (arrivals_of s ds) in
    let is = output_met c s frames out (each_of_session s [] (arrivals_of s ds) (arrivals_in c s ds plain)) in
    let within : Within (met_in s.number ds) out =
    subst (λ (t : List Pair). Within t out) (pairs_are_met s ds) (keeps_up s [] [] (arrivals_of s ds) (λ a b here. here)) in
    ap (λ (t : List Pair). shows t group g layer) is ∙ shows_more (met_in s.number ds) out group g layer within shown
