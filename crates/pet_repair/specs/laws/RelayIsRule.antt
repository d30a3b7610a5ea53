-- What a relay hands out at an arrival is what the rule says, where what it has kept follows the session's packets.
use Rattle.std.proofs.Common.{◌≡◌, ℕ, ◌<◌, Bool, true, false, cond, List, [], ◌∷◌, ◌++◌, map, All, Option, None, Some, refl, sym, ap, ap₂, subst, ◌∙◌, append_assoc}
use Rattle.std.specs.Prelude.{slice_get, not, ◌&&◌, is_some, is_none, option_map}
use Rattle.std.specs.List.{cons_option}
use Rattle.std.specs.Option.{option_map_or}
use Rattle.std.specs.Str.{bytes_eq}
use Rattle.std.proofs.lemmas.List.{append-nil}
use Rattle.std.proofs.lemmas.Option.{same_Some}
use Rattle.std.proofs.lemmas.Slice.Eq.{bytes_eq-Decides}
use Rattle.field_elements.specs.Field.{Coding}
use Rattle.packet_frame.specs.Frame.{Fields, text}
use Rattle.packet_frame.specs.Refusals.{fields_of, first_fault}
use Rattle.packet_frame.specs.declared.fault.FrameFault.{FrameFault}
use Rattle.packet_frame.specs.laws.Laws.{reads_texts}
use Rattle.packet_session.specs.Session.{Session, SessionGroup, IsSession, packet_of, IsPacketOf, Fits}
use Rattle.packet_verdicts.specs.declared.verdict.Verdict.TheVariants.{Repeated, Kept}
use Rattle.packet_verdicts.specs.KeptSet.{KeptSet}
use Rattle.packet_verdicts.specs.Verdicts.{verdict_of, is_kept, newly_shown, layer_set, after}
use Rattle.packet_verdicts.specs.laws.KeptSetLaws.{IsKeepable, keepable, verdict_read, after_other}
use Rattle.pet_receive.specs.Arrivals.{ReceiverState, kept_set}
use Rattle.packet_met.specs.Met.{Pair, pair_in, has_pair, met_after}
use Rattle.packet_met.specs.laws.DatagramMore.{made, is_made, IsPlain, step}
use Rattle.packet_met.specs.laws.KeptDatagram.{kept_frame}
use Rattle.packet_met.specs.laws.KeptIsMet.{Follows}
use Rattle.packet_met.specs.laws.PacketVerdict.{verdict_is}
use Rattle.packet_rebuild.specs.declared.fault.RepairFault.{RepairFault}
use Rattle.pet_repair.specs.Relay.{all_layers, lacking, remaining, rebuilt, pair_sends, sends_at, packets_at}
use Rattle.packet_rebuild.specs.Message.{HaveZeroEnds}
use Rattle.packet_rebuild.specs.Repairs.{repair_fault, keep_all}
use Rattle.pet_repair.specs.Arrival.{completes, IsArrival, IsStopped}
use Rattle.pet_repair.specs.laws.CompletesLaws.{not_completed, nothing_itself, alone_itself}
use Rattle.pet_repair.specs.laws.SessionRelay.{whole_is, payload_is, encoder_in, never_unlike, again_is, follows_all, lacking_low}

pub packets_in_group : {E : Type 0} (c : Coding E) (s : Session) (group : ℕ) (g : SessionGroup) → slice_get s.groups group ≡ Some g → (ns : List ℕ) → packets_at c s (map (λ n. (group, n)) ns) ≡ map (packet_of c s group g) ns
packets_in_group c s group g at [] = refl
packets_in_group c s group g at (n ∷ ns) =
    ap (λ (o : Option SessionGroup). cons_option (option_map (λ g. packet_of c s group g n) o) (packets_at c s (map (λ n. (group, n)) ns))) at
    ∙ ap (λ (fs : List Fields). packet_of c s group g n ∷ fs) (packets_in_group c s group g at ns)

not_none : (o : Option RepairFault) → is_some o ≡ not (is_none o)
not_none None = refl
not_none (Some fault) = refl

-- a packet that was met already sends nothing
pub met_sends_nothing : (s : Session) (pairs : List Pair) (p : Pair) → has_pair pairs p.0 p.1 ≡ true → pair_sends s pairs p ≡ []
met_sends_nothing s pairs p there =
    ap (λ (b : Bool). cond b [] (p ∷ []) ++ option_map_or (rebuilt pairs (pairs ++ cond b [] (p ∷ [])) p.0) (slice_get s.groups p.0) []) there
    ∙ ap (λ (t : List Pair). option_map_or (rebuilt pairs t p.0) (slice_get s.groups p.0) []) (append-nil pairs) ∙ by (slice_get s.groups p.0)
  where
    same : (g : SessionGroup) (b : Bool) → cond (b && not b) (remaining pairs p.0 g) [] ≡ []
    same g true = refl
    same g false = refl

    by : (o : Option SessionGroup) → option_map_or (rebuilt pairs pairs p.0) o [] ≡ []
    by None = refl
    by (Some g) = same g (all_layers pairs p.0 g)

-- what a datagram tells that has a pair
pub record Told (s : Session) (d : List ℕ) (p : Pair) : Type 0 where
  pub whole : first_fault d ≡ None
  pub session : (fields_of d).session ≡ s.number
  pub pair : p ≡ ((fields_of d).group, (fields_of d).number)

pub told : (s : Session) (d : List ℕ) (p : Pair) → pair_in s.number d ≡ Some p → Told s d p
told s d p is = by (first_fault d) refl (bytes_eq (fields_of d).session s.number) refl is
  where
    by : (o : Option FrameFault) → first_fault d ≡ o → (b : Bool) → bytes_eq (fields_of d).session s.number ≡ b → cond (is_none o && b) (Some ((fields_of d).group, (fields_of d).number)) None ≡ Some p → Told s d p
    by (Some fault) e b f is = absurd cc
    by None e false f is = absurd cc
    by None e true f is = record {
      whole = e;
      session = (bytes_eq-Decides (fields_of d).session s.number).0 f;
      pair = sym (same_Some ((fields_of d).group, (fields_of d).number) p is);
    }

-- the datagrams of the rule's packets were handed out, and what is kept follows all that was sent
pub record IsRelayed {E : Type 0} (c : Coding E) (s : Session) (limit : ℕ) (pairs : List Pair) (d : List ℕ) (sent : List (List ℕ)) (now : KeptSet) : Type 0 where
  pub sent_is : sent ≡ map text (packets_at c s (sends_at s pairs (pair_in s.number d)))
  pub follows : Follows (made c) s limit (pairs ++ sends_at s pairs (pair_in s.number d)) now

module _ {E : Type 0} (P : E → Type 0) (c : Coding E) (s : Session) (limit : ℕ) (pairs : List Pair) (r : ReceiverState E) (d : List ℕ) (two : c.width ≡ 2) (is_session : IsSession c.width s) (fits : Fits s limit) (zeros : HaveZeroEnds s)
    (plain : IsPlain c s d) (follows : Follows (made c) s limit pairs (kept_set r)) where
  abbrev S : KeptSet
  S = kept_set r

  abbrev f : Fields
  f = fields_of d

  abbrev Any : E → Type 0
  Any e = Unit {0}

  -- where its verdict is not Kept, nothing is sent
  sends_none : is_kept (verdict_of S d) ≡ false → (o : Option Pair) → pair_in s.number d ≡ o → sends_at s pairs o ≡ []
  sends_none out None e = refl
  sends_none out (Some p) e =
      let t = told s d p e in
      let its = plain t.whole t.session in
      let verdict = verdict_read S d t.whole ∙ verdict_is (made c) s limit pairs S f its.source follows (is_made c s f its) fits in
      met_sends_nothing s pairs p (ap (λ (q : Pair). has_pair pairs q.0 q.1) t.pair ∙ met (has_pair pairs f.group f.number) (sym (ap is_kept verdict) ∙ out))
    where
      met : (b : Bool) → is_kept (cond b Repeated (Kept (layer_set (newly_shown S f)))) ≡ false → b ≡ true
      met true e = refl
      met false e = absurd cc

  not_kept_then : (sent : List (List ℕ)) (now : ReceiverState E) → IsArrival P c r d sent now → is_kept (verdict_of S d) ≡ false → IsRelayed c s limit pairs d sent (kept_set now)
  not_kept_then sent now has out =
      let p = has.plain (not_completed S d out) in
      let none = sends_none out (pair_in s.number d) refl in
      record {
        sent_is = p.0 ∙ nothing_itself S d out ∙ ap (λ (t : List Pair). map text (packets_at c s t)) (sym none);
        follows =
            subst (λ (t : List Pair). Follows (made c) s limit (pairs ++ t) (kept_set now)) (sym none)
            (subst (λ (t : List Pair). Follows (made c) s limit t (kept_set now)) (sym (append-nil pairs)) (subst (Follows (made c) s limit pairs) (sym (p.1 ∙ after_other S d out)) follows));
      }

  module _ (bytes : All (λ b. b < 256) d) (kept : is_kept (verdict_of S d) ≡ true) where
    whole : first_fault d ≡ None
    whole = kept_frame S d kept

    able : IsKeepable S f
    able = keepable S f (sym (ap is_kept (verdict_read S d whole)) ∙ kept)

    session : f.session ≡ s.number
    session = able.session ∙ follows.session

    its : IsPacketOf c s f
    its = plain whole session

    absent : has_pair pairs f.group f.number ≡ false
    absent = by (has_pair pairs f.group f.number) (sym (payload_is c s limit pairs S is_session follows f.group its.source its.group f.number) ∙ able.absent)
      where
        by : (b : Bool) → cond b (Some (made c its.source f.number)) None ≡ None → b ≡ false
        by true e = absurd cc
        by false e = refl

    pair : pair_in s.number d ≡ Some (f.group, f.number)
    pair =
        ap (λ (o : Option FrameFault). cond (is_none o && bytes_eq f.session s.number) (Some (f.group, f.number)) None) whole
        ∙ ap (λ (b : Bool). cond b (Some (f.group, f.number)) None) ((bytes_eq-Decides f.session s.number).1 session)

    abbrev now1 : List Pair
    now1 = pairs ++ (f.group, f.number) ∷ []

    follows_one : Follows (made c) s limit now1 (after S d)
    follows_one = subst (λ (o : Option Pair). Follows (made c) s limit (met_after pairs o) (after S d)) pair (step Any c s limit pairs S d is_session fits follows plain).follows

    sends : sends_at s pairs (pair_in s.number d) ≡ (f.group, f.number) ∷ rebuilt pairs now1 f.group its.source
    sends =
        ap (sends_at s pairs) pair
        ∙ ap (λ (b : Bool). cond b [] ((f.group, f.number) ∷ []) ++ option_map_or (rebuilt pairs (pairs ++ cond b [] ((f.group, f.number) ∷ [])) f.group) (slice_get s.groups f.group) []) absent
        ∙ ap (λ (o : Option SessionGroup). (f.group, f.number) ∷ option_map_or (rebuilt pairs now1 f.group) o []) its.group

    whole_then : completes S d ≡ (all_layers now1 f.group its.source && not (all_layers pairs f.group its.source))
    unfolding completes
    whole_then =
        ap (λ (b : Bool). b && (is_none (repair_fault (after S d) f.group) && is_some (repair_fault S f.group))) kept
        ∙ ap₂ (λ (a b : Bool). a && b) (whole_is c s limit now1 (after S d) is_session follows_one f.group its.source its.group)
        (not_none (repair_fault S f.group) ∙ ap not (whole_is c s limit pairs S is_session follows f.group its.source its.group))

    d_is : d ≡ text (packet_of c s f.group its.source f.number)
    d_is = reads_texts d bytes whole ∙ ap text its.made

    more_is : (b : Bool) → completes S d ≡ b → rebuilt pairs now1 f.group its.source ≡ cond b (remaining now1 f.group its.source) []
    more_is b e = ap (λ (b : Bool). cond b (remaining now1 f.group its.source) []) (sym whole_then ∙ e)

    -- the texts of the datagram's packet and of others of the group
    texts_are : (ns : List ℕ) → d ∷ map text (map (packet_of c s f.group its.source) ns) ≡ map text (packets_at c s ((f.group, f.number) ∷ map (λ n. (f.group, n)) ns))
    texts_are ns =
        ap (λ (t : List ℕ). t ∷ map text (map (packet_of c s f.group its.source) ns)) d_is
        ∙ ap (map text) (sym (packets_in_group c s f.group its.source its.group (f.number ∷ ns)))

    kept_then : (sent : List (List ℕ)) (now : ReceiverState E) → IsArrival P c r d sent now → (b : Bool) → completes S d ≡ b → IsRelayed c s limit pairs d sent (kept_set now)
    kept_then sent now has false e =
        let p = has.plain e in
        let all = sends ∙ ap (λ (t : List Pair). (f.group, f.number) ∷ t) (more_is false e) in
        record {
          sent_is = p.0 ∙ alone_itself S d kept ∙ texts_are [] ∙ ap (λ (t : List Pair). map text (packets_at c s t)) (sym all);
          follows = subst (λ (t : List Pair). Follows (made c) s limit (pairs ++ t) (kept_set now)) (sym all) (subst (Follows (made c) s limit now1) (sym p.1) follows_one);
        }
    kept_then sent now has true e =
        let w = has.whole e in
        let g = its.source in
        let ns = lacking now1 f.group g in
        let others = map (λ n. (f.group, n)) ns in
        let all = sends ∙ ap (λ (t : List Pair). (f.group, f.number) ∷ t) (more_is true e) in
        let can = w.0 in
        let fol : Follows (made c) s limit now1 (kept_set can.state) = subst (Follows (made c) s limit now1) (sym can.taken) follows_one in
        let enc = encoder_in P c s limit now1 can.state two is_session zeros fol f.group g its.group can.encoder can.is_its in
        let made_is = again_is P c s limit now1 can.state two is_session zeros fol f.group g its.group can.encoder enc in
        let after_all : Follows (made c) s limit (now1 ++ others) (keep_all (kept_set can.state) (map (packet_of c s f.group g) ns)) =
        follows_all c s limit f.group g its.group ns (lacking_low now1 f.group g) now1 (kept_set can.state) fol in
        record {
          sent_is =
              w.1 ∙ ap (λ (fs : List Fields). d ∷ map text fs) made_is ∙ texts_are ns
              ∙ ap (λ (t : List Pair). map text (packets_at c s t)) (sym all);
          follows =
              subst (λ (t : List Pair). Follows (made c) s limit (pairs ++ t) (kept_set now)) (sym all)
              (subst (λ (t : List Pair). Follows (made c) s limit t (kept_set now)) (append_assoc pairs ((f.group, f.number) ∷ []) others)
              (subst (Follows (made c) s limit (now1 ++ others)) (sym (w.2 ∙ ap (keep_all (kept_set can.state)) made_is)) after_all));
        }

    -- a packet of the session is never unlike
    stops_never : (group number : ℕ) → IsStopped P c r d group number → ⊥
    stops_never group number stop =
        let g = its.source in
        let now = stop.state in
        let fol : Follows (made c) s limit now1 (kept_set now) = subst (Follows (made c) s limit now1) (sym stop.taken) follows_one in
        let at : slice_get s.groups group ≡ Some g = ap (slice_get s.groups) stop.group_is ∙ its.group in
        let enc = encoder_in P c s limit now1 now two is_session zeros fol group g at stop.unlike.encoder stop.unlike.is_its in
        let none = never_unlike P c s limit now1 now two is_session zeros fol group g at stop.unlike.encoder enc in
        let no : None ≡ Some number = sym none ∙ stop.unlike.unlike in
        absurd cc

  -- one arrival
  pub relayed : (sent : List (List ℕ)) (now : ReceiverState E) → IsArrival P c r d sent now → IsRelayed c s limit pairs d sent (kept_set now)
  relayed sent now has = by (is_kept (verdict_of S d)) refl
    where
      by : (b : Bool) → is_kept (verdict_of S d) ≡ b → IsRelayed c s limit pairs d sent (kept_set now)
      by true e = kept_then has.bytes e sent now has (completes S d) refl
      by false e = not_kept_then sent now has e

  -- never stopped
  pub never_stopped : (group number : ℕ) → IsStopped P c r d group number → ⊥
  never_stopped group number stop = by (is_kept (verdict_of S d)) refl
    where
      by : (b : Bool) → is_kept (verdict_of S d) ≡ b → ⊥
      by true e = stops_never stop.bytes e group number stop
      by false e = let no : false ≡ true = sym (not_completed S d e) ∙ stop.whole in absurd cc
