-- A session's datagrams are relayed by the rule, from what each end tells.
use Rattle.std.proofs.Common.{◌≡◌, ℕ, suc, ◌+◌, ◌<◌, Bool, true, false, cond, List, [], ◌∷◌, ◌++◌, length, map, All}
use Rattle.std.proofs.Common.{Option, None, Some, refl, sym, ap, ap₂, subst, ◌∙◌, arith, inl, inr, append_assoc}
use Rattle.std.specs.Prelude.{◌&&◌, slice_get}
use Rattle.std.specs.List.{list_all, enumerate_from}
use Rattle.std.proofs.lemmas.Bool.{false_from_ne_true}
use Rattle.std.proofs.lemmas.List.{map-append}
use Rattle.std.proofs.lemmas.List.Elements.{All-nil, All-cons, All-head, All-tail, filter_map-append}
use Rattle.pet_base.specs.Causes.{Rose}
use Rattle.pet_base.specs.declared.limits.TheConstants.{MAX_SESSION, MAX_DATAGRAMS}
use Rattle.outside_routes.specs.laws.ComingLaws.{until_first}
use Rattle.pet_base.specs.LinkSeen.{LinkSeen}
use Rattle.pet_base.specs.OutsideSeen.{OutsideSeen}
use Rattle.pet_base.specs.Seen.{Files}
use Rattle.outside_routes.specs.Way.{Way, OnFile, OnLink}
use Rattle.outside_routes.specs.Coming.{HasReadUntil, HaveCome, KeepsFeed}
use Rattle.store_text.specs.Files.{HasFile}
use Rattle.packet_reading.specs.Layers.{HaveComeFirst}
use Rattle.packet_reading.specs.Opened.{PortFailed}
use Rattle.packet_reading.specs.SessionRead.{HasDatagrams, HasPacketsOfIn}
use Rattle.packet_reading.specs.laws.ReadLaws.{all_read}
use Rattle.field_elements.specs.Field.{Coding}
use Rattle.field_elements.specs.Gf16.{gf16_coding}
use Rattle.packet_frame.specs.Frame.{text}
use Rattle.packet_frame.specs.declared.format.TheConstants.{FORMAT}
use Rattle.packet_session.specs.Session.{Session, SessionGroup, IsSession, Fits}
use Rattle.packet_verdicts.specs.KeptSet.{KeptSet}
use Rattle.pet_receive.specs.Arrivals.{ReceiverState, kept_set}
use Rattle.pet_receive.specs.ShownBytes.{IsComplete}
use Rattle.packet_met.specs.Met.{Pair, pair_in, all_shown, met_in}
use Rattle.packet_met.specs.laws.CountsAreMet.{complete_is}
use Rattle.packet_met.specs.laws.DatagramMore.{made, IsPlain}
use Rattle.packet_met.specs.laws.KeptIsMet.{Follows, follows_nothing}
use Rattle.pet_repair.specs.Relay.{all_layers, sends_at, output_from, arrivals_of, packet_at, packets_at}
use Rattle.pet_repair.specs.laws.WholeLaws.{whole_alike}
use Rattle.packet_rebuild.specs.Message.{HaveZeroEnds}
use Rattle.pet_repair.specs.Arrival.{HaveArrived}
use Rattle.pet_repair.specs.Repaired.{on_end}
use Rattle.pet_repair.specs.Relays.{Relayed, Relays, RelaysToUnlike, AreCounts, EndsRelay, StopsAtFile, StopsAtLink}
use Rattle.pet_repair.specs.Relays.{routes_of, KeepsLinkBetween}
use Rattle.pet_repair.specs.laws.RelayUses.{before_used, entering_used, writing_used}
use Rattle.pet_repair.specs.Relays.{IsBoundAtRelayEnd, DoesRelay}
use Rattle.pet_repair.specs.RelaysSession.{CanRelay, RelaysSession, CompletesRelay, relayed_pairs, relayed_datagrams}
use Rattle.pet_repair.specs.RelaysSession.{relayed_end}
use Rattle.pet_repair.specs.SentTo.{SentTo}
use Rattle.pet_repair.specs.declared.relay.RelayEnd.{RelayEnd}
use Rattle.pet_repair.specs.declared.relay.RelayEnd.TheVariants.{Done, NoMemory, PlaceFault, LinkFault, OutFault}
use Rattle.pet_repair.specs.declared.relay.RelayEnd.TheVariants.{Incomplete, TurnsSpent, Unlike}
use Rattle.pet_repair.specs.laws.OutputLaws.{HasRelayed, relayed_none, pairs_are_met}
use Rattle.pet_repair.specs.laws.RelayIsRule.{IsRelayed, relayed, never_stopped}

module _ {E : Type 0} (P : E → Type 0) (c : Coding E) (s : Session) (limit : ℕ) (two : c.width ≡ 2)
    (is_session : IsSession c.width s) (fits : Fits s limit) (zeros : HaveZeroEnds s) where
  -- one arrival before others
  relayed_cons : (pairs : List Pair) (d : List ℕ) (ds one more : List (List ℕ)) (mid now : KeptSet)
      → IsRelayed c s limit pairs d one mid
      → HasRelayed c s limit (pairs ++ sends_at s pairs (pair_in s.number d)) ds more now
      → HasRelayed c s limit pairs (d ∷ ds) (one ++ more) now
  unfolding output_from
  relayed_cons pairs d ds one more mid now first rest =
      let sends = sends_at s pairs (pair_in s.number d) in
      let out = output_from s (pairs ++ sends) (arrivals_of s ds) in
      record {
        sent_is =
            ap₂ (λ (x y : List (List ℕ)). x ++ y) first.sent_is rest.sent_is
            ∙ sym (map-append text (packets_at c s sends) (packets_at c s out))
            ∙ ap (map text) (sym (filter_map-append (packet_at c s) sends out));
        follows = subst (λ (t : List Pair). Follows (made c) s limit t now) (append_assoc pairs sends out) rest.follows;
      }

  -- all arrivals of a list are the rule's
  pub arrivals_relayed : (pairs : List Pair) (r : ReceiverState E) (ds : List (List ℕ)) (sent : List (List (List ℕ)))
      (now : ReceiverState E) → All (IsPlain c s) ds → Follows (made c) s limit pairs (kept_set r)
      → HaveArrived P c r ds sent now → HasRelayed c s limit pairs ds (on_end sent) (kept_set now)
  arrivals_relayed pairs r [] [] now plain follows arrived =
      subst (λ (x : ReceiverState E). HasRelayed c s limit pairs [] [] (kept_set x)) (sym arrived)
      (relayed_none c s limit pairs (kept_set r) follows)
  arrivals_relayed pairs r [] (one ∷ more) now plain follows arrived = absurd arrived
  arrivals_relayed pairs r (d ∷ ds) [] now plain follows arrived = absurd arrived
  arrivals_relayed pairs r (d ∷ ds) (one ∷ more) now plain follows arrived =
      let first = relayed P c s limit pairs r d two is_session fits zeros (All-head (IsPlain c s) d ds plain) follows one
      arrived.0 arrived.1 in
      relayed_cons pairs d ds one (on_end more) (kept_set arrived.0) (kept_set now) first
      (arrivals_relayed (pairs ++ sends_at s pairs (pair_in s.number d)) arrived.0 ds more now
      (All-tail (IsPlain c s) d ds plain) first.follows arrived.2)

-- every layer is shown of what was relayed exactly where it is of what arrived
all_alike : (p q : ℕ → SessionGroup → Bool) (gs : List SessionGroup) (k : ℕ)
    → ((i n : ℕ) (g : SessionGroup) → k + i ≡ n → slice_get gs i ≡ Some g → p n g ≡ q n g)
    → list_all (λ e. p e.0 e.1) (enumerate_from k gs) ≡ list_all (λ e. q e.0 e.1) (enumerate_from k gs)
all_alike p q [] k each = refl
all_alike p q (g ∷ gs) k each =
    ap₂ (λ (a b : Bool). a && b) (each 0 k g (omega arith) refl)
    (all_alike p q gs (k + 1) (λ i n x at is. each (suc i) n x (omega (arith, at)) is))

shown_alike : (s : Session) (ds : List (List ℕ)) → all_shown s (relayed_pairs s ds) ≡ all_shown s (met_in s.number ds)
shown_alike s ds =
    all_alike (all_layers (relayed_pairs s ds)) (all_layers (met_in s.number ds)) s.groups 0
    (λ i n g at is.
    let here : i ≡ n = omega (arith, at) in
    whole_alike s (arrivals_of s ds) n g (ap (slice_get s.groups) (sym here) ∙ is)
    ∙ ap (λ (t : List Pair). all_layers t n g) (pairs_are_met s ds))

-- what holds of all holds of the first, and of the one behind them
front_all : {A : Type 0} (P : A → Type 0) (xs ys : List A) → All P (xs ++ ys) → All P xs
front_all P [] ys all = All-nil P
front_all P (x ∷ xs) ys all =
    All-cons P x xs (All-head P x (xs ++ ys) all) (front_all P xs ys (All-tail P x (xs ++ ys) all))

last_all : {A : Type 0} (P : A → Type 0) (xs : List A) (y : A) → All P (xs ++ y ∷ []) → P y
last_all P [] y all = All-head P y [] all
last_all P (x ∷ xs) y all = last_all P xs y (All-tail P x (xs ++ y ∷ []) all)

some_same : {A : Type 0} (x y : A) → Some x ≡ Some y → x ≡ y
some_same x y e = cc

none_some : {A : Type 0} (x : A) → None ≡ Some x → ⊥
none_some x e = cc

-- what was read are the first of the datagrams that are told
come_of : (read ds : List (List ℕ)) (old now : Option (List (List ℕ))) → old ≡ Some ds → HaveCome read old now
    → (more : List (List ℕ)) × (ds ≡ read ++ more)
come_of read ds old None told come = absurd (none_some ds (sym come ∙ told))
come_of read ds old (Some more) told come = (more, some_same _ _ (sym told ∙ come))

first_of : (from : Way) (read ds : List (List ℕ)) (files : Files) (before after : OutsideSeen)
    → before.place.files ≡ Some files → HasDatagrams from files ds before → HaveComeFirst from read before after
    → (more : List (List ℕ)) × (ds ≡ read ++ more)
first_of (OnFile name) read ds files before after told found input =
    let at = subst (λ (o : Option Files). HasFile o name (λ bytes. HasReadUntil read (Some bytes) after.place.rest)) told
    input in
    let until = subst (λ (b : List ℕ). HasReadUntil read (Some b) after.place.rest)
    (some_same at.0 found.0 (sym at.1 ∙ found.1)) at.2 in
    let is = until_first read (Some found.0) after.place.rest until in
    (is.0, sym found.2 ∙ is.1)
first_of (OnLink address) read ds files before after told found input =
    come_of read ds before.link.feed after.link.feed found input

plain_to : (s : Session) (from : Way) (files : Files) (ds : List (List ℕ)) (before after : OutsideSeen)
    → HasPacketsOfIn FORMAT gf16_coding s from files ds before → (read : List (List ℕ)) (last : List ℕ)
    → HaveComeFirst from (read ++ last ∷ []) before after → All (IsPlain gf16_coding s) read × IsPlain gf16_coding s last
plain_to s from files ds before after given read last input =
    let is = first_of from (read ++ last ∷ []) ds files before after given.told given.found input in
    let all : All (IsPlain gf16_coding s) ((read ++ last ∷ []) ++ is.0) =
    subst (λ (l : List (List ℕ)). All (IsPlain gf16_coding s) l) is.1 given.packets in
    let both = front_all (IsPlain gf16_coding s) (read ++ last ∷ []) is.0 all in (
      front_all (IsPlain gf16_coding s) read (last ∷ []) both,
      last_all (IsPlain gf16_coding s) read last both,
    )

module _ (s : Session) (from to : Way) (files : Files) (ds : List (List ℕ)) (before after : OutsideSeen)
    (whole : RelayEnd) (can : CanRelay s from to files ds before after whole) where
  follows_start : (read : List (List ℕ)) (x : Relayed s.number read)
      → Follows (made gf16_coding) s MAX_SESSION [] (kept_set x.start)
  follows_start read x =
      subst (Follows (made gf16_coding) s MAX_SESSION []) (sym x.empty)
      (follows_nothing (made gf16_coding) s MAX_SESSION)

  by_rule : (read : List (List ℕ)) (x : Relayed s.number read) → All (IsPlain gf16_coding s) read
      → HasRelayed gf16_coding s MAX_SESSION [] read (on_end x.sent) (kept_set x.now)
  by_rule read x plain =
      arrivals_relayed (λ a. a < 65536) gf16_coding s MAX_SESSION refl can.given.packets.session can.given.packets.fits can.given.zeros []
      x.start read x.sent x.now plain (follows_start read x) x.arrived

  module _ (r : Relays from s.number to before after) where
    read_is : (ds ≡ r.read) × (length r.read < MAX_DATAGRAMS)
    read_is = all_read from r.read ds files before after can.given.packets.told can.given.packets.found can.given.packets.few r.input

    has : HasRelayed gf16_coding s MAX_SESSION [] r.read (on_end r.relayed.sent) (kept_set r.relayed.now)
    has =
        by_rule r.read r.relayed
        (subst (λ (l : List (List ℕ)). All (IsPlain gf16_coding s) l) read_is.0 can.given.packets.packets)

    sent_is : on_end r.relayed.sent ≡ relayed_datagrams s ds
    sent_is = has.sent_is ∙ ap (relayed_datagrams s) (sym read_is.0)

    sent : SentTo to (relayed_datagrams s ds) (routes_of before) (routes_of after)
    sent = subst (λ (x : List (List ℕ)). SentTo to x (routes_of before) (routes_of after)) sent_is r.sent

    -- every layer is shown exactly where the session is complete
    shown_where : (IsComplete (kept_set r.relayed.now) → all_shown s (met_in s.number ds) ≡ true)
        × (all_shown s (met_in s.number ds) ≡ true → IsComplete (kept_set r.relayed.now))
    shown_where =
        let complete = complete_is (made gf16_coding) s MAX_SESSION (relayed_pairs s r.read) (kept_set r.relayed.now)
        can.given.packets.session has.follows in
        let same : all_shown s (met_in s.number ds) ≡ all_shown s (relayed_pairs s r.read) =
        sym (shown_alike s ds) ∙ ap (λ (l : List (List ℕ)). all_shown s (relayed_pairs s l)) read_is.0 in
        ((λ all. same ∙ complete.0 all), (λ all. complete.1 (sym same ∙ all)))

    ended : (all : Bool) (read many : ℕ) → AreCounts r read many → all_shown s (met_in s.number ds) ≡ all
        → cond all (Done read many) (Incomplete read many) ≡ relayed_end s ds
    ended all read many are is =
        ap₂ (λ (x y : ℕ). cond all (Done x y) (Incomplete x y))
        (are.0 ∙ ap (λ (l : List (List ℕ)). length l) (sym read_is.0))
        (are.1 ∙ ap (λ (l : List (List ℕ)). length l) sent_is)
        ∙ ap (λ (b : Bool). cond b (Done (length ds) (length (relayed_datagrams s ds)))
        (Incomplete (length ds) (length (relayed_datagrams s ds)))) (sym is)

  port_well : (w : Way) → PortFailed w before after → Rose before.out_faults after.out_faults
  port_well (OnFile name) failed = absurd failed
  port_well (OnLink address) failed = failed.rose

  pub relayed_so : (end : RelayEnd) → whole ≡ end → IsBoundAtRelayEnd from before.link after.link end
      → EndsRelay from s.number to before after end → RelaysSession s from to ds before after end
  relayed_so (Done read many) is bound ends = record {
    sent = sent ends.0;
    listens = bound;
    ended = ended ends.0 true read many ends.3 ((shown_where ends.0).0 ends.2);
    printed = ends.4;
  }
  relayed_so (Incomplete read many) is bound ends = record {
    sent = sent ends.0;
    listens = bound;
    ended =
        ended ends.0 false read many ends.3
        (false_from_ne_true (all_shown s (met_in s.number ds)) (λ all. ends.2 ((shown_where ends.0).1 all)));
    printed = ends.4;
  }
  relayed_so (TurnsSpent read many) is bound ends =
      absurd (let few = (read_is ends.0).1 in let spent = ends.1 in omega (arith, few, spent))
  relayed_so (Unlike group number) is bound ends = absurd (unlike ends.0)
    where
      unlike : RelaysToUnlike from s.number to group number before after → ⊥
      unlike u =
          let plain = plain_to s from files ds before after can.given.packets u.read u.last u.input in
          never_stopped (λ a. a < 65536) gf16_coding s MAX_SESSION (relayed_pairs s u.read) u.relayed.now u.last refl
          can.given.packets.session can.given.packets.fits can.given.zeros plain.1 (by_rule u.read u.relayed plain.0).follows group number
          u.stopped
  relayed_so OutFault is bound ends = absurd (can.well.out (port_well from ends.1))
  relayed_so NoMemory is bound ends = absurd (can.memory is)
  relayed_so PlaceFault is bound ends = absurd (place ends.0)
    where
      place : StopsAtFile from s.number to before after → ⊥
      place (inl stops) = can.well.place (before_used from to before after stops.0)
      place (inr (inl stops)) = can.well.place (entering_used from to before.place after.place stops.0)
      place (inr (inr stops)) = can.well.place (writing_used from to before.place after.place stops.0)
  relayed_so LinkFault is bound ends = absurd (link ends)
    where
      link : StopsAtLink from s.number to before after → ⊥
      link (inl stops) = can.bound stops.0
      link (inr (inl stops)) = can.aimed stops.0
      link (inr (inr (inl stops))) = can.bound stops.0
      link (inr (inr (inr stops))) = can.aimed stops.0

pub completes_relay : (from : Way) (session : List ℕ) (to : Way) (before after : OutsideSeen) (end : RelayEnd)
    → DoesRelay from session to before after end → CompletesRelay from session to before after end
completes_relay from session to before after end does = λ s files ds is can.
    relayed_so s from to files ds before after end can end refl does.bound
    (subst (λ (n : List ℕ). EndsRelay from n to before after end) is does.ends)

-- the link as it was
pub between_same : (from to : Way) (l : LinkSeen) → KeepsLinkBetween from to l l
between_same (OnFile name) (OnFile other) l = refl
between_same (OnFile name) (OnLink address) l = refl
between_same (OnLink address) to l = tt

-- a command that has done nothing for want of memory
pub nothing_relayed : (from : Way) (session : List ℕ) (to : Way) (now : OutsideSeen)
    → DoesRelay from session to now now NoMemory
nothing_relayed from session to now = record {
  bound = inl (feed from);
  kept = between_same from to now.link;
  later = omega arith;
  out = refl;
  ends =
      inl (
        record { untouched = record { files = refl; feed = feed from }; sent = refl },
        record { place = refl; feed = feed from; written = refl },
      );
}
  where
    feed : (from : Way) → KeepsFeed from now.link now.link
    feed (OnFile name) = tt
    feed (OnLink address) = refl
