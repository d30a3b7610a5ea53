-- One arrival, step by step.
use Rattle.std.proofs.Common.{◌≡◌, ◌≢◌, ℕ, ◌+◌, ◌<◌, true, false, List, [], ◌∷◌, map, None, Some}
use Rattle.std.proofs.Common.{refl, sym, ap, subst, ◌∙◌, arith, inl, inr}
use Rattle.std.specs.Prelude.{All, IfErr, IsErrAnd, OnOk, Result, Ok, Err, is_none}
use Rattle.field_elements.specs.Gf16.{gf16_coding}
use Rattle.packet_frame.specs.Frame.{text}
use Rattle.packet_frame.specs.Refusals.{fields_of}
use Rattle.packet_session.specs.Encoding.{Encoding}
use Rattle.packet_verdicts.specs.declared.verdict.Verdict.{Verdict}
use Rattle.packet_verdicts.specs.declared.verdict.Verdict.TheVariants.{Damaged, Foreign, Clash, Repeated, Full, Kept}
use Rattle.packet_verdicts.specs.declared.verdict.LayerSet.{LayerSet}
use Rattle.packet_verdicts.specs.KeptSet.{KeptSet, IsKeptSet, kept_in_all}
use Rattle.packet_verdicts.specs.Verdicts.{verdict_of, is_kept, after}
use Rattle.pet_receive.specs.Arrivals.{ReceiverState, kept_set}
use Rattle.packet_rebuild.specs.declared.fault.RepairFault.{RepairFault}
use Rattle.packet_rebuild.specs.Repairs.{repair_fault, IsEncoderOf}
use Rattle.outside_routes.specs.RouteFaults.{IsStop}
use Rattle.outside_routes.specs.declared.fault.RouteStop.{RouteStop}
use Rattle.outside_routes.specs.declared.fault.RouteStop.TheVariants as stop
use Rattle.outside_routes.specs.Way.{Way}
use Rattle.outside_routes.specs.Sending.{Routes, Sends, SendsPart, OnlyGrows, OutputFailed, SendingFailed}
use Rattle.outside_routes.specs.laws.SendingLaws.{sends_nothing, sends_then, part_after, output_failed, sending_failed}
use Rattle.pet_repair.specs.Arrival.{kept_itself, completes, CanMake}
use Rattle.pet_repair.specs.Repaired.{is_whole}
use Rattle.pet_repair.specs.declared.arriving.RelayStop.{RelayStop}
use Rattle.pet_repair.specs.declared.arriving.RelayStop.TheVariants.{Route, Unlike}
use Rattle.pet_repair.specs.inside.Arrivals.{KeepsOnIn, StopsRelay, SendsLike, PartOfLike, StopsLike, HasLike, all_again}
use Rattle.pet_repair.specs.inside.Arrivals.{SendsCompletion, PartOfCompletion, StopsCompletion, SendsArrival}
use Rattle.pet_repair.specs.inside.Arrivals.{PartOfArrival, StopsArrival, IsStoppedIn}
use Rattle.pet_repair.specs.inside.Groups.{IsUnlikeIn}
use Rattle.pet_repair.specs.laws.CompletesLaws.{not_completed, nothing_itself, alone_itself, completed_not, completed_where}
use Rattle.pet_repair.proofs.AgainSent.{kept_more, keeps_none, keeps_then}

-- a stop by another word for what was sent
pub stops_relay : (way : Way) (old new : Routes) (A B : Type 0) (U V : ℕ → ℕ → Type 0) (s : RelayStop)
    → (A → B) → ((g n : ℕ) → U g n → V g n) → StopsRelay way old new A U s → StopsRelay way old new B V s
stops_relay way old new A B U V (Route stop) f h is = (is.0, f is.1)
stops_relay way old new A B U V (Unlike group number) f h is = h group number is

stop_since : (way : Way) (first old new : Routes) (s : RouteStop) → OnlyGrows first old
    → IsStop (OutputFailed way old.place new.place) (SendingFailed way old.link new.link) ⊥ s
    → IsStop (OutputFailed way first.place new.place) (SendingFailed way first.link new.link) ⊥ s
stop_since way first old new stop.NoMemory grows is = tt
stop_since way first old new stop.Place grows is = output_failed way first old new grows is
stop_since way first old new stop.Link grows is = sending_failed way first old new grows is
stop_since way first old new stop.Out grows is = is

-- and seen from an earlier time
pub stops_before : (way : Way) (first old new : Routes) (A B : Type 0) (U V : ℕ → ℕ → Type 0) (s : RelayStop)
    → OnlyGrows first old → (A → B) → ((g n : ℕ) → U g n → V g n) → StopsRelay way old new A U s
    → StopsRelay way first new B V s
stops_before way first old new A B U V (Route stop) grows f h is = (stop_since way first old new stop grows is.0, f is.1)
stops_before way first old new A B U V (Unlike group number) grows f h is = h group number is

module _ (way : Way) (r : ReceiverState ℕ) (group : ℕ) where
  -- a whole group was made again
  pub completion_shown : (e : Encoding) (now : ReceiverState ℕ) (old new : Routes)
      → repair_fault (kept_set r) group ≡ None → IsEncoderOf (λ a. a < 65536) gf16_coding r group e
      → SendsLike way r e now old new → SendsCompletion way r group now old new
  completion_shown e now old new shown is like =
      let yes : is_whole (kept_set r) group ≡ true = ap is_none shown in
      record {
        sent = like.again.sent;
        hidden = λ out. let no : true ≡ false = sym yes ∙ out in absurd cc;
        shown =
            λ _. (
              record { encoder = e; is_its = is; like = like.like },
              like.again.rebuilt.sent_is,
              like.again.rebuilt.kept,
            );
        more = like.again.more;
        stands = like.again.stands;
        sends = like.again.sends;
      }

  -- a layer is not shown
  pub completion_hidden : (fault : RepairFault) (now : Routes) → repair_fault (kept_set r) group ≡ Some fault
      → SendsCompletion way r group r now now
  completion_hidden fault now is =
      let no : is_whole (kept_set r) group ≡ false = ap is_none is in
      record {
        sent = [];
        hidden = λ _. (refl, refl);
        shown = λ yes. let out : false ≡ true = sym no ∙ yes in absurd cc;
        more = omega arith;
        stands = keeps_none r;
        sends = sends_nothing way now now refl refl;
      }

  pub stops_shown : (e : Encoding) (old new : Routes) (s : RelayStop) → repair_fault (kept_set r) group ≡ None
      → IsEncoderOf (λ a. a < 65536) gf16_coding r group e → StopsLike way r e group old new s
      → StopsCompletion way r group old new s
  stops_shown e old new s shown is stops =
      stops_relay way old new (PartOfLike way r e old new) (PartOfCompletion way r group old new) _ _ s part
      (λ g n u. (u.0, record { shown = ap is_none shown; encoder = e; is_its = is; unlike = u.1 }, u.2)) stops
    where
      part : PartOfLike way r e old new → PartOfCompletion way r group old new
      part (inl none) = inl none
      part (inr p) = inr (ap is_none shown, record { encoder = e; is_its = is; like = p.0 }, p.1)

-- a verdict that is not Kept
pub other_verdict : (v : Verdict) → ((shown : LayerSet) → v ≢ Kept shown) → is_kept v ≡ false
other_verdict (Kept shown) none = absurd (none shown refl)
other_verdict Damaged none = refl
other_verdict Foreign none = refl
other_verdict Clash none = refl
other_verdict Repeated none = refl
other_verdict Full none = refl

module _ (way : Way) (r : ReceiverState ℕ) (d : List ℕ) (bytes : All (λ b. b < 256) d) where
  -- the datagram is not kept
  pub arrival_none : (now : ReceiverState ℕ) (rs : Routes) → is_kept (verdict_of (kept_set r) d) ≡ false → now ≡ r
      → kept_set now ≡ after (kept_set r) d → SendsArrival way r d now rs rs
  arrival_none now rs out same kept = record {
    sent = [];
    is = record {
      plain = λ _. (sym (nothing_itself (kept_set r) d out), kept);
      whole = λ is. let no : false ≡ true = sym (not_completed (kept_set r) d out) ∙ is in absurd cc;
      stands = subst (KeepsOnIn r []) (sym same) (keeps_none r);
      bytes = bytes;
    };
    more = omega (arith, ap (λ (s : ReceiverState ℕ). kept_in_all (kept_set s)) same);
    sends = sends_nothing way rs rs refl refl;
  }

  -- nothing was sent, or a front of the datagram
  pub part_itself : (old new : Routes) → SendsPart way (kept_itself (kept_set r) d) old new
      → PartOfArrival way r d old new
  part_itself old new part = (kept_itself (kept_set r) d, inl refl, part)

  module _ (shown : LayerSet) (sound : IsKeptSet (kept_set r)) (is : Kept shown ≡ verdict_of (kept_set r) d) where
    kept : is_kept (verdict_of (kept_set r) d) ≡ true
    kept = ap is_kept (sym is)

    one_more : (state : ReceiverState ℕ) → kept_set state ≡ after (kept_set r) d
        → kept_in_all (kept_set state) ≡ kept_in_all (kept_set r) + 1
    one_more state taken = ap kept_in_all taken ∙ kept_more (kept_set r) d sound kept

    -- the datagram alone, or a front of it
    pub part_alone : (old new : Routes) → SendsPart way (d ∷ []) old new → PartOfArrival way r d old new
    part_alone old new part =
        part_itself old new
        (subst (λ (ds : List (List ℕ)). SendsPart way ds old new) (sym (alone_itself (kept_set r) d kept)) part)

    -- no layer is newly shown
    pub arrival_alone : (now : ReceiverState ℕ) (old new : Routes) → shown.bits ≡ 0
        → kept_set now ≡ after (kept_set r) d → KeepsOnIn r (d ∷ []) now → Sends way (d ∷ []) old new
        → SendsArrival way r d now old new
    arrival_alone now old new none taken stands sends = record {
      sent = d ∷ [];
      is = record {
        plain = λ _. (sym (alone_itself (kept_set r) d kept), taken);
        whole =
            λ yes.
            let no : false ≡ true = sym (completed_not (kept_set r) d shown sound is none) ∙ yes in absurd cc;
        stands = stands;
        bytes = bytes;
      };
      more = omega (arith, one_more now taken);
      sends = sends;
    }

    module _ (some : shown.bits ≢ 0) (state : ReceiverState ℕ) (taken : kept_set state ≡ after (kept_set r) d)
        (stands : KeepsOnIn r (d ∷ []) state) (group : ℕ) (at : group ≡ (fields_of d).group) (old mid new : Routes)
        (grows : OnlyGrows old mid) (itself : Sends way (d ∷ []) old mid) where
      now_whole : completes (kept_set r) d ≡ is_whole (kept_set state) group
      now_whole =
          completed_where (kept_set r) d shown sound is some
          ∙ ap (λ (s : KeptSet). is_none (repair_fault s (fields_of d).group)) (sym taken)
          ∙ ap (λ (k : ℕ). is_none (repair_fault (kept_set state) k)) (sym at)

      can_make : HasLike state group → CanMake (λ a. a < 65536) gf16_coding r d
      can_make has = record {
        state = state;
        taken = taken;
        stands = stands;
        encoder = has.encoder;
        is_its = subst (λ (k : ℕ). IsEncoderOf (λ a. a < 65536) gf16_coding state k has.encoder) at has.is_its;
        like = has.like;
      }

      -- some are, and the group is made again where all are shown
      pub arrival_more : (now : ReceiverState ℕ) → SendsCompletion way state group now mid new
          → SendsArrival way r d now old new
      unfolding can_make
      arrival_more now done = record {
        sent = d ∷ done.sent;
        is = record {
          plain =
              λ out.
              let h = done.hidden (sym now_whole ∙ out) in
              (ap (λ (t : List (List ℕ)). d ∷ t) h.0 ∙ sym (alone_itself (kept_set r) d kept), h.1 ∙ taken);
          whole =
              λ yes.
              let s = done.shown (sym now_whole ∙ yes) in
              (can_make s.0, ap (λ (t : List (List ℕ)). d ∷ t) s.1, s.2);
          stands = keeps_then r state now (d ∷ []) done.sent stands done.stands;
          bytes = bytes;
        };
        more = omega (arith, done.more, one_more state taken);
        sends = sends_then way (d ∷ []) done.sent old mid new grows.place.target itself done.sends;
      }

      -- or not wholly
      pub arrival_stops : (s : RelayStop) → StopsCompletion way state group mid new s → StopsArrival way r d old new s
      unfolding can_make
      arrival_stops s stops =
          stops_before way old mid new (PartOfCompletion way state group mid new) (PartOfArrival way r d old new) _ _ s
          grows part unlike stops
        where
          part : PartOfCompletion way state group mid new → PartOfArrival way r d old new
          part (inl none) =
              part_alone old new (part_after way (d ∷ []) [] old mid new grows.place.target itself none)
          part (inr p) = (
            d ∷ map text (all_again state p.1.encoder),
            inr (now_whole ∙ p.0, can_make p.1, refl),
            part_after way (d ∷ []) (map text (all_again state p.1.encoder)) old mid new grows.place.target itself p.2,
          )

          unlike : (g n : ℕ) → (g ≡ group) × IsUnlikeIn state group n × Sends way [] mid new
              → IsStoppedIn r d g n × Sends way (d ∷ []) old new
          unlike g n u = (
            record {
              whole = now_whole ∙ u.1.shown;
              group_is = u.0 ∙ at;
              state = state;
              taken = taken;
              stands = stands;
              unlike = subst (λ (k : ℕ). IsUnlikeIn state k n) (sym u.0) u.1;
              bytes = bytes;
            },
            sends_then way (d ∷ []) [] old mid new grows.place.target itself u.2,
          )

-- the stop that an answer has
pub err_is : {T F : Type 0} (P : F → Type 0) (result : Result T F) (e : F) → IsErrAnd result (λ x. x ≡ e) → P e
    → IfErr result P
err_is P (Ok x) e is p = tt
err_is P (Err x) e is p = subst P (sym is) p

-- what holds in any case holds of the stop of an answer, and of one that has none
pub ok_so : {T F : Type 0} (P : Type 0) (result : Result T F) → P → OnOk result P
ok_so P (Ok x) p = p
ok_so P (Err x) p = tt

pub err_so : {T F : Type 0} (P : F → Type 0) (result : Result T F) → ((e : F) → P e) → IfErr result P
err_so P (Ok x) p = tt
err_so P (Err x) p = p x
