-- A packet of the session that is handed to the receiver: what it has received then, and the steps.
use Rattle.std.proofs.Common.{◌≡◌, ℕ, ◌+◌, ◌<◌, ◌≤◌, Bool, true, false, cond, List, [], ◌∷◌, ◌++◌, length, Option}
use Rattle.std.proofs.Common.{Result, Ok, Err, refl, sym, ap, subst, ◌∙◌, arith}
use Rattle.std.specs.Prelude.{IfOk, OnOk}
use Rattle.std.specs.Option.{option_map_or}
use Rattle.pet_base.specs.declared.faults.NoMemory.{NoMemory}
use Rattle.pet_base.specs.declared.limits.TheConstants.{MAX_SESSION}
use Rattle.pet_interp.specs.Progressive.{step_bound}
use Rattle.stripe_plan.specs.Layers.{needs_of, stripe_lengths}
use Rattle.field_elements.specs.Gf16.{gf16_coding}
use Rattle.packet_frame.specs.Frame.{Fields, text}
use Rattle.packet_frame.specs.Refusals.{fields_of}
use Rattle.packet_frame.specs.laws.Laws.{texts_are_read}
use Rattle.packet_session.specs.Session.{Session, SessionGroup}
use Rattle.packet_session.specs.Encoding.{Encoding, frame_of}
use Rattle.packet_verdicts.specs.declared.verdict.Verdict.{Verdict}
use Rattle.packet_verdicts.specs.KeptSet.{KeptSet, count_kept}
use Rattle.packet_verdicts.specs.Verdicts as V
use Rattle.pet_receive.specs.Arrivals.{Order, ReceiverState, HasKept, kept_set}
use Rattle.packet_met.specs.Met.{Pair, distinct_met}
use Rattle.packet_met.specs.laws.DatagramMore.{made}
use Rattle.packet_met.specs.laws.ExactlyKept.{KeepsExactly}
use Rattle.packet_met.specs.laws.GivenPacket.{given}
use Rattle.packet_met.specs.laws.PacketText.{count_kept_is}
use Rattle.command_sample.specs.SampleSteps.{arrival_steps, packet_steps}
use Rattle.command_sample.specs.inside.Receiving.{Accepts, HasReceived, IsPacketText, IsSource, accept_steps, set_after}

-- ---- one datagram

cost_by : (set : KeptSet) (bytes : List ℕ) (before past : ℕ) (b : Bool) → V.is_kept (V.verdict_of set bytes) ≡ b
    → (b ≡ false → past ≡ before)
    → (b ≡ true
    → past ≤ before + step_bound (count_kept set (fields_of bytes).group) (stripe_lengths (fields_of bytes).layers))
    → past ≤ before + accept_steps set bytes
unfolding accept_steps
cost_by set bytes before past true is out kept = rw is (kept refl)
cost_by set bytes before past false is out kept = rw is (omega (arith, out refl))

abbrev Held : ReceiverState ℕ → Order → Type 0
Held r order = HasKept (λ a. a < 65536) gf16_coding r order

held_by : (old new : ReceiverState ℕ) (bytes : List ℕ) (b : Bool)
    → (b ≡ false → new ≡ old)
    → (b ≡ true → (order : Order) → Held old order
    → Held new (order ++ ((fields_of bytes).group, (fields_of bytes).number) ∷ []))
    → (order : Order) → Held old order → (later : Order) × Held new later
held_by old new bytes true out kept order held =
    (order ++ ((fields_of bytes).group, (fields_of bytes).number) ∷ [], kept refl order held)
held_by old new bytes false out kept order held =
    (order, subst (λ (r : ReceiverState ℕ). Held r order) (sym (out refl)) held)

pub accepted : (old new : ReceiverState ℕ) (bytes : List ℕ) (before past : ℕ) (r : Result Verdict NoMemory)
    → IfOk r (λ v. v ≡ V.verdict_of (kept_set old) bytes) → OnOk r (kept_set new ≡ V.after (kept_set old) bytes)
    → IfOk r (λ v. V.is_kept v ≡ false → (new ≡ old) × (past ≡ before))
    → IfOk r (λ v. V.is_kept v ≡ true → (order : Order) → Held old order
    → Held new (order ++ ((fields_of bytes).group, (fields_of bytes).number) ∷ []))
    → IfOk r (λ v. V.is_kept v ≡ true
    → past ≤ before
    + step_bound (count_kept (kept_set old) (fields_of bytes).group) (stripe_lengths (fields_of bytes).layers))
    → OnOk r (Accepts old bytes new before past)
unfolding set_after
accepted old new bytes before past (Err e) verdict kept out order cost = tt
accepted old new bytes before past (Ok v) verdict kept out order cost = record {
  kept = kept;
  held = held_by old new bytes (V.is_kept v) (λ no. (out no).0) order;
  cost =
      cost_by (kept_set old) bytes before past (V.is_kept (V.verdict_of (kept_set old) bytes)) refl
      (λ no. (out (ap V.is_kept verdict ∙ no)).1) (λ yes. cost (ap V.is_kept verdict ∙ yes));
}

-- ---- one packet

module _ (s : Session) (pairs : List Pair) (old : ReceiverState ℕ) (e : Encoding) (number : ℕ) (source : IsSource s e)
    (has : HasReceived s pairs old) (bytes : List ℕ) (packet : IsPacketText e number bytes) where
  abbrev f : Fields
  f = frame_of gf16_coding e number

  pub handed : (new : ReceiverState ℕ) (before past : ℕ) → Accepts old bytes new before past
      → HasReceived s (pairs ++ (e.header.group, number) ∷ []) new
  unfolding set_after
  handed new before past a =
      let k = kept_set old in
      let kept : kept_set new ≡ V.after k (text f) = a.kept ∙ ap (V.after k) packet.is in
      let later = a.held has.order has.held in
      record {
        exactly =
            subst (λ (x : KeptSet). KeepsExactly gf16_coding s MAX_SESSION (pairs ++ (e.header.group, number) ∷ []) x)
            (sym kept)
            (given gf16_coding s MAX_SESSION pairs k source.session source.fits has.exactly f packet.frame
            (packet.its s source.group));
        order = later.0;
        held = later.1;
      }

  at_most : (b : Bool) (n : ℕ) → cond b n 0 ≤ n
  at_most true n = omega arith
  at_most false n = omega arith

  abbrev most : ℕ
  most = step_bound (count_kept (kept_set old) f.group) (stripe_lengths f.layers)

  steps_by : accept_steps (kept_set old) bytes ≤ most
  unfolding accept_steps
  steps_by =
      let k = kept_set old in
      let kept : Bool = V.is_kept (V.verdict_of k (text f)) in
      let is_so : accept_steps k (text f) ≡ cond kept most 0 =
      ap (λ (x : Fields). cond kept (step_bound (count_kept k x.group) (stripe_lengths x.layers)) 0)
      (texts_are_read f packet.frame).fields in
      omega (arith, ap (accept_steps k) packet.is, is_so, at_most kept most)

  steps_are : arrival_steps s pairs (e.header.group, number) ≡ length (needs_of e.header.table.layers) + most
  steps_are =
      let met = count_kept_is (made gf16_coding) s MAX_SESSION pairs (kept_set old) e.header.group
      (record { packets = e.header.table.packets; layers = e.header.table.layers; message = e.message })
      has.exactly.follows source.group.source in
      ap (λ (o : Option SessionGroup). option_map_or (λ (g : SessionGroup). packet_steps
      (distinct_met pairs e.header.group g.packets) g) o 0) source.group.source
      ∙ ap (λ (n : ℕ). length (needs_of e.header.table.layers) + step_bound n (stripe_lengths e.header.table.layers))
      (sym met)

  pub handed_cost : (new : ReceiverState ℕ) (start before past : ℕ)
      → before ≤ start + length (needs_of e.header.table.layers) → Accepts old bytes new before past
      → past ≤ start + arrival_steps s pairs (e.header.group, number)
  handed_cost new start before past first a = omega (arith, first, a.cost, steps_by, steps_are)

  pub stopped_cost : (start before : ℕ) → before ≤ start + length (needs_of e.header.table.layers)
      → before ≤ start + arrival_steps s pairs (e.header.group, number)
  stopped_cost start before first = omega (arith, first, steps_are)
