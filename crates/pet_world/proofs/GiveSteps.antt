-- A packet of the session, given to a receiver.
use Rattle.std.proofs.Common.{◌≡◌, ℕ, ◌+◌, ◌≤◌, Bool, true, false, cond, List, [], ◌∷◌, ◌++◌, length, map, Option, refl}
use Rattle.std.proofs.Common.{sym, ap, ap₂, subst, ◌∙◌, arith}
use Rattle.std.specs.Prelude.{slice_get, option_map, unwrap_or}
use Rattle.field_elements.specs.Field.{Coding}
use Rattle.stripe_plan.specs.declared.layer.LayerSize.{LayerSize}
use Rattle.stripe_plan.specs.Layers.{needs_of}
use Rattle.pet_interp.specs.Progressive.{step_bound}
use Rattle.packet_frame.specs.Frame.{Fields, text}
use Rattle.packet_frame.specs.laws.Laws.{texts_are_read}
use Rattle.packet_session.specs.Session.{Session, SessionGroup}
use Rattle.packet_session.specs.Encoding.{Encoding, frame_of}
use Rattle.packet_verdicts.specs.declared.verdict.Verdict.{Verdict}
use Rattle.packet_verdicts.specs.KeptSet.{KeptSet, count_kept}
use Rattle.packet_verdicts.specs.Verdicts as V
use Rattle.pet_receive.specs.Arrivals.{ReceiverState, kept_set, stripe_lengths}
use Rattle.packet_met.specs.Met.{newly_shown_in}
use Rattle.pet_base.specs.declared.event.Event.TheVariants.{Give}
use Rattle.pet_base.specs.declared.event.Shown.{Shown}
use Rattle.pet_world.specs.ReceivedSets.{set_of, shown_to, sets_after, shown_by_event}
use Rattle.pet_world.specs.World.{WorldState, IsCarriedOut, IsWorld, kept_at, group_layers, event_steps}
use Rattle.packet_met.specs.laws.ExactlyKept.{KeepsExactly}
use Rattle.packet_met.specs.Records.{layers_shown}
use Rattle.packet_met.specs.EncodedSession.{encoded_session}
use Rattle.pet_world.specs.inside.Receivers.{IsPacketText, Accepts, accept_steps, set_after, verdict_on}
use Rattle.packet_met.specs.laws.GivenPacket.{given, given_shown}
use Rattle.pet_world.proofs.OneEvent.{Facts, facts, moved, kept_is}

at_most : (b : Bool) (n : ℕ) → cond b n 0 ≤ n
at_most true n = omega arith
at_most false n = omega arith

module _ {E : Type 0} (count : ℕ) (c : Coding E) (w : WorldState E) (is : IsWorld count c w) where
  abbrev s : Session
  s = encoded_session w.encoders

  abbrev with_receivers : List (ReceiverState E) → WorldState E
  with_receivers new = record w { receivers = new }

  module _ (receiver group number : ℕ) (bytes : List ℕ) (verdict : Verdict) (new : List (ReceiverState E))
      (before between past : ℕ) (t : IsPacketText c w.encoders group number bytes before between)
      (a : Accepts w.receivers receiver bytes verdict new between past) where
    abbrev f : Fields
    f = frame_of c t.encoding number

    group_is : f.group ≡ group
    group_is = (is.encoders.each group t.encoding t.at).1

    pub give_step : IsCarriedOut c w (Give receiver group number)
        (shown_to receiver (map (λ layer. (group, layer)) (layers_shown verdict))) (with_receivers new)
    unfolding sets_after shown_by_event set_after verdict_on
    give_step = record {
      encoders = refl;
      limit = refl;
      stepped =
          λ sets met.
          let its = t.its s (is.encoders.each group t.encoding t.at).0 in
          let pairs = set_of sets receiver in
          let k = kept_set a.mine in
          let had : KeepsExactly c s w.limit pairs k = met.each receiver a.mine a.mine_is in
          let next : KeepsExactly c s w.limit (pairs ++ (f.group, f.number) ∷ []) (V.after k (text f)) =
          given c s w.limit pairs k is.session is.fits had f t.frame its in
          let kept : kept_set a.later ≡ V.after k (text f) = a.kept ∙ ap (V.after k) t.is in
          let has : KeepsExactly c s w.limit (pairs ++ (group, number) ∷ []) (kept_set a.later) =
          subst (λ (x : KeptSet). KeepsExactly c s w.limit (pairs ++ (group, number) ∷ []) x) (sym kept)
          (subst (λ (n : ℕ). KeepsExactly c s w.limit (pairs ++ (n, number) ∷ []) (V.after k (text f))) group_is
          next) in
          let is_verdict : verdict ≡ V.verdict_of k (text f) = a.verdict_is ∙ ap (V.verdict_of k) t.is in
          let shows : map (λ layer. (group, layer)) (layers_shown verdict)
          ≡ newly_shown_in s pairs (pairs ++ (group, number) ∷ []) =
          ap (λ (v : Verdict). map (λ layer. (group, layer)) (layers_shown v)) is_verdict
          ∙ subst (λ (n : ℕ). map (λ layer. (n, layer)) (layers_shown (V.verdict_of k (text f)))
          ≡ newly_shown_in s pairs (pairs ++ (n, number) ∷ [])) group_is
          (given_shown c s w.limit pairs k is.session is.fits had f t.frame its) in (
            moved count c w is sets receiver a.later a.mine
                (pairs ++ (group, number) ∷ []) new met a.mine_is a.new_is has,
            ap (shown_to receiver) shows,
          );
    }

    steps_by : (b : Bool) (k : KeptSet) → V.is_kept (V.verdict_of k (text f)) ≡ b
        → accept_steps k (text f) ≤ step_bound (count_kept k f.group) (stripe_lengths f.layers)
    unfolding accept_steps
    steps_by b k e =
        let most = step_bound (count_kept k f.group) (stripe_lengths f.layers) in
        let is_so : accept_steps k (text f) ≡ cond b most 0 =
        ap (λ (x : Fields). cond (V.is_kept (V.verdict_of k (text f)))
        (step_bound (count_kept k x.group) (stripe_lengths x.layers)) 0) (texts_are_read f t.frame).fields
        ∙ ap (λ (v : Bool). cond v most 0) e in
        omega (arith, is_so, at_most b most)

    pub give_cost : past ≤ before + event_steps w (Give receiver group number)
    give_cost =
        let k = kept_set a.mine in
        let e = t.encoding in
        let layers : group_layers s group ≡ e.header.table.layers =
        ap (λ (o : Option SessionGroup). unwrap_or (option_map (λ g. g.layers) o) [])
        (ap (slice_get s.groups) (sym group_is) ∙ (is.encoders.each group e t.at).0.source) in
        let words : length (needs_of (group_layers s group)) ≡ length (needs_of e.header.table.layers) =
        ap (λ (l : List LayerSize). length (needs_of l)) layers in
        let bound : accept_steps k bytes ≤ step_bound (count_kept k f.group) (stripe_lengths f.layers) =
        subst (λ (b : List ℕ). accept_steps k b ≤ step_bound (count_kept k f.group) (stripe_lengths f.layers))
        (sym t.is) (steps_by (V.is_kept (V.verdict_of k (text f))) k refl) in
        let same : step_bound (count_kept (kept_at w receiver) group) (stripe_lengths (group_layers s group))
        ≡ step_bound (count_kept k f.group) (stripe_lengths f.layers) =
        ap₂ step_bound (ap₂ count_kept (kept_is count c w is receiver a.mine a.mine_is) (sym group_is))
        (ap stripe_lengths layers) in
        omega (arith, t.cost, a.cost, words, bound, same)

  pub give_facts : (receiver here group number : ℕ) (es : List Encoding) (old new : List (ReceiverState E))
      (bytes lent : List ℕ) (verdict : Verdict) (shown : List Shown) (before between past : ℕ)
      → here ≡ receiver → es ≡ w.encoders → old ≡ w.receivers → lent ≡ bytes
      → shown ≡ shown_to receiver (map (λ layer. (group, layer)) (layers_shown verdict))
      → IsPacketText c es group number bytes before between → Accepts old here lent verdict new between past
      → Facts count c w (Give receiver group number) shown new before past
  give_facts receiver here group number es old new bytes lent verdict shown before between past here_is es_are old_is
      lent_is shown_are t a =
      let t_is = subst (λ (x : List Encoding). IsPacketText c x group number bytes before between) es_are t in
      let a_is = subst (λ (x : List ℕ). Accepts w.receivers receiver x verdict new between past) lent_is
      (subst (λ (x : List (ReceiverState E)). Accepts x receiver lent verdict new between past) old_is
      (subst (λ (i : ℕ). Accepts old i lent verdict new between past) here_is a)) in
      let stepped = give_step receiver group number bytes verdict new before between past t_is a_is in
      facts count c w is (Give receiver group number) shown new before past
      (subst (λ (l : List Shown). IsCarriedOut c w (Give receiver group number) l (record w { receivers = new }))
      (sym shown_are) stepped)
      (give_cost receiver group number bytes verdict new before between past t_is a_is)
