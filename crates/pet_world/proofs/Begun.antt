-- A world whose receivers have kept nothing.
use Rattle.std.proofs.Common.{◌≡◌, ℕ, zero, suc, ◌≤◌, List, [], All, length, refl, sym, ap, subst, ◌∙◌}
use Rattle.std.proofs.lemmas.List.{length-replicate}
use Rattle.std.proofs.lemmas.Option.{slice_get_within, get_or_from_slice_get}
use Rattle.pet_base.specs.declared.limits.TheConstants.{MAX_PACKETS}
use Rattle.field_elements.specs.Field.{Coding}
use Rattle.packet_session.specs.Session.{IsSession, Fits}
use Rattle.packet_session.specs.Datagrams.{AreEncoders}
use Rattle.packet_verdicts.specs.KeptSet.{KeptSet, empty_set}
use Rattle.packet_verdicts.specs.laws.KeptSetLaws.{empty_sound}
use Rattle.pet_receive.specs.Arrivals.{ReceiverState, kept_set}
use Rattle.packet_met.specs.Met.{Pair}
use Rattle.packet_met.specs.laws.KeptIsMet.{follows_nothing}
use Rattle.packet_met.specs.laws.DatagramMore.{made}
use Rattle.pet_world.specs.ReceivedSets.{set_of, nothing_met}
use Rattle.pet_world.specs.World.{WorldState, HaveMet, IsWorld}
use Rattle.packet_met.specs.laws.ExactlyKept.{KeepsExactly}
use Rattle.packet_met.specs.EncodedSession.{encoded_session}

none_of : (n i : ℕ) → set_of (nothing_met n) i ≡ []
none_of zero i = refl
none_of (suc n) zero = refl
none_of (suc n) (suc i) = none_of n i

module _ {E : Type 0} (c : Coding E) (w : WorldState E) (n : ℕ) (number : List ℕ)
    (number_is : number ≡ (encoded_session w.encoders).number) (many : length w.receivers ≡ n)
    (empty : All (λ r. kept_set r ≡ empty_set number w.limit) w.receivers) where
  pub begun : HaveMet c w (nothing_met n)
  begun = record {
    many = many ∙ sym (length-replicate n []);
    each =
        λ i r at.
        let s = encoded_session w.encoders in
        let kept : kept_set r ≡ empty_set s.number w.limit =
        subst (λ (x : ReceiverState E). kept_set x ≡ empty_set s.number w.limit)
        (get_or_from_slice_get w.receivers i r r at)
        (empty i r (slice_get_within w.receivers i r at) ∙ ap (λ (k : List ℕ). empty_set k w.limit) number_is) in
        let nothing : KeepsExactly c s w.limit [] (empty_set s.number w.limit) =
        record { sound = empty_sound s.number w.limit; follows = follows_nothing (made c) s w.limit } in
        subst (λ (p : List Pair). KeepsExactly c s w.limit p (kept_set r)) (sym (none_of n i))
        (subst (λ (k : KeptSet). KeepsExactly c s w.limit [] k) (sym kept) nothing);
  }

  pub world_begun : (count : ℕ) → c.width ≡ 2 → MAX_PACKETS ≤ count → IsSession c.width (encoded_session w.encoders)
      → AreEncoders (encoded_session w.encoders) w.encoders → Fits (encoded_session w.encoders) w.limit
      → IsWorld count c w
  world_begun count two points session encoders fits =
      record {
        two = two;
        points = points;
        session = session;
        encoders = encoders;
        fits = fits;
        met = (nothing_met n, begun);
      }
