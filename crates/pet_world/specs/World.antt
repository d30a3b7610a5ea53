-- What contracts see of a world, and the sets of packets that it stands for. No list of events and no set is stored.
use Rattle.std.specs.Prelude.{◌≡◌, ℕ, ◌+◌, ◌≤◌, List, [], ◌∷◌, length, option_map, unwrap_or, slice_get, Option, Some}
use Rattle.pet_base.specs.declared.limits.TheConstants.{MAX_PACKETS}
use Rattle.field_elements.specs.Field.{Coding}
use Rattle.pet_interp.specs.Progressive.{step_bound}
use Rattle.stripe_plan.specs.declared.layer.LayerSize.{LayerSize}
use Rattle.stripe_plan.specs.Layers.{needs_of}
use Rattle.packet_session.specs.Session.{Session, IsSession, Fits}
use Rattle.packet_session.specs.Encoding.{Encoding}
use Rattle.packet_session.specs.Datagrams.{AreEncoders}
use Rattle.packet_verdicts.specs.KeptSet.{KeptSet, empty_set, count_kept}
use Rattle.pet_receive.specs.Arrivals.{ReceiverState, kept_set, stripe_lengths}
use Rattle.pet_receive.specs.UnionSteps.{union_steps}
use Rattle.store_merge.specs.Reading.{store_steps}
use Rattle.packet_met.specs.EncodedSession.{encoded_session}
use Rattle.packet_met.specs.laws.ExactlyKept.{KeepsExactly}
use Rattle.pet_base.specs.declared.event.Event.{Event}
use Rattle.pet_base.specs.declared.event.Event.TheVariants.{Give, Join, Reopen}
use Rattle.pet_base.specs.declared.event.Shown.{Shown}
use Rattle.pet_world.specs.ReceivedSets.{Sets, set_of, sets_after, shown_by_event, event_refusal}
use Rattle.pet_world.specs.declared.fault.WorldFault.{WorldFault}

-- what contracts see of a world
pub record WorldState (E : Type 0) : Type 0 where
  pub encoders : List Encoding
  pub limit : ℕ
  pub receivers : List (ReceiverState E)

abbrev pub world_of : {E : Type 0} → List Encoding → ℕ → List (ReceiverState E) → WorldState E
world_of encoders limit receivers = record { encoders = encoders; limit = limit; receivers = receivers }

-- each receiver has kept exactly the session's packets of its set
pub record HaveMet {E : Type 0} (c : Coding E) (w : WorldState E) (sets : Sets) : Type 0 where
  pub many : length w.receivers ≡ length sets
  pub each : (i : ℕ) (r : ReceiverState E) → slice_get w.receivers i ≡ Some r
      → KeepsExactly c (encoded_session w.encoders) w.limit (set_of sets i) (kept_set r)

-- what a receiver of some number has kept, and nothing where there is none
abbrev pub kept_at : {E : Type 0} → WorldState E → ℕ → KeptSet
kept_at w i = unwrap_or (option_map (λ r. kept_set r) (slice_get w.receivers i)) (empty_set [] 0)

-- the layers of a group of the session
abbrev pub group_layers : Session → ℕ → List LayerSize
group_layers s group = unwrap_or (option_map (λ g. g.layers) (slice_get s.groups group)) []

-- why an event cannot be carried out in this world, whatever memory there is
abbrev pub refusal_in : {E : Type 0} → WorldState E → Event → Option WorldFault
refusal_in w event = event_refusal (length w.receivers) (encoded_session w.encoders) event

module _ {E : Type 0} (c : Coding E) where
  -- One event was answered Ok with these layers, and has left this world: whatever sets the receivers had met, now they
  -- have met those after the event, and the layers are those that the event shows.
  pub record IsCarriedOut (w : WorldState E) (event : Event) (shown : List Shown) (v : WorldState E) : Type 0 where
    pub encoders : v.encoders ≡ w.encoders
    pub limit : v.limit ≡ w.limit
    pub stepped : (sets : Sets) → HaveMet c w sets
        → HaveMet c v (sets_after sets event) × (shown ≡ shown_by_event (encoded_session w.encoders) sets event)

  -- some events one after the other
  unfoldable pub AreCarriedOut : WorldState E → List Event → List (List Shown) → WorldState E → Type 0
  AreCarriedOut w [] answers v = (answers ≡ []) × (w ≡ v)
  AreCarriedOut w (event ∷ events) answers v =
      (shown : List Shown) × (rest : List (List Shown)) × (u : WorldState E) × (answers ≡ shown ∷ rest)
      × IsCarriedOut w event shown u × AreCarriedOut u events rest v

-- how many steps an event may take: for a packet that is given the words of its group and what one point more may take;
-- for a join what the union adds; for a reopening what the store holds
abbrev pub event_steps : {E : Type 0} → WorldState E → Event → ℕ
event_steps w (Give receiver group number) =
    length (needs_of (group_layers (encoded_session w.encoders) group))
    + step_bound (count_kept (kept_at w receiver) group)
    (stripe_lengths (group_layers (encoded_session w.encoders) group))
event_steps w (Join receiver other) = union_steps (kept_at w receiver) (kept_at w other)
event_steps w (Reopen receiver) = store_steps (kept_at w receiver)

-- what every world is: the encoders are those of one session, which fits, and each receiver has kept packets of it
pub record IsWorld {E : Type 0} (count : ℕ) (c : Coding E) (w : WorldState E) : Type 0 where
  pub two : c.width ≡ 2
  pub points : MAX_PACKETS ≤ count
  pub session : IsSession c.width (encoded_session w.encoders)
  pub encoders : AreEncoders (encoded_session w.encoders) w.encoders
  pub fits : Fits (encoded_session w.encoders) w.limit
  pub met : (sets : Sets) × HaveMet c w sets
