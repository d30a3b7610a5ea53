-- What an event that is not refused tells.
use Rattle.std.proofs.Common.{◌≡◌, ℕ, ◌<◌, Bool, true, false, List, Option, None, Some, refl}
use Rattle.std.proofs.Common.{sym, ap, ◌∙◌}
use Rattle.std.specs.Prelude.{not, nat_lt, if◌then◌else◌, slice_get, option_map}
use Rattle.std.specs.Option.{option_map_or}
use Rattle.std.proofs.lemmas.Bool.{ltb-true, and_parts}
use Rattle.std.proofs.lemmas.Option.{slice_get-map}
use Rattle.packet_session.specs.Session.{Session, SessionGroup}
use Rattle.packet_session.specs.Encoding.{Encoding}
use Rattle.pet_base.specs.declared.event.Event.{Event}
use Rattle.pet_base.specs.declared.event.Event.TheVariants.{Give, Join, Reopen}
use Rattle.pet_world.specs.declared.fault.WorldFault.TheVariants.{UnknownReceiver, OutOfRange}
use Rattle.pet_world.specs.ReceivedSets.{has_receivers, is_in_session, event_refusal}
use Rattle.packet_met.specs.EncodedSession.{encoded_group, encoded_session}

by : (a b : Bool) → (if not a then Some UnknownReceiver else if not b then Some OutOfRange else None) ≡ None
    → (a ≡ true) × (b ≡ true)
by false b e = absurd (cc)
by true false e = absurd (cc)
by true true e = (refl, refl)

pub known : (many : ℕ) (s : Session) (event : Event) → event_refusal many s event ≡ None
    → (has_receivers many event ≡ true) × (is_in_session s event ≡ true)
unfolding event_refusal
known many s event e = by (has_receivers many event) (is_in_session s event) e

pub given_known : (many : ℕ) (s : Session) (receiver group number : ℕ)
    → event_refusal many s (Give receiver group number) ≡ None → receiver < many
given_known many s receiver group number e = ltb-true receiver many (known many s (Give receiver group number) e).0

pub joined_known : (many : ℕ) (s : Session) (receiver other : ℕ) → event_refusal many s (Join receiver other) ≡ None
    → (receiver < many) × (other < many)
joined_known many s receiver other e =
    let both = and_parts (nat_lt receiver many) (nat_lt other many) (known many s (Join receiver other) e).0 in
    (ltb-true receiver many both.0, ltb-true other many both.1)

pub reopened_known : (many : ℕ) (s : Session) (receiver : ℕ) → event_refusal many s (Reopen receiver) ≡ None
    → receiver < many
reopened_known many s receiver e = ltb-true receiver many (known many s (Reopen receiver) e).0

packet_by : (number : ℕ) (o : Option Encoding)
    → option_map_or (λ e. nat_lt number e.header.table.packets) o false
    ≡ option_map_or (λ (g : SessionGroup). nat_lt number g.packets) (option_map encoded_group o) false
packet_by number None = refl
packet_by number (Some e) = refl

-- a packet of the encoders is one of their session
pub packet_known : (es : List Encoding) (group number : ℕ)
    → option_map_or (λ e. nat_lt number e.header.table.packets) (slice_get es group) false
    ≡ option_map_or (λ (g : SessionGroup). nat_lt number g.packets) (slice_get (encoded_session es).groups group) false
packet_known es group number =
    packet_by number (slice_get es group)
    ∙ ap (λ (o : Option SessionGroup). option_map_or (λ (g : SessionGroup). nat_lt number g.packets) o false)
    (sym (slice_get-map encoded_group es group))
