-- What the fields of an `OpenGroup` stand for. The progressive state is given back with the packet that makes the last
-- stripe known; from then on what it held stands in the message. There is room for the whole message, and its bytes are
-- written as far as the stripes of the layers that are shown. This project's own.
use Rattle.std.specs.Prelude.{ℕ, ◌*◌, ◌<◌, ◌≤◌, List, [], Option, None, Some, All, length, replicate, nat_lt}
use Rattle.std.specs.Prelude.{if◌then◌else◌}
use Rattle.std.specs.List.{flat_map}
use Rattle.field_elements.specs.Field.{Coding}
use Rattle.pet_interp.specs.Progressive.{Held}
use Rattle.stripe_plan.specs.Layers.{needs_of, count_of}
use Rattle.packet_session.specs.Payload.{stripes_in}
use Rattle.packet_session.specs.Session.{IsMessage}
use Rattle.packet_group.specs.OpenGroup.{GroupState, Packets, count_in, layers_of, stripe_lengths}
use Rattle.packet_group.specs.Tags.{AreTagsOf}
use Rattle.packet_group.specs.Written.{HasLayer, whole_message}

-- what is held of each stripe: by the state, or, once it is given back, by the words of the message
abbrev pub held_in : {E : Type 0} → Coding E → Packets → List ℕ → Option (Held E) → Held E
held_in c p message None = record { met = count_in p; stripes = stripes_in c (layers_of p) message; product = [] }
held_in c p message (Some held) = held

-- the bytes that a state tells of a stripe after so many points: its words where it is known, and else as many zeros
abbrev pub told_stripe : {E : Type 0} → Coding E → ℕ → List E → List ℕ
told_stripe c met stripe =
    if nat_lt met (length stripe) then replicate (length stripe * c.width) 0 else flat_map c.spelling stripe

-- the message that a state tells: what it tells of each stripe, on end
abbrev pub told_message : {E : Type 0} → Coding E → Held E → List ℕ
told_message c held = flat_map (told_stripe c held.met) held.stripes

-- the message, by the state, or, once it is given back, by its bytes that are written
abbrev pub message_in : {E : Type 0} → Coding E → Packets → List ℕ → Option (Held E) → List ℕ
message_in c p bytes None = whole_message c.width (layers_of p) bytes
message_in c p bytes (Some held) = told_message c held

-- what the fields stand for, where `bytes` are those of the message that are written
abbrev pub state_of : {E : Type 0} → Coding E → Packets → List ℕ → Option (Held E) → GroupState E
state_of c p bytes progress = record {
  packets = p;
  message = message_in c p bytes progress;
  held = held_in c p (whole_message c.width (layers_of p) bytes) progress;
}

-- it is given back only where no stripe is longer than there are packets
abbrev pub IsGivenBack : {E : Type 0} → Packets → Option (Held E) → Type 0
IsGivenBack p None = All (λ n. n ≤ count_in p) (stripe_lengths (layers_of p))
IsGivenBack p (Some held) = Unit {0}

-- what the fields keep to, where the message has room for `capacity` bytes, and `bytes` are written
pub record IsStored {E : Type 0} (c : Coding E) (p : Packets) (progress : Option (Held E)) (capacity : ℕ)
    (bytes : List ℕ) (tags : List (Option (List ℕ))) : Type 0 where
  pub tagged : AreTagsOf p tags
  pub given_back : IsGivenBack p progress
  pub room : length (needs_of (layers_of p)) * c.width ≤ capacity
  pub message : IsMessage c.width (layers_of p) (whole_message c.width (layers_of p) bytes)
  -- the stripes of each layer that is shown are written
  pub shown : (layer : ℕ) → layer < length (layers_of p) → count_of (layers_of p) layer ≤ count_in p
      → HasLayer c (layers_of p) (held_in c p (whole_message c.width (layers_of p) bytes) progress) bytes layer
