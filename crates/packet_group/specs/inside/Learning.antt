-- What one packet more does to what is known of the stripes of a group, what of the state is left then, and what is
-- written of the message.
use Rattle.std.specs.Prelude.{◌≡◌, ◌≢◌, ℕ, ◌+◌, ◌<◌, ◌≤◌, List, [], ◌∷◌, ◌++◌, length, All, Option, None, Some}
use Rattle.field_elements.specs.Field.{Coding}
use Rattle.pet_interp.specs.Progressive.{Held, StandsFor, stripe_of, lengths_of}
use Rattle.pet_poly.specs.Rows.{words}
use Rattle.stripe_plan.specs.declared.layer.LayerSize.{LayerSize}
use Rattle.stripe_plan.specs.Layers.{plan_stripes, stripe_lengths, count_of}
use Rattle.packet_session.specs.Session.{IsMessage}
use Rattle.packet_group.specs.Written.{HasStripe, HasLayer, whole_message}

-- the state can take a point at x
pub record CanLearn {E : Type 0} (P : E → Type 0) (c : Coding E) (layers : List LayerSize) (x : E)
    (held : Held E) : Type 0 where
  pub lengths : lengths_of held ≡ stripe_lengths layers
  pub few : held.met < 65536
  pub points : List (E × List E)
  pub stands : StandsFor P c.ops held points
  pub other : All (λ q. x ≢ q.0) points

-- the state with the point at x whose values are the payload's words
pub record IsOneMore {E : Type 0} (P : E → Type 0) (c : Coding E) (x : E) (payload : List ℕ)
    (held held' : Held E) : Type 0 where
  pub stands : (points : List (E × List E)) → StandsFor P c.ops held points → All (λ q. x ≢ q.0) points
      → StandsFor P c.ops held' (points ++ ((x, words c.spelt c.width (length held.stripes) payload) ∷ []))
  pub met : held'.met ≡ held.met + 1
  pub lengths : lengths_of held' ≡ lengths_of held

-- the state is left, or given back where no stripe is longer than the number of points that were met
abbrev pub IsLeft : {E : Type 0} → Held E → Option (Held E) → Type 0
IsLeft held None = (j : ℕ) → j < length held.stripes → length (stripe_of held j) ≤ held.met
IsLeft held (Some left) = left ≡ held

-- words of what is held are written, and each stripe that was written before still is
pub record IsWrittenOn {E : Type 0} (c : Coding E) (layers : List LayerSize) (held : Held E) (bytes bytes' : List ℕ)
    : Type 0 where
  pub message : IsMessage c.width layers (whole_message c.width layers bytes')
  pub kept : (j : ℕ) → j < length (plan_stripes layers) → HasStripe c layers held bytes j
      → HasStripe c layers held bytes' j

-- each layer is written whose count is the number of points that were met
abbrev pub HasShown : {E : Type 0} → Coding E → List LayerSize → Held E → List ℕ → Type 0
HasShown c layers held bytes =
    (layer : ℕ) → layer < length layers → count_of layers layer ≡ held.met → HasLayer c layers held bytes layer

-- what a packet more does where the state may have been given back before: then nothing changes
abbrev pub Learns : {E : Type 0} → (E → Type 0) → Coding E → List LayerSize → E → List ℕ → Option (Held E)
    → Option (Held E) → List ℕ → List ℕ → Type 0
Learns P c layers x payload None left bytes bytes' = (left ≡ None) × (bytes' ≡ bytes)
Learns P c layers x payload (Some held) left bytes bytes' =
    (held' : _) × IsOneMore P c x payload held held' × IsLeft held' left
    × IsWrittenOn c layers held' bytes bytes' × HasShown c layers held' bytes'
