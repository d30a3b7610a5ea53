-- What the receiver of `sample` has received of a session, and what hands it packets. This project's own.
use Rattle.std.specs.Prelude.{◌≡◌, ◌<◌, ◌≤◌, ◌+◌, ℕ, List}
use Rattle.pet_base.specs.declared.limits.TheConstants.{MAX_SESSION}
use Rattle.field_elements.specs.Gf16.{gf16_coding}
use Rattle.packet_frame.specs.Frame.{IsFrame, text}
use Rattle.packet_session.specs.Encoding.{Encoding, IsGroupOf, frame_of}
use Rattle.packet_session.specs.Session.{Session, IsSession, IsPacketOf, Fits}
use Rattle.packet_met.specs.Met.{Pair}
use Rattle.packet_met.specs.Steps as S
use Rattle.packet_met.specs.laws.ExactlyKept.{KeepsExactly}
use Rattle.packet_verdicts.specs.KeptSet.{KeptSet}
use Rattle.packet_verdicts.specs.Verdicts as V
use Rattle.pet_receive.specs.Arrivals.{Order, ReceiverState, HasKept, kept_set}

-- it has kept exactly the session's packets of these pairs, and stands for an order of arrival
pub record HasReceived (s : Session) (pairs : List Pair) (r : ReceiverState ℕ) : Type 0 where
  pub exactly : KeepsExactly gf16_coding s MAX_SESSION pairs (kept_set r)
  pub order : Order
  pub held : HasKept (λ a. a < 65536) gf16_coding r order

-- the encoder is that of a group of the session, which fits
pub record IsSource (s : Session) (e : Encoding) : Type 0 where
  pub session : IsSession 2 s
  pub fits : Fits s MAX_SESSION
  pub group : IsGroupOf s e

-- the bytes are those of this packet of the encoder's group
pub record IsPacketText (e : Encoding) (number : ℕ) (bytes : List ℕ) : Type 0 where
  pub is : bytes ≡ text (frame_of gf16_coding e number)
  pub frame : IsFrame (frame_of gf16_coding e number)
  pub its : (s : Session) → IsGroupOf s e → IsPacketOf gf16_coding s (frame_of gf16_coding e number)

-- the steps of one datagram by what is kept, and what is kept after it: closed, since a datagram's fields open to all
-- their places
unfoldable pub accept_steps : KeptSet → List ℕ → ℕ
accept_steps set bytes = S.steps_of set bytes

unfoldable pub set_after : KeptSet → List ℕ → KeptSet
set_after set bytes = V.after set bytes

-- the receiver has judged a datagram
pub record Accepts (old : ReceiverState ℕ) (bytes : List ℕ) (new : ReceiverState ℕ) (before past : ℕ) : Type 0 where
  pub kept : kept_set new ≡ set_after (kept_set old) bytes
  pub held : (order : Order) → HasKept (λ a. a < 65536) gf16_coding old order
      → (later : Order) × HasKept (λ a. a < 65536) gf16_coding new later
  pub cost : past ≤ before + accept_steps (kept_set old) bytes
