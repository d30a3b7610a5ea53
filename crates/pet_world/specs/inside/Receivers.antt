-- What the steps of a world leave of its receivers, one after the other: a packet that is made, a receiver that accepts
-- it, one that takes in another, one that is written and read again.
use Rattle.std.specs.Prelude.{◌≡◌, ℕ, ◌+◌, ◌<◌, ◌≤◌, List, length, set, slice_get, Some, Ok, Err}
use Rattle.field_elements.specs.Field.{Coding}
use Rattle.packet_frame.specs.Frame.{IsFrame, text}
use Rattle.stripe_plan.specs.Layers.{needs_of}
use Rattle.packet_session.specs.Session.{Session, IsPacketOf}
use Rattle.packet_session.specs.Encoding.{Encoding, IsGroupOf, frame_of}
use Rattle.packet_verdicts.specs.declared.verdict.Verdict.{Verdict}
use Rattle.packet_verdicts.specs.declared.union.Absorb.{Absorb}
use Rattle.packet_verdicts.specs.KeptSet.{KeptSet}
use Rattle.packet_verdicts.specs.Verdicts as V
use Rattle.packet_verdicts.specs.Union.{union, absorb_fault, shown_by_union}
use Rattle.pet_receive.specs.Arrivals.{ReceiverState, kept_set}
use Rattle.pet_receive.specs.UnionSteps.{union_steps}
use Rattle.store_text.specs.Store.{store_text}
use Rattle.store_text.specs.Refusals.{read_text}
use Rattle.store_text.specs.declared.fault.BadStore.{BadStore}
use Rattle.store_merge.specs.Reading.{store_steps}
use Rattle.packet_met.specs.Steps as S

-- the steps of one datagram by what is kept, closed, since a datagram's fields open to all their places
unfoldable pub accept_steps : KeptSet → List ℕ → ℕ
accept_steps set bytes = S.steps_of set bytes

-- and what is kept after it, and its verdict
unfoldable pub set_after : KeptSet → List ℕ → KeptSet
set_after set bytes = V.after set bytes

unfoldable pub verdict_on : KeptSet → List ℕ → Verdict
verdict_on set bytes = V.verdict_of set bytes

-- the bytes are those of a packet of one of the encoders
pub record IsPacketText {E : Type 0} (c : Coding E) (encoders : List Encoding) (group number : ℕ) (bytes : List ℕ)
    (before past : ℕ) : Type 0 where
  pub encoding : Encoding
  pub at : slice_get encoders group ≡ Some encoding
  pub below : number < encoding.header.table.packets
  pub is : bytes ≡ text (frame_of c encoding number)
  pub frame : IsFrame (frame_of c encoding number)
  pub its : (s : Session) → IsGroupOf s encoding → IsPacketOf c s (frame_of c encoding number)
  pub cost : past ≤ before + length (needs_of encoding.header.table.layers)

module _ {E : Type 0} (old : List (ReceiverState E)) where
  -- one of the receivers has judged a datagram
  pub record Accepts (here : ℕ) (bytes : List ℕ) (verdict : Verdict) (new : List (ReceiverState E))
      (before past : ℕ) : Type 0 where
    pub mine : ReceiverState E
    pub mine_is : slice_get old here ≡ Some mine
    pub later : ReceiverState E
    pub new_is : new ≡ set old here later
    pub verdict_is : verdict ≡ verdict_on (kept_set mine) bytes
    pub kept : kept_set later ≡ set_after (kept_set mine) bytes
    pub cost : past ≤ before + accept_steps (kept_set mine) bytes

  -- one of them has taken in what another has kept
  pub record Takes (here there : ℕ) (shown : List (ℕ × ℕ)) (new : List (ReceiverState E))
      (before past : ℕ) : Type 0 where
    pub mine : ReceiverState E
    pub mine_is : slice_get old here ≡ Some mine
    pub theirs : ReceiverState E
    pub theirs_is : slice_get old there ≡ Some theirs
    pub later : ReceiverState E
    pub new_is : new ≡ set old here later
    pub kept : kept_set later ≡ union (kept_set mine) (kept_set theirs)
    pub shown_is : shown ≡ shown_by_union (kept_set mine) (kept_set theirs)
    pub cost : past ≤ before + union_steps (kept_set mine) (kept_set theirs)

  -- or could not, whatever memory there is
  pub record CannotTake (here there : ℕ) (fault : Absorb) : Type 0 where
    pub mine : ReceiverState E
    pub mine_is : slice_get old here ≡ Some mine
    pub theirs : ReceiverState E
    pub theirs_is : slice_get old there ≡ Some theirs
    pub refused : absorb_fault (kept_set mine) (kept_set theirs) ≡ Some fault

  -- the store of one of them was written and read again
  pub record Reopens (here limit : ℕ) (new : List (ReceiverState E)) (before past : ℕ) : Type 0 where
    pub mine : ReceiverState E
    pub mine_is : slice_get old here ≡ Some mine
    pub later : ReceiverState E
    pub new_is : new ≡ set old here later
    pub read : read_text limit (store_text (kept_set mine)) ≡ Ok (kept_set later)
    pub cost : past ≤ before + store_steps (kept_set later)

  -- or could not be read, whatever memory there is
  pub record CannotReopen (here limit : ℕ) (fault : BadStore) : Type 0 where
    pub mine : ReceiverState E
    pub mine_is : slice_get old here ≡ Some mine
    pub refused : read_text limit (store_text (kept_set mine)) ≡ Err fault
