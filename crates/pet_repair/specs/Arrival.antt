-- What a relay sends at the arrival of a datagram, by what it has kept, and what it has kept then. This project's own.
use Rattle.std.specs.Prelude.{◌≡◌, ◌⊎◌, ℕ, ◌<◌, Bool, true, false, ◌&&◌, if◌then◌else◌, List, [], ◌∷◌, ◌++◌, map, All}
use Rattle.std.specs.Prelude.{None, is_none, is_some}
use Rattle.field_elements.specs.Field.{Coding}
use Rattle.packet_frame.specs.Frame.{Fields, text}
use Rattle.packet_frame.specs.Refusals.{fields_of}
use Rattle.packet_session.specs.Encoding.{Encoding}
use Rattle.packet_verdicts.specs.KeptSet.{KeptSet, IsKeptSet}
use Rattle.packet_verdicts.specs.Verdicts.{verdict_of, is_kept, after}
use Rattle.pet_receive.specs.Arrivals.{Order, ReceiverState, HasKept, kept_set}
use Rattle.packet_rebuild.specs.Repairs.{repair_fault, IsEncoderOf, first_unlike_of, made_again, keep_all}
use Rattle.pet_repair.specs.Repaired.{IsUnlike}

-- the datagram, where its verdict is Kept
abbrev pub kept_itself : KeptSet → List ℕ → List (List ℕ)
kept_itself set d = if is_kept (verdict_of set d) then d ∷ [] else []

-- with it all layers of its group are shown, and before it not all were
unfoldable pub completes : KeptSet → List ℕ → Bool
completes set d =
    is_kept (verdict_of set d)
    && (is_none (repair_fault (after set d) (fields_of d).group) && is_some (repair_fault set (fields_of d).group))

-- the pairs of a group and a packet number of some datagrams, in their order
abbrev pub order_of : List (List ℕ) → Order
order_of ds = map (λ d. ((fields_of d).group, (fields_of d).number)) ds

module _ {E : Type 0} (is_element : E → Type 0) (c : Coding E) where
  -- a receiver that has kept the packets of these datagrams, in this order
  pub record Stands (r : ReceiverState E) (kept : List (List ℕ)) : Type 0 where
    pub held : HasKept is_element c r (order_of kept)
    pub sound : IsKeptSet (kept_set r)

  -- and behind them those of some more
  abbrev pub KeepsOn : ReceiverState E → List (List ℕ) → ReceiverState E → Type 0
  KeepsOn r more now = (kept : List (List ℕ)) → Stands r kept → Stands now (kept ++ more)

  module _ (r : ReceiverState E) (d : List ℕ) where
    -- the receiver with the datagram, which it has kept last, and the encoder of its group, which makes what is kept of it
    pub record CanMake : Type 0 where
      pub state : ReceiverState E
      pub taken : kept_set state ≡ after (kept_set r) d
      pub stands : KeepsOn r (d ∷ []) state
      pub encoder : Encoding
      pub is_its : IsEncoderOf is_element c state (fields_of d).group encoder
      pub like : first_unlike_of c (kept_set state) encoder ≡ None

    -- the packets of the group that are not kept then
    abbrev pub others : CanMake → List Fields
    others can = made_again c (kept_set can.state) can.encoder 0 can.encoder.header.table.packets

    -- what may be sent at its arrival: the datagram, where its verdict is Kept, or also, where it makes its group whole, the
    -- other packets of the group, by number
    abbrev pub MayGive : List (List ℕ) → Type 0
    MayGive sent =
        (sent ≡ kept_itself (kept_set r) d)
        ⊎ ((completes (kept_set r) d ≡ true) × (can : CanMake) × (sent ≡ d ∷ map text (others can)))

    -- what is sent, and what is kept then: all of that, in the order in which it is sent
    pub record IsArrival (sent : List (List ℕ)) (now : ReceiverState E) : Type 0 where
      pub plain : completes (kept_set r) d ≡ false
          → (sent ≡ kept_itself (kept_set r) d) × (kept_set now ≡ after (kept_set r) d)
      pub whole : completes (kept_set r) d ≡ true
          → (can : CanMake) × (sent ≡ d ∷ map text (others can)) × (kept_set now ≡ keep_all (kept_set can.state) (others can))
      pub stands : KeepsOn r sent now
      pub bytes : All (λ b. b < 256) d

    -- it makes its group whole, but a packet that is kept of it is not the one that its encoder makes, and this is the
    -- least such number
    pub record IsStopped (group number : ℕ) : Type 0 where
      pub whole : completes (kept_set r) d ≡ true
      pub group_is : group ≡ (fields_of d).group
      pub state : ReceiverState E
      pub taken : kept_set state ≡ after (kept_set r) d
      pub stands : KeepsOn r (d ∷ []) state
      pub unlike : IsUnlike is_element c state group number
      pub bytes : All (λ b. b < 256) d

  -- arrival by arrival, what these datagrams send, and what is kept after them
  abbrev pub HaveArrived : ReceiverState E → List (List ℕ) → List (List (List ℕ)) → ReceiverState E → Type 0
  HaveArrived r [] [] now = now ≡ r
  HaveArrived r [] (one ∷ more) now = ⊥
  HaveArrived r (d ∷ ds) [] now = ⊥
  HaveArrived r (d ∷ ds) (one ∷ more) now = (mid : ReceiverState E) × IsArrival r d one mid × HaveArrived mid ds more now
