-- What one arrival of a relay has sent and kept, and where it stops. This project's own.
use Rattle.std.specs.Prelude.{◌≡◌, ◌⊎◌, ℕ, ◌+◌, ◌<◌, Bool, true, false, List, [], ◌∷◌, length, map, None, Some}
use Rattle.outside_routes.specs.RouteFaults.{IsStop, stop_of_a_place, stop_of_a_link}
use Rattle.outside_routes.specs.Sending.{Routes, Sends, SendsPart, OutputFailed, SendingFailed}
use Rattle.outside_routes.specs.Way.{Way}
use Rattle.outside_routes.specs.declared.fault.RouteStop.{RouteStop}
use Rattle.field_elements.specs.Gf16.{gf16_coding}
use Rattle.packet_reading.specs.Begun.{stop_of_an_output}
use Rattle.packet_frame.specs.Frame.{Fields, text}
use Rattle.packet_session.specs.Encoding.{Encoding}
use Rattle.packet_verdicts.specs.KeptSet.{kept_in_all}
use Rattle.pet_receive.specs.Arrivals.{ReceiverState, kept_set}
use Rattle.packet_rebuild.specs.Rebuilding.{HasRebuilt}
use Rattle.packet_rebuild.specs.Repairs.{IsEncoderOf, first_unlike_of, made_again, keep_all}
use Rattle.pet_repair.specs.Arrival.{Stands, KeepsOn, IsArrival, IsStopped, MayGive, HaveArrived}
use Rattle.pet_repair.specs.Repaired.{is_whole}
use Rattle.pet_repair.specs.inside.Groups.{IsUnlikeIn}
use Rattle.pet_repair.specs.declared.arriving.RelayStop.{RelayStop}
use Rattle.pet_repair.specs.declared.arriving.RelayStop.TheVariants.{Route, Unlike}

abbrev pub StandsIn : ReceiverState ℕ → List (List ℕ) → Type 0
StandsIn r kept = Stands (λ a. a < 65536) gf16_coding r kept

abbrev pub KeepsOnIn : ReceiverState ℕ → List (List ℕ) → ReceiverState ℕ → Type 0
KeepsOnIn r more now = KeepsOn (λ a. a < 65536) gf16_coding r more now

abbrev pub IsArrivalIn : ReceiverState ℕ → List ℕ → List (List ℕ) → ReceiverState ℕ → Type 0
IsArrivalIn r d sent now = IsArrival (λ a. a < 65536) gf16_coding r d sent now

abbrev pub IsStoppedIn : ReceiverState ℕ → List ℕ → ℕ → ℕ → Type 0
IsStoppedIn r d group number = IsStopped (λ a. a < 65536) gf16_coding r d group number

abbrev pub MayGiveIn : ReceiverState ℕ → List ℕ → List (List ℕ) → Type 0
MayGiveIn r d sent = MayGive (λ a. a < 65536) gf16_coding r d sent

abbrev pub HaveArrivedIn : ReceiverState ℕ → List (List ℕ) → List (List (List ℕ)) → ReceiverState ℕ → Type 0
HaveArrivedIn r ds sent now = HaveArrived (λ a. a < 65536) gf16_coding r ds sent now

-- which stops tell of a failed call of an object: of the place, of the link, and of the output
abbrev pub relay_tells : (RouteStop → Bool) → RelayStop → Bool
relay_tells of_object (Route stop) = of_object stop
relay_tells of_object (Unlike group number) = false

abbrev pub relay_of_place : RelayStop → Bool
relay_of_place stop = relay_tells stop_of_a_place stop

abbrev pub relay_of_link : RelayStop → Bool
relay_of_link stop = relay_tells stop_of_a_link stop

abbrev pub relay_of_output : RelayStop → Bool
relay_of_output stop = relay_tells stop_of_an_output stop

-- a stop tells its cause and what was sent, and an unlike packet is told by its numbers
abbrev pub StopsRelay : Way → Routes → Routes → Type 0 → (ℕ → ℕ → Type 0) → RelayStop → Type 0
StopsRelay way old new Part AtUnlike (Route stop) =
    IsStop (OutputFailed way old.place new.place) (SendingFailed way old.link new.link) ⊥ stop × Part
StopsRelay way old new Part AtUnlike (Unlike group number) = AtUnlike group number

-- the packets of these numbers of the encoder's group that were not kept were sent and kept
pub record SendsAgain (way : Way) (r : ReceiverState ℕ) (e : Encoding) (first count : ℕ) (now : ReceiverState ℕ)
    (old new : Routes) : Type 0 where
  pub sent : List (List ℕ)
  pub rebuilt : HasRebuilt gf16_coding (kept_set r) e first count sent (kept_set now)
  pub more : kept_in_all (kept_set now) ≡ kept_in_all (kept_set r) + length sent
  pub stands : KeepsOnIn r sent now
  pub sends : Sends way sent old new

-- all of a group that were not kept
abbrev pub all_again : ReceiverState ℕ → Encoding → List Fields
all_again r e = made_again gf16_coding (kept_set r) e 0 e.header.table.packets

-- these were sent and kept, and the encoder makes what is kept
pub record SendsLike (way : Way) (r : ReceiverState ℕ) (e : Encoding) (now : ReceiverState ℕ)
    (old new : Routes) : Type 0 where
  pub like : first_unlike_of gf16_coding (kept_set r) e ≡ None
  pub again : SendsAgain way r e 0 e.header.table.packets now old new

abbrev pub PartOfLike : Way → ReceiverState ℕ → Encoding → Routes → Routes → Type 0
PartOfLike way r e old new =
    SendsPart way [] old new
    ⊎ ((first_unlike_of gf16_coding (kept_set r) e ≡ None) × SendsPart way (map text (all_again r e)) old new)

abbrev pub StopsLike : Way → ReceiverState ℕ → Encoding → ℕ → Routes → Routes → RelayStop → Type 0
StopsLike way r e group old new stop =
    StopsRelay way old new (PartOfLike way r e old new)
    (λ g n. (g ≡ group) × (first_unlike_of gf16_coding (kept_set r) e ≡ Some n) × Sends way [] old new) stop

-- an encoder of a whole group, which makes what is kept
pub record HasLike (r : ReceiverState ℕ) (group : ℕ) : Type 0 where
  pub encoder : Encoding
  pub is_its : IsEncoderOf (λ a. a < 65536) gf16_coding r group encoder
  pub like : first_unlike_of gf16_coding (kept_set r) encoder ≡ None

-- the packets of a group that were not kept were sent and kept, exactly where all its layers are shown
pub record SendsCompletion (way : Way) (r : ReceiverState ℕ) (group : ℕ) (now : ReceiverState ℕ)
    (old new : Routes) : Type 0 where
  pub sent : List (List ℕ)
  pub hidden : is_whole (kept_set r) group ≡ false → (sent ≡ []) × (kept_set now ≡ kept_set r)
  pub shown : is_whole (kept_set r) group ≡ true
      → (has : HasLike r group) × (sent ≡ map text (all_again r has.encoder))
      × (kept_set now ≡ keep_all (kept_set r) (all_again r has.encoder))
  pub more : kept_in_all (kept_set now) ≡ kept_in_all (kept_set r) + length sent
  pub stands : KeepsOnIn r sent now
  pub sends : Sends way sent old new

abbrev pub PartOfCompletion : Way → ReceiverState ℕ → ℕ → Routes → Routes → Type 0
PartOfCompletion way r group old new =
    SendsPart way [] old new
    ⊎ ((is_whole (kept_set r) group ≡ true) × (has : HasLike r group)
    × SendsPart way (map text (all_again r has.encoder)) old new)

abbrev pub StopsCompletion : Way → ReceiverState ℕ → ℕ → Routes → Routes → RelayStop → Type 0
StopsCompletion way r group old new stop =
    StopsRelay way old new (PartOfCompletion way r group old new)
    (λ g n. (g ≡ group) × IsUnlikeIn r group n × Sends way [] old new) stop

-- what an arrival gives was sent, and is kept
pub record SendsArrival (way : Way) (r : ReceiverState ℕ) (d : List ℕ) (now : ReceiverState ℕ)
    (old new : Routes) : Type 0 where
  pub sent : List (List ℕ)
  pub is : IsArrivalIn r d sent now
  pub more : kept_in_all (kept_set now) ≡ kept_in_all (kept_set r) + length sent
  pub sends : Sends way sent old new

-- or a front of it
abbrev pub PartOfArrival : Way → ReceiverState ℕ → List ℕ → Routes → Routes → Type 0
PartOfArrival way r d old new = (part : List (List ℕ)) × MayGiveIn r d part × SendsPart way part old new

abbrev pub StopsArrival : Way → ReceiverState ℕ → List ℕ → Routes → Routes → RelayStop → Type 0
StopsArrival way r d old new stop =
    StopsRelay way old new (PartOfArrival way r d old new)
    (λ g n. IsStoppedIn r d g n × Sends way (d ∷ []) old new) stop
