-- What a relay has read and sent so far, since FROM was begun and TO was made ready. This project's own.
use Rattle.std.specs.Prelude.{◌≡◌, ◌⊎◌, ℕ, ◌+◌, ◌<◌, ◌≤◌, List, [], ◌∷◌, ◌++◌, length, IfSome}
use Rattle.pet_base.specs.declared.limits.TheConstants.{MAX_DATAGRAMS}
use Rattle.pet_base.specs.Seen.{KeepsNames}
use Rattle.pet_base.specs.LinkSeen.{LinkSeen}
use Rattle.outside_routes.specs.Way.{Way}
use Rattle.outside_routes.specs.Coming.{coming, HaveCome, HaveComeUntil}
use Rattle.outside_routes.specs.RouteFaults.{InputFailed, ReceivingFailed}
use Rattle.outside_routes.specs.declared.fault.RouteStop.TheVariants as stop
use Rattle.outside_routes.specs.Sending.{Routes, OutputFailed, SendingFailed}
use Rattle.pet_receive.specs.Arrivals.{ReceiverState, kept_set}
use Rattle.packet_verdicts.specs.KeptSet.{kept_in_all}
use Rattle.pet_repair.specs.Repaired.{on_end}
use Rattle.pet_repair.specs.Relays.{MayGiveNext}
use Rattle.pet_repair.specs.inside.Arrivals.{HaveArrivedIn, IsStoppedIn}
use Rattle.pet_repair.specs.inside.Handed.{Handed, HandedPart}
use Rattle.pet_repair.specs.declared.arriving.RelayStop.{RelayStop}
use Rattle.pet_repair.specs.declared.arriving.RelayStop.TheVariants.{Route, Unlike}

-- the datagrams that have come since, of those that were to come first, were relayed
pub record RelayedSoFar (from to : Way) (start : ReceiverState ℕ) (n : ℕ) (first now : Routes)
    (r : ReceiverState ℕ) : Type 0 where
  pub read : List (List ℕ)
  pub sent : List (List (List ℕ))
  pub many : length read ≡ n
  pub rest : HaveCome read (coming from first.place first.link) (coming from now.place now.link)
  pub arrived : HaveArrivedIn start read sent r
  pub more : kept_in_all (kept_set r) ≡ kept_in_all (kept_set start) + length (on_end sent)
  pub handed : Handed to (on_end sent) first now

-- the same, where none is left to come or 16,777,216 have come
pub record RelayedAll (from to : Way) (start : ReceiverState ℕ) (n : ℕ) (first now : Routes)
    (r : ReceiverState ℕ) : Type 0 where
  pub so_far : RelayedSoFar from to start n first now r
  pub few : n ≤ MAX_DATAGRAMS
  pub ended : n < MAX_DATAGRAMS → IfSome (coming from now.place now.link) (λ more. more ≡ [])

-- these datagrams came, and no others
abbrev pub CameTo : Way → List (List ℕ) → Routes → Routes → Type 0
CameTo from read first now = HaveComeUntil from read first.place first.link now.place now.link

-- what some datagrams that came sent, and no other came
pub record RelayedUntil (from to : Way) (start : ReceiverState ℕ) (first now : Routes) : Type 0 where
  pub read : List (List ℕ)
  pub sent : List (List (List ℕ))
  pub state : ReceiverState ℕ
  pub arrived : HaveArrivedIn start read sent state
  pub few : length read ≤ MAX_DATAGRAMS
  pub came : CameTo from read first now
  pub handed : Handed to (on_end sent) first now

-- a front of what some datagrams that came first sent, and of what one more may send
pub record RelayedPart (from to : Way) (start : ReceiverState ℕ) (first now : Routes) : Type 0 where
  pub read : List (List ℕ)
  pub sent : List (List (List ℕ))
  pub state : ReceiverState ℕ
  pub arrived : HaveArrivedIn start read sent state
  pub next : List (List ℕ)
  pub one : length next ≤ 1
  pub few : length read + length next ≤ MAX_DATAGRAMS
  pub came : CameTo from (read ++ next) first now
  pub more : List (List ℕ)
  pub may : MayGiveNext state next more
  pub handed : HandedPart to (on_end sent ++ more) first now

-- what some datagrams sent, and the next one itself, which makes its group whole with a packet that is unlike
pub record RelayedTo (from to : Way) (start : ReceiverState ℕ) (first now : Routes) (group number : ℕ) : Type 0 where
  pub read : List (List ℕ)
  pub sent : List (List (List ℕ))
  pub state : ReceiverState ℕ
  pub arrived : HaveArrivedIn start read sent state
  pub last : List ℕ
  pub few : length read < MAX_DATAGRAMS
  pub came : CameTo from (read ++ last ∷ []) first now
  pub stopped : IsStoppedIn state last group number
  pub handed : Handed to (on_end sent ++ last ∷ []) first now

-- where the relaying stopped, and why: at FROM, or at TO, or for want of memory
abbrev pub StopsRelaying : Way → Way → ReceiverState ℕ → Routes → Routes → RelayStop → Type 0
StopsRelaying from to start first now (Route stop.NoMemory) = RelayedPart from to start first now
StopsRelaying from to start first now (Route stop.Place) =
    (InputFailed from first.place now.place × RelayedUntil from to start first now)
    ⊎ (OutputFailed to first.place now.place × RelayedPart from to start first now)
StopsRelaying from to start first now (Route stop.Link) =
    (ReceivingFailed from first.link now.link × RelayedUntil from to start first now)
    ⊎ (SendingFailed to first.link now.link × RelayedPart from to start first now)
StopsRelaying from to start first now (Route stop.Out) = ⊥
StopsRelaying from to start first now (Unlike group number) = RelayedTo from to start first now group number

-- the addresses of the link, and its port, are those that they were
pub record KeepsAddresses (old new : LinkSeen) : Type 0 where
  pub port : new.port ≡ old.port
  pub bound : new.bound ≡ old.bound
  pub aimed : new.aimed ≡ old.aimed

-- what is as it was when the relaying began, while datagrams come and are sent
pub record IsLater (first now : Routes) : Type 0 where
  pub names : KeepsNames first.place now.place
  pub keeps : KeepsAddresses first.link now.link
  pub place : first.place.faults ≤ now.place.faults
  pub link : first.link.faults ≤ now.link.faults
