-- What `relay` leaves of the link, where FROM is a file.
use Rattle.std.proofs.Common.{ℕ, List, [], ◌∷◌, ap, ◌∙◌}
use Rattle.pet_base.specs.LinkSeen.{LinkSeen}
use Rattle.outside_routes.specs.Coming.{OnlyTakes}
use Rattle.outside_routes.specs.Sending.{Routes, IsOpened, IsUnopened, OnlyGrows, OnlyOpens, Sends, SendsPart}
use Rattle.outside_routes.specs.Way.{Way, OnFile, OnLink}
use Rattle.packet_reading.specs.Opened.{KeepsLink}
use Rattle.pet_receive.specs.Arrivals.{ReceiverState}
use Rattle.pet_repair.specs.Relays.{KeepsLinkBetween}
use Rattle.pet_repair.specs.declared.arriving.RelayStop.{RelayStop}
use Rattle.pet_repair.specs.declared.arriving.RelayStop.TheVariants.{Route, Unlike}
use Rattle.pet_repair.specs.inside.Arrivals.{StopsArrival}

pub between_then : (from to : Way) (a b c : LinkSeen) → KeepsLinkBetween from to a b → KeepsLinkBetween from to b c
    → KeepsLinkBetween from to a c
between_then (OnFile name) (OnFile other) a b c p q = q ∙ p
between_then (OnFile name) (OnLink address) a b c p q = q ∙ p
between_then (OnLink address) to a b c p q = tt

-- FROM was begun
pub between_begun : (from to : Way) (old new : LinkSeen) → KeepsLink from old new → KeepsLinkBetween from to old new
between_begun (OnFile name) (OnFile other) old new keeps = keeps
between_begun (OnFile name) (OnLink address) old new keeps = ap (λ (l : LinkSeen). l.bound) keeps
between_begun (OnLink address) to old new keeps = tt

-- TO was made ready, or not
between_opened : (from to : Way) (old new : Routes) → IsOpened to old new → OnlyOpens old new
    → KeepsLinkBetween from to old.link new.link
between_opened (OnFile name) (OnFile other) old new is opens = is.link
between_opened (OnFile name) (OnLink address) old new is opens = opens.link.bound
between_opened (OnLink address) to old new is opens = tt

pub between_unopened : (from to : Way) (old new : Routes) → IsUnopened to old new → OnlyOpens old new
    → KeepsLinkBetween from to old.link new.link
between_unopened (OnFile name) (OnFile other) old new is opens = is.1
between_unopened (OnFile name) (OnLink address) old new is opens = opens.link.bound
between_unopened (OnLink address) to old new is opens = tt

-- and then something was sent
pub between_sending : (from to : Way) (old opened : Routes) (new : LinkSeen) → IsOpened to old opened
    → OnlyOpens old opened → KeepsLinkBetween from to opened.link new → KeepsLinkBetween from to old.link new
between_sending from to old opened new is opens =
    between_then from to old.link opened.link new (between_opened from to old opened is opens)

-- a datagram came, or none
between_taken : (from to : Way) (old new : Routes) → OnlyTakes from old.place old.link new.place new.link
    → KeepsLinkBetween from to old.link new.link
between_taken (OnFile name) (OnFile other) old new takes = takes.other
between_taken (OnFile name) (OnLink address) old new takes = takes.link.bound
between_taken (OnLink address) to old new takes = tt

-- behind others
pub between_more : (from to : Way) (first : LinkSeen) (old new : Routes) → KeepsLinkBetween from to first old.link
    → OnlyTakes from old.place old.link new.place new.link → KeepsLinkBetween from to first new.link
between_more from to first old new kept takes =
    between_then from to first old.link new.link kept (between_taken from to old new takes)

-- what it gives was sent, or a front
pub between_sent : (from to : Way) (ds : List (List ℕ)) (old new : Routes) → OnlyGrows old new → Sends to ds old new
    → KeepsLinkBetween from to old.link new.link
between_sent (OnFile name) (OnFile other) ds old new grows sends = sends.1
between_sent (OnFile name) (OnLink address) ds old new grows sends = grows.link.bound
between_sent (OnLink address) to ds old new grows sends = tt

between_part : (from to : Way) (ds : List (List ℕ)) (old new : Routes) → OnlyGrows old new → SendsPart to ds old new
    → KeepsLinkBetween from to old.link new.link
between_part (OnFile name) (OnFile other) ds old new grows sends = sends.1
between_part (OnFile name) (OnLink address) ds old new grows sends = grows.link.bound
between_part (OnLink address) to ds old new grows sends = tt

pub between_stopped : (from to : Way) (r : ReceiverState ℕ) (d : List ℕ) (old new : Routes) → OnlyGrows old new
    → (stop : RelayStop) → StopsArrival to r d old new stop → KeepsLinkBetween from to old.link new.link
between_stopped from to r d old new grows (Route halt) is = between_part from to is.1.0 old new grows is.1.2
between_stopped from to r d old new grows (Unlike group number) is = between_sent from to (d ∷ []) old new grows is.1
