-- What `repair` leaves of the link.
use Rattle.std.proofs.Common.{ℕ, List, Ok, Err, refl, ◌∙◌}
use Rattle.std.specs.Prelude.{Result, IfErr, IfOk}
use Rattle.pet_base.specs.LinkSeen.{LinkSeen}
use Rattle.outside_routes.specs.Sending.{Routes, IsOpened, IsUnopened, OnlyGrows, OnlyOpens, Sends, SendsPart}
use Rattle.outside_routes.specs.Way.{Way, OnFile, OnLink}
use Rattle.pet_receive.specs.Arrivals.{ReceiverState}
use Rattle.pet_repair.specs.Repaired.{on_end}
use Rattle.pet_repair.specs.SentTo.{KeepsLinkTo}
use Rattle.pet_repair.specs.declared.repair.RepairEnd.{RepairEnd}
use Rattle.pet_repair.specs.declared.repair.RepairEnd.TheVariants as end
use Rattle.pet_repair.specs.declared.repairing.Repaired.{Repaired}
use Rattle.pet_repair.specs.inside.Groups.{PartOfGroups, SendsGroups, StopsInGroups}

pub kept_link : (way : Way) (l : LinkSeen) → KeepsLinkTo way l l
kept_link (OnFile name) l = refl
kept_link (OnLink address) l = (refl, refl, refl)

-- TO was not made ready
pub kept_unopened : (way : Way) (old new : Routes) → IsUnopened way old new → OnlyOpens old new
    → KeepsLinkTo way old.link new.link
kept_unopened (OnFile name) old new is opens = is.1
kept_unopened (OnLink address) old new is opens = (opens.link.feed, opens.link.port, opens.link.bound)

-- what was sent, or a front of it
kept_sent : (way : Way) (ds : List (List ℕ)) (old new : Routes) → OnlyGrows old new → Sends way ds old new
    → KeepsLinkTo way old.link new.link
kept_sent (OnFile name) ds old new grows sends = sends.1
kept_sent (OnLink address) ds old new grows sends = (grows.link.feed, grows.link.port, grows.link.bound)

kept_part : (way : Way) (ds : List (List ℕ)) (old new : Routes) → OnlyGrows old new → SendsPart way ds old new
    → KeepsLinkTo way old.link new.link
kept_part (OnFile name) ds old new grows sends = sends.1
kept_part (OnLink address) ds old new grows sends = (grows.link.feed, grows.link.port, grows.link.bound)

kept_front : (way : Way) (r : ReceiverState ℕ) (old new : Routes) → OnlyGrows old new → PartOfGroups way r old new
    → KeepsLinkTo way old.link new.link
kept_front way r old new grows part = kept_part way (on_end part.1) old new grows part.3

kept_stop : (way : Way) (r : ReceiverState ℕ) (old new : Routes) → OnlyGrows old new → (e : RepairEnd)
    → StopsInGroups way r old new e → KeepsLinkTo way old.link new.link
kept_stop way r old new grows (end.Done groups datagrams) stops = absurd stops
kept_stop way r old new grows end.NoMemory part = kept_front way r old new grows part
kept_stop way r old new grows end.PlaceFault stops = kept_front way r old new grows stops.1
kept_stop way r old new grows end.LinkFault stops = kept_front way r old new grows stops.1
kept_stop way r old new grows (end.BadStore at kind) stops = absurd stops
kept_stop way r old new grows (end.Unlike group number) stops = kept_sent way (on_end stops.1.0) old new grows stops.1.2

kept_groups : (way : Way) (r : ReceiverState ℕ) (count : ℕ) (old new : Routes) (result : Result Repaired RepairEnd)
    → OnlyGrows old new → IfOk result (λ n. SendsGroups way r count n old new)
    → IfErr result (StopsInGroups way r old new) → KeepsLinkTo way old.link new.link
kept_groups way r count old new (Ok n) grows done stops = kept_sent way (on_end done.groups) old new grows done.sends
kept_groups way r count old new (Err e) grows done stops = kept_stop way r old new grows e stops

-- TO was made ready, and then sent to
pub kept_repaired : (way : Way) (r : ReceiverState ℕ) (count : ℕ) (old mid new : Routes)
    (result : Result Repaired RepairEnd) → IsOpened way old mid → OnlyOpens old mid → OnlyGrows mid new
    → IfOk result (λ n. SendsGroups way r count n mid new) → IfErr result (StopsInGroups way r mid new)
    → KeepsLinkTo way old.link new.link
kept_repaired (OnFile name) r count old mid new result is opens grows done stops =
    kept_groups (OnFile name) r count mid new result grows done stops ∙ is.link
kept_repaired (OnLink address) r count old mid new result is opens grows done stops =
    (grows.link.feed ∙ opens.link.feed, grows.link.port ∙ opens.link.port, grows.link.bound ∙ opens.link.bound)
