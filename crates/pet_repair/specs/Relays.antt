-- What `relay` leaves at each of its ends. This project's own.
use Rattle.std.specs.Prelude.{◌≡◌, ◌⊎◌, ℕ, ◌+◌, ◌<◌, ◌≤◌, List, [], ◌∷◌, ◌++◌, length}
use Rattle.pet_base.specs.declared.limits.TheConstants.{MAX_DATAGRAMS}
use Rattle.pet_base.specs.LinkSeen.{LinkSeen}
use Rattle.pet_base.specs.OutsideSeen.{OutsideSeen}
use Rattle.pet_base.specs.Seen.{Seen, Blame, HadFault}
use Rattle.outside_files.specs.Printed.{Unprinted}
use Rattle.outside_files.specs.Uses.{reading, writing}
use Rattle.outside_routes.specs.Coming.{KeepsFeed}
use Rattle.outside_routes.specs.RouteFaults.{AimedFailed, BoundFailed}
use Rattle.outside_routes.specs.Sending.{Routes}
use Rattle.outside_routes.specs.Way.{Way, OnFile, OnLink}
use Rattle.packet_reading.specs.Opened.{IsBoundTo, IsUntouched, IsUnused, PortFailed, PrintedPort}
use Rattle.packet_reading.specs.Begun.{EnteringFailed, FailsBefore, IsToCome, OpeningFailed, OutStops}
use Rattle.packet_reading.specs.Layers.{IsRead, HaveComeFirst}
use Rattle.pet_repair.specs.Failures.{relay_end_of_output}
use Rattle.field_elements.specs.Gf16.{gf16_coding}
use Rattle.pet_receive.specs.Arrivals.{ReceiverState, kept_set}
use Rattle.pet_receive.specs.ShownBytes.{IsComplete}
use Rattle.packet_met.specs.Kept.{nothing_of}
use Rattle.pet_repair.specs.Arrival.{Stands, MayGive, IsStopped, HaveArrived}
use Rattle.pet_repair.specs.Repaired.{on_end}
use Rattle.pet_repair.specs.SentTo.{SentTo, SentFront}
use Rattle.pet_repair.specs.declared.relay.RelayEnd.{RelayEnd}
use Rattle.pet_repair.specs.declared.relay.RelayEnd.TheVariants.{Done, NoMemory, PlaceFault, LinkFault, OutFault}
use Rattle.pet_repair.specs.declared.relay.RelayEnd.TheVariants.{Incomplete, TurnsSpent, Unlike}

-- what is seen of the files and of the link
abbrev pub routes_of : OutsideSeen → Routes
routes_of outside = record { place = outside.place; link = outside.link }

-- Datagrams were relayed, one after the other, by a receiver that had kept nothing of the session: what they sent, arrival by
-- arrival, and what is kept of it, which is that, in that order.
pub record Relayed (session : List ℕ) (read : List (List ℕ)) : Type 0 where
  pub start : ReceiverState ℕ
  pub stands : Stands (λ a. a < 65536) gf16_coding start []
  pub empty : kept_set start ≡ nothing_of session
  pub sent : List (List (List ℕ))
  pub now : ReceiverState ℕ
  pub arrived : HaveArrived (λ a. a < 65536) gf16_coding start read sent now
  pub held : Stands (λ a. a < 65536) gf16_coding now (on_end sent)

-- The datagrams of FROM were relayed, and TO has what they sent.
pub record Relays (from : Way) (session : List ℕ) (to : Way) (before after : OutsideSeen) : Type 0 where
  pub read : List (List ℕ)
  pub few : length read ≤ MAX_DATAGRAMS
  pub input : IsRead from read before after
  pub relayed : Relayed session read
  pub sent : SentTo to (on_end relayed.sent) (routes_of before) (routes_of after)

-- what may be sent of at most one datagram more
abbrev pub MayGiveNext : ReceiverState ℕ → List (List ℕ) → List (List ℕ) → Type 0
MayGiveNext r [] sent = sent ≡ []
MayGiveNext r (d ∷ ds) sent = MayGive (λ a. a < 65536) gf16_coding r d sent

-- The first datagrams of FROM were relayed, and TO has a front of what they sent, and of what one more may send.
pub record RelaysFront (from : Way) (session : List ℕ) (to : Way) (before after : OutsideSeen) : Type 0 where
  pub read : List (List ℕ)
  pub next : List (List ℕ)
  pub one : length next ≤ 1
  pub few : length read + length next ≤ MAX_DATAGRAMS
  pub input : HaveComeFirst from (read ++ next) before after
  pub relayed : Relayed session read
  pub more : List (List ℕ)
  pub may : MayGiveNext relayed.now next more
  pub sent : SentFront to (on_end relayed.sent ++ more) (routes_of before) (routes_of after)

-- FROM failed while datagrams were to come: TO has the whole of what those send that came before.
pub record RelaysUntilFault (from : Way) (session : List ℕ) (to : Way) (before after : OutsideSeen) : Type 0 where
  pub read : List (List ℕ)
  pub few : length read ≤ MAX_DATAGRAMS
  pub come : HaveComeFirst from read before after
  pub relayed : Relayed session read
  pub sent : SentTo to (on_end relayed.sent) (routes_of before) (routes_of after)

-- At the last datagram that was read its group was to be made again, but a kept packet of it is not the one that its encoder
-- makes. TO has what came before, and that datagram; nothing of that group was made again.
pub record RelaysToUnlike (from : Way) (session : List ℕ) (to : Way) (group number : ℕ)
    (before after : OutsideSeen) : Type 0 where
  pub read : List (List ℕ)
  pub last : List ℕ
  pub few : length read < MAX_DATAGRAMS
  pub input : HaveComeFirst from (read ++ last ∷ []) before after
  pub relayed : Relayed session read
  pub stopped : IsStopped (λ a. a < 65536) gf16_coding relayed.now last group number
  pub sent : SentTo to (on_end relayed.sent ++ last ∷ []) (routes_of before) (routes_of after)

-- the numbers of what was relayed: how many datagrams were read, and how many were sent
abbrev pub AreCounts : {from to : Way} {session : List ℕ} {before after : OutsideSeen}
    → Relays from session to before after → ℕ → ℕ → Type 0
AreCounts r read sent = (read ≡ length r.read) × (sent ≡ length (on_end r.relayed.sent))

-- nothing has begun: no file has changed, no datagram has left the link, and none was sent
pub record HasNotBegun (from : Way) (before after : OutsideSeen) : Type 0 where
  pub untouched : IsUntouched from before after
  pub sent : after.link.sent ≡ before.link.sent

-- the files that are used: FROM is read, and TO is written, each where it is one
abbrev pub relay_uses : Way → Way → List Blame
relay_uses (OnFile from) (OnFile to) = reading from ∷ writing to ∷ []
relay_uses (OnFile from) (OnLink address) = reading from ∷ []
relay_uses (OnLink address) (OnFile to) = writing to ∷ []
relay_uses (OnLink address) (OnLink other) = []

-- the place failed at the file TO; of a link no file is written
abbrev pub WritingFailed : Way → Seen → Seen → Type 0
WritingFailed (OnFile name) old new = HadFault old new (λ blame. blame ≡ writing name)
WritingFailed (OnLink address) old new = ⊥

-- the place failed before any of FROM came: FROM, a file, could not be opened; or it was, and TO, a file, not made
abbrev pub FailsBeforeTo : Way → Way → OutsideSeen → OutsideSeen → Type 0
FailsBeforeTo from (OnFile name) before after = FailsBefore from name before after
FailsBeforeTo from (OnLink address) before after = OpeningFailed from before.place after.place

-- Where the place failed: before any of FROM came; or at FROM, a file, behind that; or at TO, a file, which then has at most a
-- front.
abbrev pub StopsAtFile : Way → List ℕ → Way → OutsideSeen → OutsideSeen → Type 0
StopsAtFile from session to before after =
    (FailsBeforeTo from to before after × HasNotBegun from before after)
    ⊎ (EnteringFailed from before.place after.place × RelaysUntilFault from session to before after)
    ⊎ (WritingFailed to before.place after.place × RelaysFront from session to before after)

-- Where the link failed: before it received at FROM; or before it sent to TO, when none of FROM had come; or while it received at
-- FROM, behind that; or while it sent to TO, which then has at most a front.
abbrev pub StopsAtLink : Way → List ℕ → Way → OutsideSeen → OutsideSeen → Type 0
StopsAtLink from session to before after =
    (BoundFailed from before.link after.link × HasNotBegun from before after × Unprinted before after)
    ⊎ (AimedFailed to before.link after.link × IsToCome from before after × HasNotBegun from before after
    × PrintedPort from before after)
    ⊎ (BoundFailed from before.link after.link × RelaysUntilFault from session to before after
    × PrintedPort from before after)
    ⊎ (AimedFailed to before.link after.link × RelaysFront from session to before after × PrintedPort from before after)

-- At an end with numbers the datagrams of FROM were relayed, and TO has all that they sent. Where FROM failed, a file or the link, TO
-- has all that those sent that came before; where memory or TO failed it has a front; or nothing has begun. Nothing is printed but the
-- line of the port of a link FROM, before TO is made ready.
abbrev pub EndsRelay : Way → List ℕ → Way → OutsideSeen → OutsideSeen → RelayEnd → Type 0
EndsRelay from session to before after (Done read sent) =
    (r : Relays from session to before after) × (length r.read < MAX_DATAGRAMS)
    × IsComplete (kept_set r.relayed.now) × AreCounts r read sent × PrintedPort from before after
EndsRelay from session to before after (Incomplete read sent) =
    (r : Relays from session to before after) × (length r.read < MAX_DATAGRAMS)
    × (IsComplete (kept_set r.relayed.now) → ⊥) × AreCounts r read sent × PrintedPort from before after
EndsRelay from session to before after (TurnsSpent read sent) =
    (r : Relays from session to before after) × (length r.read ≡ MAX_DATAGRAMS) × AreCounts r read sent
    × PrintedPort from before after
EndsRelay from session to before after (Unlike group number) =
    RelaysToUnlike from session to group number before after × PrintedPort from before after
EndsRelay from session to before after OutFault = HasNotBegun from before after × PortFailed from before after
EndsRelay from session to before after NoMemory =
    (HasNotBegun from before after × IsUnused from before after)
    ⊎ (RelaysFront from session to before after × PrintedPort from before after)
EndsRelay from session to before after PlaceFault =
    StopsAtFile from session to before after × PrintedPort from before after
EndsRelay from session to before after LinkFault = StopsAtLink from session to before after

-- The link receives at FROM, at each end that tells of what came or comes behind the making ready of TO. Want of memory,
-- and a failure of the link, may come before, and then nothing has left it.
abbrev pub IsBoundAtRelayEnd : Way → LinkSeen → LinkSeen → RelayEnd → Type 0
IsBoundAtRelayEnd from old new (Done read sent) = IsBoundTo from old new
IsBoundAtRelayEnd from old new (Incomplete read sent) = IsBoundTo from old new
IsBoundAtRelayEnd from old new (TurnsSpent read sent) = IsBoundTo from old new
IsBoundAtRelayEnd from old new (Unlike group number) = IsBoundTo from old new
IsBoundAtRelayEnd from old new OutFault = IsBoundTo from old new
IsBoundAtRelayEnd from old new PlaceFault = IsBoundTo from old new
IsBoundAtRelayEnd from old new NoMemory = KeepsFeed from old new ⊎ IsBoundTo from old new
IsBoundAtRelayEnd from old new LinkFault = KeepsFeed from old new ⊎ IsBoundTo from old new

-- where FROM is a file the link receives where it did, and where TO is one too it is as it was
abbrev pub KeepsLinkBetween : Way → Way → LinkSeen → LinkSeen → Type 0
KeepsLinkBetween (OnFile from) (OnFile to) old new = new ≡ old
KeepsLinkBetween (OnFile from) (OnLink address) old new = new.bound ≡ old.bound
KeepsLinkBetween (OnLink address) to old new = Unit {0}

-- what `relay` does: the link receives at FROM, or where it did, the faults of the output do not fall, and it fails once at OutFault and at
-- no other end
pub record DoesRelay (from : Way) (session : List ℕ) (to : Way) (before after : OutsideSeen)
    (end : RelayEnd) : Type 0 where
  pub bound : IsBoundAtRelayEnd from before.link after.link end
  pub kept : KeepsLinkBetween from to before.link after.link
  pub later : before.out_faults ≤ after.out_faults
  pub out : OutStops (relay_end_of_output end) before after
  pub ends : EndsRelay from session to before after end
