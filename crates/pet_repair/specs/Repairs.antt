-- What `repair` leaves at each of its ends. This project's own.
use Rattle.std.specs.Prelude.{◌≡◌, ◌≢◌, ◌⊎◌, ℕ, ◌<◌, List, [], ◌∷◌, length, map, Some}
use Rattle.pet_base.specs.declared.limits.TheConstants.{MAX_SESSION}
use Rattle.pet_base.specs.Seen.{Seen, Files, Blame, HadFault}
use Rattle.outside_files.specs.Uses.{reading, writing, Failed}
use Rattle.outside_routes.specs.RouteFaults.{AimedFailed}
use Rattle.outside_routes.specs.Sending.{Routes}
use Rattle.outside_routes.specs.Way.{Way, OnFile, OnLink}
use Rattle.field_elements.specs.Gf16.{gf16_coding}
use Rattle.packet_frame.specs.Frame.{text}
use Rattle.packet_session.specs.Session.{Session, IsSession, Fits}
use Rattle.packet_verdicts.specs.KeptSet.{IsKeptSet}
use Rattle.pet_receive.specs.Arrivals.{ReceiverState, kept_set}
use Rattle.pet_receive.specs.ShownBytes.{groups_told}
use Rattle.packet_met.specs.Gf16.{HasKeptIn}
use Rattle.packet_met.specs.Met.{Pair}
use Rattle.packet_met.specs.MetStore.{pairs_store}
use Rattle.packet_rebuild.specs.Message.{HaveZeroEnds}
use Rattle.store_merge.specs.Reading.{pairs_in}
use Rattle.store_text.specs.Files.{HasStore, HasBadStore}
use Rattle.store_text.specs.declared.fault.BadStore.TheVariants.{At}
use Rattle.pet_repair.specs.Repaired.{count_whole, on_end, AreRepaired, IsUnlike, complete_packets, complete_groups}
use Rattle.pet_repair.specs.SentTo.{SentTo, SentFront, SentNothing}
use Rattle.pet_repair.specs.declared.repair.RepairEnd.{RepairEnd}
use Rattle.pet_repair.specs.declared.repair.RepairEnd.TheVariants.{Done, NoMemory, PlaceFault, LinkFault, BadStore}
use Rattle.pet_repair.specs.declared.repair.RepairEnd.TheVariants.{Unlike}

-- The file is a store, as a receiver holds it that has kept its packets in the store's order: by group, then number.
pub record HasState (store : List ℕ) (old : Seen) : Type 0 where
  pub state : ReceiverState ℕ
  pub stands : HasKeptIn state (pairs_in (kept_set state))
  pub sound : IsKeptSet (kept_set state)
  pub file : HasStore old.files store (kept_set state)

-- the first groups of the store, each with all its packets, or nothing where a layer is not shown
abbrev pub AreGroups : {store : List ℕ} {old : Seen} → HasState store old → ℕ → List (List (List ℕ)) → Type 0
AreGroups s count groups = AreRepaired (λ a. a < 65536) gf16_coding s.state count groups

-- TO has the packets of all groups of the store whose layers are all shown, by group, then number.
pub record RepairsStore (store : List ℕ) (to : Way) (old new : Routes) : Type 0 where
  pub held : HasState store old.place
  pub groups : List (List (List ℕ))
  pub are : AreGroups held (groups_told (kept_set held.state)) groups
  pub sent : SentTo to (on_end groups) old new

-- nothing was sent and no file has changed, or TO has a front of the packets of the first groups
abbrev pub LeavesGroupsFront : List ℕ → Way → Routes → Routes → Type 0
LeavesGroupsFront store to old new =
    SentNothing old new
    ⊎ ((s : HasState store old.place) × (count : ℕ) × (groups : List (List (List ℕ))) × AreGroups s count groups
    × SentFront to (on_end groups) old new)

-- A kept packet of the group is not the one that its encoder makes, and in no group before it: TO has what stands
-- before
-- this group.
pub record StopsUnlike (store : List ℕ) (to : Way) (group number : ℕ) (old new : Routes) : Type 0 where
  pub held : HasState store old.place
  pub unlike : IsUnlike (λ a. a < 65536) gf16_coding held.state group number
  pub groups : List (List (List ℕ))
  pub are : AreGroups held group groups
  pub sent : SentTo to (on_end groups) old new

-- what may be blamed: the store, and TO, where it is a file, once the store was read
abbrev pub MayBlame : List ℕ → Way → Seen → Blame → Type 0
MayBlame store (OnFile to) old blame = (blame ≡ reading store) ⊎ ((blame ≡ writing to) × HasState store old)
MayBlame store (OnLink address) old blame = blame ≡ reading store

-- What `repair` does, by its end. TO is made ready once the store was read.
abbrev pub Repairs : List ℕ → Way → Routes → Routes → RepairEnd → Type 0
Repairs store to old new (Done groups datagrams) =
    (r : RepairsStore store to old new)
    × (groups ≡ count_whole (kept_set r.held.state) (groups_told (kept_set r.held.state)))
    × (datagrams ≡ length (on_end r.groups))
Repairs store to old new NoMemory = LeavesGroupsFront store to old new
Repairs store to old new PlaceFault =
    HadFault old.place new.place (MayBlame store to old.place) × LeavesGroupsFront store to old new
Repairs store to old new LinkFault =
    AimedFailed to old.link new.link × HasState store old.place × LeavesGroupsFront store to old new
Repairs store to old new (BadStore at kind) = HasBadStore old.place.files store (At at kind) × SentNothing old new
Repairs store to old new (Unlike group number) = StopsUnlike store to group number old new

-- The place tells its files, and this one is the store of a session's packets, whose messages have the byte 0 past
-- each odd end.
pub record HasSessionStore (s : Session) (pairs : List Pair) (files : Files) (store : List ℕ) (old : Seen) : Type 0 where
  pub session : IsSession 2 s
  pub fits : Fits s MAX_SESSION
  pub zeros : HaveZeroEnds s
  pub told : old.files ≡ Some files
  pub found : files store ≡ Some (pairs_store s pairs)

-- the files that are used: the store is read, and TO is written where it is one
abbrev pub uses : List ℕ → Way → List Blame
uses store (OnFile to) = reading store ∷ writing to ∷ []
uses store (OnLink address) = reading store ∷ []

-- The premises of the headline: memory was found, neither the place nor the link had a fault of this call, and the
-- store is so.
pub record CanRepair (s : Session) (pairs : List Pair) (files : Files) (store : List ℕ) (to : Way) (old new : Routes)
    (end : RepairEnd) : Type 0 where
  pub memory : end ≢ NoMemory
  pub well : Failed (uses store to) old.place new.place → ⊥
  pub link : AimedFailed to old.link new.link → ⊥
  pub given : HasSessionStore s pairs files store old.place

-- TO has the session's packets of the complete groups, by group, then number.
pub record RepairsSession (s : Session) (pairs : List Pair) (to : Way) (old new : Routes)
    (end : RepairEnd) : Type 0 where
  pub sent : SentTo to (map text (complete_packets gf16_coding s pairs)) old new
  pub ended : end ≡ Done (complete_groups s pairs) (length (complete_packets gf16_coding s pairs))

-- so it is for every session and every such store
abbrev pub CompletesRepair : List ℕ → Way → Routes → Routes → RepairEnd → Type 0
CompletesRepair store to old new end =
    (s : Session) (pairs : List Pair) (files : Files) → CanRepair s pairs files store to old new end
    → RepairsSession s pairs to old new end
