-- What the sending of a store's groups has done, and where it stops. This project's own.
use Rattle.std.specs.Prelude.{◌≡◌, ◌⊎◌, ◌<◌, ℕ, List, [], length, None, Some, if◌then◌else◌, map}
use Rattle.std.specs.List.{range_with_len}
use Rattle.outside_routes.specs.RouteFaults.{stop_of_route}
use Rattle.outside_routes.specs.Sending.{Routes, Sends, SendsPart, OutputFailed, SendingFailed}
use Rattle.outside_routes.specs.Way.{Way}
use Rattle.outside_routes.specs.declared.fault.RouteFailed.{RouteFailed}
use Rattle.outside_routes.specs.declared.fault.RouteStop.{RouteStop}
use Rattle.outside_routes.specs.declared.fault.RouteStop.TheVariants as stop
use Rattle.field_elements.specs.Gf16.{gf16_coding}
use Rattle.packet_frame.specs.Frame.{text}
use Rattle.packet_session.specs.Encoding.{Encoding, frame_of}
use Rattle.pet_receive.specs.Arrivals.{ReceiverState, kept_set}
use Rattle.packet_rebuild.specs.Repairs.{first_unlike_of}
use Rattle.store_merge.specs.declared.read_files.StoreStop.{StoreStop}
use Rattle.store_merge.specs.declared.read_files.StoreStop.TheVariants as store
use Rattle.pet_repair.specs.Repaired.{IsRepaired, AreRepaired, IsUnlike, all_datagrams, count_whole, is_whole, on_end}
use Rattle.pet_repair.specs.declared.repair.RepairEnd.{RepairEnd}
use Rattle.pet_repair.specs.declared.repair.RepairEnd.TheVariants as end
use Rattle.pet_repair.specs.declared.repairing.Repaired.{Repaired}

-- the packets `first` to `first + many - 1` of the encoder's group as datagrams
abbrev pub range_datagrams : Encoding → ℕ → ℕ → List (List ℕ)
range_datagrams e first many = map (λ number. text (frame_of gf16_coding e number)) (range_with_len first many)

-- the end of a command that stops at each of these
abbrev pub end_of_stop : RouteStop → RepairEnd
end_of_stop stop.NoMemory = end.NoMemory
end_of_stop stop.Place = end.PlaceFault
end_of_stop stop.Link = end.LinkFault
end_of_stop stop.Out = end.NoMemory

abbrev pub end_of_failed : RouteFailed → RepairEnd
end_of_failed failed = end_of_stop (stop_of_route failed)

abbrev pub end_of_store : StoreStop → RepairEnd
end_of_store store.NoMemory = end.NoMemory
end_of_store store.Failed = end.PlaceFault
end_of_store (store.At at kind) = end.BadStore at kind

abbrev pub IsRepairedIn : ReceiverState ℕ → ℕ → List (List ℕ) → Type 0
IsRepairedIn r group sent = IsRepaired (λ a. a < 65536) gf16_coding r group sent

abbrev pub AreRepairedIn : ReceiverState ℕ → ℕ → List (List (List ℕ)) → Type 0
AreRepairedIn r count groups = AreRepaired (λ a. a < 65536) gf16_coding r count groups

abbrev pub IsUnlikeIn : ReceiverState ℕ → ℕ → ℕ → Type 0
IsUnlikeIn r group number = IsUnlike (λ a. a < 65536) gf16_coding r group number

-- all packets of the encoder's group were sent, and it makes what is kept
pub record SendsEncoded (way : Way) (r : ReceiverState ℕ) (e : Encoding) (n : Repaired)
    (old new : Routes) : Type 0 where
  pub like : first_unlike_of gf16_coding (kept_set r) e ≡ None
  pub one : n.groups ≡ 1
  pub many : n.datagrams ≡ e.header.table.packets
  pub sends : Sends way (all_datagrams gf16_coding e) old new

-- what a group has to give was sent
pub record SendsGroup (way : Way) (r : ReceiverState ℕ) (group : ℕ) (n : Repaired) (old new : Routes) : Type 0 where
  pub sent : List (List ℕ)
  pub is : IsRepairedIn r group sent
  pub one : n.groups ≡ (if is_whole (kept_set r) group then 1 else 0)
  pub many : n.datagrams ≡ length sent
  pub sends : Sends way sent old new

-- what the first groups have was sent
pub record SendsGroups (way : Way) (r : ReceiverState ℕ) (count : ℕ) (n : Repaired) (old new : Routes) : Type 0 where
  pub groups : List (List (List ℕ))
  pub are : AreRepairedIn r count groups
  pub whole : n.groups ≡ count_whole (kept_set r) count
  pub many : n.datagrams ≡ length (on_end groups)
  pub sends : Sends way (on_end groups) old new

-- a stop tells its cause and what was sent, and an unlike packet is told by its numbers
abbrev pub StopsBy : Way → Routes → Routes → Type 0 → (ℕ → ℕ → Type 0) → RepairEnd → Type 0
StopsBy way old new Part Unlike (end.Done groups datagrams) = ⊥
StopsBy way old new Part Unlike end.NoMemory = Part
StopsBy way old new Part Unlike end.PlaceFault = OutputFailed way old.place new.place × Part
StopsBy way old new Part Unlike end.LinkFault = SendingFailed way old.link new.link × Part
StopsBy way old new Part Unlike (end.BadStore at kind) = ⊥
StopsBy way old new Part Unlike (end.Unlike group number) = Unlike group number

-- nothing, or a front of the encoder's packets
abbrev pub PartOfEncoded : Way → ReceiverState ℕ → Encoding → Routes → Routes → Type 0
PartOfEncoded way r e old new =
    SendsPart way [] old new
    ⊎ ((first_unlike_of gf16_coding (kept_set r) e ≡ None) × SendsPart way (all_datagrams gf16_coding e) old new)

abbrev pub StopsEncoded : Way → ReceiverState ℕ → Encoding → ℕ → Routes → Routes → RepairEnd → Type 0
StopsEncoded way r e group old new end =
    StopsBy way old new (PartOfEncoded way r e old new)
    (λ g n. (g ≡ group) × (first_unlike_of gf16_coding (kept_set r) e ≡ Some n) × Sends way [] old new) end

-- nothing, or a front of what the group has
abbrev pub PartOfGroup : Way → ReceiverState ℕ → ℕ → Routes → Routes → Type 0
PartOfGroup way r group old new =
    SendsPart way [] old new ⊎ ((sent : List (List ℕ)) × IsRepairedIn r group sent × SendsPart way sent old new)

abbrev pub StopsAtGroup : Way → ReceiverState ℕ → ℕ → Routes → Routes → RepairEnd → Type 0
StopsAtGroup way r group old new end =
    StopsBy way old new (PartOfGroup way r group old new)
    (λ g n. (g ≡ group) × IsUnlikeIn r group n × Sends way [] old new) end

-- a front of what the first groups have
abbrev pub PartOfGroups : Way → ReceiverState ℕ → Routes → Routes → Type 0
PartOfGroups way r old new =
    (count : ℕ) × (groups : List (List (List ℕ))) × AreRepairedIn r count groups
    × SendsPart way (on_end groups) old new

abbrev pub StopsInGroups : Way → ReceiverState ℕ → Routes → Routes → RepairEnd → Type 0
StopsInGroups way r old new end =
    StopsBy way old new (PartOfGroups way r old new)
    (λ g n. IsUnlikeIn r g n × ((groups : List (List (List ℕ))) × AreRepairedIn r g groups
    × Sends way (on_end groups) old new)) end
