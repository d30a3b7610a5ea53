-- What holds of a keeper's fields, of what it is seen as.
use Rattle.std.proofs.Common.{◌≡◌, List, ℕ, Bool, true, false, subst}
use Rattle.outside_disk.specs.Disk.{DiskSeen, Between, LeavesOnly}
use Rattle.pet_receive.specs.Arrivals.{ReceiverState, kept_set}
use Rattle.store_keeper.specs.Journal.{StandsWith}
use Rattle.store_keeper.specs.Keeper.{KeeperState, EachSince}

abbrev pub viewed : {E D : Type 0} → ReceiverState E → D → Bool → KeeperState E D
viewed r disk stopped = record { receiver = r; disk = disk; stopped = stopped }

pub since_seen : {E D : Type 0} (seen : D → DiskSeen) (datagram : List ℕ) (r : ReceiverState E) (disk : D) (stopped : Bool)
    (v : KeeperState E D) (b : DiskSeen) → viewed r disk stopped ≡ v
    → Between (EachSince (StandsWith (kept_set r) datagram)) (seen disk) b
    → v.stopped ≡ false → Between (EachSince (StandsWith (kept_set v.receiver) datagram)) (seen v.disk) b
since_seen {E = E} {D = D} seen datagram r disk stopped v b is since going =
    subst (λ (w : KeeperState E D). Between (EachSince (StandsWith (kept_set w.receiver) datagram)) (seen w.disk) b) is since

pub images_seen : {E D : Type 0} (seen : D → DiskSeen) (datagram : List ℕ) (r : ReceiverState E) (disk : D)
    (stopped : Bool) (v : KeeperState E D) (b : DiskSeen) → viewed r disk stopped ≡ v
    → Between (LeavesOnly (StandsWith (kept_set r) datagram)) (seen disk) b
    → Between (LeavesOnly (StandsWith (kept_set v.receiver) datagram)) (seen v.disk) b
images_seen {E = E} {D = D} seen datagram r disk stopped v b is images =
    subst (λ (w : KeeperState E D). Between (LeavesOnly (StandsWith (kept_set w.receiver) datagram)) (seen w.disk) b) is
    images

pub not_going : {P : Type 0} → true ≡ false → P
not_going e = absurd (cc)
