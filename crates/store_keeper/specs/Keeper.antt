-- What a keeper is seen as, and what its calls do to its receiver and leave on its disk. This project's own.
use Rattle.std.specs.Prelude.{ℕ, ◌+◌, ◌*◌, ◌≡◌, ◌≤◌, Bool, false, List}
use Rattle.outside_disk.specs.Disk.{Told, DiskSeen, IfTold, Between, image}
use Rattle.packet_verdicts.specs.KeptSet.{KeptSet, IsKeptSet, empty_set, kept_in_all}
use Rattle.pet_receive.specs.Arrivals.{ReceiverState}
use Rattle.store_journal.specs.Text.{Keeps}
use Rattle.store_journal.specs.AtRest.{IsOpen}
use Rattle.store_journal.specs.Opening.{IsReadAs, LeavesSets, costs_of}
use Rattle.store_keeper.specs.Journal.{keep_frame, frame_cost, StandsFor}

pub record KeeperState (E D : Type 0) : Type 0 where
  pub receiver : ReceiverState E
  pub disk : D
  -- an earlier call failed at the disk
  pub stopped : Bool

-- Each image since the first moment has this.
abbrev pub EachSince : (List ℕ → Type 0) → Told → Told → Type 0
EachSince P old new = (c : List ℕ) → new.images old.clock c → P c

-- Each image now has this.
abbrev pub EachNow : (List ℕ → Type 0) → Told → Type 0
EachNow P disk = (c : List ℕ) → image disk c → P c

-- Each image since is read as one is that there was at first.
abbrev pub ReadsAsBefore : List ℕ → ℕ → Told → Told → Type 0
ReadsAsBefore session limit old new = LeavesSets keep_frame (empty_set session limit) session old new

-- A keeper was started on a disk: its receiver has what the journal's text stands for, and so has each image.
pub record Starts (session : List ℕ) (limit : ℕ) (old new : DiskSeen) (set : KeptSet) : Type 0 where
  pub session_is : set.session ≡ session
  pub limit_is : set.limit ≡ limit
  pub sound : IsKeptSet set
  pub read : IfTold old (IsReadAs keep_frame (empty_set session limit) session set)
  pub images : Between (ReadsAsBefore session limit) old new
  pub stands : IfTold new (EachNow (StandsFor set))

-- The steps between are no more than keeping some frames may take, which lead from nothing to the set.
pub record CountsFrames (session : List ℕ) (limit : ℕ) (set : KeptSet) (before now : ℕ) : Type 0 where
  pub frames : List (List ℕ)
  pub keeps : Keeps keep_frame (empty_set session limit) frames set
  pub spent : now ≤ before + costs_of keep_frame frame_cost (empty_set session limit) frames

-- What holds of each keeper: there is room for the longest frame, the gate stands no farther than what is kept
-- allows, and where
-- no call failed the disk has a journal of what is kept, whole, and a crash leaves nothing else.
pub record IsKeeping (set : KeptSet) (gate room : ℕ) (stopped : Bool) (disk : DiskSeen) : Type 0 where
  pub room_is : 65538 ≤ room
  pub sound : IsKeptSet set
  pub near : gate ≤ 12 + 65538 * kept_in_all set
  pub opened : stopped ≡ false
      → IfTold disk (IsOpen keep_frame (empty_set set.session set.limit) set.session gate set)
