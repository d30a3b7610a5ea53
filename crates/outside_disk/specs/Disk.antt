-- What a disk is seen as: what it reads as, and what a crash may leave. This project's own model.
use Rattle.std.specs.Prelude.{ℕ, ◌+◌, ◌≤◌, ◌≡◌, ◌⊎◌, max, List, ◌++◌, length, take, drop}

-- what is told of a disk
pub record Told : Type 1 where
  -- what a read gives
  pub bytes : List ℕ
  -- the moment, as a number that does not fall
  pub clock : ℕ
  -- what a crash may leave at some moment since this one: the images
  pub images : ℕ → List ℕ → Type 0

-- All of it is told, or nothing.
pub data DiskSeen : Type 1 where
  Untold : DiskSeen
  Tells : Told → DiskSeen

-- what a crash may leave now
abbrev pub image : Told → List ℕ → Type 0
image disk = disk.images disk.clock

-- This holds of what is told.
abbrev pub IfTold : DiskSeen → (Told → Type 0) → Type 0
IfTold Untold P = Unit {0}
IfTold (Tells disk) P = P disk

-- This holds from the one to the other, where it is told. What is told stays so.
abbrev pub Between : (Told → Told → Type 0) → DiskSeen → DiskSeen → Type 0
Between R Untold Untold = Unit {0}
Between R Untold (Tells new) = ⊥
Between R (Tells old) Untold = ⊥
Between R (Tells old) (Tells new) = R old new

-- What it reads as is one of its images, and an image now is one of the images since each moment before.
pub record IsSound (disk : Told) : Type 0 where
  pub reads : image disk disk.bytes
  pub counts : (t : ℕ) (c : List ℕ) → t ≤ disk.clock → image disk c → disk.images t c

-- A crash leaves what a read gives, and nothing else.
abbrev pub IsSynced : Told → Type 0
IsSynced disk = (c : List ℕ) → image disk c → c ≡ disk.bytes

-- These bytes stand there.
abbrev pub Holds : List ℕ → ℕ → List ℕ → Type 0
Holds bytes at part = part ≡ take (length part) (drop at bytes)

-- the bytes with these in their range
abbrev pub with_bytes : ℕ → List ℕ → List ℕ → List ℕ
with_bytes at part bytes = take at bytes ++ part ++ drop (at + length part) bytes

abbrev pub Written : ℕ → List ℕ → Told → Told → Type 0
Written at part old new = new.bytes ≡ with_bytes at part old.bytes

-- It reads as its first bytes.
abbrev pub IsCutTo : ℕ → Told → Told → Type 0
IsCutTo n old new = new.bytes ≡ take n old.bytes

-- what a crash makes of a write of n bytes: any bytes in the range, and past the old end some or none of them
pub record Torn (at n : ℕ) (old new : List ℕ) : Type 0 where
  pub before : take at new ≡ take at old
  pub after : drop (at + n) new ≡ drop (at + n) old
  pub no_shorter : length old ≤ length new
  pub no_longer : length new ≤ max (length old) (at + n)

-- what a crash makes of a cut to n bytes: past these any bytes, as many as there were or fewer
pub record Cut (n : ℕ) (old new : List ℕ) : Type 0 where
  pub before : take n new ≡ take n old
  pub no_longer : length new ≤ length old

-- Time goes on: each image of a moment since t was one before or is one now, and none of them is forgotten.
pub record Passes (old new : Told) : Type 0 where
  pub later : old.clock ≤ new.clock
  pub since : (t : ℕ) (c : List ℕ) → t ≤ old.clock → new.images t c → old.images t c ⊎ image new c
  pub kept : (t : ℕ) (c : List ℕ) → t ≤ old.clock → old.images t c → new.images t c

-- Each image now comes from one before by a step, and each before goes by a step to one now.
pub record Steps (step : List ℕ → List ℕ → Type 0) (old new : Told) : Type 0 where
  pub time : Passes old new
  pub from : (c : List ℕ) → image new c → (d : List ℕ) × image old d × step d c
  pub all : (d : List ℕ) → image old d → (c : List ℕ) × image new c × step d c

-- All that the step makes of an image before is an image now.
abbrev pub LeavesAny : (List ℕ → List ℕ → Type 0) → Told → Told → Type 0
LeavesAny step old new = (d c : List ℕ) → image old d → step d c → image new c

abbrev pub LeavesTorn : ℕ → ℕ → Told → Told → Type 0
LeavesTorn at n = Steps (Torn at n)

abbrev pub LeavesCut : ℕ → Told → Told → Type 0
LeavesCut n = Steps (Cut n)

-- Nothing is written: the same bytes, and no image that there was not.
pub record LeavesNoMore (old new : Told) : Type 0 where
  pub bytes : new.bytes ≡ old.bytes
  pub time : Passes old new
  pub from : (c : List ℕ) → image new c → image old c

-- Nothing is written, and nothing is synced: each image that there was is one now too.
pub record Leaves (old new : Told) : Type 0 where
  pub no_more : LeavesNoMore old new
  pub all : (c : List ℕ) → image old c → image new c

-- What a crash may leave at a moment since, it might have left before, or it has P.
pub record LeavesOnly (P : List ℕ → Type 0) (old new : Told) : Type 0 where
  pub later : old.clock ≤ new.clock
  pub each : (t : ℕ) (c : List ℕ) → t ≤ old.clock → new.images t c → old.images t c ⊎ P c

-- The bytes are written, and a crash leaves nothing else.
pub record WrittenThrough (at : ℕ) (part : List ℕ) (old new : Told) : Type 0 where
  pub bytes : new.bytes ≡ with_bytes at part old.bytes
  pub synced : IsSynced new

-- The file is cut, and a crash leaves nothing else.
pub record CutThrough (n : ℕ) (old new : Told) : Type 0 where
  pub bytes : new.bytes ≡ take n old.bytes
  pub synced : IsSynced new

-- Where a crash left only what a read gave, it leaves what a step makes of that.
abbrev pub LeavesStep : (List ℕ → List ℕ → Type 0) → Told → Told → Type 0
LeavesStep step old new = IsSynced old → LeavesOnly (step old.bytes) old new

-- Nothing is written in some calls: the same bytes, and a crash leaves what it might have left at their beginning.
pub record Reads (old new : Told) : Type 0 where
  pub bytes : new.bytes ≡ old.bytes
  pub only : LeavesOnly (image old) old new
  pub from : (c : List ℕ) → image new c → image old c
