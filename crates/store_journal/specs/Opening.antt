-- What opening a journal answers, and what it leaves on the disk. This project's own.
use Rattle.std.specs.Prelude.{ℕ, ◌+◌, ◌≡◌, ◌≤◌, List, [], ◌∷◌, length, Option, None, Some, Ok, Err}
use Rattle.outside_disk.specs.Disk.{Between, DiskSeen, LeavesOnly, Reads, Told, image}
use Rattle.store_journal.specs.Text.{Keep, Cost, Keeps, entries_text, reading_of}
use Rattle.store_journal.specs.declared.fault.StartFault.{StartFault}
use Rattle.store_journal.specs.declared.fault.StartFault.TheVariants.{BadJournal, OtherSession, DiskFault, NoMemory}

-- The text is read as this set.
abbrev pub IsReadAs : {S : Type 0} → Keep S → S → List ℕ → S → Told → Type 0
IsReadAs keep empty session set disk = reading_of keep empty session disk.bytes ≡ Ok set

-- Why a text is no journal of the session.
abbrev pub IsStartFault : {S : Type 0} → Keep S → S → List ℕ → List ℕ → StartFault → Type 0
IsStartFault keep empty session text (BadJournal at) = reading_of keep empty session text ≡ Err (BadJournal at)
IsStartFault keep empty session text (OtherSession named) =
    reading_of keep empty session text ≡ Err (OtherSession named)
IsStartFault keep empty session text DiskFault = Unit {0}
IsStartFault keep empty session text NoMemory = Unit {0}

abbrev pub cost_then : {S : Type 0} → Option S → (S → ℕ) → ℕ
cost_then None cost = 0
cost_then (Some next) cost = cost next

-- what keeping these frames may cost in steps, one after the other
abbrev pub costs_of : {S : Type 0} → Keep S → Cost S → S → List (List ℕ) → ℕ
costs_of keep cost set [] = 0
costs_of keep cost set (frame ∷ frames) =
    cost set frame + cost_then (keep set frame) (λ next. costs_of keep cost next frames)

-- The gate stands behind frames that are kept, whether the bytes are told or not, and the steps between are no more
-- than what
-- keeping them may cost.
pub record Reached {S : Type 0} (keep : Keep S) (cost : Cost S) (first : S) (gate : ℕ) (now : S) (before after : ℕ)
    : Type 0 where
  pub frames : List (List ℕ)
  pub keeps : Keeps keep first frames now
  pub place : gate ≡ 12 + length (entries_text frames)
  pub spent : after ≤ before + costs_of keep cost first frames

-- A text is read as this one is.
abbrev pub ReadsAlike : {S : Type 0} → Keep S → S → List ℕ → List ℕ → List ℕ → Type 0
ReadsAlike keep empty session text c = reading_of keep empty session c ≡ reading_of keep empty session text

-- What a crash may leave since stands for what a text stands for that a crash might have left at first.
abbrev pub LeavesSets : {S : Type 0} → Keep S → S → List ℕ → Told → Told → Type 0
LeavesSets keep empty session old new = LeavesOnly (λ c. (d : List ℕ) × image old d
    × ReadsAlike keep empty session d c) old new

-- It is refused for what its bytes are.
abbrev pub IsRefusal : StartFault → Type 0
IsRefusal (BadJournal at) = Unit {0}
IsRefusal (OtherSession named) = Unit {0}
IsRefusal DiskFault = ⊥
IsRefusal NoMemory = ⊥

-- A refusal changes nothing.
abbrev pub KeepsDisk : DiskSeen → DiskSeen → StartFault → Type 0
KeepsDisk old new fault = IsRefusal fault → Between Reads old new
