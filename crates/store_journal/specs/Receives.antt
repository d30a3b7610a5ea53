-- What one who keeps frames answers, and why a journal is not opened.
use Rattle.std.specs.Prelude.{ℕ, ◌≡◌, ◌<◌, ◌≤◌, ◌+◌, Bool, true, false, List, length, None, Some}
use Rattle.pet_base.specs.Causes.{Rose}
use Rattle.store_journal.specs.Text.{Keep}
use Rattle.store_journal.specs.declared.fault.StartFault.{StartFault}
use Rattle.store_journal.specs.declared.fault.StartFault.TheVariants.{BadJournal, OtherSession, DiskFault, NoMemory}

-- The frame is kept or not, by what was kept before.
abbrev pub Answers : {S : Type 0} → Keep S → Bool → List ℕ → S → S → Type 0
Answers keep true frame old new = (length frame < 65536) × (keep old frame ≡ Some new)
Answers keep false frame old new = (keep old frame ≡ None) × (new ≡ old)

-- Steps are counted where a frame is kept, at most so many.
abbrev pub Costs : Bool → ℕ → ℕ → ℕ → Type 0
Costs true cost before after = after ≤ before + cost
Costs false cost before after = after ≡ before

-- A failure of the disk comes only where its count rose.
abbrev pub Causes : ℕ → ℕ → StartFault → Type 0
Causes before now (BadJournal at) = Unit {0}
Causes before now (OtherSession session) = Unit {0}
Causes before now DiskFault = Rose before now
Causes before now NoMemory = Unit {0}
