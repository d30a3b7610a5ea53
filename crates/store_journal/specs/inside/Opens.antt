-- What opening a journal leaves of a file that is on the disk as it reads.
use Rattle.std.specs.Prelude.{ℕ, List}
use Rattle.outside_disk.specs.Disk.{Told, IsSynced, LeavesOnly}
use Rattle.store_journal.specs.Text.{Keep}
use Rattle.store_journal.specs.AtRest.{IsOpen}
use Rattle.store_journal.specs.Opening.{ReadsAlike}

-- A crash leaves what is read as the file was read.
abbrev pub StaysAlike : {S : Type 0} → Keep S → S → List ℕ → Told → Told → Type 0
StaysAlike keep empty session old new = IsSynced old → LeavesOnly (ReadsAlike keep empty session old.bytes) old new

-- The journal is then whole, with its last gate there.
abbrev pub OpensAs : {S : Type 0} → Keep S → S → List ℕ → ℕ → S → Told → Told → Type 0
OpensAs keep empty session gate set old new = IsSynced old → IsOpen keep empty session gate set new
