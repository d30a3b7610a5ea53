-- What a file in memory shows. This project's own.
use Rattle.std.specs.Prelude.{ℕ, ◌≡◌, List, [], ◌∷◌, ◌++◌, length, Vec}
use Rattle.std.specs.declared.alloc.Global.{Global}
use Rattle.outside_disk.specs.Disk.{Told, DiskSeen, Tells}
use Rattle.outside_disk.specs.Events.{content, next, since, sync_or}
use Rattle.outside_disk.specs.declared.calls.Calls.{Calls}
use Rattle.outside_disk.specs.declared.event.Event.{Event}
use Rattle.outside_disk.specs.declared.event.Event.TheVariants.{Wrote, Cut, Synced}
use Rattle.outside_disk.specs.declared.memory.MemoryDisk.{MemoryDisk}

abbrev pub memory_bytes : MemoryDisk → List ℕ
memory_bytes m = content m.first m.current

abbrev pub memory_synced : MemoryDisk → List ℕ
memory_synced m = content m.first m.synced

-- Its images are those after the calls that succeeded, from its first bytes on.
abbrev pub told_at : List ℕ → List ℕ → List Event → Told
told_at bytes first events =
    record { bytes = bytes; clock = length events; images = since first (λ d. d ≡ first) events }

abbrev pub memory_seen : MemoryDisk → DiskSeen
memory_seen m = Tells (told_at (memory_bytes m) m.first.items m.events.items)

abbrev pub memory_faults : MemoryDisk → ℕ
memory_faults m = m.calls.faults

abbrev pub memory_calls : MemoryDisk → Calls
memory_calls m = m.calls

-- nothing of the file changes
pub record KeepsFile (old new : MemoryDisk) : Type 0 where
  pub first : new.first ≡ old.first
  pub current : new.current ≡ old.current
  pub synced : new.synced ≡ old.synced
  pub events : new.events.items ≡ old.events.items

-- the file began with these bytes, and nothing was done to it yet
pub record IsUntouched (bytes : List ℕ) (m : MemoryDisk) : Type 0 where
  pub first : m.first.items ≡ bytes
  pub events : m.events.items ≡ []

-- one call more was done: it alone is recorded, and the bytes, and those of the last sync, are what it makes of them
pub record Does (event : Event) (old new : MemoryDisk) : Type 0 where
  pub first : new.first ≡ old.first
  pub events : new.events.items ≡ old.events.items ++ event ∷ []
  pub bytes : memory_bytes new ≡ next (memory_bytes old) event
  pub synced : memory_synced new ≡ sync_or (memory_bytes old) (memory_synced old) event

-- These bytes were written at a place; the file was cut to a length; it was synced.
abbrev pub HasWritten : ℕ → List ℕ → MemoryDisk → MemoryDisk → Type 0
HasWritten at bytes old new = (part : Vec ℕ Global) × (part.items ≡ bytes) × Does (Wrote at part) old new

abbrev pub HasCut : ℕ → MemoryDisk → MemoryDisk → Type 0
HasCut to old new = Does (Cut to) old new

abbrev pub HasSynced : MemoryDisk → MemoryDisk → Type 0
HasSynced old new = Does Synced old new
