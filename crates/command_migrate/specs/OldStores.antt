-- A store of the first version as a file, and what it comes to. This project's own.
use Rattle.std.specs.Prelude.{◌≡◌, ℕ, nat_lt, if◌then◌else◌, List, length, take, Option, Result, Ok, Err}
use Rattle.std.specs.Str.{bytes_eq}
use Rattle.pet_base.specs.declared.limits.TheConstants.{MAX_SESSION, MAX_STORE}
use Rattle.pet_base.specs.Seen.{Files}
use Rattle.packet_verdicts.specs.KeptSet.{KeptSet}
use Rattle.store_text.specs.Files.{HasFile}
use Rattle.store_text.specs.declared.format.TheConstants.{STORE_FORM}
use Rattle.store_text.specs.declared.fault.StoreKind.TheVariants.{Cut}
use Rattle.store_packets.specs.Migrated.{migrated}
use Rattle.store_packets.specs.declared.fault.MigrateFault.{MigrateFault}
use Rattle.store_packets.specs.declared.fault.MigrateFault.TheVariants.{AlreadyNew, At}

-- a file that is longer than any store is of today by its mark, and else is cut there
abbrev pub long_fault : List ℕ → MigrateFault
long_fault bytes = if bytes_eq (take 4 bytes) STORE_FORM.mark then AlreadyNew else At MAX_STORE Cut

-- the set that a file's bytes, as a store of the first version, are kept as today, or why they are not
unfoldable pub migrated_in : List ℕ → Result KeptSet MigrateFault
migrated_in bytes = if nat_lt MAX_STORE (length bytes) then Err (long_fault bytes) else migrated MAX_SESSION bytes

-- the file of this name comes to this set, or is refused so
abbrev pub HasOldStore : Option Files → List ℕ → KeptSet → Type 0
HasOldStore files name set = HasFile files name (λ bytes. migrated_in bytes ≡ Ok set)

abbrev pub IsRefused : Option Files → List ℕ → MigrateFault → Type 0
IsRefused files name fault = HasFile files name (λ bytes. migrated_in bytes ≡ Err fault)
