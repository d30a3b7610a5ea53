-- A store as a file of a place. This project's own.
use Rattle.std.specs.Prelude.{◌≡◌, ℕ, nat_lt, if◌then◌else◌, List, length, Some, IfSome, Option, Result, Ok, Err}
use Rattle.pet_base.specs.declared.limits.TheConstants.{MAX_SESSION, MAX_STORE}
use Rattle.pet_base.specs.Seen.{Files}
use Rattle.outside_files.specs.Wrote.{File}
use Rattle.packet_verdicts.specs.KeptSet.{KeptSet}
use Rattle.store_text.specs.Store.{store_text}
use Rattle.store_text.specs.Refusals.{read_text}
use Rattle.store_text.specs.declared.fault.StoreKind.TheVariants.{Cut}
use Rattle.store_text.specs.declared.fault.BadStore.{BadStore}
use Rattle.store_text.specs.declared.fault.BadStore.TheVariants.{At}

-- where files are told, one of them has this name, and its bytes are so
abbrev pub HasFile : Option Files → List ℕ → (List ℕ → Type 0) → Type 0
HasFile files name P = IfSome files (λ f. (bytes : List ℕ) × (f name ≡ Some bytes) × P bytes)

-- the set that a file's bytes are a store of; a file that is longer than any store is cut there
unfoldable pub store_in : List ℕ → Result KeptSet BadStore
store_in bytes = if nat_lt MAX_STORE (length bytes) then Err (At MAX_STORE Cut) else read_text MAX_SESSION bytes

-- the file of this name is a store of this set, or is refused so
abbrev pub HasStore : Option Files → List ℕ → KeptSet → Type 0
HasStore files name set = HasFile files name (λ bytes. store_in bytes ≡ Ok set)

abbrev pub HasBadStore : Option Files → List ℕ → BadStore → Type 0
HasBadStore files name fault = HasFile files name (λ bytes. store_in bytes ≡ Err fault)

-- the file of a store
abbrev pub store_file : List ℕ → KeptSet → File
store_file name set = record { name = name; bytes = store_text set }
