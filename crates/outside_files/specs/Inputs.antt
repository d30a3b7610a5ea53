-- What a file of a place gave that was read to its end, or to one byte past a limit. This project's own.
use Rattle.std.specs.Prelude.{◌≡◌, ℕ, ◌+◌, ◌≤◌, List, [], ◌++◌, length, Option, Some, IfSome}
use Rattle.std.specs.Io.KnownBytes.{prepend_known, IsAtEnd}
use Rattle.pet_base.specs.declared.faults.Stop.{Stop}
use Rattle.pet_base.specs.declared.faults.Stop.TheVariants.{NoMemory, Failed}
use Rattle.pet_base.specs.declared.place.Side.TheVariants.{Read}
use Rattle.pet_base.specs.Seen.{Seen, Files, Blame, OnlyReads}

-- the file of this name has these bytes, wherever the files are told
abbrev pub IsFile : Option Files → List ℕ → List ℕ → Type 0
IsFile files name bytes = IfSome files (λ f. f name ≡ Some bytes)

-- These bytes stand at the front of the file, and are all of it unless they are more than the limit.
pub record IsFrontOf (limit : ℕ) (bytes : List ℕ) (files : Option Files) (name : List ℕ) : Type 0 where
  pub more : List ℕ
  pub told : IsFile files name (bytes ++ more)
  pub whole : length bytes ≤ limit → more ≡ []
  pub few : length bytes ≤ limit + 1

-- when each stop comes: want of memory at any time, the other where a call of the outside failed
abbrev pub Licensed : Type 0 → Stop → Type 0
Licensed failed NoMemory = Unit {0}
Licensed failed Failed = failed

-- the fault was at this file, which was read
abbrev pub IsRead : List ℕ → Blame → Type 0
IsRead name blame = blame ≡ (Read, name)

-- These bytes were taken from the front of the input, one more than the limit at most.
pub record HasTaken (limit : ℕ) (bytes : List ℕ) (first now : Seen) : Type 0 where
  pub rest : first.rest ≡ prepend_known bytes now.rest
  pub few : length bytes ≤ limit + 1
  pub others : OnlyReads first now
  pub later : first.faults ≤ now.faults

-- So the reading ended: at the end of the input, or past the limit.
pub record HasTakenAll (limit : ℕ) (bytes : List ℕ) (first now : Seen) : Type 0 where
  pub taken : HasTaken limit bytes first now
  pub whole : length bytes ≤ limit → IsAtEnd now.rest
