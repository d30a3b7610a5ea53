-- The portions of an input, taken one after another to its end, or one byte past a limit. This project's own.
use Rattle.std.specs.Prelude.{◌≡◌, ◌≢◌, ℕ, ◌+◌, ◌<◌, ◌≤◌, List, length, take, Option, None, Some}
use Rattle.std.specs.Io.KnownBytes.{prepend_known, IsAtEnd}
use Rattle.pet_base.specs.Seen.{Seen}

-- so many bytes are read of an input, where so many are left of the limit; or one more than the limit is read
abbrev pub IsReadOf : ℕ → Option ℕ → ℕ → Type 0
IsReadOf limit (Some left) read = read + left ≡ limit
IsReadOf limit None read = read ≡ limit + 1

-- how many bytes may still be read at most
abbrev pub room_left : Option ℕ → ℕ
room_left None = 0
room_left (Some left) = left + 1

-- A portion came: the first bytes of the buffer, which stood at the front of the input.
pub record IsPortion (count : ℕ) (buffer : List ℕ) (left later : Option ℕ) (before after : Seen) : Type 0 where
  pub some : 0 < count
  pub bound : count ≤ length buffer
  pub taken : before.rest ≡ prepend_known (take count buffer) after.rest
  pub read : (limit read : ℕ) → IsReadOf limit left read → IsReadOf limit later (read + count)

-- None came: the input is at its end, or it is read past the limit.
pub record IsNoPortion (left : Option ℕ) (before after : Seen) : Type 0 where
  pub same : before.rest ≡ after.rest
  pub end : left ≢ None → IsAtEnd after.rest
