-- The session number of a stream and a priority file: the first eight bytes of a SHA-256 digest (FIPS 180-4). This
-- project's own.
use Rattle.std.specs.Prelude.{ℕ, List, ◌++◌, length, take}
use Rattle.std.specs.Int.{w32, to_be_bytes}
use Rattle.sha2.specs.Sha256.{sha256}

-- what is hashed: the length of the priority file in four bytes, the priority file, and the stream
abbrev pub hashed : List ℕ → List ℕ → List ℕ
hashed priority stream = to_be_bytes w32 (length priority) ++ priority ++ stream

unfoldable pub session_number : List ℕ → List ℕ → List ℕ
session_number priority stream = take 8 (sha256 (hashed priority stream))
