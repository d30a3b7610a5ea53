-- A writer that tells what it holds, or does not, and stays so. This project's own.
use Rattle.std.specs.Prelude.{◌≡◌, ℕ, List, Option}
use Rattle.std.specs.Io.KnownBytes.{Appends, append_known}

-- What it tells of itself behind a write is what it told before and the bytes: it begins to tell nothing.
abbrev pub IsSteady : {W : Type 0} → (W → Option (List ℕ)) → Type 0
IsSteady {W} contents =
    (old new : W) (bytes : List ℕ) → Appends (contents old) (contents new) bytes
    → contents new ≡ append_known (contents old) bytes
