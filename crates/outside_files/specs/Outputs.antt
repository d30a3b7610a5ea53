-- What the output has grown by. This project's own.
use Rattle.std.specs.Prelude.{◌≡◌, ℕ, List, ◌++◌}
use Rattle.pet_base.specs.Seen.{Seen, Grows}

-- these bytes stand at the front of those
abbrev pub IsPrefix : List ℕ → List ℕ → Type 0
IsPrefix front whole = (rest : List ℕ) × (whole ≡ front ++ rest)

-- the output has grown by these bytes
abbrev pub Puts : List ℕ → Seen → Seen → Type 0
Puts bytes old new = Grows old.target bytes old.files new.files

-- or by a front of them
abbrev pub PutsPart : List ℕ → Seen → Seen → Type 0
PutsPart bytes old new = (front : List ℕ) × IsPrefix front bytes × Puts front old new
