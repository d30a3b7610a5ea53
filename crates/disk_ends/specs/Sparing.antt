-- The files of the machine but for one. This project's own.
use Rattle.std.specs.Prelude.{ℕ, List}
use Rattle.pet_ends.specs.Untold.{Opened}

-- what is open of the files, and the name of the one that is not made
pub record Sparing : Type 0 where
  pub files : Opened
  pub spared : List ℕ
