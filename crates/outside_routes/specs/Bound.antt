-- The line of the port at which a link receives. This project's own.
use Rattle.std.specs.Prelude.{ℕ, List, ◌++◌, codes, decimal}

abbrev pub bound_text : ℕ → List ℕ
bound_text port = codes "bound " ++ decimal port ++ codes "\n"
