-- Tables that have a size for each layer of a priority. This project's own.
use Rattle.std.specs.Prelude.{◌≡◌, List, length, All}
use Rattle.priority_file.specs.Priority.{Priorities}
use Rattle.stripe_plan.specs.Sizes.{Sizes}

-- each table has a size for every layer of the priority
abbrev pub AreTablesOf : Priorities → List Sizes → Type 0
AreTablesOf priority tables = All (λ table. length table.layers ≡ length priority.layers) tables
