-- What the private parts append of a layer (this project's own).
use Rattle.std.specs.Prelude.{◌≡◌, ℕ, List, [], length, take, ◌==◌, if◌then◌else◌}
use Rattle.layer_split.specs.declared.cut.Run.{Run}
use Rattle.layer_split.specs.Layers.{run_table, bytes_of_run}

-- the new bytes begin with the old ones
abbrev pub Begins : List ℕ → List ℕ → Type 0
Begins old new = take (length old) new ≡ old

-- the run table, in layer 0 alone
abbrev pub table_of : List Run → ℕ → List ℕ
table_of runs layer = if layer == 0 then run_table runs else []

-- a run's bytes, in its layer alone
abbrev pub run_part : List ℕ → ℕ → Run → List ℕ
run_part stream layer run = if run.layer == layer then bytes_of_run stream run else []
