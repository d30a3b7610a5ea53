-- What the steps of a planner leave, and the first table above a limit as a loop finds it. This project's own.
use Rattle.std.specs.Prelude.{◌≡◌, ◌≢◌, ◌+◌, nat_lt, if◌then◌else◌, ℕ, List, [], ◌∷◌, ◌++◌, Option, Some, None, is_some, true}
use Rattle.std.specs.Prelude.{Result, Ok, Err}
use Rattle.std.specs.Option.{option_or}
use Rattle.stripe_plan.specs.declared.table.TableFault.{TableFault}
use Rattle.stripe_plan.specs.declared.table.TableFault.TheVariants.{Wide}
use Rattle.stripe_plan.specs.Sizes.{Sizes, cost_by}
use Rattle.layer_split.specs.declared.fault.SplitFault.{SplitFault}
use Rattle.layer_split.specs.declared.fault.SplitFault.TheVariants.{NoMemory}
use Rattle.stream_session.specs.declared.fault.SessionFault.{SessionFault}
use Rattle.stream_session.specs.declared.planner.Planner.{Planner}
use Rattle.stream_session.specs.Refusals.{fault_after}

-- the packets of a table times its datagram length, at `word` bytes for each stripe
abbrev pub table_cost : ℕ → Sizes → ℕ
table_cost word table = cost_by word table.packets table.layers

-- what keeping a table leaves alone
pub record KeepsRest (old new : Planner) : Type 0 where
  pub splitter : new.splitter ≡ old.splitter
  pub refused : new.refused ≡ old.refused

-- What is made of the layers of a group is taken: a table stands behind those so far; of a group that is too wide its
-- number is kept, where it is the first.
abbrev pub Takes : Result Sizes TableFault → ℕ → List Sizes → Option ℕ → List Sizes → Option ℕ → Type 0
Takes (Ok table) number old_tables old_wide new_tables new_wide =
    (new_tables ≡ old_tables ++ table ∷ []) × (new_wide ≡ old_wide)
Takes (Err Wide) number old_tables old_wide new_tables new_wide =
    (new_tables ≡ old_tables) × (new_wide ≡ option_or old_wide (Some number))
Takes (Err fault) number old_tables old_wide new_tables new_wide = ⊥

-- it is neither a table nor too wide
abbrev pub IsLongMade : Result Sizes TableFault → Type 0
IsLongMade (Ok table) = ⊥
IsLongMade (Err Wide) = ⊥
IsLongMade (Err fault) = Unit {0}

-- the planner keeps this fault of the groups
pub record HasRefused (planner : Planner) (fault : SplitFault) : Type 0 where
  pub told : fault ≢ NoMemory
  pub some : is_some planner.refused ≡ true
  pub after : (later : Option SessionFault) → fault_after (Some fault) later ≡ planner.refused

-- the same as `first_above`, counted from `at`
abbrev pub above_from : ℕ → ℕ → ℕ → List ℕ → Option ℕ
above_from at limit before [] = None
above_from at limit before (cost ∷ costs) =
    if nat_lt limit (before + cost) then Some at else above_from (at + 1) limit (before + cost) costs
