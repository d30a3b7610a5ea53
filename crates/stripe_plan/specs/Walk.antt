-- The stripes of a plan that a walk has still to give (this project's own).
use Rattle.std.specs.Prelude.{◌≡◌, ℕ, ◌≤◌, List, [], length}
use Rattle.stripe_plan.specs.Layers.{needs_of, stripes_from}
use Rattle.stripe_plan.specs.Sizes.{IsTable}
use Rattle.stripe_plan.specs.declared.walk.PlanStripes.{PlanStripes}

-- a walk stands at a word of the table, or behind the last, where no stripe begins
pub record IsWithin (walk : PlanStripes) : Type 0 where
  pub inside : walk.at ≤ walk.words
  pub whole : walk.words ≡ length (needs_of walk.table.now.layers)
  pub last : stripes_from walk.table.now.layers walk.words ≡ []
  pub bounds : IsTable walk.table.now.packets walk.table.now.layers

-- the stripes that are left: the first word and the length of each, in order
abbrev pub stripes_left : PlanStripes → List (ℕ × ℕ)
stripes_left walk = stripes_from walk.table.now.layers walk.at
