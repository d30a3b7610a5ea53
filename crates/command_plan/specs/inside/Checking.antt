-- What the parts of `check` find, before it is put together. This project's own.
use Rattle.std.specs.Prelude.{◌≡◌, ◌≢◌, ℕ, ◌<◌, ◌≤◌, List, [], ◌∷◌, length, Ok, Err}
use Rattle.pet_base.specs.declared.limits.TheConstants.{MAX_PLAN_FILE}
use Rattle.pet_base.specs.Seen.{Seen}
use Rattle.stripe_plan.specs.Sizes.{Sizes}
use Rattle.outside_files.specs.Inputs.{IsFile}
use Rattle.outside_files.specs.Uses.{Failed, reading}
use Rattle.text_plan.specs.declared.plan_file.Repeat.{Repeat}
use Rattle.text_plan.specs.PlanFile.{lists_of}
use Rattle.command_plan.specs.declared.checking.CheckEnd.{CheckEnd}
use Rattle.command_plan.specs.declared.checking.CheckEnd.TheVariants.{NoMemory, PlaceFault, PlanLong, Text, Lines}
use Rattle.command_plan.specs.declared.checking.CheckEnd.TheVariants.{NotLeast}
use Rattle.command_plan.specs.Certified.{IsFirstNotLeast}

-- the plan file has these lists
pub record HasLists (old : Seen) (plan : List ℕ) (lists : List (List Repeat)) : Type 0 where
  pub bytes : List ℕ
  pub file : IsFile old.files plan bytes
  pub short : length bytes ≤ MAX_PLAN_FILE
  pub read : lists_of bytes ≡ Ok lists

-- why these bytes have none
abbrev pub HasNoListsIn : List ℕ → CheckEnd → Type 0
HasNoListsIn bytes NoMemory = Unit {0}
HasNoListsIn bytes PlanLong = MAX_PLAN_FILE < length bytes
HasNoListsIn bytes (Text line) = (length bytes ≤ MAX_PLAN_FILE) × (lists_of bytes ≡ Err line)
HasNoListsIn bytes _ = ⊥

-- why the file has none
abbrev pub HasNoLists : Seen → Seen → List ℕ → CheckEnd → Type 0
HasNoLists old new plan PlaceFault = Failed (reading plan ∷ []) old new
HasNoLists old new plan NoMemory = Unit {0}
HasNoLists old new plan end = (bytes : List ℕ) × IsFile old.files plan bytes × HasNoListsIn bytes end

-- why the lists are no certificates of these tables
abbrev pub AreNotLeast : List Sizes → List (List Repeat) → CheckEnd → Type 0
AreNotLeast tables lists NoMemory = Unit {0}
AreNotLeast tables lists (Lines lines) = (lines ≡ length lists) × (length lists ≢ length tables)
AreNotLeast tables lists (NotLeast group) = IsFirstNotLeast tables lists group
AreNotLeast tables lists _ = ⊥
