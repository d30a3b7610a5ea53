-- Which files a command reads and writes, and the failures that one of them may cause. This project's own.
use Rattle.std.specs.Prelude.{◌≡◌, ◌⊎◌, ℕ, List, [], ◌∷◌}
use Rattle.pet_base.specs.Causes.{Rose}
use Rattle.pet_base.specs.declared.place.Side.TheVariants.{Read, Written}
use Rattle.pet_base.specs.Seen.{Seen, Blame, HadFault}
use Rattle.pet_base.specs.OutsideSeen.{OutsideSeen}

-- a file of this name that is read, or that is written
abbrev pub reading : List ℕ → Blame
reading name = (Read, name)

abbrev pub writing : List ℕ → Blame
writing name = (Written, name)

-- it is one of these
abbrev pub IsOneOf : List Blame → Blame → Type 0
IsOneOf [] blame = ⊥
IsOneOf (first ∷ []) blame = blame ≡ first
IsOneOf (first ∷ more) blame = (blame ≡ first) ⊎ IsOneOf more blame

-- the place had a fault, at one of these files where it is told at which
abbrev pub Failed : List Blame → Seen → Seen → Type 0
Failed uses old new = HadFault old new (IsOneOf uses)

-- neither the place, at one of these files, nor the output had a fault
pub record IsWell (uses : List Blame) (before after : OutsideSeen) : Type 0 where
  pub place : Failed uses before.place after.place → ⊥
  pub out : Rose before.out_faults after.out_faults → ⊥
