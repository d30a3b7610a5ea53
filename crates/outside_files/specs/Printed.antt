-- What was printed. This project's own.
use Rattle.std.specs.Prelude.{◌≡◌, ◌⊎◌, ℕ, ◌≤◌, List, [], take}
use Rattle.std.specs.Io.KnownBytes.{append_known}
use Rattle.pet_base.specs.Causes.{Rose, one_more}
use Rattle.pet_base.specs.OutsideSeen.{OutsideSeen}

-- this text was printed
abbrev pub Printed : List ℕ → OutsideSeen → OutsideSeen → Type 0
Printed text before after = after.written ≡ append_known before.written text

-- nothing was printed
abbrev pub Unprinted : OutsideSeen → OutsideSeen → Type 0
Unprinted before after = after.written ≡ before.written

-- the output failed, and a front of this text was printed
pub record PrintedFront (text : List ℕ) (before after : OutsideSeen) : Type 0 where
  pub count : ℕ
  pub printed : Printed (take count text) before after
  pub rose : Rose before.out_faults after.out_faults

-- Only this line was printed; a front of it, where the output failed.
pub record PrintsLine (line : List ℕ) (before after : OutsideSeen) : Type 0 where
  pub place : after.place ≡ before.place
  pub link : after.link ≡ before.link
  pub steps : after.steps ≡ before.steps
  pub later : before.out_faults ≤ after.out_faults
  pub front : (k : ℕ) × Printed (take k line) before after
  pub whole : (Rose before.out_faults after.out_faults → ⊥) → Printed line before after
  pub once : (after.out_faults ≡ before.out_faults) ⊎ (after.out_faults ≡ one_more before.out_faults)
  pub silent : line ≡ [] → after.out_faults ≡ before.out_faults
