-- The calls of a file in memory, by their numbers from 0 on, and which of them fail. This project's own.
use Rattle.std.specs.Prelude.{ℕ, ◌+◌, ◌-◌, ◌^◌, ◌≤◌, ◌≡◌, ◌⊎◌, ◌↔◌, min, List, None, Contains, Result, OnOk, OnErr}
use Rattle.std.specs.Prelude.{IsErr, IsSomeAnd}
use Rattle.outside_disk.specs.declared.calls.Calls.{Calls}

-- A call of this number is to fail: it is one of the list, or not below the first of those that all are.
abbrev pub IsDue : Calls → ℕ → Type 0
IsDue calls n = Contains calls.failing.items n ⊎ IsSomeAnd calls.from (λ first. first ≤ n)

-- The call that comes next is one of those that are to fail.
abbrev pub IsToFail : Calls → Type 0
IsToFail calls = IsDue calls calls.next

-- Every call of this number or above is to fail too, and nothing else changed.
pub record FailsFrom (old new : Calls) (call : ℕ) : Type 0 where
  pub due : (n : ℕ) → IsDue new n ↔ IsDue old n ⊎ (call ≤ n)
  pub others : new ≡ record old { from = new.from }

-- There was no call yet, and those of these numbers are to fail.
pub record Begins (calls : Calls) (numbers : List ℕ) : Type 0 where
  pub next : calls.next ≡ 0
  pub failing : calls.failing.items ≡ numbers
  pub from : calls.from ≡ None
  pub faults : calls.faults ≡ 0
  pub unmet : calls.unmet ≡ 0

-- A growth found no memory: of these one more was counted, up to the last value of a u64.
abbrev pub LacksMemory : Calls → Calls → Type 0
LacksMemory old new = new.unmet ≡ min (old.unmet + 1) (2 ^ 64 - 1)

-- One call more was counted, up to the last value of a u64. It failed where it was to fail, else only where a growth
-- found
-- no memory.
pub record FailsAsListed {T E : Type 0} (old new : Calls) (result : Result T E) : Type 0 where
  pub next : new.next ≡ min (old.next + 1) (2 ^ 64 - 1)
  pub failing : new.failing ≡ old.failing
  pub from : new.from ≡ old.from
  pub listed : IsToFail old → IsErr result
  pub other : OnErr result (IsToFail old ⊎ LacksMemory old new)
  pub met : OnOk result (new.unmet ≡ old.unmet)
