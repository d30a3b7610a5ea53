-- The end of a journal, and what mending it leaves.
use Rattle.std.specs.Prelude.{ℕ, ◌++◌, ◌∷◌, ◌≡◌, ◌≤◌, Bool, List, [], length, not, true}
use Rattle.outside_disk.specs.Disk.{IsSynced, LeavesOnly, Told}
use Rattle.store_journal.specs.AtRest.{IsAtRest}
use Rattle.store_journal.specs.Text.{HasFrames, front_text, is_empty, is_end}
use Rattle.store_journal.specs.declared.reading.End.{End}

-- The disk has the text of these frames, with a gate of this value that ends it; there is more behind it or not.
pub record HasEnd (session : List ℕ) (frames : List (List ℕ)) (gate value : ℕ) (more : Bool) (disk : Told) : Type 0
  where
    pub rest : List ℕ
    pub text : disk.bytes ≡ front_text session frames ++ value ∷ rest
    pub ends : is_end value rest ≡ true
    pub place : gate ≡ length (front_text session frames)
    pub behind : more ≡ not (is_empty rest)
    pub synced : IsSynced disk

-- The same, where there is nothing behind it.
pub record HasLast (session : List ℕ) (frames : List (List ℕ)) (gate value : ℕ) (disk : Told) : Type 0 where
  pub text : disk.bytes ≡ front_text session frames ++ value ∷ []
  pub place : gate ≡ length (front_text session frames)
  pub synced : IsSynced disk

-- What stands behind the gate is cut off: a crash leaves the frames meanwhile, and then the gate is last.
abbrev pub MayCut : ℕ → Bool → Told → Told → Type 0
MayCut gate more old new = (session : List ℕ) (frames : List (List ℕ)) (value : ℕ)
    → HasEnd session frames gate value more old → LeavesOnly (HasFrames session frames) old new

abbrev pub Cuts : ℕ → Bool → Told → Told → Type 0
Cuts gate more old new = (session : List ℕ) (frames : List (List ℕ)) (value : ℕ)
    → HasEnd session frames gate value more old → HasLast session frames gate value new

-- The gate is closed: a crash leaves the frames meanwhile, and then the journal is whole.
abbrev pub MayClose : ℕ → ℕ → Told → Told → Type 0
MayClose gate value old new = (session : List ℕ) (frames : List (List ℕ)) → HasLast session frames gate value old
    → LeavesOnly (HasFrames session frames) old new

abbrev pub Closes : ℕ → ℕ → Told → Told → Type 0
Closes gate value old new = (session : List ℕ) (frames : List (List ℕ)) → HasLast session frames gate value old
    → IsAtRest session frames gate new

-- Both.
abbrev pub MayMend : End → Told → Told → Type 0
MayMend end old new = (session : List ℕ) (frames : List (List ℕ))
    → HasEnd session frames end.gate end.value end.more old → LeavesOnly (HasFrames session frames) old new

abbrev pub Mends : End → Told → Told → Type 0
Mends end old new = (session : List ℕ) (frames : List (List ℕ))
    → HasEnd session frames end.gate end.value end.more old → IsAtRest session frames end.gate new

-- A file of at most 13 bytes is made an empty journal: a crash leaves a file of at most 13 bytes, and then that
-- journal.
abbrev pub MayBegin : Told → Told → Type 0
MayBegin old new = IsSynced old → length old.bytes ≤ 13 → LeavesOnly (λ c. length c ≤ 13) old new

abbrev pub Begins : List ℕ → Told → Told → Type 0
Begins session old new = length old.bytes ≤ 13 → IsAtRest session [] 12 new
