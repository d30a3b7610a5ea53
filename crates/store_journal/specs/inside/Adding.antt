-- The two writes that add a frame, each on the disk when it is done.
use Rattle.std.specs.Prelude.{ℕ, ◌+◌, ◌≡◌, List, [], ◌∷◌, ◌++◌, length}
use Rattle.outside_disk.specs.Disk.{Told, IsSynced, LeavesOnly}
use Rattle.store_journal.specs.Text.{staged, front_text}
use Rattle.store_journal.specs.AtRest.{IsAtRest, IsBeforeOrAfter}

-- A closed gate stands there with a frame whole behind it, and a crash leaves nothing else.
pub record IsStaged (session : List ℕ) (frames : List (List ℕ)) (frame : List ℕ) (gate : ℕ)
    (disk : Told) : Type 0 where
  pub text : disk.bytes ≡ front_text session frames ++ 0 ∷ staged frame
  pub place : gate ≡ length (front_text session frames)
  pub synced : IsSynced disk

-- What a frame is staged as is put behind the gate: a crash leaves the frames before it meanwhile, or these and it.
abbrev pub MayStage : ℕ → List ℕ → Told → Told → Type 0
MayStage gate bytes old new = (session : List ℕ) (frames : List (List ℕ)) (frame : List ℕ) → bytes ≡ staged frame
    → IsAtRest session frames gate old → LeavesOnly (IsBeforeOrAfter session frames frame) old new

abbrev pub Stages : ℕ → List ℕ → Told → Told → Type 0
Stages gate bytes old new = (session : List ℕ) (frames : List (List ℕ)) (frame : List ℕ) → bytes ≡ staged frame
    → IsAtRest session frames gate old → IsStaged session frames frame gate new

-- The gate is opened: the same, and then the journal is whole with the frame.
abbrev pub MayOpen : ℕ → Told → Told → Type 0
MayOpen gate old new = (session : List ℕ) (frames : List (List ℕ)) (frame : List ℕ)
    → IsStaged session frames frame gate old → LeavesOnly (IsBeforeOrAfter session frames frame) old new

abbrev pub Opens : ℕ → Told → Told → Type 0
Opens gate old new = (session : List ℕ) (frames : List (List ℕ)) (frame : List ℕ)
    → IsStaged session frames frame gate old
    → IsAtRest session (frames ++ frame ∷ []) (gate + 3 + length frame) new
