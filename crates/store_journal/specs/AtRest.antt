-- A journal that is whole on its disk, and what a crash leaves while a frame is added.
use Rattle.std.specs.Prelude.{ℕ, ◌≡◌, ◌⊎◌, ◌+◌, List, [], ◌∷◌, ◌++◌, length, Some, Ok}
use Rattle.outside_disk.specs.Disk.{Told, IsSynced, LeavesOnly}
use Rattle.store_journal.specs.Text.{Keep, Keeps, front_text, journal_text, HasFrames, reading_of}

-- The disk has the text of these frames, and a crash leaves nothing else. Its last byte is the closed gate.
pub record IsAtRest (session : List ℕ) (frames : List (List ℕ)) (gate : ℕ) (disk : Told) : Type 0 where
  pub text : disk.bytes ≡ journal_text session frames
  pub place : gate ≡ length (front_text session frames)
  pub synced : IsSynced disk

-- The text stands for the frames, with one more or without it.
abbrev pub IsBeforeOrAfter : List ℕ → List (List ℕ) → List ℕ → List ℕ → Type 0
IsBeforeOrAfter session frames frame text = HasFrames session frames text
    ⊎ HasFrames session (frames ++ frame ∷ []) text

-- The disk has a journal that is whole, of frames that lead to this set.
pub record IsOpen {S : Type 0} (keep : Keep S) (empty : S) (session : List ℕ) (gate : ℕ) (set : S)
    (disk : Told) : Type 0 where
  pub eight : length session ≡ 8
  pub frames : List (List ℕ)
  pub keeps : Keeps keep empty frames set
  pub rest : IsAtRest session frames gate disk

-- The text stands for the set, or for the set with this frame.
abbrev pub StandsFor : {S : Type 0} → Keep S → S → List ℕ → S → List ℕ → List ℕ → Type 0
StandsFor {S = S} keep empty session set frame text = (reading_of keep empty session text ≡ Ok set)
    ⊎ ((next : S) × (keep set frame ≡ Some next) × (reading_of keep empty session text ≡ Ok next))

-- A frame may be added behind the gate of a journal that is whole: what a crash may leave since.
abbrev pub MayAdd : ℕ → List ℕ → Told → Told → Type 0
MayAdd gate frame old new = (session : List ℕ) (frames : List (List ℕ)) → IsAtRest session frames gate old
    → LeavesOnly (IsBeforeOrAfter session frames frame) old new

-- The frame is added there, and the journal is whole again.
abbrev pub Adds : ℕ → List ℕ → Told → Told → Type 0
Adds gate frame old new = (session : List ℕ) (frames : List (List ℕ)) → IsAtRest session frames gate old
    → IsAtRest session (frames ++ frame ∷ []) (gate + 3 + length frame) new
