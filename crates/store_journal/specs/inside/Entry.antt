-- The entry behind a gate, as it is read.
use Rattle.std.specs.Prelude.{ℕ, ◌++◌, ◌+◌, ◌<◌, ◌≡◌, List, None, Option, Some, drop, length, take}
use Rattle.pet_base.specs.Entries.{entry_text}
use Rattle.store_journal.specs.Text.{whole_entry}

-- the frame of so many bytes at the front of the buffer is the entry behind a gate, and something stands behind it
pub record IsEntryOf (n : ℕ) (buffer : List ℕ) (gate : ℕ) (text : List ℕ) : Type 0 where
  pub long : length (take n buffer) ≡ n
  pub is : drop (gate + 1) text ≡ entry_text (take n buffer) ++ drop (gate + 3 + n) text
  pub within : gate + 3 + n < length text

-- the entry behind a gate, read or not
abbrev pub IsEntry : Option ℕ → List ℕ → ℕ → List ℕ → Type 0
IsEntry None buffer gate text = whole_entry (drop (gate + 1) text) ≡ None
IsEntry (Some n) buffer gate text = IsEntryOf n buffer gate text
