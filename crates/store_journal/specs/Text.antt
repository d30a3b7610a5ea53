-- The text of a journal, and the set that it stands for. This project's own format.
use Rattle.std.specs.Prelude.{ℕ, zero, suc, ◌≡◌, ◌<◌, ◌+◌, Bool, true, false, not, ◌==◌, nat_lt, nat_le}
use Rattle.std.specs.Prelude.{if◌then◌else◌, List, [], ◌∷◌, ◌++◌, length, take, drop, Option, None, Some, Result, Ok}
use Rattle.std.specs.Prelude.{Err}
use Rattle.std.specs.Int.{w16, from_be_bytes}
use Rattle.std.specs.List.{flat_map}
use Rattle.std.specs.Str.{bytes_eq}
use Rattle.pet_base.specs.Entries.{entry_text}
use Rattle.store_journal.specs.declared.fault.StartFault.{StartFault}
use Rattle.store_journal.specs.declared.fault.StartFault.TheVariants.{BadJournal, OtherSession}

-- who keeps frames: the set with a frame, where a receiver of this set would keep it
abbrev pub Keep : Type 0 → Type 0
Keep S = S → List ℕ → Option S

-- what keeping a frame may cost in steps, by what was kept before
abbrev pub Cost : Type 0 → Type 0
Cost S = S → List ℕ → ℕ

-- These frames are kept, one after the other, and lead from the one set to the other. Each is short enough for two
-- bytes of length.
abbrev pub Keeps : {S : Type 0} → Keep S → S → List (List ℕ) → S → Type 0
Keeps keep set [] last = set ≡ last
Keeps {S = S} keep set (frame ∷ frames) last = (between : S) × (length frame < 65536)
    × (keep set frame ≡ Some between) × Keeps keep between frames last

-- PETJ
abbrev pub mark_text : List ℕ
mark_text = 80 ∷ 69 ∷ 84 ∷ 74 ∷ []

-- an entry: an open gate, the length of a frame in two bytes, and the frame
abbrev pub open_entry : List ℕ → List ℕ
open_entry frame = 1 ∷ entry_text frame

-- what is written behind a gate before it is opened: the length of a frame, the frame and a closed gate
abbrev pub staged : List ℕ → List ℕ
staged frame = entry_text frame ++ 0 ∷ []

-- the entries of these frames, on end
abbrev pub entries_text : List (List ℕ) → List ℕ
entries_text frames = flat_map open_entry frames

-- the text before the gate that stands behind these frames
abbrev pub front_text : List ℕ → List (List ℕ) → List ℕ
front_text session frames = mark_text ++ session ++ entries_text frames

-- the text that a keeper leaves: all entries, and a closed gate
abbrev pub journal_text : List ℕ → List (List ℕ) → List ℕ
journal_text session frames = front_text session frames ++ 0 ∷ []

abbrev pub is_empty : List ℕ → Bool
is_empty [] = true
is_empty (byte ∷ rest) = false

-- A gate ends the journal where it is closed, or the last byte.
abbrev pub is_end : ℕ → List ℕ → Bool
is_end gate [] = true
is_end gate (byte ∷ rest) = not (gate == 1)

-- The text stands for these frames: entries of them, and a gate that ends the journal.
pub record HasFrames (session : List ℕ) (frames : List (List ℕ)) (text : List ℕ) : Type 0 where
  pub gate : ℕ
  pub rest : List ℕ
  pub is : text ≡ front_text session frames ++ gate ∷ rest
  pub ends : is_end gate rest ≡ true

-- so many bytes and what stands behind them, where that is not empty
abbrev pub part_and_more : ℕ → List ℕ → Option (List ℕ × List ℕ)
part_and_more n more = if nat_lt n (length more) then Some (take n more, drop n more) else None

-- the frame behind an open gate and the text from the next gate on, where both are whole
abbrev pub whole_entry : List ℕ → Option (List ℕ × List ℕ)
whole_entry [] = None
whole_entry (a ∷ []) = None
whole_entry (a ∷ b ∷ more) = part_and_more (from_be_bytes w16 (a ∷ b ∷ [])) more

-- what is read from the next gate on, where the frame is kept
abbrev pub go_on : {S : Type 0} → ℕ → List ℕ → List ℕ → Option S → (ℕ → S → List ℕ → Result S ℕ) → Result S ℕ
go_on at frame rest None read = Err at
go_on at frame rest (Some set) read = read (at + 3 + length frame) set rest

-- what is read of an open gate's entry and of what is behind it
abbrev pub read_entry : {S : Type 0} → Keep S → ℕ → S → Option (List ℕ × List ℕ) → (ℕ → S → List ℕ → Result S ℕ)
    → Result S ℕ
read_entry keep at set None read = Err at
read_entry keep at set (Some entry) read = go_on at entry.0 entry.1 (keep set entry.0) read

-- what is read from a gate on, up to so many gates: the set that the text stands for, or the first gate that is
-- refused
unfoldable pub read_gates : {S : Type 0} → Keep S → ℕ → ℕ → S → List ℕ → Result S ℕ
read_gates keep zero at set text = Err at
read_gates keep (suc n) at set [] = Err at
read_gates keep (suc n) at set (gate ∷ rest) = if is_end gate rest then Ok set else
    read_entry keep at set (whole_entry rest) (read_gates keep n)

abbrev pub as_journal : {S : Type 0} → Result S ℕ → Result S StartFault
as_journal (Ok set) = Ok set
as_journal (Err at) = Err (BadJournal at)

-- the set that a text stands for, from the empty set; or why it is no journal of the session
unfoldable pub reading_of : {S : Type 0} → Keep S → S → List ℕ → List ℕ → Result S StartFault
reading_of keep empty session text =
    if nat_le (length text) 13 then Ok empty
    else if not (bytes_eq (take 4 text) mark_text) then Err (BadJournal 0)
    else if not (bytes_eq (take 8 (drop 4 text)) session) then Err (OtherSession (take 8 (drop 4 text)))
    else as_journal (read_gates keep (length text) 12 empty (drop 12 text))
