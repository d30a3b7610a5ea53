-- What a gate of a journal leads to, and what all of them do.
use Rattle.std.specs.Prelude.{ℕ, ◌++◌, ◌+◌, ◌<◌, ◌≤◌, ◌∷◌, ◌≡◌, Err, List, None, Some, drop, length, not, suc, true}
use Rattle.store_journal.specs.Text.{Keep, Cost, Keeps, entries_text, is_empty, is_end, open_entry, read_gates}
use Rattle.store_journal.specs.Receives.{Answers}
use Rattle.store_journal.specs.declared.fault.StartFault.{StartFault}
use Rattle.store_journal.specs.declared.fault.StartFault.TheVariants.{BadJournal, OtherSession, DiskFault, NoMemory}
use Rattle.store_journal.specs.declared.reading.End.{End}
use Rattle.store_journal.specs.declared.reading.Turn.{Turn}
use Rattle.store_journal.specs.declared.reading.Turn.TheVariants.{Ends, Goes}

-- A frame behind a gate was not taken: it would not be kept, or there was no memory.
abbrev pub IsNotTaken : {S : Type 0} → Keep S → ℕ → S → List ℕ → StartFault → Type 0
IsNotTaken keep gate set frame (BadJournal at) = (at ≡ gate) × (keep set frame ≡ None)
IsNotTaken keep gate set frame (OtherSession session) = ⊥
IsNotTaken keep gate set frame DiskFault = ⊥
IsNotTaken keep gate set frame NoMemory = Unit {0}

-- The gate ends the journal.
pub record EndsAt {S : Type 0} (gate : ℕ) (end : End) (old new : S) (text : List ℕ) : Type 0 where
  pub rest : List ℕ
  pub is : drop gate text ≡ end.value ∷ rest
  pub ends : is_end end.value rest ≡ true
  pub behind : end.more ≡ not (is_empty rest)
  pub place : end.gate ≡ gate
  pub same : new ≡ old

-- Behind the gate is an entry that is kept, and the next gate.
pub record GoesTo {S : Type 0} (keep : Keep S) (gate next : ℕ) (old new : S) (text : List ℕ) : Type 0 where
  pub frame : List ℕ
  pub short : length frame < 65536
  pub kept : keep old frame ≡ Some new
  pub is : drop gate text ≡ open_entry frame ++ drop next text
  pub place : next ≡ gate + 3 + length frame
  pub within : next < length text

abbrev pub Turns : {S : Type 0} → Keep S → ℕ → Turn → S → S → List ℕ → Type 0
Turns keep gate (Ends end) old new text = EndsAt gate end old new text
Turns keep gate (Goes next) old new text = GoesTo keep gate next old new text

-- The next gate is farther on, and inside the file.
abbrev pub IsWithin : ℕ → ℕ → Turn → Type 0
IsWithin gate size (Ends end) = end.gate < size
IsWithin gate size (Goes next) = (gate < next) × (next < size)

-- This gate is refused.
abbrev pub IsRefusedAt : {S : Type 0} → Keep S → ℕ → S → List ℕ → StartFault → Type 0
IsRefusedAt keep gate set text (BadJournal at) = (at ≡ gate)
    × ((n : ℕ) → read_gates keep (suc n) gate set (drop gate text) ≡ Err gate)
IsRefusedAt keep gate set text (OtherSession session) = ⊥
IsRefusedAt keep gate set text DiskFault = Unit {0}
IsRefusedAt keep gate set text NoMemory = Unit {0}

-- Entries that are kept, up to this gate.
pub record SoFar {S : Type 0} (keep : Keep S) (gate : ℕ) (first now : S) (text : List ℕ) : Type 0 where
  pub frames : List (List ℕ)
  pub keeps : Keeps keep first frames now
  pub is : drop 12 text ≡ entries_text frames ++ drop gate text
  pub place : gate ≡ 12 + length (entries_text frames)

-- All entries are kept, up to the gate that ends the journal.
pub record AreRead {S : Type 0} (keep : Keep S) (end : End) (first now : S) (text : List ℕ) : Type 0 where
  pub frames : List (List ℕ)
  pub rest : List ℕ
  pub keeps : Keeps keep first frames now
  pub is : drop 12 text ≡ entries_text frames ++ end.value ∷ rest
  pub ends : is_end end.value rest ≡ true
  pub behind : end.more ≡ not (is_empty rest)
  pub place : end.gate ≡ 12 + length (entries_text frames)

-- The first gate that is refused is this.
abbrev pub IsRefused : {S : Type 0} → Keep S → S → List ℕ → StartFault → Type 0
IsRefused keep first text (BadJournal at) = read_gates keep (length text) 12 first (drop 12 text) ≡ Err at
IsRefused keep first text (OtherSession session) = ⊥
IsRefused keep first text DiskFault = Unit {0}
IsRefused keep first text NoMemory = Unit {0}

-- A turn leads on by a frame that is kept, whether the bytes are told or not, and counts no more steps than that may
-- cost.
abbrev pub Advances : {S : Type 0} → Keep S → Cost S → ℕ → Turn → S → S → ℕ → ℕ → Type 0
Advances keep cost gate (Ends end) old new before after = (end.gate ≡ gate) × (new ≡ old) × (after ≡ before)
Advances keep cost gate (Goes next) old new before after = (frame : List ℕ) × (length frame < 65536)
    × (keep old frame ≡ Some new) × (next ≡ gate + 3 + length frame) × (after ≤ before + cost old frame)

-- The frame behind a gate is kept, and the turn leads on past it.
abbrev pub IsTaken : {S : Type 0} → Keep S → Cost S → ℕ → List ℕ → S → S → ℕ → ℕ → Turn → Type 0
IsTaken keep cost gate frame old new before after turn = (turn ≡ Goes (gate + 3 + length frame))
    × Answers keep true frame old new × (after ≤ before + cost old frame)
