-- The head of a journal.
use Rattle.std.specs.Prelude.{ℕ, ◌≡◌, ◌≢◌, List, drop, take}
use Rattle.store_journal.specs.Text.{mark_text}
use Rattle.store_journal.specs.declared.fault.StartFault.{StartFault}
use Rattle.store_journal.specs.declared.fault.StartFault.TheVariants.{BadJournal, OtherSession, DiskFault, NoMemory}

-- The text begins with the mark and the session.
abbrev pub HasHead : List ℕ → List ℕ → Type 0
HasHead session text = (take 4 text ≡ mark_text) × (take 8 (drop 4 text) ≡ session)

-- The text begins otherwise.
abbrev pub IsHeadFault : List ℕ → List ℕ → StartFault → Type 0
IsHeadFault session text (BadJournal at) = (at ≡ 0) × (take 4 text ≢ mark_text)
IsHeadFault session text (OtherSession named) = (take 4 text ≡ mark_text) × (take 8 (drop 4 text) ≡ named)
    × (named ≢ session)
IsHeadFault session text DiskFault = ⊥
IsHeadFault session text NoMemory = ⊥

-- The text is no journal of the session, by its head.
abbrev pub IsNoJournal : List ℕ → List ℕ → StartFault → Type 0
IsNoJournal session text (BadJournal at) = (at ≡ 0) × (take 4 text ≢ mark_text)
IsNoJournal session text (OtherSession named) = (take 4 text ≡ mark_text) × (take 8 (drop 4 text) ≡ named)
    × (named ≢ session)
IsNoJournal session text DiskFault = Unit {0}
IsNoJournal session text NoMemory = Unit {0}
