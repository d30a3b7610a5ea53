-- What a byte, a run of bytes and the end do to a scanner: the promises of its private parts.
use Rattle.std.specs.Prelude.{◌≡◌, ◌≢◌, ℕ, ◌+◌, ◌<◌, ◌⊎◌, List, ◌∷◌, ◌++◌, length, slice_index, Option, Some, None}
use Rattle.std.specs.Prelude.{true, IsTrue, EachIndex}
use Rattle.mpeg_scan.specs.declared.refusal.Scan.{Scan}
use Rattle.mpeg_scan.specs.declared.scanner.Scanner.{Scanner}
use Rattle.mpeg_scan.specs.Refusals.{holds, decided_at, max_stream, Refuses, IsAccepted}

-- What the byte x decides behind this stream, however that goes on: this refusal, or none.
abbrev pub Decides : List ℕ → ℕ → Option Scan → Type 0
Decides stream x (Some scan) =
    (rest : List ℕ) → Refuses (stream ++ x ∷ rest) scan × (decided_at (stream ++ x ∷ rest) scan ≡ length stream)
Decides stream x None =
    (length stream < max_stream)
    × ((rest : List ℕ) (scan : Scan) → IsTrue (holds (stream ++ x ∷ rest) scan)
    → decided_at (stream ++ x ∷ rest) scan ≢ length stream)

-- one byte more is read, and of the pieces nothing else is known
pub record Advances (old new : Scanner) (byte : ℕ) : Type 0 where
  pub at : new.at ≡ old.at + 1
  pub back1 : new.back1 ≡ byte
  pub back2 : new.back2 ≡ old.back1
  pub back3 : new.back3 ≡ old.back2
  pub back4 : new.back4 ≡ old.back3
  pub back5 : new.back5 ≡ old.back4
  pub opened : new.opened ≡ old.opened
  pub from : new.from ≡ old.from
  pub code : new.code ≡ old.code
  pub kind : new.kind ≡ old.kind
  pub refused : new.refused ≡ old.refused

-- what the end of the stream decides
abbrev pub DecidesAtEnd : List ℕ → Option Scan → Type 0
DecidesAtEnd stream (Some scan) = Refuses stream scan
DecidesAtEnd stream None = IsAccepted stream

-- none of these bytes has this value
abbrev pub Lacks : ℕ → List ℕ → Type 0
Lacks value bytes = EachIndex bytes (λ k. slice_index bytes k ≢ value)

-- In a piece these bytes end no start code and give no type: behind two bytes that aren't zero none is zero, or behind
-- three that aren't 1
-- none is 1.
abbrev pub IsQuiet : Scanner → List ℕ → Type 0
IsQuiet scanner run =
    (scanner.opened ≡ true)
    × (((scanner.back1 ≢ 0) × (scanner.back2 ≢ 0) × Lacks 0 run)
    ⊎ ((scanner.back1 ≢ 1) × (scanner.back2 ≢ 1) × (scanner.back3 ≢ 1) × Lacks 1 run))
