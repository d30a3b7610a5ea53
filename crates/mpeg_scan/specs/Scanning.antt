-- Where a scanner stands that has read a stream, however that came in portions, and what it has given of it (this
-- project's own). Every
-- fact on a refusal or a piece is over each way in which the stream goes on.
use Rattle.std.specs.Prelude.{◌≡◌, ℕ, ◌+◌, ◌-◌, ◌<◌, ◌≤◌, ◌⊎◌, List, [], ◌∷◌, ◌++◌, length, drop, replicate}
use Rattle.std.specs.Prelude.{slice_index, Some, None, IsTrue, nat_le, if◌then◌else◌}
use Rattle.std.specs.List.{filter, range_with_len}
use Rattle.std.specs.Bool.{MatchBool}
use Rattle.mpeg_scan.specs.declared.refusal.Scan.{Scan}
use Rattle.mpeg_scan.specs.declared.piece.Piece.{Piece}
use Rattle.mpeg_scan.specs.declared.scanner.Scanner.{Scanner}
use Rattle.mpeg_scan.specs.StartCodes.{is_opener, code_at}
use Rattle.mpeg_scan.specs.Refusals.{decided_at, max_stream, has_head, IsUndecided}
use Rattle.mpeg_scan.specs.Pieces.{openers, kind_at, pieces_from, pieces_of, ended_pieces, StandOnEnd}

-- the byte that stands j bytes before the end, or 255 where the stream is shorter
unfoldable pub back : List ℕ → ℕ → ℕ
back stream j = if nat_le j (length stream) then slice_index stream (length stream - j) else 255

-- the openers at byte k and later
unfoldable pub openers_from : List ℕ → ℕ → List ℕ
openers_from stream k = filter (is_opener stream) (range_with_len k (length stream - k))

-- no start code yet: only zero bytes, or at least two and the 1 behind them
abbrev pub IsFront : List ℕ → Type 0
IsFront stream =
    (stream ≡ replicate (length stream) 0)
    ⊎ ((3 ≤ length stream) × (stream ≡ replicate (length stream - 1) 0 ++ 1 ∷ []))

-- before the first opener
pub record InFront (scanner : Scanner) (stream : List ℕ) (given : List Piece) : Type 0 where
  pub front : IsFront stream
  pub from : scanner.from ≡ 0
  pub none_given : given ≡ []
  pub openers : (rest : List ℕ) → openers (stream ++ rest) ≡ openers_from (stream ++ rest) (length stream - 3)

-- in the piece of an opener, which is the last so far
pub record InPiece (scanner : Scanner) (stream : List ℕ) (given : List Piece) : Type 0 where
  pub opener : ℕ
  pub stands : IsTrue (is_opener stream opener)
  pub last : (p : ℕ) → IsTrue (is_opener stream p) → p ≤ opener
  pub code : scanner.code ≡ code_at stream opener
  pub kind : (code_at stream opener ≡ 0 → opener + 5 < length stream) → scanner.kind ≡ kind_at stream opener
  pub head : (rest : List ℕ) → IsTrue (has_head (stream ++ rest))
  pub pieces : (rest : List ℕ)
      → pieces_of (stream ++ rest)
      ≡ given ++ pieces_from (stream ++ rest) opener scanner.from (openers_from (stream ++ rest) (length stream - 3))

-- The scanner has read the stream, of which nothing is refused so far however it goes on, and has given these pieces:
-- those whose
-- successor's opener is known.
pub record HasRead (scanner : Scanner) (stream : List ℕ) (given : List Piece) : Type 0 where
  pub live : scanner.refused ≡ None
  pub at : scanner.at ≡ length stream
  pub bounded : length stream ≤ max_stream
  pub back1 : scanner.back1 ≡ back stream 1
  pub back2 : scanner.back2 ≡ back stream 2
  pub back3 : scanner.back3 ≡ back stream 3
  pub back4 : scanner.back4 ≡ back stream 4
  pub back5 : scanner.back5 ≡ back stream 5
  pub undecided : IsUndecided stream
  pub place : MatchBool scanner.opened (InPiece scanner stream given) (InFront scanner stream given)

-- The stream is refused with this, which the byte behind these decides however it goes on, and what was given are the
-- pieces that had ended before.
pub record HasStopped (stream : List ℕ) (scan : Scan) (given : List Piece) : Type 0 where
  pub before : List ℕ
  pub behind : List ℕ
  pub parts : stream ≡ before ++ behind
  pub decided : (rest : List ℕ) → decided_at (stream ++ rest) scan ≡ length before
  pub undecided : IsUndecided before
  pub ended : given ≡ ended_pieces before

-- the scanner has refused with this
abbrev pub HasRefused : Scanner → Scan → Type 0
HasRefused scanner scan = scanner.refused ≡ Some scan

-- the pieces that a call appended
abbrev pub added : List Piece → List Piece → List Piece
added old new = drop (length old) new

-- the vector has its old content and what was appended
abbrev pub HasGrown : List Piece → List Piece → Type 0
HasGrown old new = new ≡ old ++ added old new

-- These are the first pieces of the stream, however it goes on, and they stand on end from byte 0.
pub record IsFrontOf (stream : List ℕ) (given : List Piece) : Type 0 where
  pub front : (rest : List ℕ) → (later : List Piece) × (pieces_of (stream ++ rest) ≡ given ++ later)
  pub end : ℕ
  pub stand : StandOnEnd 0 given end
  pub within : end ≤ length stream
  pub bounded : end ≤ max_stream
