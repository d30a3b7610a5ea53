-- The pieces of a stream (this project's own, over the start codes of ISO/IEC 11172-2): each runs from one opener to
-- the next or to the
-- end, and the first also has what stands before its opener.
use Rattle.std.specs.Prelude.{◌≡◌, ℕ, ◌+◌, ◌-◌, ◌<◌, List, [], ◌∷◌, length, ◌==◌, if◌then◌else◌}
use Rattle.std.specs.List.{filter, range_with_len}
use Rattle.pet_base.specs.declared.kind.Kind.{Kind}
use Rattle.pet_base.specs.declared.kind.Kind.TheVariants.{Head, I, P, B, D}
use Rattle.mpeg_scan.specs.declared.piece.Piece.{Piece}
use Rattle.mpeg_scan.specs.StartCodes.{is_opener, code_at, type_at}

-- where the openers stand, in order
abbrev pub openers : List ℕ → List ℕ
openers stream = filter (is_opener stream) (range_with_len 0 (length stream))

-- a picture's kind, by its type
abbrev pub kind_of_type : ℕ → Kind
kind_of_type t = if t == 1 then I else (if t == 2 then P else (if t == 3 then B else D))

-- what a piece holds whose opener stands at byte p
abbrev pub kind_at : List ℕ → ℕ → Kind
kind_at stream p = if code_at stream p == 0x00 then kind_of_type (type_at stream p) else Head

-- the piece of the opener at p, from one byte to before another
abbrev pub piece_of : List ℕ → ℕ → ℕ → ℕ → Piece
piece_of stream p from to = record { kind = kind_at stream p; code = code_at stream p; at = from; len = to - from }

-- the piece of the opener at p that begins at this byte, and those of the later openers
abbrev pub pieces_from : List ℕ → ℕ → ℕ → List ℕ → List Piece
pieces_from stream p from [] = piece_of stream p from (length stream) ∷ []
pieces_from stream p from (next ∷ later) = piece_of stream p from next ∷ pieces_from stream next next later

-- those of these openers
abbrev pub pieces_at : List ℕ → List ℕ → List Piece
pieces_at stream [] = []
pieces_at stream (p ∷ later) = pieces_from stream p 0 later

-- those of the stream; a stream without an opener has none
abbrev pub pieces_of : List ℕ → List Piece
pieces_of stream = pieces_at stream (openers stream)

-- all but the last
abbrev pub but_last : {A : Type 0} → List A → List A
but_last [] = []
but_last (x ∷ []) = []
but_last (x ∷ y ∷ later) = x ∷ but_last (y ∷ later)

-- The pieces that have ended, which they do where the next opener stands: of what was read of a stream that goes on,
-- the
-- last has not.
abbrev pub ended_pieces : List ℕ → List Piece
ended_pieces stream = but_last (pieces_of stream)

-- the pieces stand on end from one byte to another, and none is empty
abbrev pub StandOnEnd : ℕ → List Piece → ℕ → Type 0
StandOnEnd from [] to = from ≡ to
StandOnEnd from (piece ∷ later) to = (piece.at ≡ from) × (0 < piece.len) × StandOnEnd (from + piece.len) later to
