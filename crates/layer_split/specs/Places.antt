-- The places of pictures (this project's own): a group's P pictures are numbered from 1 in stream order, and so are its
-- B pictures.
use Rattle.std.specs.Prelude.{ℕ, ◌+◌, Bool, true, false, List, [], ◌∷◌, ◌++◌, count_by}
use Rattle.pet_base.specs.declared.kind.Kind.{Kind}
use Rattle.pet_base.specs.declared.kind.Kind.TheVariants.{Head, I, P, B, D}
use Rattle.mpeg_scan.specs.declared.piece.Piece.{Piece}

abbrev pub is_kind : Kind → Kind → Bool
is_kind Head Head = true
is_kind I I = true
is_kind P P = true
is_kind B B = true
is_kind D D = true
is_kind _ _ = false

-- how many of the pieces are of the kind
abbrev pub number_of : Kind → List Piece → ℕ
number_of kind pieces = count_by (λ piece. is_kind kind piece.kind) pieces

-- a piece of a group, and its place there
pub record Placed : Type 0 where
  pub piece : Piece
  pub place : ℕ

-- The place of a piece behind these of its group: the number of the pieces of its kind, with it. Of heads, I and D
-- pictures it
-- is not looked at.
abbrev pub place_behind : List Piece → Piece → ℕ
place_behind before piece = number_of piece.kind before + 1

-- the piece with it
abbrev pub placed_at : List Piece → Piece → Placed
placed_at before piece = record { piece = piece; place = place_behind before piece }

-- the pieces of a group behind these, each with its place
abbrev pub placed_behind : List Piece → List Piece → List Placed
placed_behind before [] = []
placed_behind before (piece ∷ later) = placed_at before piece ∷ placed_behind (before ++ piece ∷ []) later

-- those of the whole group
abbrev pub placed : List Piece → List Placed
placed group = placed_behind [] group
