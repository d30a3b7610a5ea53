-- The groups of a stream's pieces (this project's own, over the sequence and picture headers of ISO/IEC 11172-2).
use Rattle.std.specs.Prelude.{Bool, ◌&&◌, ◌||◌, List, [], ◌∷◌, ◌++◌, ◌==◌, if◌then◌else◌}
use Rattle.std.specs.List.{list_any}
use Rattle.mpeg_scan.specs.declared.piece.Piece.{Piece}
use Rattle.mpeg_scan.specs.Pieces.{but_last}

abbrev pub is_picture : Piece → Bool
is_picture piece = piece.code == 0x00

-- a sequence header or a group of pictures
abbrev pub is_group_head : Piece → Bool
is_group_head piece = piece.code == 0xB3 || piece.code == 0xB8

-- such a piece begins another group, once the current one has a picture
abbrev pub begins_group : List Piece → Piece → Bool
begins_group current piece = is_group_head piece && list_any is_picture current

-- the groups, where the current one has these pieces so far
abbrev pub groups_from : List Piece → List Piece → List (List Piece)
groups_from current [] = current ∷ []
groups_from current (piece ∷ later) =
    if begins_group current piece then current
    ∷ groups_from (piece ∷ []) later else groups_from (current ++ piece ∷ []) later

-- those of these pieces, the first of which begins the first group
abbrev pub groups_of : List Piece → List (List Piece)
groups_of [] = []
groups_of (piece ∷ later) = groups_from (piece ∷ []) later

-- the pieces of the last group
abbrev pub last_from : List Piece → List (List Piece) → List Piece
last_from group [] = group
last_from group (next ∷ later) = last_from next later

abbrev pub last_group : List Piece → List Piece
last_group pieces = last_from [] (groups_of pieces)

-- the groups that have ended, which they do where the next begins: of pieces to which more come, the last has not
abbrev pub ended_groups : List Piece → List (List Piece)
ended_groups pieces = but_last (groups_of pieces)
