-- What callers know of the stream of `sample`: its groups, each with the pieces of its headers and of ten pictures.
use Rattle.std.proofs.Common.{◌≡◌, ℕ, zero, suc, ◌+◌, false, List, [], ◌∷◌, ◌++◌, drop, refl, sym, ap, ◌∙◌, arith}
use Rattle.std.proofs.Common.{append_assoc}
use Rattle.std.proofs.lemmas.Bool.{cond-true, cond-false}
use Rattle.std.proofs.lemmas.List.{append-nil}
use Rattle.pet_base.specs.declared.kind.Kind.TheVariants.{Head}
use Rattle.mpeg_scan.specs.declared.piece.Piece.{Piece}
use Rattle.mpeg_scan.specs.Pieces.{pieces_of}
use Rattle.layer_split.specs.Groups.{groups_of, groups_from, begins_group}
use Rattle.stream_sample.specs.SampleStream.{sample_text}
use Rattle.command_sample.specs.laws.PieceLaws.{Shape, group_shapes, piece, pieces_on, sample_pieces, shapes_of}

abbrev pub span : List Shape → ℕ
span [] = 0
span (x ∷ xs) = x.2 + span xs

pieces_append : (from : ℕ) (xs ys : List Shape)
    → pieces_on from (xs ++ ys) ≡ pieces_on from xs ++ pieces_on (from + span xs) ys
pieces_append from [] ys = ap (λ (n : ℕ). pieces_on n ys) (let e : from ≡ from + 0 = omega arith in e)
pieces_append from (x ∷ xs) ys =
    ap (λ (l : List Piece). piece x.0 x.1 from x.2 ∷ l)
    (pieces_append (from + x.2) xs ys
    ∙ ap (λ (n : ℕ). pieces_on (from + x.2) xs ++ pieces_on n ys)
    (let e : (from + x.2) + span xs ≡ from + (x.2 + span xs) = omega arith in e))

-- no piece of these begins a group behind those before it
abbrev NoneBegins : List Piece → List Piece → Type 0
NoneBegins current [] = Unit {0}
NoneBegins current (p ∷ ps) = (begins_group current p ≡ false) × NoneBegins (current ++ p ∷ []) ps

one_group : (current ps later : List Piece) → NoneBegins current ps
    → groups_from current (ps ++ later) ≡ groups_from (current ++ ps) later
one_group current [] later none =
    ap (λ (l : List Piece). groups_from l later) (sym (append-nil current))
one_group current (p ∷ ps) later none =
    cond-false (begins_group current p) (current ∷ groups_from (p ∷ []) (ps ++ later))
    (groups_from (current ++ p ∷ []) (ps ++ later)) none.0
    ∙ one_group (current ++ p ∷ []) ps later none.1
    ∙ ap (λ (l : List Piece). groups_from l later) (append_assoc current (p ∷ []) ps)

-- a group from this byte on: its first piece, and the others
abbrev first_piece : ℕ → Piece
first_piece from = piece Head 0xB3 from 12

abbrev other_pieces : ℕ → List Piece
other_pieces from = drop 1 (pieces_on from group_shapes)

abbrev pub group_from : ℕ → List Piece
group_from from = pieces_on from group_shapes

abbrev pub groups_on : ℕ → ℕ → List (List Piece)
groups_on from zero = []
groups_on from (suc groups) = group_from from ∷ groups_on (from + 71961) groups

others_stay : (from : ℕ) → NoneBegins (first_piece from ∷ []) (other_pieces from)
others_stay from =
    (refl, (refl, (refl, (refl, (refl, (refl, (refl, (refl, (refl, (refl, (refl, tt)))))))))))

group_more : (from groups : ℕ)
    → pieces_on from (shapes_of (suc groups))
    ≡ first_piece from ∷ (other_pieces from ++ pieces_on (from + 71961) (shapes_of groups))
unfolding shapes_of
group_more from groups = pieces_append from group_shapes (shapes_of groups)

later_groups : (a b groups : ℕ)
    → groups_from (group_from a) (pieces_on b (shapes_of groups)) ≡ group_from a ∷ groups_on b groups
unfolding shapes_of
later_groups a b zero = refl
later_groups a b (suc groups) =
    let later : List Piece = pieces_on (b + 71961) (shapes_of groups) in
    let rest : List Piece = other_pieces b ++ later in
    ap (groups_from (group_from a)) (group_more b groups)
    ∙ cond-true (begins_group (group_from a) (first_piece b))
    (group_from a ∷ groups_from (first_piece b ∷ []) rest)
    (groups_from (group_from a ++ first_piece b ∷ []) rest) refl
    ∙ ap (λ (l : List (List Piece)). group_from a ∷ l)
    (one_group (first_piece b ∷ []) (other_pieces b) later (others_stay b) ∙ later_groups b (b + 71961) groups)

pub sample_groups : (x groups : ℕ) → groups_of (pieces_of (sample_text x (suc groups))) ≡ groups_on 0 (suc groups)
sample_groups x groups =
    let later : List Piece = pieces_on (0 + 71961) (shapes_of groups) in
    ap groups_of (sample_pieces x groups ∙ group_more 0 groups)
    ∙ one_group (first_piece 0 ∷ []) (other_pieces 0) later (others_stay 0) ∙ later_groups 0 (0 + 71961) groups
