-- Pieces that stand on end, as those of a stream do: where they end, their bytes in the stream, and that each group of
-- a
-- stream is such pieces. This project's own.
use Rattle.std.proofs.Common.{◌≡◌, ℕ, ◌+◌, ◌-◌, ◌≤◌, List, [], ◌∷◌, ◌++◌, length, take, drop, refl, sym, ◌∙◌, ap, subst}
use Rattle.std.proofs.Common.{arith, inl, inr, take-add, length-drop, drop-drop}
use Rattle.std.specs.Prelude.{All}
use Rattle.std.proofs.lemmas.List.{drop-append-le, take-append-le}
use Rattle.std.proofs.lemmas.List.Elements.{All-nil}
use Rattle.mpeg_scan.specs.declared.piece.Piece.{Piece}
use Rattle.mpeg_scan.specs.Pieces.{StandOnEnd, pieces_of}
use Rattle.mpeg_scan.specs.laws.StandingLaws.{stand_le, pieces_stand}
use Rattle.layer_split.specs.laws.CutLaws.{StandsIn, pieces_grouped}
use Rattle.layer_split.specs.Groups.{groups_of}
use Rattle.stream_groups.specs.Cutting.{bytes_of_pieces, end_of}

pub stand_end : (a b : ℕ) (ps : List Piece) → StandOnEnd a ps b → b ≡ end_of a ps
stand_end a b [] h = sym h
stand_end a b (p ∷ ps) h = stand_end (a + p.len) b ps h.2

-- the later of them stand behind the earlier
pub stand_tail : (a b : ℕ) (xs ys : List Piece) → StandOnEnd a (xs ++ ys) b → StandOnEnd (end_of a xs) ys b
stand_tail a b [] ys h = h
stand_tail a b (x ∷ xs) ys h = stand_tail (a + x.len) b xs ys h.2

-- with one more
pub end_push : (a : ℕ) (xs : List Piece) (p : Piece) → end_of a (xs ++ p ∷ []) ≡ end_of a xs + p.len
end_push a [] p = refl
end_push a (x ∷ xs) p = end_push (a + x.len) xs p

-- their bytes are those of the stream from the first to the end of the last
pub stand_bytes : (s more : List ℕ) (a b : ℕ) (ps : List Piece) → StandOnEnd a ps b → b ≤ length s
    → bytes_of_pieces (s ++ more) ps ≡ take (b - a) (drop a s)
stand_bytes s more a b [] h le = ap (λ n. take n (drop a s)) (let e : 0 ≡ b - a = omega (arith, h) in e)
stand_bytes s more a b (p ∷ ps) h le =
    let far = stand_le (a + p.len) b ps h.2 in
    let at : p.at ≡ a = h.0 in
    let room : p.len ≤ length (drop a s) = omega (arith, length-drop a s) in
    let one : take p.len (drop p.at (s ++ more)) ≡ take p.len (drop a s) =
    ap (λ n. take p.len (drop n (s ++ more))) at
    ∙ (ap (take p.len) (drop-append-le a s more (omega arith)) ∙ take-append-le p.len (drop a s) more room) in
    ap (λ l. l ++ bytes_of_pieces (s ++ more) ps) one
    ∙ (ap (λ l. take p.len (drop a s) ++ l) (stand_bytes s more (a + p.len) b ps h.2 le)
    ∙ (ap (λ l. take p.len (drop a s) ++ take (b - (a + p.len)) l) (sym (drop-drop p.len a s))
    ∙ (sym (take-add p.len (b - (a + p.len)) (drop a s))
    ∙ ap (λ n. take n (drop a s)) (let e : p.len + (b - (a + p.len)) ≡ b - a = omega arith in e))))

-- each group of a stream is such pieces
pub groups_stand : (s : List ℕ) → All (StandsIn (length s)) (groups_of (pieces_of s))
groups_stand s = elim (pieces_stand s) [
  | inl none ↦ subst (λ ps. All (StandsIn (length s)) (groups_of ps)) (sym none) (All-nil (StandsIn (length s)))
  | inr h ↦ pieces_grouped 0 (length s) (pieces_of s) h
]
