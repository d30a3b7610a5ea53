-- The first pieces of a stream stand on end, and all of them where there are some.
use Rattle.std.proofs.Common.{◌≡◌, ℕ, ◌+◌, ◌≤◌, List, [], ◌∷◌, length, refl, sym, subst, arith, inl, inr, ◌++◌, ◌∙◌}
use Rattle.mpeg_scan.specs.declared.piece.Piece.{Piece}
use Rattle.mpeg_scan.specs.Pieces.{pieces_of, StandOnEnd}
use Rattle.mpeg_scan.specs.laws.StandingLaws.{stand_le, pieces_stand}

stand_front : (a b : ℕ) (xs ys : List Piece) → StandOnEnd a (xs ++ ys) b → (end : ℕ) × StandOnEnd a xs end × (end ≤ b)
stand_front a b [] ys h = (a, refl, stand_le a b ys h)
stand_front a b (x ∷ xs) ys h = let t = stand_front (a + x.len) b xs ys h.2 in (t.0, (h.0, h.1, t.1), t.2)

nil_front : (xs ys : List Piece) → xs ++ ys ≡ [] → xs ≡ []
nil_front [] ys e = refl
nil_front (x ∷ xs) ys e = cc

pub given_stand : (s : List ℕ) (given later : List Piece) → pieces_of s ≡ given ++ later
    → (end : ℕ) × StandOnEnd 0 given end × (end ≤ length s)
given_stand s given later e = elim (pieces_stand s) [
  | inl none ↦ (0, subst (λ g. StandOnEnd 0 g 0) (sym (nil_front given later (sym e ∙ none))) refl, omega arith)
  | inr h ↦ stand_front 0 (length s) given later (subst (λ ps. StandOnEnd 0 ps (length s)) e h)
]

push_not_nil : (xs : List Piece) (x : Piece) → xs ++ x ∷ [] ≡ [] → ⊥
push_not_nil [] x e = cc
push_not_nil (y ∷ ys) x e = cc

pub all_stand : (s : List ℕ) (given : List Piece) (last : Piece) → given ++ last ∷ [] ≡ pieces_of s
    → StandOnEnd 0 (pieces_of s) (length s)
all_stand s given last e = elim (pieces_stand s) [ inl none ↦ absurd (push_not_nil given last (e ∙ none)) | inr h ↦ h ]
