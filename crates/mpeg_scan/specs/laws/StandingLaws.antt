-- What callers know of pieces that stand on end: those of a stream do, from its first byte to its last. This project's
-- own.
use Rattle.std.proofs.Common.{◌≡◌, ℕ, zero, suc, ◌+◌, ◌-◌, ◌<◌, ◌≤◌, List, [], ◌∷◌, ◌++◌, length, refl, sym, ◌∙◌, ap}
use Rattle.std.proofs.Common.{subst, arith, ◌⊎◌, inl, inr}
use Rattle.std.specs.List.{filter, range_with_len}
use Rattle.std.proofs.lemmas.Bool.{cond-true, cond-false, cases_Bool}
use Rattle.mpeg_scan.specs.declared.piece.Piece.{Piece}
use Rattle.mpeg_scan.specs.StartCodes.{is_opener}
use Rattle.mpeg_scan.specs.Pieces.{pieces_of, pieces_at, pieces_from, StandOnEnd}

pub stand_le : (a b : ℕ) (ps : List Piece) → StandOnEnd a ps b → a ≤ b
stand_le a b [] h = omega (arith, h)
stand_le a b (p ∷ ps) h = let le = stand_le (a + p.len) b ps h.2 in omega arith

-- with one more
pub stand_push : (a b : ℕ) (ps : List Piece) (p : Piece) → StandOnEnd a ps b → p.at ≡ b → 0 < p.len
    → StandOnEnd a (ps ++ p ∷ []) (b + p.len)
stand_push a b [] p h e lt = (e ∙ sym h, lt, ap (λ n. n + p.len) h)
stand_push a b (q ∷ ps) p h e lt = (h.0, h.1, stand_push (a + q.len) b ps p h.2 e lt)

from_stand : (s : List ℕ) (p from k n : ℕ) → from ≤ p → p < k → p < length s → k + n ≤ length s
    → StandOnEnd from (pieces_from s p from (filter (is_opener s) (range_with_len k n))) (length s)
from_stand s p from k zero le lt within fits = (refl, omega arith, omega arith)
from_stand s p from k (suc n) le lt within fits =
    let next : List ℕ = filter (is_opener s) (range_with_len (k + 1) n) in
    elim (cases_Bool (is_opener s k)) [
      | inl opens ↦
          subst (λ os. StandOnEnd from (pieces_from s p from os) (length s))
          (sym (cond-true (is_opener s k) (k ∷ next) next opens)) (
            refl,
            omega arith,
            subst (λ b. StandOnEnd b (pieces_from s k k next) (length s))
                (let e : k ≡ from + (k - from) = omega arith in e)
                (from_stand s k k (k + 1) n (omega arith) (omega arith) (omega arith) (omega arith)),
          )
      | inr other ↦
          subst (λ os. StandOnEnd from (pieces_from s p from os) (length s))
          (sym (cond-false (is_opener s k) (k ∷ next) next other))
          (from_stand s p from (k + 1) n le (omega arith) within (omega arith))
    ]

at_stand : (s : List ℕ) (k n : ℕ) → k + n ≤ length s
    → (pieces_at s (filter (is_opener s) (range_with_len k n)) ≡ [])
    ⊎ StandOnEnd 0 (pieces_at s (filter (is_opener s) (range_with_len k n))) (length s)
at_stand s k zero fits = inl refl
at_stand s k (suc n) fits =
    let next : List ℕ = filter (is_opener s) (range_with_len (k + 1) n) in
    elim (cases_Bool (is_opener s k)) [
      | inl opens ↦
          inr (subst (λ os. StandOnEnd 0 (pieces_at s os) (length s))
          (sym (cond-true (is_opener s k) (k ∷ next) next opens))
          (from_stand s k 0 (k + 1) n (omega arith) (omega arith) (omega arith) (omega arith)))
      | inr other ↦
          subst (λ os. (pieces_at s os ≡ []) ⊎ StandOnEnd 0 (pieces_at s os) (length s))
          (sym (cond-false (is_opener s k) (k ∷ next) next other))
          (at_stand s (k + 1) n (omega arith))
    ]

pub pieces_stand : (s : List ℕ) → (pieces_of s ≡ []) ⊎ StandOnEnd 0 (pieces_of s) (length s)
pieces_stand s = at_stand s 0 (length s) (omega arith)
