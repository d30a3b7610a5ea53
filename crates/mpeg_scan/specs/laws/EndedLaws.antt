-- What callers know of the pieces that have ended: a scanner gives them, and they stay as the stream goes on. This
-- project's own.
use Rattle.std.proofs.Common.{◌≡◌, ℕ, zero, suc, ◌+◌, ◌-◌, ◌<◌, true, List, [], ◌∷◌, ◌++◌, length, refl, sym, ◌∙◌, ap}
use Rattle.std.proofs.Common.{subst, arith, length-append, append_assoc, inl, inr}
use Rattle.std.specs.List.{filter, range_with_len}
use Rattle.std.proofs.lemmas.List.{append-nil}
use Rattle.std.proofs.lemmas.Bool.{cond-true, cond-false, cases_Bool, cases_lt, and_parts, false_from_ne_true}
use Rattle.std.proofs.lemmas.Bool.{both_ways, MatchBool-at_true, MatchBool-at_false}
use Rattle.mpeg_scan.specs.declared.piece.Piece.{Piece}
use Rattle.mpeg_scan.specs.declared.scanner.Scanner.{Scanner}
use Rattle.mpeg_scan.specs.StartCodes.{is_start_code, is_opener, code_at}
use Rattle.mpeg_scan.specs.Pieces.{openers, kind_at, piece_of, pieces_from, pieces_at, pieces_of, ended_pieces}
use Rattle.mpeg_scan.specs.Pieces.{but_last}
use Rattle.mpeg_scan.specs.Scanning.{HasRead, InPiece, InFront, openers_from}
use Rattle.mpeg_scan.specs.laws.OpenerLaws.{stands, code_more, apart, opener_more, opener_less, opener_within}
use Rattle.mpeg_scan.specs.laws.OpenerLaws.{kind_more, last_openers, none_after}

pub but_last_push : {A : Type 0} (xs : List A) (x : A) → but_last (xs ++ x ∷ []) ≡ xs
but_last_push [] x = refl
but_last_push (y ∷ []) x = refl
but_last_push (y ∷ z ∷ zs) x = ap (λ l. y ∷ l) (but_last_push (z ∷ zs) x)

-- what a scanner has given that stands in a piece, or before the first opener
piece_ended : (s : List ℕ) (given : List Piece) (o from : ℕ)
    → pieces_of s ≡ given ++ pieces_from s o from (openers_from s (length s - 3)) → given ≡ ended_pieces s
piece_ended s given o from e =
    sym (ap but_last (e ∙ ap (λ os. given ++ pieces_from s o from os) (none_after s))
    ∙ but_last_push given (piece_of s o from (length s)))

front_ended : (s : List ℕ) → openers s ≡ openers_from s (length s - 3) → [] ≡ ended_pieces s
front_ended s e = sym (ap (λ os. but_last (pieces_at s os)) (e ∙ none_after s))

-- what was given of what was read
pub read_ended : (scanner : Scanner) (stream : List ℕ) (given : List Piece) → HasRead scanner stream given
    → given ≡ ended_pieces stream
read_ended scanner stream given h =
    elim (cases_Bool scanner.opened) [
      | inl opened ↦
          let p = MatchBool-at_true (InPiece scanner stream given) (InFront scanner stream given) opened h.place in
          piece_ended stream given p.opener scanner.from
          (subst (λ S. pieces_of S ≡ given ++ pieces_from S p.opener scanner.from (openers_from S (length stream - 3)))
          (append-nil stream) (p.pieces []))
      | inr closed ↦
          let f = MatchBool-at_false (InPiece scanner stream given) (InFront scanner stream given) closed h.place in
          f.none_given
          ∙ front_ended stream
          (subst (λ S. openers S ≡ openers_from S (length stream - 3)) (append-nil stream) (f.openers []))
    ]

-- the openers of a longer stream begin with those of the shorter
openers_grow : (s t : List ℕ) (k n m : ℕ) → k + n ≡ length s → k + m ≡ length (s ++ t)
    → (later : List ℕ)
    × (filter (is_opener (s ++ t)) (range_with_len k m) ≡ filter (is_opener s) (range_with_len k n) ++ later)
openers_grow s t k zero m short long = (filter (is_opener (s ++ t)) (range_with_len k m), refl)
openers_grow s t k (suc n) zero short long = absurd (omega (arith, length-append s t))
openers_grow s t k (suc n) (suc m) short long =
    let S : List ℕ = s ++ t in
    let old : List ℕ = filter (is_opener s) (range_with_len (k + 1) n) in
    let new : List ℕ = filter (is_opener S) (range_with_len (k + 1) m) in
    let next = openers_grow s t (k + 1) n m (omega arith) (omega arith) in
    elim (cases_Bool (is_opener s k)) [
      | inl opens ↦ (
        next.0,
        cond-true (is_opener S k) (k ∷ new) new (opener_more s t k opens)
            ∙ (ap (λ l. k ∷ l) next.1 ∙ ap (λ l. l ++ next.0) (sym (cond-true (is_opener s k) (k ∷ old) old opens))),
      )
      | inr other ↦ elim (cases_lt (k + 3) (length s)) [
        | inl within ↦ (
          next.0,
          cond-false (is_opener S k) (k ∷ new) new
              (false_from_ne_true _ (λ is. both_ways _ other (opener_less s t k within is)))
              ∙ (next.1 ∙ ap (λ l. l ++ next.0) (sym (cond-false (is_opener s k) (k ∷ old) old other))),
        )
        | inr past ↦ (
          filter (is_opener S) (range_with_len k (suc m)),
          ap (λ l. l ++ filter (is_opener S) (range_with_len k (suc m))) (sym (last_openers s k (suc n) past)),
        )
      ]
    ]

-- A piece that has ended stays: the next opener stands at least 3 bytes behind its own, so its type was read.
piece_stays : (s t : List ℕ) (p from q : ℕ) → is_opener s p ≡ true → is_opener s q ≡ true → p < q
    → piece_of (s ++ t) p from q ≡ piece_of s p from q
piece_stays s t p from q h k lt =
    let w = opener_within s q k in
    let far = apart s p q (stands s p (and_parts (is_start_code s p) _ h).0)
    (stands s q (and_parts (is_start_code s q) _ k).0) lt in
    ap (λ c. record { kind = kind_at (s ++ t) p; code = c; at = from; len = q - from }) (code_more s t p (omega arith))
    ∙ ap (λ c. record { kind = c; code = code_at s p; at = from; len = q - from })
    (kind_more s t p (omega arith) (λ _. omega arith))

but_last_from : (s : List ℕ) (p from : ℕ) (os : List ℕ) (x : Piece)
    → but_last (x ∷ pieces_from s p from os) ≡ x ∷ but_last (pieces_from s p from os)
but_last_from s p from [] x = refl
but_last_from s p from (o ∷ os) x = refl

from_grow : (s t new : List ℕ) (p from k n : ℕ) → is_opener s p ≡ true → p < k
    → (later : List Piece)
    × (but_last (pieces_from (s ++ t) p from (filter (is_opener s) (range_with_len k n) ++ new))
    ≡ but_last (pieces_from s p from (filter (is_opener s) (range_with_len k n))) ++ later)
from_grow s t new p from k zero h lt = (but_last (pieces_from (s ++ t) p from new), refl)
from_grow s t new p from k (suc n) h lt =
    let next : List ℕ = filter (is_opener s) (range_with_len (k + 1) n) in
    elim (cases_Bool (is_opener s k)) [
      | inl opens ↦
          let l = from_grow s t new k k (k + 1) n opens (omega arith) in
          subst (λ os. (later : List Piece)
          × (but_last (pieces_from (s ++ t) p from (os ++ new)) ≡ but_last (pieces_from s p from os) ++ later))
          (sym (cond-true (is_opener s k) (k ∷ next) next opens)) (
            l.0,
            but_last_from (s ++ t) k k (next ++ new) (piece_of (s ++ t) p from k)
                ∙ (ap (λ x. x ∷ but_last (pieces_from (s ++ t) k k (next ++ new))) (piece_stays s t p from k h opens lt)
                ∙ (ap (λ ps. piece_of s p from k ∷ ps) l.1
                ∙ ap (λ ps. ps ++ l.0) (sym (but_last_from s k k next (piece_of s p from k))))),
          )
      | inr other ↦
          subst (λ os. (later : List Piece)
          × (but_last (pieces_from (s ++ t) p from (os ++ new)) ≡ but_last (pieces_from s p from os) ++ later))
          (sym (cond-false (is_opener s k) (k ∷ next) next other))
          (from_grow s t new p from (k + 1) n h (omega arith))
    ]

at_grow : (s t new : List ℕ) (k n : ℕ)
    → (later : List Piece)
    × (but_last (pieces_at (s ++ t) (filter (is_opener s) (range_with_len k n) ++ new))
    ≡ but_last (pieces_at s (filter (is_opener s) (range_with_len k n))) ++ later)
at_grow s t new k zero = (but_last (pieces_at (s ++ t) new), refl)
at_grow s t new k (suc n) =
    let next : List ℕ = filter (is_opener s) (range_with_len (k + 1) n) in
    elim (cases_Bool (is_opener s k)) [
      | inl opens ↦
          subst (λ os. (later : List Piece)
          × (but_last (pieces_at (s ++ t) (os ++ new)) ≡ but_last (pieces_at s os) ++ later))
          (sym (cond-true (is_opener s k) (k ∷ next) next opens))
          (from_grow s t new k 0 (k + 1) n opens (omega arith))
      | inr other ↦
          subst (λ os. (later : List Piece)
          × (but_last (pieces_at (s ++ t) (os ++ new)) ≡ but_last (pieces_at s os) ++ later))
          (sym (cond-false (is_opener s k) (k ∷ next) next other))
          (at_grow s t new (k + 1) n)
    ]

-- they are the first of those that have ended later
pub ended_grow : (stream more : List ℕ)
    → (later : List Piece) × (ended_pieces (stream ++ more) ≡ ended_pieces stream ++ later)
ended_grow stream more =
    let o = openers_grow stream more 0 (length stream) (length (stream ++ more)) (omega arith) (omega arith) in
    subst (λ os. (later : List Piece) × (but_last (pieces_at (stream ++ more) os) ≡ ended_pieces stream ++ later))
    (sym o.1) (at_grow stream more o.0 0 (length stream))

ended_front : (ps : List Piece) → (later : List Piece) × (ps ≡ but_last ps ++ later)
ended_front [] = ([], refl)
ended_front (p ∷ []) = (p ∷ [], refl)
ended_front (p ∷ q ∷ ps) = let l = ended_front (q ∷ ps) in (l.0, ap (λ l. p ∷ l) l.1)

-- and the first pieces of the stream, however it goes on
pub ended_stay : (stream rest : List ℕ)
    → (later : List Piece) × (pieces_of (stream ++ rest) ≡ ended_pieces stream ++ later)
ended_stay stream rest =
    let g = ended_grow stream rest in
    let f = ended_front (pieces_of (stream ++ rest)) in
    (g.0 ++ f.0, f.1 ∙ (ap (λ ps. ps ++ f.0) g.1 ∙ append_assoc (ended_pieces stream) g.0 f.0))
