-- A portion that is read from its front on, and what has been given of the stream.
use Rattle.std.proofs.Common.{◌≡◌, ℕ, ◌+◌, ◌-◌, ◌<◌, Bool, true, false, List, [], ◌∷◌, ◌++◌, length, take, drop, get_or}
use Rattle.std.proofs.Common.{refl, sym, ◌∙◌, ap, subst, append_assoc, arith, length-append}
use Rattle.std.proofs.Math.Seq.{take-add}
use Rattle.std.proofs.lemmas.List.{drop_more, take-append-drop, append-nil, take_rest, length-drop, length-take}
use Rattle.mpeg_scan.specs.declared.piece.Piece.{Piece}
use Rattle.mpeg_scan.specs.declared.scanner.Scanner.{Scanner}
use Rattle.mpeg_scan.specs.Pieces.{pieces_of, pieces_from}
use Rattle.mpeg_scan.specs.Scanning.{HasRead, IsFrontOf, openers_from}
use Rattle.mpeg_scan.proofs.Reading.{in_piece, in_front}
use Rattle.mpeg_scan.proofs.Standing.{given_stand}

-- a portion, cut behind its first bytes, and behind the byte that comes next
pub whole_here : (s portion : List ℕ) (i : ℕ) → (s ++ take i portion) ++ drop i portion ≡ s ++ portion
whole_here s portion i =
    append_assoc s (take i portion) (drop i portion) ∙ ap (λ l. s ++ l) (take-append-drop i portion)

pub whole_at : (s portion rest : List ℕ) (i : ℕ)
    → (s ++ take i portion) ++ (drop i portion ++ rest) ≡ (s ++ portion) ++ rest
whole_at s portion rest i =
    sym (append_assoc (s ++ take i portion) (drop i portion) rest) ∙ ap (λ l. l ++ rest) (whole_here s portion i)

pub cut_here : (s portion : List ℕ) (i : ℕ) → i < length portion
    → ((s ++ take i portion) ++ get_or portion i 0 ∷ []) ++ drop (i + 1) portion ≡ s ++ portion
cut_here s portion i lt =
    append_assoc (s ++ take i portion) (get_or portion i 0 ∷ []) (drop (i + 1) portion)
    ∙ (ap (λ l. (s ++ take i portion) ++ l) (sym (drop_more portion i 0 lt)) ∙ whole_here s portion i)

pub cut_at : (s portion rest : List ℕ) (i : ℕ) → i < length portion
    → (s ++ take i portion) ++ (get_or portion i 0 ∷ (drop (i + 1) portion ++ rest)) ≡ (s ++ portion) ++ rest
cut_at s portion rest i lt =
    ap (λ l. (s ++ take i portion) ++ (l ++ rest)) (sym (drop_more portion i 0 lt)) ∙ whole_at s portion rest i

pub first_here : (s portion : List ℕ) → 0 < length portion
    → (s ++ get_or portion 0 0 ∷ []) ++ drop 1 portion ≡ s ++ portion
first_here s portion lt =
    ap (λ l. (l ++ get_or portion 0 0 ∷ []) ++ drop 1 portion) (sym (append-nil s)) ∙ cut_here s portion 0 lt

pub first_at : (s portion rest : List ℕ) → 0 < length portion
    → s ++ (get_or portion 0 0 ∷ (drop 1 portion ++ rest)) ≡ (s ++ portion) ++ rest
first_at s portion rest lt =
    ap (λ l. l ++ (get_or portion 0 0 ∷ (drop 1 portion ++ rest))) (sym (append-nil s)) ∙ cut_at s portion rest 0 lt

pub further : (s portion : List ℕ) (i n : ℕ)
    → (s ++ take i portion) ++ take n (drop i portion) ≡ s ++ take (i + n) portion
further s portion i n =
    append_assoc s (take i portion) (take n (drop i portion)) ∙ ap (λ l. s ++ l) (sym (take-add i n portion))

-- the same where the slice from i on is written as `&portion[i..]` reads it
pub slice_here : (s portion : List ℕ) (i : ℕ)
    → (s ++ take i portion) ++ take (length portion - i) (drop i portion) ≡ s ++ portion
slice_here s portion i = ap (λ l. (s ++ take i portion) ++ l) (take_rest portion i) ∙ whole_here s portion i

pub slice_further : (s portion : List ℕ) (i n : ℕ)
    → (s ++ take i portion) ++ take n (take (length portion - i) (drop i portion)) ≡ s ++ take (i + n) portion
slice_further s portion i n = ap (λ l. (s ++ take i portion) ++ take n l) (take_rest portion i) ∙ further s portion i n

pub slice_length : (portion : List ℕ) (i : ℕ) → length (take (length portion - i) (drop i portion)) ≡ length portion - i
slice_length portion i = ap length (take_rest portion i) ∙ length-drop i portion

later_of : (c : Scanner) (s : List ℕ) (given : List Piece) → HasRead c s given → (rest : List ℕ) (o : Bool)
    → c.opened ≡ o → (later : List Piece) × (pieces_of (s ++ rest) ≡ given ++ later)
later_of c s given r rest true o =
    let h = in_piece c s given r o in
    (pieces_from (s ++ rest) h.opener c.from (openers_from (s ++ rest) (length s - 3)), h.pieces rest)
later_of c s given r rest false o =
    let h = in_front c s given r o in (pieces_of (s ++ rest), ap (λ g. g ++ pieces_of (s ++ rest)) (sym h.none_given))

-- what has been given of the front of a portion is given of the whole
pub front_at : (c : Scanner) (s portion : List ℕ) (i : ℕ) (given : List Piece) → HasRead c (s ++ take i portion) given
    → IsFrontOf (s ++ portion) given
front_at c s portion i given r =
    let S : List ℕ = s ++ take i portion in
    let none = later_of c S given r [] c.opened refl in
    let st = given_stand S given none.0 (ap pieces_of (sym (append-nil S)) ∙ none.1) in
    let short = r.bounded in
    let le = st.2 in
    record {
      front = λ rest.
          subst (λ w. (later : List Piece) × (pieces_of w ≡ given ++ later)) (whole_at s portion rest i)
          (later_of c S given r (drop i portion ++ rest) c.opened refl);
      end = st.0;
      stand = st.1;
      within = omega (arith, length-append s (take i portion), length-append s portion, length-take i portion);
      bounded = omega arith;
    }
