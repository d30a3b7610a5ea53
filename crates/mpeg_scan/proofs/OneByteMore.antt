-- A scanner that has read a stream reads one byte more.
use Rattle.std.proofs.Common.{◌≡◌, ◌≢◌, ℕ, suc, ◌+◌, ◌-◌, ◌/◌, ◌%◌, ◌<◌, ◌≤◌, true, false, List, [], ◌∷◌, ◌++◌, length}
use Rattle.std.proofs.Common.{cond, sym, ◌∙◌, ap, subst, arith, append_assoc, inl, inr}
use Rattle.std.specs.Prelude.{◌==◌}
use Rattle.std.specs.List.{filter, range_with_len}
use Rattle.std.proofs.lemmas.List.{length_push}
use Rattle.std.proofs.lemmas.Bool.{cond-true, cond-false, cases_lt, and_parts, and_from, eq-eqb, ne_eqb}
use Rattle.std.proofs.lemmas.Bool.{false_from_ne_true}
use Rattle.pet_base.specs.declared.kind.Kind.TheVariants.{Head}
use Rattle.mpeg_scan.specs.declared.piece.Piece.{Piece}
use Rattle.mpeg_scan.specs.declared.scanner.Scanner.{Scanner}
use Rattle.mpeg_scan.specs.StartCodes.{is_start_code, is_opener, is_opener_code, code_at}
use Rattle.mpeg_scan.specs.Refusals.{has_head}
use Rattle.mpeg_scan.specs.Pieces.{kind_at, kind_of_type, pieces_from, pieces_of}
use Rattle.mpeg_scan.specs.Scanning.{InPiece, openers_from}
use Rattle.mpeg_scan.specs.laws.OpenerLaws.{HasStartCode, stands, is_standing, stands_more, stands_less, code_more}
use Rattle.mpeg_scan.specs.laws.OpenerLaws.{apart, opener_more, opener_less, opener_within, kind_more}
use Rattle.mpeg_scan.proofs.NextByte.{AtCode, AtType, at_code_length, at_type_length, code_now, code_stands, code_is}
use Rattle.mpeg_scan.proofs.NextByte.{type_now, type_stands, type_is, longer}

pub push_more : (s : List ℕ) (x : ℕ) (rest : List ℕ) → (s ++ x ∷ []) ++ rest ≡ s ++ x ∷ rest
push_more s x rest = append_assoc s (x ∷ []) rest

-- the openers from a byte on
openers_at : (S : List ℕ) (k : ℕ) → k < length S
    → openers_from S k ≡ cond (is_opener S k) (k ∷ openers_from S (k + 1)) (openers_from S (k + 1))
unfolding openers_from
openers_at S k lt =
    ap (λ n. filter (is_opener S) (range_with_len k n))
    (let l : length S - k ≡ suc (length S - (k + 1)) = omega arith in l)

pub openers_skip : (S : List ℕ) (k : ℕ) → k < length S → is_opener S k ≡ false
    → openers_from S k ≡ openers_from S (k + 1)
openers_skip S k lt e = openers_at S k lt ∙ cond-false (is_opener S k) _ _ e

pub openers_next : (S : List ℕ) (k : ℕ) → k < length S → is_opener S k ≡ true
    → openers_from S k ≡ k ∷ openers_from S (k + 1)
openers_next S k lt e = openers_at S k lt ∙ cond-true (is_opener S k) _ _ e

-- an opener whose code is the byte x
abbrev pub OpensNow : List ℕ → ℕ → Type 0
OpensNow s x = AtCode s × (is_opener_code x ≡ true)

pub opener_now : (s : List ℕ) (x : ℕ) (rest : List ℕ) → OpensNow s x → is_opener (s ++ x ∷ rest) (length s - 3) ≡ true
opener_now s x rest h =
    let l = at_code_length s h.0 in
    and_from _ _ (is_standing (s ++ x ∷ rest) (length s - 3) (code_stands s x rest h.0))
    (ap is_opener_code (code_is s x rest (length s - 3) (omega arith)) ∙ h.1)

opens_now : (s : List ℕ) (x : ℕ) (rest : List ℕ) (p : ℕ) → p + 3 ≡ length s → is_opener (s ++ x ∷ rest) p ≡ true
    → OpensNow s x
opens_now s x rest p e h =
    let a = and_parts (is_start_code (s ++ x ∷ rest) p) _ h in
    (code_now s (x ∷ rest) p e (stands (s ++ x ∷ rest) p a.0), sym (ap is_opener_code (code_is s x rest p e)) ∙ a.1)

pub openers_none_now : (s : List ℕ) (x : ℕ) (rest : List ℕ) → (OpensNow s x → ⊥)
    → openers_from (s ++ x ∷ rest) (length s - 3) ≡ openers_from (s ++ x ∷ rest) (length (s ++ x ∷ []) - 3)
openers_none_now s x rest none =
    let e : length (s ++ x ∷ []) ≡ length s + 1 = length_push s x in
    elim (cases_lt (length s) 3) [
      | inl few ↦ ap (λ k. openers_from (s ++ x ∷ rest) k) (omega arith)
      | inr three ↦
          openers_skip (s ++ x ∷ rest) (length s - 3) (let l = longer s x rest in omega arith)
          (false_from_ne_true _ (λ is. none (opens_now s x rest (length s - 3) (omega arith) is)))
          ∙ ap (λ k. openers_from (s ++ x ∷ rest) k)
          (let k : (length s - 3) + 1 ≡ length (s ++ x ∷ []) - 3 = omega arith in k)
    ]

pub openers_one_now : (s : List ℕ) (x : ℕ) (rest : List ℕ) → OpensNow s x
    → openers_from (s ++ x ∷ rest) (length s - 3)
    ≡ (length s - 3) ∷ openers_from (s ++ x ∷ rest) (length (s ++ x ∷ []) - 3)
openers_one_now s x rest h =
    let e : length (s ++ x ∷ []) ≡ length s + 1 = length_push s x in
    let l = at_code_length s h.0 in
    openers_next (s ++ x ∷ rest) (length s - 3) (let lo = longer s x rest in omega arith) (opener_now s x rest h)
    ∙ ap (λ k. (length s - 3) ∷ openers_from (s ++ x ∷ rest) k)
    (let k : (length s - 3) + 1 ≡ length (s ++ x ∷ []) - 3 = omega arith in k)

pub kind_head : (s : List ℕ) (p : ℕ) → code_at s p ≢ 0 → kind_at s p ≡ Head
kind_head s p ne = cond-false (code_at s p == 0) _ _ (ne_eqb _ _ ne)

-- the last opener so far, where the next byte ends none
last_stays : (s : List ℕ) (x o : ℕ) → ((p : ℕ) → is_opener s p ≡ true → p ≤ o) → (OpensNow s x → ⊥) → (p : ℕ)
    → is_opener (s ++ x ∷ []) p ≡ true → p ≤ o
last_stays s x o last none p h =
    let e : length (s ++ x ∷ []) ≡ length s + 1 = length_push s x in
    let w = opener_within (s ++ x ∷ []) p h in
    elim (cases_lt (p + 3) (length s)) [
      | inl lt ↦ last p (opener_less s (x ∷ []) p lt h)
      | inr ge ↦ absurd (none (opens_now s x [] p (omega arith) h))
    ]

-- the pieces of the stream where the next byte ends no opener
pieces_stay : (s : List ℕ) (x o from : ℕ) (given : List Piece) (rest : List ℕ) → (OpensNow s x → ⊥)
    → pieces_of (s ++ x ∷ rest)
    ≡ given ++ pieces_from (s ++ x ∷ rest) o from (openers_from (s ++ x ∷ rest) (length s - 3))
    → pieces_of ((s ++ x ∷ []) ++ rest)
    ≡ given ++ pieces_from ((s ++ x ∷ []) ++ rest) o from
    (openers_from ((s ++ x ∷ []) ++ rest) (length (s ++ x ∷ []) - 3))
pieces_stay s x o from given rest none h =
    subst (λ S. pieces_of S ≡ given ++ pieces_from S o from (openers_from S (length (s ++ x ∷ []) - 3)))
    (sym (push_more s x rest))
    (h ∙ ap (λ os. given ++ pieces_from (s ++ x ∷ rest) o from os) (openers_none_now s x rest none))

-- In a piece, the byte ends no opener, and the kind is as before or now known.
pub piece_stays : (c d : Scanner) (s : List ℕ) (x : ℕ) (given : List Piece) (h : InPiece c s given)
    → (OpensNow s x → ⊥) → d.code ≡ c.code → d.from ≡ c.from
    → ((code_at s h.opener ≡ 0 → h.opener + 5 < length s + 1) → d.kind ≡ kind_at (s ++ x ∷ []) h.opener)
    → InPiece d (s ++ x ∷ []) given
piece_stays c d s x given h none code from kind =
    let w = opener_within s h.opener h.stands in
    let e : length (s ++ x ∷ []) ≡ length s + 1 = length_push s x in
    let same = code_more s (x ∷ []) h.opener w in
    record {
      opener = h.opener;
      stands = opener_more s (x ∷ []) h.opener h.stands;
      last = last_stays s x h.opener h.last none;
      code = code ∙ (h.code ∙ sym same);
      kind = λ known. kind (λ zero. let k = known (same ∙ zero) in omega arith);
      head = λ rest. subst (λ S. has_head S ≡ true) (sym (push_more s x rest)) (h.head (x ∷ rest));
      pieces = λ rest. subst (λ f. pieces_of ((s ++ x ∷ []) ++ rest)
          ≡ given ++ pieces_from ((s ++ x ∷ []) ++ rest) h.opener f
          (openers_from ((s ++ x ∷ []) ++ rest) (length (s ++ x ∷ []) - 3))) (sym from)
          (pieces_stay s x h.opener c.from given rest none (h.pieces (x ∷ rest)));
    }

-- the kind stays where no picture's type comes
pub same_kind : (c : Scanner) (s : List ℕ) (x : ℕ) (given : List Piece) (h : InPiece c s given) → (AtType s → ⊥)
    → (code_at s h.opener ≡ 0 → h.opener + 5 < length s + 1) → c.kind ≡ kind_at (s ++ x ∷ []) h.opener
same_kind c s x given h no_type known =
    let w = opener_within s h.opener h.stands in
    let st = stands s h.opener (and_parts (is_start_code s h.opener) _ h.stands).0 in
    let now : code_at s h.opener ≡ 0 → h.opener + 5 < length s = λ zero. elim (cases_lt (h.opener + 5) (length s)) [
      | inl lt ↦ lt
      | inr ge ↦ absurd (no_type (type_now s [] h.opener (let k = known zero in omega arith)
          (stands_more s [] h.opener st) (code_more s [] h.opener w ∙ zero)))
    ] in
    h.kind now ∙ sym (kind_more s (x ∷ []) h.opener w now)

-- and is that of the picture whose type comes
pub picture_kind : (c : Scanner) (s : List ℕ) (x : ℕ) (given : List Piece) (h : InPiece c s given) → AtType s
    → kind_of_type ((x / 8) % 8) ≡ kind_at (s ++ x ∷ []) h.opener
picture_kind c s x given h t =
    let l = at_type_length s t in
    let w = opener_within s h.opener h.stands in
    let st = stands s h.opener (and_parts (is_start_code s h.opener) _ h.stands).0 in
    let pic = type_stands s [] t in
    let ps : HasStartCode s (length s - 5) = stands_less s [] (length s - 5) (omega arith) pic.0 in
    let pc : code_at s (length s - 5) ≡ 0 = sym (code_more s [] (length s - 5) (omega arith)) ∙ pic.1 in
    let le : length s - 5
    ≤ h.opener = h.last (length s - 5) (and_from _ _ (is_standing s (length s - 5) ps) (ap is_opener_code pc)) in
    let at : h.opener ≡ length s - 5 = elim (cases_lt (length s - 5) h.opener) [
      | inl lt ↦ absurd (let far = apart s (length s - 5) h.opener ps st lt in omega arith)
      | inr ge ↦ omega arith
    ] in
    let code : code_at (s ++ x ∷ []) h.opener ≡ 0 = code_more s (x ∷ []) h.opener w ∙ (ap (code_at s) at ∙ pc) in
    sym (cond-true (code_at (s ++ x ∷ []) h.opener == 0) _ _ (eq-eqb _ _ code)
    ∙ ap kind_of_type (type_is s x [] h.opener (omega arith)))
