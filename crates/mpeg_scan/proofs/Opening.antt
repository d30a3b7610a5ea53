-- A byte that ends an opener's code, and a byte before the first opener.
use Rattle.std.proofs.Common.{◌≡◌, ℕ, ◌+◌, ◌-◌, ◌<◌, ◌≤◌, true, List, [], ◌∷◌, ◌++◌, length, replicate, sym, ◌∙◌, ap}
use Rattle.std.proofs.Common.{subst, arith, append_assoc, inl, inr}
use Rattle.std.specs.Prelude.{None, ◌==◌}
use Rattle.std.specs.Bool.{MatchBool}
use Rattle.std.proofs.lemmas.List.{length_push, replicate_more}
use Rattle.std.proofs.lemmas.Bool.{cases_eq, cases_lt, cases_Bool, and_parts, or_cases, or_left, eqb-true, true≢false}
use Rattle.pet_base.specs.declared.kind.Kind.TheVariants.{Head}
use Rattle.mpeg_scan.specs.declared.piece.Piece.{Piece}
use Rattle.mpeg_scan.specs.declared.scanner.Scanner.{Scanner}
use Rattle.mpeg_scan.specs.declared.refusal.Scan.TheVariants.{NoHead, System}
use Rattle.mpeg_scan.specs.StartCodes.{is_start_code, is_opener, is_opener_code, is_head_code, code_at}
use Rattle.mpeg_scan.specs.Refusals.{has_head, holds, decided_at}
use Rattle.mpeg_scan.specs.Pieces.{openers, kind_at, piece_of, pieces_from, pieces_at, pieces_of}
use Rattle.mpeg_scan.specs.Scanning.{HasRead, InPiece, InFront, IsFront, openers_from}
use Rattle.mpeg_scan.specs.inside.Moves.{Decides, Advances}
use Rattle.mpeg_scan.specs.laws.OpenerLaws.{stands, stands_more, code_more, apart, opener_within, kind_more}
use Rattle.mpeg_scan.proofs.LastBytes.{back_one, back_more}
use Rattle.mpeg_scan.proofs.NextByte.{AtCode, at_code_length, code_stands, code_is, system_holds}
use Rattle.mpeg_scan.proofs.LeadingZeros.{AllZero, ZerosOne, all_zero_no_code, zeros_one_code, has_head_one}
use Rattle.mpeg_scan.proofs.LeadingZeros.{no_head_holds_zero, no_head_holds_one}
use Rattle.mpeg_scan.proofs.OneByteMore.{push_more, OpensNow, opener_now, openers_none_now, openers_one_now, kind_head}

opener_code_below : (x : ℕ) → is_opener_code x ≡ true → x < 0xB9
opener_code_below x h =
    elim (or_cases (x == 0) _ h) [
      | inl e ↦ (let k = eqb-true x 0 e in omega arith)
      | inr h1 ↦ elim (or_cases (x == 0xB3) _ h1) [
        | inl e ↦ (let k = eqb-true x 0xB3 e in omega arith)
        | inr h2 ↦ elim (or_cases (x == 0xB7) _ h2) [
          | inl e ↦ (let k = eqb-true x 0xB7 e in omega arith)
          | inr e ↦ (let k = eqb-true x 0xB8 e in omega arith)
        ]
      ]
    ]

-- the new opener is the last, and its kind is known unless it is a picture's
last_new : (s : List ℕ) (x p : ℕ) → is_opener (s ++ x ∷ []) p ≡ true → p ≤ length s - 3
last_new s x p h =
    let e : length (s ++ x ∷ []) ≡ length s + 1 = length_push s x in
    let w = opener_within (s ++ x ∷ []) p h in
    omega arith

kind_new : (s : List ℕ) (x : ℕ) → AtCode s
    → (code_at (s ++ x ∷ []) (length s - 3) ≡ 0 → (length s - 3) + 5 < length (s ++ x ∷ []))
    → Head ≡ kind_at (s ++ x ∷ []) (length s - 3)
kind_new s x h known =
    let e : length (s ++ x ∷ []) ≡ length s + 1 = length_push s x in
    let l = at_code_length s h in
    sym (kind_head (s ++ x ∷ []) (length s - 3) (λ zero. let k = known zero in omega arith))

code_new : (s : List ℕ) (x : ℕ) → AtCode s → x ≡ code_at (s ++ x ∷ []) (length s - 3)
code_new s x h = let l = at_code_length s h in sym (code_is s x [] (length s - 3) (omega arith))

-- the first opener
first_head : (s : List ℕ) (x : ℕ) → IsFront s → OpensNow s x → Decides s x None → ZerosOne s × (is_head_code x ≡ true)
first_head s x (inl z) h d = absurd (all_zero_no_code s z h.0)
first_head s x (inr o) h d = (
  o,
  elim (cases_Bool (is_head_code x)) [
    | inl is ↦ is
    | inr other ↦ absurd
        (let k = no_head_holds_one s x [] o other (opener_code_below x h.1) in d.1 [] (NoHead (length s - 1)) k.0 k.1)
  ],
)

pub piece_begins : (c d : Scanner) (s : List ℕ) (x : ℕ) (given : List Piece) (h : InFront c s given) → OpensNow s x
    → Decides s x None → d.code ≡ x → d.from ≡ c.from → d.kind ≡ Head → InPiece d (s ++ x ∷ []) given
piece_begins c d s x given h now decides code from kind =
    let first = first_head s x h.front now decides in
    let p : ℕ = length s - 3 in
    record {
      opener = p;
      stands = opener_now s x [] now;
      last = last_new s x;
      code = code ∙ code_new s x now.0;
      kind = λ known. kind ∙ kind_new s x now.0 known;
      head = λ rest. subst (λ S. has_head S ≡ true) (sym (push_more s x rest))
          (has_head_one s x rest first.0 ∙ or_left _ _ first.1);
      pieces = λ rest.
          subst (λ S. pieces_of S ≡ given ++ pieces_from S p d.from (openers_from S (length (s ++ x ∷ []) - 3)))
          (sym (push_more s x rest))
          (ap (pieces_at (s ++ x ∷ rest)) (h.openers (x ∷ rest) ∙ openers_one_now s x rest now)
          ∙ (ap (λ f. pieces_from (s ++ x ∷ rest) p f (openers_from (s ++ x ∷ rest) (length (s ++ x ∷ []) - 3)))
          (sym (from ∙ h.from))
          ∙ ap (λ g. g
          ++ pieces_from (s ++ x ∷ rest) p d.from (openers_from (s ++ x ∷ rest) (length (s ++ x ∷ []) - 3)))
          (sym h.none_given)));
    }

-- the piece that ends
abbrev pub ended : Scanner → ℕ → Piece
ended c to = record { kind = c.kind; code = c.code; at = c.from; len = to - c.from }

is_ended : (c : Scanner) (s : List ℕ) (x : ℕ) (given : List Piece) (h : InPiece c s given) (rest : List ℕ)
    → OpensNow s x → piece_of (s ++ x ∷ rest) h.opener c.from (length s - 3) ≡ ended c (length s - 3)
is_ended c s x given h rest now =
    let w = opener_within s h.opener h.stands in
    let l = at_code_length s now.0 in
    let st = stands s h.opener (and_parts (is_start_code s h.opener) _ h.stands).0 in
    let far : h.opener + 3 ≤ length s - 3 =
    apart (s ++ x ∷ rest) h.opener (length s - 3) (stands_more s (x ∷ rest) h.opener st) (code_stands s x rest now.0)
    (omega arith) in
    let known : code_at s h.opener ≡ 0 → h.opener + 5 < length s = λ _. omega arith in
    let code : code_at (s ++ x ∷ rest) h.opener ≡ c.code = code_more s (x ∷ rest) h.opener w ∙ sym h.code in
    let kind : kind_at (s ++ x ∷ rest) h.opener ≡ c.kind =
    kind_more s (x ∷ rest) h.opener w known ∙ sym (h.kind known) in
    ap (λ k. record { kind = k; code = code_at (s ++ x ∷ rest) h.opener; at = c.from; len = (length s - 3) - c.from })
    kind
    ∙ ap (λ k. record { kind = c.kind; code = k; at = c.from; len = (length s - 3) - c.from }) code

pub piece_follows : (c d : Scanner) (s : List ℕ) (x : ℕ) (given : List Piece) (h : InPiece c s given) → OpensNow s x
    → d.code ≡ x → d.from ≡ length s - 3 → d.kind ≡ Head
    → InPiece d (s ++ x ∷ []) (given ++ ended c (length s - 3) ∷ [])
piece_follows c d s x given h now code from kind =
    let p : ℕ = length s - 3 in
    record {
      opener = p;
      stands = opener_now s x [] now;
      last = last_new s x;
      code = code ∙ code_new s x now.0;
      kind = λ known. kind ∙ kind_new s x now.0 known;
      head = λ rest. subst (λ S. has_head S ≡ true) (sym (push_more s x rest)) (h.head (x ∷ rest));
      pieces = λ rest.
          subst (λ S. pieces_of S
          ≡ (given ++ ended c p ∷ []) ++ pieces_from S p d.from (openers_from S (length (s ++ x ∷ []) - 3)))
          (sym (push_more s x rest))
          (h.pieces (x ∷ rest)
          ∙ (ap (λ os. given ++ pieces_from (s ++ x ∷ rest) h.opener c.from os) (openers_one_now s x rest now)
          ∙ (ap (λ e. given
          ++ (e ∷ pieces_from (s ++ x ∷ rest) p p (openers_from (s ++ x ∷ rest) (length (s ++ x ∷ []) - 3))))
          (is_ended c s x given h rest now)
          ∙ (ap (λ f. given
          ++ (ended c p ∷ pieces_from (s ++ x ∷ rest) p f (openers_from (s ++ x ∷ rest) (length (s ++ x ∷ []) - 3))))
          (sym from)
          ∙ sym (append_assoc given (ended c p ∷ [])
          (pieces_from (s ++ x ∷ rest) p d.from (openers_from (s ++ x ∷ rest) (length (s ++ x ∷ []) - 3))))))));
    }

-- before the first opener
front_goes : (s : List ℕ) (x : ℕ) → AllZero s → Decides s x None → IsFront (s ++ x ∷ [])
front_goes s x z d =
    let e : length (s ++ x ∷ []) ≡ length s + 1 = length_push s x in
    elim (cases_eq x 0) [
      | inl zero ↦ inl (ap (λ y. s ++ y ∷ []) zero
          ∙ (ap (λ l. l ++ 0 ∷ []) z ∙ (replicate_more (length s) 0 ∙ ap (λ n. replicate n 0) (sym e))))
      | inr ne ↦ elim (cases_eq x 1) [
        | inr other ↦ absurd (let k = no_head_holds_zero s x [] z ne (inr other) in d.1 [] (NoHead (length s)) k.0 k.1)
        | inl one ↦ elim (cases_lt (length s) 2) [
          | inl few ↦ absurd (let k = no_head_holds_zero s x [] z ne (inl few) in d.1 [] (NoHead (length s)) k.0 k.1)
          | inr two ↦ inr (
            omega arith,
            ap (λ y. s ++ y ∷ []) one
                ∙ (ap (λ l. l ++ 1 ∷ []) z
                ∙ ap (λ n. replicate n 0 ++ 1 ∷ []) (let k : length s ≡ length (s ++ x ∷ []) - 1 = omega arith in k)),
          )
        ]
      ]
    ]

front_zero : (s : List ℕ) (x : ℕ) → IsFront s → (OpensNow s x → ⊥) → Decides s x None → AllZero s
front_zero s x (inl z) none d = z
front_zero s x (inr o) none d = absurd (elim (cases_Bool (is_opener_code x)) [
  | inl is ↦ none (zeros_one_code s o, is)
  | inr other ↦ elim (cases_lt x 0xB9) [
    | inl below ↦ elim (cases_Bool (is_head_code x)) [
      | inl head ↦ true≢false (sym (head_opens x head) ∙ other)
      | inr no_code ↦ (let k = no_head_holds_one s x [] o no_code below in d.1 [] (NoHead (length s - 1)) k.0 k.1)
    ]
    | inr above ↦
        (let l = o.0 in d.1 [] (System (length s - 3)) (system_holds s x [] (zeros_one_code s o) above) (omega arith))
  ]
])
  where
    head_opens : (y : ℕ) → is_head_code y ≡ true → is_opener_code y ≡ true
    head_opens y h = elim (or_cases (y == 0xB3) _ h) [
      | inl e ↦ ap is_opener_code (eqb-true y 0xB3 e)
      | inr e ↦ ap is_opener_code (eqb-true y 0xB8 e)
    ]

pub front_stays : (c d : Scanner) (s : List ℕ) (x : ℕ) (given : List Piece) → InFront c s given → (OpensNow s x → ⊥)
    → Decides s x None → d.from ≡ c.from → InFront d (s ++ x ∷ []) given
front_stays c d s x given h none decides from = record {
  front = front_goes s x (front_zero s x h.front none decides) decides;
  from = from ∙ h.from;
  none_given = h.none_given;
  openers = λ rest. subst (λ S. openers S ≡ openers_from S (length (s ++ x ∷ []) - 3)) (sym (push_more s x rest))
      (h.openers (x ∷ rest) ∙ openers_none_now s x rest none);
}

-- the scanner that has read one byte more
pub read_more : (c m d : Scanner) (s : List ℕ) (x : ℕ) (old given : List Piece) → HasRead c s old → Decides s x None
    → Advances m d x → m.at ≡ c.at → m.refused ≡ c.refused → m.back1 ≡ c.back1 → m.back2 ≡ c.back2 → m.back3 ≡ c.back3
    → m.back4 ≡ c.back4 → MatchBool d.opened (InPiece d (s ++ x ∷ []) given) (InFront d (s ++ x ∷ []) given)
    → HasRead d (s ++ x ∷ []) given
read_more c m d s x old given r decides a at refused b1 b2 b3 b4 place =
    let e : length (s ++ x ∷ []) ≡ length s + 1 = length_push s x in
    let short = decides.0 in
    record {
      live = a.refused ∙ (refused ∙ r.live);
      at = a.at ∙ (ap (λ n. n + 1) (at ∙ r.at) ∙ sym e);
      bounded = omega arith;
      back1 = a.back1 ∙ sym (back_one s x);
      back2 = a.back2 ∙ (b1 ∙ (r.back1 ∙ sym (back_more s x 1 (omega arith))));
      back3 = a.back3 ∙ (b2 ∙ (r.back2 ∙ sym (back_more s x 2 (omega arith))));
      back4 = a.back4 ∙ (b3 ∙ (r.back3 ∙ sym (back_more s x 3 (omega arith))));
      back5 = a.back5 ∙ (b4 ∙ (r.back4 ∙ sym (back_more s x 4 (omega arith))));
      undecided = λ rest scan.
          subst (λ S. holds S scan ≡ true → length (s ++ x ∷ []) ≤ decided_at S scan) (sym (push_more s x rest))
          (λ h. let le = r.undecided (x ∷ rest) scan h in let ne = decides.1 rest scan h in omega arith);
      place = place;
    }
