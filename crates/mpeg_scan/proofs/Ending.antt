-- What the end of the stream decides, and its last piece.
use Rattle.std.proofs.Common.{◌≡◌, ◌≢◌, ℕ, ◌+◌, ◌-◌, ◌<◌, ◌≤◌, Bool, true, false, List, [], ◌∷◌, ◌++◌, length, get_or}
use Rattle.std.proofs.Common.{refl, sym, ◌∙◌, ap, subst, arith, ◌||◌, ◌⊎◌, inl, inr}
use Rattle.std.specs.Prelude.{Some, None, nat_lt, nat_le, ◌==◌, slice_index}
use Rattle.std.proofs.lemmas.List.{append-nil}
use Rattle.std.proofs.lemmas.Bool.{both_ways, cases_eq, cases_lt, and_parts, and_from, and_left, and_right, not-true}
use Rattle.std.proofs.lemmas.Bool.{not_from_false, ltb-true, lt-ltb, leb-true, le-leb, eqb-true, eq-eqb}
use Rattle.std.proofs.lemmas.Bool.{false_from_ne_true, true≢false}
use Rattle.mpeg_scan.specs.declared.piece.Piece.{Piece}
use Rattle.mpeg_scan.specs.declared.scanner.Scanner.{Scanner}
use Rattle.mpeg_scan.specs.declared.refusal.Scan.{Scan}
use Rattle.mpeg_scan.specs.declared.refusal.Scan.TheVariants.{Empty, NoHead, System, PictureType, ShortPicture, TooLong}
use Rattle.mpeg_scan.specs.declared.refusal.Scan.TheVariants.{NoMemory}
use Rattle.mpeg_scan.specs.StartCodes.{is_start_code, is_picture, is_head_code, is_system_code, code_at}
use Rattle.mpeg_scan.specs.Refusals.{holds, decided_at, zeros, has_head, max_stream, Refuses, IsAccepted}
use Rattle.mpeg_scan.specs.Scanning.{HasRead, IsFront, back, openers_from}
use Rattle.mpeg_scan.specs.inside.Moves.{DecidesAtEnd}
use Rattle.mpeg_scan.specs.Pieces.{pieces_of, pieces_from, piece_of}
use Rattle.mpeg_scan.specs.laws.OpenerLaws.{HasStartCode, stands, is_standing, stands_less, code_more, none_after}
use Rattle.mpeg_scan.proofs.Opening.{ended}
use Rattle.mpeg_scan.proofs.LastBytes.{at_back, back_within}
use Rattle.mpeg_scan.proofs.NextByte.{AtType, at_type_length, type_stands}
use Rattle.mpeg_scan.proofs.LeadingZeros.{zeros_all, zeros_one, all_zero_back, zeros_one_back, zeros_one_last}
use Rattle.mpeg_scan.proofs.Reading.{TypeFields, at_type, type_fields, in_piece, in_front}

-- the last four bytes are a picture's start code
pub record BehindPicture (s : List ℕ) : Type 0 where
  pub fourth : back s 4 ≡ 0
  pub third : back s 3 ≡ 0
  pub second : back s 2 ≡ 1
  pub first : back s 1 ≡ 0

abbrev pub PictureFields : Scanner → Type 0
PictureFields c = (c.back4 ≡ 0) × (c.back3 ≡ 0) × (c.back2 ≡ 1) × (c.back1 ≡ 0)

at_back_whole : (s : List ℕ) (p j : ℕ) → p + j ≡ length s → 1 ≤ j → slice_index s p ≡ back s j
at_back_whole s p j e h = ap (λ l. get_or l p 0) (sym (append-nil s)) ∙ at_back s [] p j e h

-- what can be decided at the end
abbrev EndBy : List ℕ → Scan → Type 0
EndBy s Empty = length s ≡ 0
EndBy s (NoHead q) = (q ≡ zeros s) × (0 < length s) × (has_head s ≡ false)
EndBy s (System p) = ⊥
EndBy s (PictureType p t) = ⊥
EndBy s (ShortPicture p) = HasStartCode s p × (code_at s p ≡ 0) × (length s ≤ p + 5)
EndBy s TooLong = ⊥
EndBy s NoMemory = ⊥

abbrev UndecidedWhole : List ℕ → Type 0
UndecidedWhole s = (scan : Scan) → holds s scan ≡ true → length s ≤ decided_at s scan

undecided_whole : (c : Scanner) (s : List ℕ) (p : List Piece) → HasRead c s p → UndecidedWhole s
undecided_whole c s p r scan =
    subst (λ S. holds S scan ≡ true → length s ≤ decided_at S scan) (append-nil s) (r.undecided [] scan)

end_by : (s : List ℕ) → UndecidedWhole s → length s ≤ max_stream → (scan : Scan) → holds s scan ≡ true → EndBy s scan
end_by s u short Empty h = eqb-true _ _ h
end_by s u short (NoHead q) h =
    let a = and_parts (q == zeros s) _ h in
    let b = and_parts (nat_lt 0 (length s)) _ a.1 in
    (eqb-true _ _ a.0, ltb-true 0 (length s) b.0, not-true _ b.1)
end_by s u short (System p) h =
    let le = u (System p) h in
    let a = and_parts (is_start_code s p) _ h in
    let w = (stands s p a.0).within in
    omega arith
end_by s u short (PictureType p t) h =
    let le = u (PictureType p t) h in
    let a = and_parts (is_picture s p) _ h in
    let b = and_parts (nat_lt (p + 5) (length s)) _ a.1 in
    let lt = ltb-true (p + 5) (length s) b.0 in
    omega arith
end_by s u short (ShortPicture p) h =
    let a = and_parts (is_picture s p) _ h in
    let b = and_parts (is_start_code s p) _ a.0 in
    (stands s p b.0, eqb-true _ _ b.1, leb-true _ _ a.1)
end_by s u short TooLong h = let lt = ltb-true max_stream (length s) h in omega arith
end_by s u short NoMemory h = true≢false (sym h)

alone : (s : List ℕ) (scan : Scan) → UndecidedWhole s → length s ≤ max_stream → holds s scan ≡ true
    → ((other : Scan) → EndBy s other → other ≡ scan) → Refuses s scan
alone s scan u short h only = record { holding = h; first = λ other k. inl (only other (end_by s u short other k)) }

-- before the first opener
front_no_code : (s : List ℕ) (p : ℕ) → IsFront s → HasStartCode s p → ⊥
front_no_code s p f st =
    let w = st.within in
    let o = st.one in
    let none : back s (length s - (p + 2)) ≡ 0 = elim f [
      | inl z ↦ all_zero_back s (length s - (p + 2)) z (omega arith) (omega arith)
      | inr h ↦ zeros_one_back s (length s - (p + 2)) h (omega arith) (omega arith)
    ] in
    let k : slice_index s (p + 2) ≡ 0 = at_back_whole s (p + 2) (length s - (p + 2)) (omega arith) (omega arith) ∙ none in
    omega arith

front_no_head : (s : List ℕ) → IsFront s → has_head s ≡ false
front_no_head s f =
    and_right (nat_le 2 (zeros s)) _ (and_left (is_start_code s (zeros s - 2))
    (is_head_code (code_at s (zeros s - 2)) || is_system_code (code_at s (zeros s - 2)))
    (false_from_ne_true _ (λ is. front_no_code s (zeros s - 2) f (stands s (zeros s - 2) is))))

front_only : (s : List ℕ) → IsFront s → 0 < length s → (other : Scan) → EndBy s other → other ≡ NoHead (zeros s)
front_only s f lt Empty n = absurd (omega arith)
front_only s f lt (NoHead q) n = ap NoHead n.0
front_only s f lt (System p) n = absurd n
front_only s f lt (PictureType p t) n = absurd n
front_only s f lt (ShortPicture p) n = absurd (front_no_code s p f n.0)
front_only s f lt TooLong n = absurd n
front_only s f lt NoMemory n = absurd n

front_refuses : (c : Scanner) (s : List ℕ) (p : List Piece) → HasRead c s p → IsFront s → 0 < length s
    → Refuses s (NoHead (zeros s))
front_refuses c s p r f lt =
    alone s (NoHead (zeros s)) (undecided_whole c s p r) r.bounded
    (and_from _ _ (eq-eqb (zeros s) (zeros s) refl)
    (and_from _ _ (lt-ltb 0 (length s) lt) (not_from_false _ (front_no_head s f))))
    (front_only s f lt)

zeros_of : (s : List ℕ) (n : ℕ) → zeros (s ++ []) ≡ n → zeros s ≡ n
zeros_of s n e = ap zeros (sym (append-nil s)) ∙ e

front_zeros : (c : Scanner) (s : List ℕ) (p : List Piece) → HasRead c s p → IsFront s → 0 < length s
    → ((c.back1 ≡ 1) × (zeros s ≡ c.at - 1)) ⊎ ((c.back1 ≢ 1) × (zeros s ≡ c.at))
front_zeros c s p r (inl z) lt =
    let k = r.back1 ∙ all_zero_back s 1 z (omega arith) (omega arith) in
    inr (λ one. omega arith, zeros_of s c.at (zeros_all s [] z ∙ (let a = r.at in omega arith)))
front_zeros c s p r (inr h) lt =
    inl (r.back1 ∙ zeros_one_last s h, zeros_of s (c.at - 1) (zeros_one s [] h ∙ (let a = r.at in omega arith)))

pub ends_one : (c : Scanner) → c.at ≢ 0 → c.opened ≡ false → c.back1 ≡ 1 → (s : List ℕ) (p : List Piece)
    → HasRead c s p → DecidesAtEnd s (Some (NoHead (c.at - 1)))
ends_one c ne o one s p r =
    let f = (in_front c s p r o).front in
    let a = r.at in
    let lt : 0 < length s = omega arith in
    elim (front_zeros c s p r f lt) [
      | inl k ↦ subst (λ q. Refuses s (NoHead q)) k.1 (front_refuses c s p r f lt)
      | inr k ↦ absurd (k.0 one)
    ]

pub ends_zero : (c : Scanner) → c.at ≢ 0 → c.opened ≡ false → c.back1 ≢ 1 → (s : List ℕ) (p : List Piece)
    → HasRead c s p → DecidesAtEnd s (Some (NoHead c.at))
ends_zero c ne o other s p r =
    let f = (in_front c s p r o).front in
    let a = r.at in
    let lt : 0 < length s = omega arith in
    elim (front_zeros c s p r f lt) [
      | inl k ↦ absurd (other k.0)
      | inr k ↦ subst (λ q. Refuses s (NoHead q)) k.1 (front_refuses c s p r f lt)
    ]

-- in a piece
picture_at : (s : List ℕ) (p : ℕ) → HasStartCode s p → code_at s p ≡ 0 → length s ≤ p + 5
    → ((p + 4 ≡ length s) × BehindPicture s) ⊎ ((p + 5 ≡ length s) × AtType s)
picture_at s p st code le =
    let w = st.within in
    elim (cases_eq (p + 4) (length s)) [
      | inl e ↦ inl (
        e,
        record {
          fourth = sym (at_back_whole s p 4 e (omega arith)) ∙ st.zero1;
          third = sym (at_back_whole s (p + 1) 3 (omega arith) (omega arith)) ∙ st.zero2;
          second = sym (at_back_whole s (p + 2) 2 (omega arith) (omega arith)) ∙ st.one;
          first = sym (at_back_whole s (p + 3) 1 (omega arith) (omega arith)) ∙ code;
        },
      )
      | inr ne ↦
          let e : p + 5 ≡ length s = omega arith in
          inr (
            e,
            record {
              fifth = sym (at_back_whole s p 5 e (omega arith)) ∙ st.zero1;
              fourth = sym (at_back_whole s (p + 1) 4 (omega arith) (omega arith)) ∙ st.zero2;
              third = sym (at_back_whole s (p + 2) 3 (omega arith) (omega arith)) ∙ st.one;
              second = sym (at_back_whole s (p + 3) 2 (omega arith) (omega arith)) ∙ code;
            },
          )
    ]

not_both : (s : List ℕ) → BehindPicture s → AtType s → ⊥
not_both s h k = let a = h.third in let b = k.third in omega arith

behind_fields : (c : Scanner) (s : List ℕ) (p : List Piece) → HasRead c s p → BehindPicture s → PictureFields c
behind_fields c s p r h = (r.back4 ∙ h.fourth, r.back3 ∙ h.third, r.back2 ∙ h.second, r.back1 ∙ h.first)

behind : (c : Scanner) (s : List ℕ) (p : List Piece) → HasRead c s p → PictureFields c → BehindPicture s
behind c s p r h =
    record {
      fourth = sym r.back4 ∙ h.0;
      third = sym r.back3 ∙ h.1;
      second = sym r.back2 ∙ h.2;
      first = sym r.back1 ∙ h.3;
    }

piece_head : (c : Scanner) (s : List ℕ) (p : List Piece) → HasRead c s p → c.opened ≡ true → has_head s ≡ true
piece_head c s p r o = ap has_head (sym (append-nil s)) ∙ (in_piece c s p r o).head []

piece_only : (c : Scanner) (s : List ℕ) (old : List Piece) → HasRead c s old → c.at ≢ 0 → c.opened ≡ true → (q : ℕ)
    → ((p : ℕ) → HasStartCode s p → code_at s p ≡ 0 → length s ≤ p + 5 → p ≡ q) → (other : Scan) → EndBy s other
    → other ≡ ShortPicture q
piece_only c s old r ne o q only Empty n = absurd (let a = r.at in omega arith)
piece_only c s old r ne o q only (NoHead z) n = absurd (both_ways _ n.2 (piece_head c s old r o))
piece_only c s old r ne o q only (System p) n = absurd n
piece_only c s old r ne o q only (PictureType p t) n = absurd n
piece_only c s old r ne o q only (ShortPicture p) n = ap ShortPicture (only p n.0 n.1 n.2)
piece_only c s old r ne o q only TooLong n = absurd n
piece_only c s old r ne o q only NoMemory n = absurd n

short_behind : (s : List ℕ) → BehindPicture s → 4 ≤ length s → holds s (ShortPicture (length s - 4)) ≡ true
short_behind s h l =
    let p : ℕ = length s - 4 in
    and_from _ _ (and_from _ _ (is_standing s p (record {
      within = omega arith;
      zero1 = at_back_whole s p 4 (omega arith) (omega arith) ∙ h.fourth;
      zero2 = at_back_whole s (p + 1) 3 (omega arith) (omega arith) ∙ h.third;
      one = at_back_whole s (p + 2) 2 (omega arith) (omega arith) ∙ h.second;
    })) (eq-eqb _ _ (at_back_whole s (p + 3) 1 (omega arith) (omega arith) ∙ h.first)))
    (le-leb _ _ (omega arith))

short_type : (s : List ℕ) → AtType s → holds s (ShortPicture (length s - 5)) ≡ true
short_type s h =
    let l = at_type_length s h in
    let p : ℕ = length s - 5 in
    let t = type_stands s [] h in
    and_from _ _ (and_from _ _ (is_standing s p (stands_less s [] p (omega arith) t.0))
    (eq-eqb _ _ (sym (code_more s [] p (omega arith)) ∙ t.1)))
    (le-leb _ _ (omega arith))

pub ends_behind : (c : Scanner) → c.at ≢ 0 → c.opened ≡ true → PictureFields c → (s : List ℕ) (p : List Piece)
    → HasRead c s p → DecidesAtEnd s (Some (ShortPicture (c.at - 4)))
ends_behind c ne o fields s old r =
    let h = behind c s old r fields in
    let l : 4 ≤ length s = back_within s 4 (let e = h.fourth in omega arith) in
    subst (λ n. Refuses s (ShortPicture (n - 4))) (sym r.at)
    (alone s (ShortPicture (length s - 4)) (undecided_whole c s old r) r.bounded (short_behind s h l)
    (piece_only c s old r ne o (length s - 4) (λ p st code le. elim (picture_at s p st code le) [
      | inl k ↦ (let e = k.0 in omega arith)
      | inr k ↦ absurd (not_both s h k.1)
    ])))

pub ends_type : (c : Scanner) → c.at ≢ 0 → c.opened ≡ true → TypeFields c → (s : List ℕ) (p : List Piece)
    → HasRead c s p → DecidesAtEnd s (Some (ShortPicture (c.at - 5)))
ends_type c ne o fields s old r =
    let h = at_type c s old r fields in
    subst (λ n. Refuses s (ShortPicture (n - 5))) (sym r.at)
    (alone s (ShortPicture (length s - 5)) (undecided_whole c s old r) r.bounded (short_type s h)
    (piece_only c s old r ne o (length s - 5) (λ p st code le. elim (picture_at s p st code le) [
      | inl k ↦ absurd (not_both s k.1 h)
      | inr k ↦ (let e = k.0 in omega arith)
    ])))

piece_none : (c : Scanner) (s : List ℕ) (old : List Piece) → HasRead c s old → c.at ≢ 0 → c.opened ≡ true
    → (PictureFields c → ⊥) → (TypeFields c → ⊥) → (other : Scan) → EndBy s other → ⊥
piece_none c s old r ne o first second Empty n = let a = r.at in omega arith
piece_none c s old r ne o first second (NoHead z) n = both_ways _ n.2 (piece_head c s old r o)
piece_none c s old r ne o first second (System p) n = n
piece_none c s old r ne o first second (PictureType p t) n = n
piece_none c s old r ne o first second (ShortPicture p) n = elim (picture_at s p n.0 n.1 n.2) [
  | inl k ↦ first (behind_fields c s old r k.1)
  | inr k ↦ second (type_fields c s old r k.1)
]
piece_none c s old r ne o first second TooLong n = n
piece_none c s old r ne o first second NoMemory n = n

pub ends_well : (c : Scanner) → c.at ≢ 0 → c.opened ≡ true → (PictureFields c → ⊥) → (TypeFields c → ⊥)
    → (s : List ℕ) (p : List Piece) → HasRead c s p → DecidesAtEnd s None
ends_well c ne o first second s old r scan =
    false_from_ne_true _
    (λ h. piece_none c s old r ne o first second scan (end_by s (undecided_whole c s old r) r.bounded scan h))

-- the last piece
pub last_piece : (c : Scanner) (s : List ℕ) (given : List Piece) → HasRead c s given → c.opened ≡ true → IsAccepted s
    → given ++ ended c c.at ∷ [] ≡ pieces_of s
last_piece c s given r o accepted =
    let h = in_piece c s given r o in
    let st = stands s h.opener (and_parts (is_start_code s h.opener) _ h.stands).0 in
    let w = st.within in
    let known : code_at s h.opener ≡ 0 → h.opener + 5 < length s = λ zero. elim (cases_lt (h.opener + 5) (length s)) [
      | inl lt ↦ lt
      | inr ge ↦ absurd (both_ways _ (accepted (ShortPicture h.opener))
          (and_from _ _ (and_from _ _ (is_standing s h.opener st) (eq-eqb _ _ zero)) (le-leb _ _ ge)))
    ] in
    let whole : pieces_of s ≡ given ++ pieces_from s h.opener c.from (openers_from s (length s - 3)) =
    subst (λ S. pieces_of S ≡ given ++ pieces_from S h.opener c.from (openers_from S (length s - 3))) (append-nil s)
    (h.pieces []) in
    let last : piece_of s h.opener c.from (length s) ≡ ended c c.at =
    ap (λ k. record { kind = k; code = code_at s h.opener; at = c.from; len = length s - c.from }) (sym (h.kind known))
    ∙ (ap (λ k. record { kind = c.kind; code = k; at = c.from; len = length s - c.from }) (sym h.code)
    ∙ ap (λ n. record { kind = c.kind; code = c.code; at = c.from; len = n - c.from }) (sym r.at)) in
    sym (whole ∙ (ap (λ os. given ++ pieces_from s h.opener c.from os) (none_after s) ∙ ap (λ e. given ++ e ∷ []) last))

pub accepted_opened : (c : Scanner) (s : List ℕ) (p : List Piece) → HasRead c s p → IsAccepted s → c.opened ≡ true
accepted_opened c s p r accepted = opened_at c s p r accepted c.opened refl
  where
    opened_at : (c : Scanner) (s : List ℕ) (p : List Piece) → HasRead c s p → IsAccepted s → (o : Bool) → c.opened ≡ o
        → c.opened ≡ true
    opened_at c s p r accepted true o = o
    opened_at c s p r accepted false o = absurd (elim (cases_eq (length s) 0) [
      | inl e ↦ both_ways _ (accepted Empty) (eq-eqb _ _ e)
      | inr ne ↦ both_ways _ (accepted (NoHead (zeros s)))
          (front_refuses c s p r (in_front c s p r o).front (omega arith)).holding
    ])
