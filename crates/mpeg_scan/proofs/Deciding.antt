-- What the next byte decides, by the cases of the code.
use Rattle.std.proofs.Common.{◌≡◌, ◌≢◌, ℕ, ◌-◌, ◌/◌, ◌%◌, ◌<◌, ◌≤◌, true, false, List, ◌∷◌, ◌++◌, length, sym, ◌∙◌, ap}
use Rattle.std.proofs.Common.{arith, ◌⊎◌, inl, inr}
use Rattle.std.specs.Prelude.{Some, None}
use Rattle.std.proofs.lemmas.Bool.{cases_lt, lt-ltb, both_ways}
use Rattle.mpeg_scan.specs.declared.refusal.Scan.{Scan}
use Rattle.mpeg_scan.specs.declared.refusal.Scan.TheVariants.{Empty, NoHead, System, PictureType, ShortPicture, TooLong}
use Rattle.mpeg_scan.specs.declared.refusal.Scan.TheVariants.{NoMemory}
use Rattle.mpeg_scan.specs.StartCodes.{is_type, is_head_code}
use Rattle.mpeg_scan.specs.Refusals.{holds, decided_at, has_head, max_stream, Refuses, ComesBefore}
use Rattle.mpeg_scan.specs.Scanning.{IsFront}
use Rattle.mpeg_scan.specs.inside.Moves.{Decides}
use Rattle.mpeg_scan.proofs.NextByte.{AtCode, AtType, NowBy, now_by, longer, never_both, at_code_length, at_type_length}
use Rattle.mpeg_scan.proofs.NextByte.{system_holds, type_holds}
use Rattle.mpeg_scan.proofs.LeadingZeros.{AllZero, ZerosOne, all_zero_no_code, all_zero_no_type, zeros_one_no_type}
use Rattle.mpeg_scan.proofs.LeadingZeros.{no_head_all_zero, no_head_one, no_head_holds_zero, no_head_holds_one}

abbrev pub Undecided : List ℕ → Type 0
Undecided s = (rest : List ℕ) (scan : Scan) → holds (s ++ rest) scan ≡ true → length s ≤ decided_at (s ++ rest) scan

abbrev pub HeadKnown : List ℕ → Type 0
HeadKnown s = (rest : List ℕ) → has_head (s ++ rest) ≡ true

pub comes_before : (S : List ℕ) (scan other : Scan) → decided_at S scan < decided_at S other → ComesBefore S scan other
comes_before S Empty other h = h
comes_before S (NoHead q) other h = h
comes_before S (System p) other h = h
comes_before S (PictureType p t) other h = h
comes_before S (ShortPicture p) other h = h
comes_before S TooLong other h = omega arith
comes_before S NoMemory other h = h

refuses_now : (s : List ℕ) (x : ℕ) (rest : List ℕ) (scan : Scan) → Undecided s → holds (s ++ x ∷ rest) scan ≡ true
    → decided_at (s ++ x ∷ rest) scan ≡ length s
    → ((other : Scan) → decided_at (s ++ x ∷ rest) other ≡ length s → NowBy s x rest other
    → (other ≡ scan) ⊎ ComesBefore (s ++ x ∷ rest) scan other)
    → Refuses (s ++ x ∷ rest) scan × (decided_at (s ++ x ∷ rest) scan ≡ length s)
refuses_now s x rest scan undecided h e others = (
  record {
    holding = h;
    first = λ other k.
        let le = undecided (x ∷ rest) other k in
        elim (cases_lt (length s) (decided_at (s ++ x ∷ rest) other)) [
          | inl lt ↦ inr (comes_before (s ++ x ∷ rest) scan other (omega arith))
          | inr ge ↦ let now : decided_at (s ++ x ∷ rest) other ≡ length s =
              omega arith in others other now (now_by s x rest other k now)
        ];
  },
  e,
)

pub decides_too_long : (s : List ℕ) (x : ℕ) → Undecided s → length s ≡ max_stream → Decides s x (Some TooLong)
decides_too_long s x undecided e rest =
    refuses_now s x rest TooLong undecided (lt-ltb max_stream (length (s ++ x ∷ rest))
    (let l = longer s x rest in omega arith)) (sym e) (λ other now _. inr (omega arith))

-- the refusal is a start code's of a system stream
system_alone : (s : List ℕ) (x : ℕ) (rest : List ℕ) → AtCode s → 0xB9 ≤ x → length s < max_stream
    → (HeadKnown s ⊎ IsFront s) → (other : Scan) → NowBy s x rest other → other ≡ System (length s - 3)
system_alone s x rest h le short place Empty n = elim n [ ]
system_alone s x rest h le short (inl head) (NoHead q) n = absurd (both_ways _ n.1 (head (x ∷ rest)))
system_alone s x rest h le short (inr (inl z)) (NoHead q) n = absurd (all_zero_no_code s z h)
system_alone s x rest h le short (inr (inr o)) (NoHead q) n =
    absurd (let k = no_head_one s x rest q o n.0 n.1 in let lt = k.2 in omega arith)
system_alone s x rest h le short place (System p) n = ap System n.0
system_alone s x rest h le short place (PictureType p t) n = absurd (never_both s h n.1)
system_alone s x rest h le short place (ShortPicture p) n = elim n [ ]
system_alone s x rest h le short place TooLong n = absurd (omega arith)
system_alone s x rest h le short place NoMemory n = elim n [ ]

pub decides_system : (s : List ℕ) (x : ℕ) → Undecided s → AtCode s → 0xB9 ≤ x → length s < max_stream
    → (HeadKnown s ⊎ IsFront s) → Decides s x (Some (System (length s - 3)))
decides_system s x undecided h le short place rest =
    let l = at_code_length s h in
    refuses_now s x rest (System (length s - 3)) undecided (system_holds s x rest h le) (omega arith)
    (λ other _ n. inl (system_alone s x rest h le short place other n))

zero_alone : (s : List ℕ) (x : ℕ) (rest : List ℕ) → AllZero s → length s < max_stream → (other : Scan)
    → NowBy s x rest other → other ≡ NoHead (length s)
zero_alone s x rest z short Empty n = elim n [ ]
zero_alone s x rest z short (NoHead q) n = ap NoHead (no_head_all_zero s x rest q z n.0 n.2).0
zero_alone s x rest z short (System p) n = absurd (all_zero_no_code s z n.1)
zero_alone s x rest z short (PictureType p t) n = absurd (all_zero_no_type s z n.1)
zero_alone s x rest z short (ShortPicture p) n = elim n [ ]
zero_alone s x rest z short TooLong n = absurd (omega arith)
zero_alone s x rest z short NoMemory n = elim n [ ]

pub decides_no_head_zero : (s : List ℕ) (x : ℕ) → Undecided s → AllZero s → x ≢ 0 → (length s < 2) ⊎ (x ≢ 1)
    → length s < max_stream → Decides s x (Some (NoHead (length s)))
decides_no_head_zero s x undecided z ne few short rest =
    let h = no_head_holds_zero s x rest z ne few in
    refuses_now s x rest (NoHead (length s)) undecided h.0 h.1 (λ other _ n. inl (zero_alone s x rest z short other n))

one_alone : (s : List ℕ) (x : ℕ) (rest : List ℕ) → ZerosOne s → x < 0xB9 → length s < max_stream → (other : Scan)
    → NowBy s x rest other → other ≡ NoHead (length s - 1)
one_alone s x rest z lt short Empty n = elim n [ ]
one_alone s x rest z lt short (NoHead q) n = ap NoHead (no_head_one s x rest q z n.0 n.1).0
one_alone s x rest z lt short (System p) n = absurd (let le = n.2 in omega arith)
one_alone s x rest z lt short (PictureType p t) n = absurd (zeros_one_no_type s z n.1)
one_alone s x rest z lt short (ShortPicture p) n = elim n [ ]
one_alone s x rest z lt short TooLong n = absurd (omega arith)
one_alone s x rest z lt short NoMemory n = elim n [ ]

pub decides_no_head_one : (s : List ℕ) (x : ℕ) → Undecided s → ZerosOne s → is_head_code x ≡ false → x < 0xB9
    → length s < max_stream → Decides s x (Some (NoHead (length s - 1)))
decides_no_head_one s x undecided z other_code lt short rest =
    let h = no_head_holds_one s x rest z other_code lt in
    refuses_now s x rest (NoHead (length s - 1)) undecided h.0 h.1
    (λ other _ n. inl (one_alone s x rest z lt short other n))

type_alone : (s : List ℕ) (x : ℕ) (rest : List ℕ) → HeadKnown s → AtType s → length s < max_stream → (other : Scan)
    → NowBy s x rest other → other ≡ PictureType (length s - 5) ((x / 8) % 8)
type_alone s x rest head h short Empty n = elim n [ ]
type_alone s x rest head h short (NoHead q) n = absurd (both_ways _ n.1 (head (x ∷ rest)))
type_alone s x rest head h short (System p) n = absurd (never_both s n.1 h)
type_alone s x rest head h short (PictureType p t) n =
    ap (λ k. PictureType k t) n.0 ∙ ap (λ k. PictureType (length s - 5) k) n.2
type_alone s x rest head h short (ShortPicture p) n = elim n [ ]
type_alone s x rest head h short TooLong n = absurd (omega arith)
type_alone s x rest head h short NoMemory n = elim n [ ]

pub decides_type : (s : List ℕ) (x : ℕ) → Undecided s → HeadKnown s → AtType s → is_type ((x / 8) % 8) ≡ false
    → length s < max_stream → Decides s x (Some (PictureType (length s - 5) ((x / 8) % 8)))
decides_type s x undecided head h bad short rest =
    let l = at_type_length s h in
    refuses_now s x rest (PictureType (length s - 5) ((x / 8) % 8)) undecided (type_holds s x rest h bad) (omega arith)
    (λ other _ n. inl (type_alone s x rest head h short other n))

-- in a piece the byte decides nothing
piece_none : (s : List ℕ) (x : ℕ) (rest : List ℕ) → HeadKnown s → length s < max_stream → (AtCode s → x < 0xB9)
    → (AtType s → is_type ((x / 8) % 8) ≡ true) → (other : Scan) → NowBy s x rest other → ⊥
piece_none s x rest head short lt good Empty n = n
piece_none s x rest head short lt good (NoHead q) n = both_ways _ n.1 (head (x ∷ rest))
piece_none s x rest head short lt good (System p) n = let a = lt n.1 in let b = n.2 in omega arith
piece_none s x rest head short lt good (PictureType p t) n = both_ways _ n.3 (ap is_type n.2 ∙ good n.1)
piece_none s x rest head short lt good (ShortPicture p) n = n
piece_none s x rest head short lt good TooLong n = omega arith
piece_none s x rest head short lt good NoMemory n = n

pub decides_none_piece : (s : List ℕ) (x : ℕ) → HeadKnown s → length s < max_stream → (AtCode s → x < 0xB9)
    → (AtType s → is_type ((x / 8) % 8) ≡ true) → Decides s x None
decides_none_piece s x head short lt good =
    (short, λ rest scan h e. piece_none s x rest head short lt good scan (now_by s x rest scan h e))

zero_none : (s : List ℕ) (x : ℕ) (rest : List ℕ) → AllZero s → length s < max_stream
    → (x ≢ 0 → (x ≡ 1) × (2 ≤ length s)) → (other : Scan) → NowBy s x rest other → ⊥
zero_none s x rest z short fine Empty n = n
zero_none s x rest z short fine (NoHead q) n =
    let h = no_head_all_zero s x rest q z n.0 n.2 in
    let f = fine h.1 in
    elim h.2 [ inl few ↦ (let two = f.1 in omega arith) | inr ne ↦ ne f.0 ]
zero_none s x rest z short fine (System p) n = all_zero_no_code s z n.1
zero_none s x rest z short fine (PictureType p t) n = all_zero_no_type s z n.1
zero_none s x rest z short fine (ShortPicture p) n = n
zero_none s x rest z short fine TooLong n = omega arith
zero_none s x rest z short fine NoMemory n = n

pub decides_none_zero : (s : List ℕ) (x : ℕ) → AllZero s → length s < max_stream → (x ≢ 0 → (x ≡ 1) × (2 ≤ length s))
    → Decides s x None
decides_none_zero s x z short fine =
    (short, λ rest scan h e. zero_none s x rest z short fine scan (now_by s x rest scan h e))

one_none : (s : List ℕ) (x : ℕ) (rest : List ℕ) → ZerosOne s → length s < max_stream → is_head_code x ≡ true → x < 0xB9
    → (other : Scan) → NowBy s x rest other → ⊥
one_none s x rest z short head lt Empty n = n
one_none s x rest z short head lt (NoHead q) n = both_ways _ (no_head_one s x rest q z n.0 n.1).1 head
one_none s x rest z short head lt (System p) n = let le = n.2 in omega arith
one_none s x rest z short head lt (PictureType p t) n = zeros_one_no_type s z n.1
one_none s x rest z short head lt (ShortPicture p) n = n
one_none s x rest z short head lt TooLong n = omega arith
one_none s x rest z short head lt NoMemory n = n

pub decides_none_one : (s : List ℕ) (x : ℕ) → ZerosOne s → length s < max_stream → is_head_code x ≡ true → x < 0xB9
    → Decides s x None
decides_none_one s x z short head lt =
    (short, λ rest scan h e. one_none s x rest z short head lt scan (now_by s x rest scan h e))
