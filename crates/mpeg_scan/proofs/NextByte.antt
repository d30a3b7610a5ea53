-- What can be decided at the byte x that comes after the stream s, however it goes on.
use Rattle.std.proofs.Common.{◌≡◌, ℕ, ◌+◌, ◌-◌, ◌/◌, ◌%◌, ◌<◌, ◌≤◌, true, false, List, ◌∷◌, ◌++◌, length, get_or, sym}
use Rattle.std.proofs.Common.{◌∙◌, ap, subst, arith, length-append}
use Rattle.std.specs.Prelude.{nat_lt, ◌==◌}
use Rattle.std.proofs.lemmas.Bool.{le-leb, leb-true, and_parts, and_from, not-true, not_from_false, lt-ltb, eqb-true}
use Rattle.std.proofs.lemmas.Bool.{eq-eqb, true≢false}
use Rattle.mpeg_scan.specs.declared.refusal.Scan.{Scan}
use Rattle.mpeg_scan.specs.declared.refusal.Scan.TheVariants.{Empty, NoHead, System, PictureType, ShortPicture, TooLong}
use Rattle.mpeg_scan.specs.declared.refusal.Scan.TheVariants.{NoMemory}
use Rattle.mpeg_scan.specs.StartCodes.{is_start_code, code_at, type_at, is_type, is_picture}
use Rattle.mpeg_scan.specs.Refusals.{holds, decided_at, zeros, has_head, max_stream}
use Rattle.mpeg_scan.specs.Scanning.{back}
use Rattle.mpeg_scan.specs.laws.OpenerLaws.{HasStartCode, stands, is_standing}
use Rattle.mpeg_scan.proofs.LastBytes.{at_back, back_within, at_end}

-- the last three bytes are those before a code
pub record AtCode (s : List ℕ) : Type 0 where
  pub third : back s 3 ≡ 0
  pub second : back s 2 ≡ 0
  pub first : back s 1 ≡ 1

-- the last five bytes are those before a picture's type
pub record AtType (s : List ℕ) : Type 0 where
  pub fifth : back s 5 ≡ 0
  pub fourth : back s 4 ≡ 0
  pub third : back s 3 ≡ 1
  pub second : back s 2 ≡ 0

pub code_now : (s t : List ℕ) (p : ℕ) → p + 3 ≡ length s → HasStartCode (s ++ t) p → AtCode s
code_now s t p e h = record {
  third = sym (at_back s t p 3 e (omega arith)) ∙ h.zero1;
  second = sym (at_back s t (p + 1) 2 (omega arith) (omega arith)) ∙ h.zero2;
  first = sym (at_back s t (p + 2) 1 (omega arith) (omega arith)) ∙ h.one;
}

pub at_code_length : (s : List ℕ) → AtCode s → 3 ≤ length s
at_code_length s h = back_within s 3 (let e = h.third in omega arith)

pub code_stands : (s : List ℕ) (x : ℕ) (rest : List ℕ) → AtCode s → HasStartCode (s ++ x ∷ rest) (length s - 3)
code_stands s x rest h =
    let l = at_code_length s h in
    let p : ℕ = length s - 3 in
    let e : p + 3 ≡ length s = omega arith in
    record {
      within = omega (arith, length-append s (x ∷ rest));
      zero1 = at_back s (x ∷ rest) p 3 e (omega arith) ∙ h.third;
      zero2 = at_back s (x ∷ rest) (p + 1) 2 (omega arith) (omega arith) ∙ h.second;
      one = at_back s (x ∷ rest) (p + 2) 1 (omega arith) (omega arith) ∙ h.first;
    }

pub code_is : (s : List ℕ) (x : ℕ) (rest : List ℕ) (p : ℕ) → p + 3 ≡ length s → code_at (s ++ x ∷ rest) p ≡ x
code_is s x rest p e = ap (λ i. get_or (s ++ x ∷ rest) i 0) e ∙ at_end s x rest

pub type_now : (s t : List ℕ) (p : ℕ) → p + 5 ≡ length s → HasStartCode (s ++ t) p → code_at (s ++ t) p ≡ 0 → AtType s
type_now s t p e h code = record {
  fifth = sym (at_back s t p 5 e (omega arith)) ∙ h.zero1;
  fourth = sym (at_back s t (p + 1) 4 (omega arith) (omega arith)) ∙ h.zero2;
  third = sym (at_back s t (p + 2) 3 (omega arith) (omega arith)) ∙ h.one;
  second = sym (at_back s t (p + 3) 2 (omega arith) (omega arith)) ∙ code;
}

pub at_type_length : (s : List ℕ) → AtType s → 5 ≤ length s
at_type_length s h = back_within s 5 (let e = h.fifth in omega arith)

pub type_stands : (s t : List ℕ) → AtType s
    → HasStartCode (s ++ t) (length s - 5) × (code_at (s ++ t) (length s - 5) ≡ 0)
type_stands s t h =
    let l = at_type_length s h in
    let p : ℕ = length s - 5 in
    let e : p + 5 ≡ length s = omega arith in (
      record {
        within = omega (arith, length-append s t);
        zero1 = at_back s t p 5 e (omega arith) ∙ h.fifth;
        zero2 = at_back s t (p + 1) 4 (omega arith) (omega arith) ∙ h.fourth;
        one = at_back s t (p + 2) 3 (omega arith) (omega arith) ∙ h.third;
      },
      at_back s t (p + 3) 2 (omega arith) (omega arith) ∙ h.second,
    )

pub type_is : (s : List ℕ) (x : ℕ) (rest : List ℕ) (p : ℕ) → p + 5 ≡ length s → type_at (s ++ x ∷ rest) p ≡ (x / 8) % 8
type_is s x rest p e = ap (λ y. (y / 8) % 8) (ap (λ i. get_or (s ++ x ∷ rest) i 0) e ∙ at_end s x rest)

pub never_both : (s : List ℕ) → AtCode s → AtType s → ⊥
never_both s h k = let a = h.third in let b = k.third in omega arith

-- what is decided now, by what is seen of the bytes before
abbrev pub NowBy : List ℕ → ℕ → List ℕ → Scan → Type 0
NowBy s x rest Empty = ⊥
NowBy s x rest (NoHead q) =
    (q ≡ zeros (s ++ x ∷ rest)) × (has_head (s ++ x ∷ rest) ≡ false)
    × (decided_at (s ++ x ∷ rest) (NoHead q) ≡ length s)
NowBy s x rest (System p) = (p ≡ length s - 3) × AtCode s × (0xB9 ≤ x)
NowBy s x rest (PictureType p t) = (p ≡ length s - 5) × AtType s × (t ≡ (x / 8) % 8) × (is_type t ≡ false)
NowBy s x rest (ShortPicture p) = ⊥
NowBy s x rest TooLong = length s ≡ max_stream
NowBy s x rest NoMemory = ⊥

pub longer : (s : List ℕ) (x : ℕ) (rest : List ℕ) → length s < length (s ++ x ∷ rest)
longer s x rest = omega (arith, length-append s (x ∷ rest))

pub now_by : (s : List ℕ) (x : ℕ) (rest : List ℕ) (scan : Scan) → holds (s ++ x ∷ rest) scan ≡ true
    → decided_at (s ++ x ∷ rest) scan ≡ length s → NowBy s x rest scan
now_by s x rest Empty h e = let l = longer s x rest in omega arith
now_by s x rest (NoHead q) h e =
    let a = and_parts (q == zeros (s ++ x ∷ rest)) _ h in
    let b = and_parts (nat_lt 0 (length (s ++ x ∷ rest))) _ a.1 in
    (eqb-true _ _ a.0, not-true _ b.1, e)
now_by s x rest (System p) h e =
    let a = and_parts (is_start_code (s ++ x ∷ rest) p) _ h in
    let st = stands (s ++ x ∷ rest) p a.0 in
    (omega arith, code_now s (x ∷ rest) p e st, subst (λ c. 0xB9 ≤ c) (code_is s x rest p e) (leb-true _ _ a.1))
now_by s x rest (PictureType p t) h e =
    let a = and_parts (is_picture (s ++ x ∷ rest) p) _ h in
    let b = and_parts (is_start_code (s ++ x ∷ rest) p) _ a.0 in
    let c = and_parts (nat_lt (p + 5) (length (s ++ x ∷ rest))) _ a.1 in
    let d = and_parts (t == type_at (s ++ x ∷ rest) p) _ c.1 in
    let st = stands (s ++ x ∷ rest) p b.0 in (
      omega arith,
      type_now s (x ∷ rest) p e st (eqb-true _ _ b.1),
      eqb-true _ _ d.0 ∙ type_is s x rest p e,
      not-true _ d.1,
    )
now_by s x rest (ShortPicture p) h e = let l = longer s x rest in omega arith
now_by s x rest TooLong h e = sym e
now_by s x rest NoMemory h e = true≢false (sym h)

pub system_holds : (s : List ℕ) (x : ℕ) (rest : List ℕ) → AtCode s → 0xB9 ≤ x
    → holds (s ++ x ∷ rest) (System (length s - 3)) ≡ true
system_holds s x rest h le =
    let l = at_code_length s h in
    let e : (length s - 3) + 3 ≡ length s = omega arith in
    and_from _ _ (is_standing (s ++ x ∷ rest) (length s - 3) (code_stands s x rest h))
    (le-leb _ _ (subst (λ c. 0xB9 ≤ c) (sym (code_is s x rest (length s - 3) e)) le))

pub type_holds : (s : List ℕ) (x : ℕ) (rest : List ℕ) → AtType s → is_type ((x / 8) % 8) ≡ false
    → holds (s ++ x ∷ rest) (PictureType (length s - 5) ((x / 8) % 8)) ≡ true
type_holds s x rest h bad =
    let l = at_type_length s h in
    let p : ℕ = length s - 5 in
    let e : p + 5 ≡ length s = omega arith in
    let st = type_stands s (x ∷ rest) h in
    let w : p + 5 < length (s ++ x ∷ rest) = omega (arith, length-append s (x ∷ rest)) in
    and_from _ _ (and_from _ _ (is_standing (s ++ x ∷ rest) p st.0) (eq-eqb _ _ st.1))
    (and_from _ _ (lt-ltb _ _ w) (and_from _ _ (eq-eqb _ _ (sym (type_is s x rest p e))) (not_from_false _ bad)))
