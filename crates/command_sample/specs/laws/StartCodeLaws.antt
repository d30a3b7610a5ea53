-- What callers know of the stream of `sample`: it is accepted as a video stream. A start code stands where a header, a
-- picture or a slice begins, and nowhere else.
use Rattle.std.proofs.Common.{◌≡◌, ℕ, zero, suc, ◌+◌, ◌/◌, ◌%◌, ◌<◌, Bool, true, false, List, [], ◌∷◌, ◌++◌, length}
use Rattle.std.proofs.Common.{drop, get_or, refl, sym, ap, ◌∙◌, arith, append_assoc, drop-cons, length-drop}
use Rattle.std.specs.Prelude.{All, ◌&&◌, not, ◌==◌, nat_lt, slice_index}
use Rattle.std.proofs.lemmas.Bool.{and_parts, eqb-true, ltb-true}
use Rattle.std.proofs.lemmas.List.{get_or-drop}
use Rattle.std.proofs.lemmas.List.Elements.{All-head, All-tail}
use Rattle.stream_sample.specs.declared.groups.Picture.{Picture}
use Rattle.stream_sample.specs.declared.groups.TheConstants.{HEADERS, PICTURES}
use Rattle.stream_sample.specs.Filler.{bytes_from}
use Rattle.stream_sample.specs.SampleStream.{picture_head, filled_in, picture_text, state_behind_picture, pictures_text}
use Rattle.stream_sample.specs.SampleStream.{group_text, state_behind_group, sample_text}
use Rattle.stream_sample.specs.laws.SampleLaws.{IsFiller, fillers}
use Rattle.mpeg_scan.specs.StartCodes.{is_start_code, code_at, is_system_code, type_at, is_type}

-- the second byte behind a picture's start code tells a type
abbrev pub tells_type : List ℕ → Bool
tells_type (a ∷ b ∷ rest) = is_type ((b / 8) % 8)
tells_type _ = false

-- where these bytes begin with a start code, it is of a picture with a type, or of no system stream
abbrev pub begins_well : List ℕ → Bool
begins_well (zero ∷ zero ∷ suc zero ∷ zero ∷ rest) = tells_type rest
begins_well (zero ∷ zero ∷ suc zero ∷ suc c ∷ rest) = not (is_system_code (suc c))
begins_well _ = true

-- so from each byte on
abbrev pub is_well : List ℕ → Bool
is_well [] = true
is_well (b ∷ rest) = begins_well (b ∷ rest) && is_well rest

some_first : (b : ℕ) (rest : List ℕ) → 0 < b → is_well (b ∷ rest) ≡ is_well rest
some_first zero rest some = absurd (omega arith)
some_first (suc b) rest some = refl

filled : (bytes rest : List ℕ) → All IsFiller bytes → is_well (bytes ++ rest) ≡ is_well rest
filled [] rest all = refl
filled (b ∷ bytes) rest all =
    some_first b (bytes ++ rest) (All-head IsFiller b bytes all).0 ∙ filled bytes rest (All-tail IsFiller b bytes all)

-- heads of pictures have no other start code
abbrev pub AreHeads : List Picture → Type 0
AreHeads [] = Unit {0}
AreHeads (p ∷ ps) = ((rest : List ℕ) → is_well (picture_head p.kind ++ rest) ≡ is_well rest) × AreHeads ps

pictures_well : (x : ℕ) (ps : List Picture) (rest : List ℕ) → AreHeads ps
    → is_well (pictures_text x ps ++ rest) ≡ is_well rest
unfolding pictures_text picture_text
pictures_well x [] rest heads = refl
pictures_well x (p ∷ ps) rest heads =
    let more : List ℕ = pictures_text (state_behind_picture x p) ps in
    let fill : List ℕ = bytes_from x (filled_in p) in
    ap is_well (append_assoc (picture_head p.kind ++ fill) more rest
    ∙ append_assoc (picture_head p.kind) fill (more ++ rest))
    ∙ heads.0 (fill ++ (more ++ rest)) ∙ filled fill (more ++ rest) (fillers x (filled_in p))
    ∙ pictures_well (state_behind_picture x p) ps rest heads.1

heads : AreHeads PICTURES
heads = (
  (λ rest. refl),
  (
    (λ rest. refl),
    (
      (λ rest. refl),
      (
        (λ rest. refl),
        (
          (λ rest. refl),
          (
            (λ rest. refl),
            ((λ rest. refl), ((λ rest. refl), ((λ rest. refl), ((λ rest. refl), tt)))),
          ),
        ),
      ),
    ),
  ),
)

headers_well : (rest : List ℕ) → is_well (HEADERS ++ rest) ≡ is_well rest
headers_well rest = refl

pub sample_well : (x groups : ℕ) → is_well (sample_text x groups) ≡ true
unfolding sample_text group_text
sample_well x zero = refl
sample_well x (suc groups) =
    let later : List ℕ = sample_text (state_behind_group x) groups in
    ap is_well (append_assoc HEADERS (pictures_text x PICTURES) later)
    ∙ headers_well (pictures_text x PICTURES ++ later) ∙ pictures_well x PICTURES later heads
    ∙ sample_well (state_behind_group x) groups

-- what is well from each byte on is so from any one
at_byte : (s : List ℕ) (p : ℕ) → is_well s ≡ true → begins_well (drop p s) ≡ true
at_byte [] zero well = refl
at_byte [] (suc p) well = refl
at_byte (b ∷ rest) zero well = (and_parts (begins_well (b ∷ rest)) (is_well rest) well).0
at_byte (b ∷ rest) (suc p) well = at_byte rest p (and_parts (begins_well (b ∷ rest)) (is_well rest) well).1

four_bytes : (s : List ℕ) (p q r t : ℕ) → q ≡ suc p → r ≡ suc q → t ≡ suc r → t < length s
    → drop p s ≡ get_or s p 0 ∷ get_or s q 0 ∷ get_or s r 0 ∷ get_or s t 0 ∷ drop (suc t) s
four_bytes s p q r t second third fourth within =
    drop-cons s p 0 (omega arith) ∙ ap (λ (l : List ℕ). get_or s p 0 ∷ l)
    (ap (λ n. drop n s) (sym second) ∙ drop-cons s q 0 (omega arith) ∙ ap (λ (l : List ℕ). get_or s q 0 ∷ l)
    (ap (λ n. drop n s) (sym third) ∙ drop-cons s r 0 (omega arith) ∙ ap (λ (l : List ℕ). get_or s r 0 ∷ l)
    (ap (λ n. drop n s) (sym fourth) ∙ drop-cons s t 0 within)))

replaced : (all rest : List ℕ) (a b c d : ℕ) → all ≡ a ∷ b ∷ c ∷ d ∷ rest → a ≡ 0 → b ≡ 0 → c ≡ 1
    → all ≡ 0 ∷ 0 ∷ 1 ∷ d ∷ rest
replaced all rest a b c d is first second third = cc

-- the bytes of a start code, and those behind it
pub at_start_code : (s : List ℕ) (p : ℕ) → is_start_code s p ≡ true
    → drop p s ≡ 0 ∷ 0 ∷ 1 ∷ code_at s p ∷ drop (suc (p + 3)) s
at_start_code s p starts =
    let parts = and_parts (nat_lt (p + 3) (length s))
    (slice_index s p == 0 && (slice_index s (p + 1) == 0 && slice_index s (p + 2) == 1)) starts in
    let bytes = and_parts (slice_index s p == 0) (slice_index s (p + 1) == 0 && slice_index s (p + 2) == 1) parts.1 in
    let more = and_parts (slice_index s (p + 1) == 0) (slice_index s (p + 2) == 1) bytes.1 in
    replaced (drop p s) (drop (suc (p + 3)) s) (get_or s p 0) (get_or s (p + 1) 0) (get_or s (p + 2) 0)
    (get_or s (p + 3) 0)
    (four_bytes s p (p + 1) (p + 2) (p + 3) (omega arith) (omega arith) (omega arith)
    (ltb-true (p + 3) (length s) parts.0))
    (eqb-true (slice_index s p) 0 bytes.0) (eqb-true (slice_index s (p + 1)) 0 more.0)
    (eqb-true (slice_index s (p + 2)) 1 more.1)

no_system : (c : ℕ) (rest : List ℕ) → begins_well (0 ∷ 0 ∷ 1 ∷ c ∷ rest) ≡ true → is_system_code c ≡ false
no_system zero rest well = refl
no_system (suc c) rest well = by_test (is_system_code (suc c)) well
  where
    by_test : (t : Bool) → not t ≡ true → t ≡ false
    by_test true e = absurd (cc)
    by_test false e = refl

has_type : (c : ℕ) (rest : List ℕ) → begins_well (0 ∷ 0 ∷ 1 ∷ c ∷ rest) ≡ true → c ≡ 0 → tells_type rest ≡ true
has_type zero rest well is = well
has_type (suc c) rest well is = absurd (omega (arith, is))

typed : (rest : List ℕ) → tells_type rest ≡ true
    → (1 < length rest) × (is_type ((get_or rest 1 0 / 8) % 8) ≡ true)
typed [] told = absurd (cc)
typed (a ∷ []) told = absurd (cc)
typed (a ∷ b ∷ rest) told = (omega arith, told)

module _ (s : List ℕ) (well : is_well s ≡ true) (p : ℕ) (starts : is_start_code s p ≡ true) where
  begins : begins_well (0 ∷ 0 ∷ 1 ∷ code_at s p ∷ drop (suc (p + 3)) s) ≡ true
  begins = ap begins_well (sym (at_start_code s p starts)) ∙ at_byte s p well

  pub code_is_video : is_system_code (code_at s p) ≡ false
  code_is_video = no_system (code_at s p) (drop (suc (p + 3)) s) begins

  told : code_at s p ≡ 0
      → (1 < length (drop (suc (p + 3)) s)) × (is_type ((get_or (drop (suc (p + 3)) s) 1 0 / 8) % 8) ≡ true)
  told picture =
      typed (drop (suc (p + 3)) s) (has_type (code_at s p) (drop (suc (p + 3)) s) begins picture)

  pub picture_is_long : code_at s p ≡ 0 → p + 5 < length s
  picture_is_long picture = let long = (told picture).0 in omega (arith, long, length-drop (suc (p + 3)) s)

  pub picture_has_type : code_at s p ≡ 0 → is_type (type_at s p) ≡ true
  picture_has_type picture =
      let place : suc (p + 3) + 1 ≡ p + 5 = omega arith in
      ap (λ (b : ℕ). is_type ((b / 8) % 8))
      (sym (get_or-drop (suc (p + 3)) s 1 0 ∙ ap (λ n. get_or s n 0) place)) ∙ (told picture).1
