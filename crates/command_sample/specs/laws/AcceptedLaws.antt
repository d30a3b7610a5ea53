-- What callers know of the stream of `sample`: it is accepted as a video stream.
use Rattle.std.proofs.Common.{◌≡◌, ℕ, suc, ◌+◌, ◌<◌, Bool, true, false, List, ◌∷◌, ◌++◌, length}
use Rattle.std.proofs.Common.{drop, refl, ap, ◌∙◌, arith}
use Rattle.std.specs.Prelude.{◌&&◌, not, ◌==◌, nat_le, nat_lt}
use Rattle.std.proofs.lemmas.Bool.{ne_eqb, eqb-true, lt-ltb, le-ltb}
use Rattle.pet_base.specs.declared.limits.TheConstants.{MAX_STREAM, MAX_SAMPLE_GROUPS}
use Rattle.stream_sample.specs.declared.groups.TheConstants.{HEADERS, PICTURES}
use Rattle.stream_sample.specs.SampleStream.{pictures_text, group_text, state_behind_group, sample_text}
use Rattle.stream_sample.specs.laws.SampleLaws.{sample_length}
use Rattle.mpeg_scan.specs.declared.refusal.Scan.TheVariants.{Empty, NoHead, System, PictureType, ShortPicture, TooLong}
use Rattle.mpeg_scan.specs.declared.refusal.Scan.TheVariants.{NoMemory}
use Rattle.mpeg_scan.specs.StartCodes.{is_start_code, code_at, is_system_code, is_picture, type_at, is_type}
use Rattle.mpeg_scan.specs.Refusals.{zeros, has_head, IsAccepted}
use Rattle.command_sample.specs.laws.StartCodeLaws.{is_well, sample_well, code_is_video, picture_is_long}
use Rattle.command_sample.specs.laws.StartCodeLaws.{picture_has_type}

-- bytes that begin with the code of a sequence header
heads : (rest : List ℕ) → has_head (0 ∷ 0 ∷ 1 ∷ 0xB3 ∷ rest) ≡ true
heads rest = rw (lt-ltb 3 (length (0 ∷ 0 ∷ 1 ∷ 0xB3 ∷ rest)) (omega arith)) refl

sample_heads : (x groups : ℕ) → has_head (sample_text x (suc groups)) ≡ true
unfolding sample_text group_text
sample_heads x groups =
    heads (drop 4 HEADERS ++ (pictures_text x PICTURES ++ sample_text (state_behind_group x) groups))

both : (a b : Bool) → (a ≡ true → b ≡ false) → (a && b) ≡ false
both true b then = then refl
both false b then = refl

module _ (s : List ℕ) (well : is_well s ≡ true) where
  no_system_code : (p : ℕ) → (is_start_code s p && is_system_code (code_at s p)) ≡ false
  no_system_code p =
      both (is_start_code s p) (is_system_code (code_at s p)) (λ starts. code_is_video s well p starts)

  short_picture : (p : ℕ) → (is_picture s p && nat_le (length s) (p + 5)) ≡ false
  short_picture p = by_start (is_start_code s p) refl
    where
      by_start : (t : Bool) → is_start_code s p ≡ t
          → ((t && (code_at s p == 0)) && nat_le (length s) (p + 5)) ≡ false
      by_start false starts = refl
      by_start true starts =
          both (code_at s p == 0) (nat_le (length s) (p + 5)) (λ picture.
          short (picture_is_long s well p starts (eqb-true (code_at s p) 0 picture)))
        where
          short : p + 5 < length s → nat_le (length s) (p + 5) ≡ false
          short long = grind (arith, long)

  picture_type : (p t : ℕ)
      → (is_picture s p && (nat_lt (p + 5) (length s) && (t == type_at s p && not (is_type t)))) ≡ false
  picture_type p t = by_start (is_start_code s p) refl
    where
      is_one : (t ≡ type_at s p) → is_type (type_at s p) ≡ true
          → not (is_type t) ≡ false
      is_one same typed = ap (λ n. not (is_type n)) same ∙ ap not typed

      by_start : (b : Bool) → is_start_code s p ≡ b
          → ((b && (code_at s p == 0)) && (nat_lt (p + 5) (length s) && (t == type_at s p && not (is_type t)))) ≡ false
      by_start false starts = refl
      by_start true starts =
          both (code_at s p == 0) (nat_lt (p + 5) (length s) && (t == type_at s p && not (is_type t))) (λ picture.
          both (nat_lt (p + 5) (length s)) (t == type_at s p && not (is_type t)) (λ inside.
          both (t == type_at s p) (not (is_type t)) (λ same.
          is_one (eqb-true t (type_at s p) same)
          (picture_has_type s well p starts (eqb-true (code_at s p) 0 picture)))))

-- for callers: of one group more
pub sample_accepted : (x groups : ℕ) → groups < MAX_SAMPLE_GROUPS → IsAccepted (sample_text x (suc groups))
sample_accepted x groups few Empty =
    ne_eqb (length (sample_text x (suc groups))) 0 (λ e. omega (arith, e, sample_length x (suc groups)))
sample_accepted x groups few (NoHead q) =
    both (q == zeros (sample_text x (suc groups)))
    (nat_lt 0 (length (sample_text x (suc groups))) && not (has_head (sample_text x (suc groups)))) (λ e.
    both (nat_lt 0 (length (sample_text x (suc groups)))) (not (has_head (sample_text x (suc groups)))) (λ some.
    ap not (sample_heads x groups)))
sample_accepted x groups few (System p) =
    no_system_code (sample_text x (suc groups)) (sample_well x (suc groups)) p
sample_accepted x groups few (PictureType p t) =
    picture_type (sample_text x (suc groups)) (sample_well x (suc groups)) p t
sample_accepted x groups few (ShortPicture p) =
    short_picture (sample_text x (suc groups)) (sample_well x (suc groups)) p
sample_accepted x groups few TooLong =
    le-ltb MAX_STREAM (length (sample_text x (suc groups))) (omega (arith, few, sample_length x (suc groups)))
sample_accepted x groups few NoMemory = refl
