-- What a scanner that has read a stream knows of it, in the words of its fields.
use Rattle.std.proofs.Common.{◌≡◌, ◌≢◌, ℕ, ◌-◌, ◌/◌, ◌%◌, ◌<◌, ◌≤◌, Bool, true, false, List, length, refl, sym, ◌∙◌}
use Rattle.std.proofs.Common.{subst, arith, ◌⊎◌, inl, inr}
use Rattle.std.specs.Prelude.{Some, None}
use Rattle.std.proofs.lemmas.Bool.{MatchBool-at_true, MatchBool-at_false}
use Rattle.mpeg_scan.specs.declared.piece.Piece.{Piece}
use Rattle.mpeg_scan.specs.declared.scanner.Scanner.{Scanner}
use Rattle.mpeg_scan.specs.declared.refusal.Scan.TheVariants.{NoHead, System, PictureType}
use Rattle.mpeg_scan.specs.StartCodes.{is_type, is_head_code}
use Rattle.mpeg_scan.specs.Refusals.{max_stream}
use Rattle.mpeg_scan.specs.Scanning.{HasRead, InPiece, InFront, IsFront}
use Rattle.mpeg_scan.specs.inside.Moves.{Decides}
use Rattle.mpeg_scan.proofs.NextByte.{AtCode, AtType}
use Rattle.mpeg_scan.proofs.LeadingZeros.{AllZero, all_zero_no_code, zeros_one_code}
use Rattle.mpeg_scan.proofs.Deciding.{HeadKnown, decides_system, decides_no_head_zero, decides_no_head_one}
use Rattle.mpeg_scan.proofs.Deciding.{decides_type, decides_none_piece, decides_none_zero, decides_none_one}

abbrev pub CodeFields : Scanner → Type 0
CodeFields c = (c.back3 ≡ 0) × (c.back2 ≡ 0) × (c.back1 ≡ 1)

abbrev pub TypeFields : Scanner → Type 0
TypeFields c = (c.back5 ≡ 0) × (c.back4 ≡ 0) × (c.back3 ≡ 1) × (c.back2 ≡ 0)

pub at_code : (c : Scanner) (s : List ℕ) (p : List Piece) → HasRead c s p → CodeFields c → AtCode s
at_code c s p r h = record { third = sym r.back3 ∙ h.0; second = sym r.back2 ∙ h.1; first = sym r.back1 ∙ h.2 }

pub code_fields : (c : Scanner) (s : List ℕ) (p : List Piece) → HasRead c s p → AtCode s → CodeFields c
code_fields c s p r h = (r.back3 ∙ h.third, r.back2 ∙ h.second, r.back1 ∙ h.first)

pub at_type : (c : Scanner) (s : List ℕ) (p : List Piece) → HasRead c s p → TypeFields c → AtType s
at_type c s p r h =
    record {
      fifth = sym r.back5 ∙ h.0;
      fourth = sym r.back4 ∙ h.1;
      third = sym r.back3 ∙ h.2;
      second = sym r.back2 ∙ h.3;
    }

pub type_fields : (c : Scanner) (s : List ℕ) (p : List Piece) → HasRead c s p → AtType s → TypeFields c
type_fields c s p r h = (r.back5 ∙ h.fifth, r.back4 ∙ h.fourth, r.back3 ∙ h.third, r.back2 ∙ h.second)

pub in_piece : (c : Scanner) (s : List ℕ) (p : List Piece) → HasRead c s p → c.opened ≡ true → InPiece c s p
in_piece c s p r o = MatchBool-at_true (InPiece c s p) (InFront c s p) o r.place

pub in_front : (c : Scanner) (s : List ℕ) (p : List Piece) → HasRead c s p → c.opened ≡ false → InFront c s p
in_front c s p r o = MatchBool-at_false (InPiece c s p) (InFront c s p) o r.place

place_of : (c : Scanner) (s : List ℕ) (p : List Piece) → HasRead c s p → (o : Bool) → c.opened ≡ o
    → HeadKnown s ⊎ IsFront s
place_of c s p r true o = inl (in_piece c s p r o).head
place_of c s p r false o = inr (in_front c s p r o).front

-- each way out of `refusal_by`
pub system_by : (c : Scanner) (x : ℕ) → c.at < max_stream → CodeFields c → 0xB9 ≤ x → (s : List ℕ) (p : List Piece)
    → HasRead c s p → Decides s x (Some (System (c.at - 3)))
system_by c x lt code le s p r =
    subst (λ n. Decides s x (Some (System (n - 3)))) (sym r.at)
    (decides_system s x r.undecided (at_code c s p r code) le (let a = r.at in omega arith)
    (place_of c s p r c.opened refl))

pub none_in_piece_by : (c : Scanner) (x : ℕ) → c.at < max_stream → c.opened ≡ true → (CodeFields c → x < 0xB9)
    → (TypeFields c → is_type ((x / 8) % 8) ≡ true) → (s : List ℕ) (p : List Piece) → HasRead c s p → Decides s x None
none_in_piece_by c x lt o code good s p r =
    decides_none_piece s x (in_piece c s p r o).head (let a = r.at in omega arith) (λ h. code (code_fields c s p r h))
    (λ h. good (type_fields c s p r h))

pub no_type_at_code : (c : Scanner) → CodeFields c → TypeFields c → ⊥
no_type_at_code c h k = let a = h.0 in let b = k.2 in omega arith

head_by_place : (c : Scanner) (x : ℕ) → c.at < max_stream → CodeFields c → x < 0xB9 → is_head_code x ≡ true
    → (s : List ℕ) (p : List Piece) → HasRead c s p → IsFront s → Decides s x None
head_by_place c x lt code below head s p r (inl z) = absurd (all_zero_no_code s z (at_code c s p r code))
head_by_place c x lt code below head s p r (inr o) = decides_none_one s x o (let a = r.at in omega arith) head below

pub head_by : (c : Scanner) (x : ℕ) → c.at < max_stream → c.opened ≡ false → CodeFields c → x < 0xB9
    → is_head_code x ≡ true → (s : List ℕ) (p : List Piece) → HasRead c s p → Decides s x None
head_by c x lt o code below head s p r = head_by_place c x lt code below head s p r (in_front c s p r o).front

no_head_by_place : (c : Scanner) (x : ℕ) → c.at < max_stream → CodeFields c → x < 0xB9 → is_head_code x ≡ false
    → (s : List ℕ) (p : List Piece) → HasRead c s p → IsFront s → Decides s x (Some (NoHead (length s - 1)))
no_head_by_place c x lt code below head s p r (inl z) = absurd (all_zero_no_code s z (at_code c s p r code))
no_head_by_place c x lt code below head s p r (inr o) =
    decides_no_head_one s x r.undecided o head below (let a = r.at in omega arith)

pub no_head_by : (c : Scanner) (x : ℕ) → c.at < max_stream → c.opened ≡ false → CodeFields c → x < 0xB9
    → is_head_code x ≡ false → (s : List ℕ) (p : List Piece) → HasRead c s p → Decides s x (Some (NoHead (c.at - 1)))
no_head_by c x lt o code below head s p r =
    subst (λ n. Decides s x (Some (NoHead (n - 1)))) (sym r.at)
    (no_head_by_place c x lt code below head s p r (in_front c s p r o).front)

pub type_by : (c : Scanner) (x : ℕ) → c.at < max_stream → c.opened ≡ true → TypeFields c
    → is_type ((x / 8) % 8) ≡ false → (s : List ℕ) (p : List Piece) → HasRead c s p
    → Decides s x (Some (PictureType (c.at - 5) ((x / 8) % 8)))
type_by c x lt o fields bad s p r =
    subst (λ n. Decides s x (Some (PictureType (n - 5) ((x / 8) % 8)))) (sym r.at)
    (decides_type s x r.undecided (in_piece c s p r o).head (at_type c s p r fields) bad (let a = r.at in omega arith))

all_zero_by : (c : Scanner) (s : List ℕ) (p : List Piece) → HasRead c s p → (CodeFields c → ⊥) → IsFront s → AllZero s
all_zero_by c s p r code (inl z) = z
all_zero_by c s p r code (inr o) = absurd (code (code_fields c s p r (zeros_one_code s o)))

pub front_none_by : (c : Scanner) (x : ℕ) → c.at < max_stream → c.opened ≡ false → (CodeFields c → ⊥)
    → (x ≢ 0 → (x ≡ 1) × (2 ≤ c.at)) → (s : List ℕ) (p : List Piece) → HasRead c s p → Decides s x None
front_none_by c x lt o code fine s p r =
    decides_none_zero s x (all_zero_by c s p r code (in_front c s p r o).front) (let a = r.at in omega arith)
    (λ ne. let f = fine ne in (f.0, let two = f.1 in let a = r.at in omega arith))

pub front_no_head_by : (c : Scanner) (x : ℕ) → c.at < max_stream → c.opened ≡ false → (CodeFields c → ⊥) → x ≢ 0
    → (c.at < 2) ⊎ (x ≢ 1) → (s : List ℕ) (p : List Piece) → HasRead c s p → Decides s x (Some (NoHead c.at))
front_no_head_by c x lt o code ne few s p r =
    subst (λ n. Decides s x (Some (NoHead n))) (sym r.at)
    (decides_no_head_zero s x r.undecided (all_zero_by c s p r code (in_front c s p r o).front) ne
    (elim few [ inl two ↦ inl (let a = r.at in omega arith) | inr other ↦ inr other ]) (let a = r.at in omega arith))
