-- Each way through `step` that reads the byte.
use Rattle.std.proofs.Common.{◌≡◌, ℕ, ◌-◌, ◌/◌, ◌%◌, Bool, true, false, List, [], ◌∷◌, ◌++◌, length, refl, sym, subst}
use Rattle.std.proofs.Common.{◌∙◌, ap}
use Rattle.std.specs.Prelude.{None}
use Rattle.std.specs.Bool.{MatchBool}
use Rattle.std.proofs.lemmas.Bool.{both_ways}
use Rattle.pet_base.specs.declared.kind.Kind.TheVariants.{Head}
use Rattle.mpeg_scan.specs.declared.piece.Piece.{Piece}
use Rattle.mpeg_scan.specs.declared.scanner.Scanner.{Scanner}
use Rattle.mpeg_scan.specs.StartCodes.{is_opener_code}
use Rattle.mpeg_scan.specs.Pieces.{kind_of_type}
use Rattle.mpeg_scan.specs.Scanning.{HasRead, InPiece, InFront}
use Rattle.mpeg_scan.specs.inside.Moves.{Decides, Advances}
use Rattle.mpeg_scan.proofs.NextByte.{never_both}
use Rattle.mpeg_scan.proofs.Reading.{CodeFields, TypeFields, at_code, code_fields, at_type, type_fields, in_piece}
use Rattle.mpeg_scan.proofs.Reading.{in_front}
use Rattle.mpeg_scan.proofs.OneByteMore.{OpensNow, piece_stays, same_kind, picture_kind}
use Rattle.mpeg_scan.proofs.Opening.{piece_begins, piece_follows, ended, front_stays, read_more}

abbrev DecidesNone : Scanner → ℕ → Type 0
DecidesNone c x = (s : List ℕ) (p : List Piece) → HasRead c s p → Decides s x None

-- what a scanner keeps until it advances
pub record SameBytes (c m : Scanner) : Type 0 where
  pub at : m.at ≡ c.at
  pub refused : m.refused ≡ c.refused
  pub back1 : m.back1 ≡ c.back1
  pub back2 : m.back2 ≡ c.back2
  pub back3 : m.back3 ≡ c.back3
  pub back4 : m.back4 ≡ c.back4

goes : (c m d : Scanner) (x : ℕ) (s : List ℕ) (old given : List Piece) → DecidesNone c x → SameBytes c m
    → Advances m d x → HasRead c s old
    → MatchBool d.opened (InPiece d (s ++ x ∷ []) given) (InFront d (s ++ x ∷ []) given) → HasRead d (s ++ x ∷ []) given
goes c m d x s old given decides k a r place =
    read_more c m d s x old given r (decides s old r) a k.at k.refused k.back1 k.back2 k.back3 k.back4 place

pub at_true : (o : Bool) (P Q : Type 0) → o ≡ true → P → MatchBool o P Q
at_true true P Q e p = p
at_true false P Q e p = absurd (both_ways false refl e)

at_false : (o : Bool) (P Q : Type 0) → o ≡ false → Q → MatchBool o P Q
at_false true P Q e q = absurd (both_ways true e refl)
at_false false P Q e q = q

-- an opener's code ends, and a piece before it
pub follows : (c m d : Scanner) (x : ℕ) → DecidesNone c x → SameBytes c m → Advances m d x → c.opened ≡ true
    → CodeFields c → is_opener_code x ≡ true → m.opened ≡ true → m.from ≡ c.at - 3 → m.code ≡ x → m.kind ≡ Head
    → (s : List ℕ) (old : List Piece) → HasRead c s old → HasRead d (s ++ x ∷ []) (old ++ ended c (c.at - 3) ∷ [])
follows c m d x decides k a o fields opens m_opened m_from m_code m_kind s old r =
    let h = in_piece c s old r o in
    let now : OpensNow s x = (at_code c s old r fields, opens) in
    let piece = piece_follows c d s x old h now (a.code ∙ m_code) (a.from ∙ (m_from ∙ ap (λ n. n - 3) r.at))
    (a.kind ∙ m_kind) in
    subst (λ n. HasRead d (s ++ x ∷ []) (old ++ ended c (n - 3) ∷ [])) (sym r.at)
    (goes c m d x s old (old ++ ended c (length s - 3) ∷ []) decides k a r
    (at_true d.opened _ _ (a.opened ∙ m_opened) piece))

-- the first opener's
pub begins : (c m d : Scanner) (x : ℕ) → DecidesNone c x → SameBytes c m → Advances m d x → c.opened ≡ false
    → CodeFields c → is_opener_code x ≡ true → m.opened ≡ true → m.from ≡ c.from → m.code ≡ x → m.kind ≡ Head
    → (s : List ℕ) (old : List Piece) → HasRead c s old → HasRead d (s ++ x ∷ []) old
begins c m d x decides k a o fields opens m_opened m_from m_code m_kind s old r =
    let h = in_front c s old r o in
    let now : OpensNow s x = (at_code c s old r fields, opens) in
    goes c m d x s old old decides k a r
    (at_true d.opened _ _ (a.opened ∙ m_opened)
    (piece_begins c d s x old h now (decides s old r) (a.code ∙ m_code) (a.from ∙ m_from) (a.kind ∙ m_kind)))

-- no opener's code ends: the place stays
stays : (c d : Scanner) (x : ℕ) (s : List ℕ) (old : List Piece) → HasRead c s old → Decides s x None
    → (OpensNow s x → ⊥) → d.from ≡ c.from → d.code ≡ c.code → (o : Bool) → c.opened ≡ o → d.opened ≡ o
    → ((h : InPiece c s old) → InPiece d (s ++ x ∷ []) old)
    → MatchBool d.opened (InPiece d (s ++ x ∷ []) old) (InFront d (s ++ x ∷ []) old)
stays c d x s old r decides none from code true co new piece = at_true d.opened _ _ new (piece (in_piece c s old r co))
stays c d x s old r decides none from code false co new piece =
    at_false d.opened _ _ new (front_stays c d s x old (in_front c s old r co) none decides from)

-- no opener's code ends and no type comes
pub plain : (c d : Scanner) (x : ℕ) → DecidesNone c x → Advances c d x → (CodeFields c → is_opener_code x ≡ false)
    → (TypeFields c → ⊥) → (s : List ℕ) (old : List Piece) → HasRead c s old → HasRead d (s ++ x ∷ []) old
plain c d x decides a closed untyped s old r =
    let none : OpensNow s x → ⊥ = λ now. both_ways _ (closed (code_fields c s old r now.0)) now.1 in
    goes c c d x s old old decides
    (record { at = refl; refused = refl; back1 = refl; back2 = refl; back3 = refl; back4 = refl }) a r
    (stays c d x s old r (decides s old r) none a.from a.code c.opened refl a.opened
    (λ h. piece_stays c d s x old h none a.code a.from
    (λ known. a.kind ∙ same_kind c s x old h (λ t. untyped (type_fields c s old r t)) known)))

-- a picture's type comes
pub typed : (c m d : Scanner) (x : ℕ) → DecidesNone c x → SameBytes c m → Advances m d x → TypeFields c
    → m.opened ≡ c.opened → m.from ≡ c.from → m.code ≡ c.code → m.kind ≡ kind_of_type ((x / 8) % 8)
    → (s : List ℕ) (old : List Piece) → HasRead c s old → HasRead d (s ++ x ∷ []) old
typed c m d x decides k a fields m_opened m_from m_code m_kind s old r =
    let t = at_type c s old r fields in
    let none : OpensNow s x → ⊥ = λ now. never_both s now.0 t in
    goes c m d x s old old decides k a r
    (stays c d x s old r (decides s old r) none (a.from ∙ m_from) (a.code ∙ m_code) c.opened refl (a.opened ∙ m_opened)
    (λ h. piece_stays c d s x old h none (a.code ∙ m_code) (a.from ∙ m_from)
    (λ known. a.kind ∙ (m_kind ∙ picture_kind c s x old h t))))
