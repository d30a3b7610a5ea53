-- What callers know of the stream of `sample`: its pieces. A header or a picture begins where one was made, and nowhere
-- else.
use Rattle.std.proofs.Common.{◌≡◌, ℕ, zero, suc, ◌+◌, ◌-◌, ◌/◌, ◌%◌, ◌<◌, ◌≤◌, Bool, true, false, cond, List, [], ◌∷◌, ◌++◌}
use Rattle.std.proofs.Common.{length, map, drop, get_or, refl, sym, ap, ap₂, ◌∙◌, arith, append_assoc, drop-cons, length-drop}
use Rattle.std.proofs.Common.{inl, inr}
use Rattle.std.specs.Prelude.{All, ◌&&◌, ◌==◌}
use Rattle.std.specs.List.{filter, range_with_len}
use Rattle.std.proofs.lemmas.Bool.{cases_Bool, cond-true, cond-false, both_ways}
use Rattle.std.proofs.lemmas.List.{get_or-drop}
use Rattle.std.proofs.lemmas.List.Elements.{All-head, All-tail}
use Rattle.pet_base.specs.declared.kind.Kind.{Kind}
use Rattle.pet_base.specs.declared.kind.Kind.TheVariants.{Head}
use Rattle.mpeg_scan.specs.declared.piece.Piece.{Piece}
use Rattle.mpeg_scan.specs.StartCodes.{is_start_code, is_opener, is_opener_code, code_at}
use Rattle.mpeg_scan.specs.Pieces.{kind_at, kind_of_type, piece_of, pieces_from, pieces_of}
use Rattle.mpeg_scan.specs.laws.OpenerLaws.{is_standing}
use Rattle.stream_sample.specs.declared.groups.Picture.{Picture}
use Rattle.stream_sample.specs.declared.groups.TheConstants.{HEADERS, PICTURES}
use Rattle.stream_sample.specs.Filler.{bytes_from}
use Rattle.stream_sample.specs.SampleStream.{picture_head, filled_in, picture_text, state_behind_picture, pictures_text}
use Rattle.stream_sample.specs.SampleStream.{group_text, state_behind_group, sample_text}
use Rattle.stream_sample.specs.laws.SampleLaws.{IsFiller, fillers, filler_length}
use Rattle.command_sample.specs.laws.StartCodeLaws.{at_start_code}

-- these bytes begin with the start code of a piece
abbrev opens : List ℕ → Bool
opens (zero ∷ zero ∷ suc zero ∷ c ∷ rest) = is_opener_code c
opens _ = false

not_opened : (t : List ℕ) → ((c : ℕ) (rest : List ℕ) → t ≡ 0 ∷ 0 ∷ 1 ∷ c ∷ rest → ⊥) → opens t ≡ false
not_opened [] other = refl
not_opened (suc a ∷ t) other = refl
not_opened (zero ∷ []) other = refl
not_opened (zero ∷ suc a ∷ t) other = refl
not_opened (zero ∷ zero ∷ []) other = refl
not_opened (zero ∷ zero ∷ zero ∷ t) other = refl
not_opened (zero ∷ zero ∷ suc (suc a) ∷ t) other = refl
not_opened (zero ∷ zero ∷ suc zero ∷ []) other = refl
not_opened (zero ∷ zero ∷ suc zero ∷ c ∷ rest) other = absurd (other c rest refl)

-- bytes of a list are those behind a place
byte_behind : (s t : List ℕ) (p i : ℕ) → drop p s ≡ t → get_or s (p + i) 0 ≡ get_or t i 0
byte_behind s t p i is = sym (get_or-drop p s i 0) ∙ ap (λ (l : List ℕ). get_or l i 0) is

stands_there : (s : List ℕ) (p c : ℕ) (rest : List ℕ) → drop p s ≡ 0 ∷ 0 ∷ 1 ∷ c ∷ rest → is_start_code s p ≡ true
stands_there s p c rest is =
    let long : length (drop p s) ≡ suc (suc (suc (suc (length rest)))) = ap (λ (l : List ℕ). length l) is in
    let place : p ≡ p + 0 = omega arith in
    is_standing s p (record {
      within = omega (arith, long, length-drop p s);
      zero1 = ap (λ (n : ℕ). get_or s n 0) place ∙ byte_behind s (0 ∷ 0 ∷ 1 ∷ c ∷ rest) p 0 is;
      zero2 = byte_behind s (0 ∷ 0 ∷ 1 ∷ c ∷ rest) p 1 is;
      one = byte_behind s (0 ∷ 0 ∷ 1 ∷ c ∷ rest) p 2 is;
    })

opener_is : (s : List ℕ) (p : ℕ) → is_opener s p ≡ opens (drop p s)
opener_is s p = elim (cases_Bool (is_start_code s p)) [
  | inl starts ↦
      ap (λ (b : Bool). b && is_opener_code (code_at s p)) starts ∙ sym (ap opens (at_start_code s p starts))
  | inr none ↦
      ap (λ (b : Bool). b && is_opener_code (code_at s p)) none
      ∙ sym (not_opened (drop p s) (λ c rest is. both_ways (is_start_code s p) none (stands_there s p c rest is)))
]

kind_behind : (s t : List ℕ) (p : ℕ) → drop p s ≡ t → kind_at s p ≡ kind_at t 0
kind_behind s t p is =
    ap₂ (λ (code byte : ℕ). cond (code == 0x00) (kind_of_type ((byte / 8) % 8)) Head) (byte_behind s t p 3 is)
    (byte_behind s t p 5 is)

-- a piece that has this kind and this code, and so many bytes from one on
abbrev pub piece : Kind → ℕ → ℕ → ℕ → Piece
piece kind code from len = record { kind = kind; code = code; at = from; len = len }

-- the pieces of a stream of which these bytes are left, when the one that has begun has so many bytes already
abbrev walk : Kind → ℕ → ℕ → ℕ → List ℕ → List Piece
walk kind code from len [] = piece kind code from len ∷ []
walk kind code from len (b ∷ rest) = elim (opens (b ∷ rest)) as (λ _. List Piece) [
  | true ↦ piece kind code from len ∷ walk (kind_at (b ∷ rest) 0) (code_at (b ∷ rest) 0) (from + len) 1 rest
  | false ↦ walk kind code from (suc len) rest
]

module _ (s : List ℕ) where
  walked : (q from len p : ℕ) (t : List ℕ) → drop p s ≡ t → p + length t ≡ length s → from + len ≡ p
      → pieces_from s q from (filter (is_opener s) (range_with_len p (length t)))
      ≡ walk (kind_at s q) (code_at s q) from len t
  walked q from len p [] is whole at =
      ap (λ (n : ℕ). piece (kind_at s q) (code_at s q) from n ∷ [])
      (let e : length s - from ≡ len = omega (arith, whole, at) in e)
  walked q from len p (b ∷ rest) is whole at =
      let next : List ℕ = filter (is_opener s) (range_with_len (p + 1) (length rest)) in
      let behind : drop (p + 1) s ≡ rest = drop_one p s b rest is in
      let left : (p + 1) + length rest ≡ length s = omega (arith, whole) in
      elim (cases_Bool (opens (b ∷ rest))) [
        | inl opened ↦
            ap (pieces_from s q from)
            (cond-true (is_opener s p) (p ∷ next) next (opener_is s p ∙ ap opens is ∙ opened))
            ∙ ap₂ (λ (x : Piece) (l : List Piece). x ∷ l)
            (ap (λ (n : ℕ). piece (kind_at s q) (code_at s q) from n)
            (let e : p - from ≡ len = omega (arith, at) in e))
            (walked p p 1 (p + 1) rest behind left refl
            ∙ ap₂ (λ (k : Kind) (c : ℕ). walk k c p 1 rest) (kind_behind s (b ∷ rest) p is)
            (byte_behind s (b ∷ rest) p 3 is)
            ∙ ap (λ (n : ℕ). walk (kind_at (b ∷ rest) 0) (code_at (b ∷ rest) 0) n 1 rest) (sym at))
            ∙ ap (λ (o : Bool). elim o as (λ _. List Piece) [
              | true ↦ piece (kind_at s q) (code_at s q) from len
                  ∷ walk (kind_at (b ∷ rest) 0) (code_at (b ∷ rest) 0) (from + len) 1 rest
              | false ↦ walk (kind_at s q) (code_at s q) from (suc len) rest
            ]) (sym opened)
        | inr plain ↦
            ap (pieces_from s q from)
            (cond-false (is_opener s p) (p ∷ next) next (opener_is s p ∙ ap opens is ∙ plain))
            ∙ walked q from (suc len) (p + 1) rest behind left (omega (arith, at))
            ∙ ap (λ (o : Bool). elim o as (λ _. List Piece) [
              | true ↦ piece (kind_at s q) (code_at s q) from len
                  ∷ walk (kind_at (b ∷ rest) 0) (code_at (b ∷ rest) 0) (from + len) 1 rest
              | false ↦ walk (kind_at s q) (code_at s q) from (suc len) rest
            ]) (sym plain)
      ]
    where
      drop_one : (p : ℕ) (l : List ℕ) (b : ℕ) (rest : List ℕ) → drop p l ≡ b ∷ rest → drop (p + 1) l ≡ rest
      drop_one p l b rest is =
          sym (Rattle.std.proofs.Common.drop-drop 1 p l) ∙ ap (drop 1) is

-- ---- the bytes that were made

walk_filled : (kind : Kind) (code from len : ℕ) (bytes rest : List ℕ) → All IsFiller bytes
    → walk kind code from len (bytes ++ rest) ≡ walk kind code from (len + length bytes) rest
walk_filled kind code from len [] rest all =
    ap (λ (n : ℕ). walk kind code from n rest) (let e : len ≡ len + 0 = omega arith in e)
walk_filled kind code from len (zero ∷ bytes) rest all = absurd (let some = (All-head IsFiller zero bytes all).0 in omega arith)
walk_filled kind code from len (suc b ∷ bytes) rest all =
    walk_filled kind code from (suc len) bytes rest (All-tail IsFiller (suc b) bytes all)
    ∙ ap (λ (n : ℕ). walk kind code from n rest)
    (let e : suc len + length bytes ≡ len + suc (length bytes) = omega arith in e)

-- the kind of a piece, its code and its length
abbrev pub Shape : Type 0
Shape = Kind × ℕ × ℕ

abbrev pub shape_of : Picture → Shape
shape_of p = (kind_of_type ((p.kind / 8) % 8), 0, p.size)

-- a piece, then pieces of these shapes, of which the last goes on with these bytes
abbrev emit : Kind → ℕ → ℕ → ℕ → List Shape → List ℕ → List Piece
emit kind code from len [] rest = walk kind code from len rest
emit kind code from len (x ∷ xs) rest = piece kind code from len ∷ emit x.0 x.1 (from + len) x.2 xs rest

emit_more : (xs ys : List Shape) (r t : List ℕ)
    → ((kind : Kind) (code from len : ℕ) → walk kind code from len r ≡ emit kind code from len ys t)
    → (kind : Kind) (code from len : ℕ) → emit kind code from len xs r ≡ emit kind code from len (xs ++ ys) t
emit_more [] ys r t goes kind code from len = goes kind code from len
emit_more (x ∷ xs) ys r t goes kind code from len =
    ap (λ (l : List Piece). piece kind code from len ∷ l) (emit_more xs ys r t goes x.0 x.1 (from + len) x.2)

-- a picture begins where its head does
abbrev Begins : Picture → Type 0
Begins p =
    (kind : Kind) (code from len : ℕ) (rest : List ℕ)
    → walk kind code from len (picture_head p.kind ++ rest)
    ≡ piece kind code from len ∷ walk (kind_of_type ((p.kind / 8) % 8)) 0 (from + len) 12 rest

abbrev ArePictures : List Picture → Type 0
ArePictures [] = Unit {0}
ArePictures (p ∷ ps) = Begins p × (12 ≤ p.size) × ArePictures ps

walk_pictures : (x : ℕ) (ps : List Picture) (rest : List ℕ) → ArePictures ps
    → (kind : Kind) (code from len : ℕ)
    → walk kind code from len (pictures_text x ps ++ rest) ≡ emit kind code from len (map shape_of ps) rest
unfolding pictures_text picture_text
walk_pictures x [] rest are kind code from len = refl
walk_pictures x (p ∷ ps) rest are kind code from len =
    let more : List ℕ = pictures_text (state_behind_picture x p) ps in
    let fill : List ℕ = bytes_from x (filled_in p) in
    let its : Kind = kind_of_type ((p.kind / 8) % 8) in
    ap (walk kind code from len) (append_assoc (picture_head p.kind ++ fill) more rest
    ∙ append_assoc (picture_head p.kind) fill (more ++ rest))
    ∙ are.0 kind code from len (fill ++ (more ++ rest))
    ∙ ap (λ (l : List Piece). piece kind code from len ∷ l)
    (walk_filled its 0 (from + len) 12 fill (more ++ rest) (fillers x (filled_in p))
    ∙ ap (λ (n : ℕ). walk its 0 (from + len) n (more ++ rest))
    (let e : 12 + length fill ≡ p.size = omega (arith, are.1, filler_length x (filled_in p)) in e)
    ∙ walk_pictures (state_behind_picture x p) ps rest are.2 its 0 (from + len) p.size)

begins_i : (size : ℕ) → Begins (record { kind = 0x0F; size = size })
begins_i size kind code from len rest = refl

begins_p : (size : ℕ) → Begins (record { kind = 0x17; size = size })
begins_p size kind code from len rest = refl

begins_b : (size : ℕ) → Begins (record { kind = 0x1F; size = size })
begins_b size kind code from len rest = refl

are_pictures : ArePictures PICTURES
are_pictures = (
  begins_i 19941,
  omega arith,
  (
    begins_p 10000,
    omega arith,
    (
      begins_b 3667,
      omega arith,
      (
        begins_b 3667,
        omega arith,
        (
          begins_p 10000,
          omega arith,
          (
            begins_b 3667,
            omega arith,
            (
              begins_b 3667,
              omega arith,
              (
                begins_p 10000,
                omega arith,
                (begins_b 3667, omega arith, (begins_b 3665, omega arith, tt)),
              ),
            ),
          ),
        ),
      ),
    ),
  ),
)

-- a sequence header, and a group of pictures
abbrev pub head_shapes : List Shape
head_shapes = (Head, 0xB3, 12) ∷ (Head, 0xB8, 8) ∷ []

-- those of a group, and of so many
abbrev pub group_shapes : List Shape
group_shapes = head_shapes ++ map shape_of PICTURES

unfoldable pub shapes_of : ℕ → List Shape
shapes_of zero = []
shapes_of (suc groups) = group_shapes ++ shapes_of groups

walk_heads : (rest : List ℕ) (kind : Kind) (code from len : ℕ)
    → walk kind code from len (HEADERS ++ rest) ≡ emit kind code from len head_shapes rest
walk_heads rest kind code from len = refl

walk_group : (x : ℕ) (rest : List ℕ) (kind : Kind) (code from len : ℕ)
    → walk kind code from len (group_text x ++ rest) ≡ emit kind code from len group_shapes rest
unfolding group_text
walk_group x rest kind code from len =
    ap (walk kind code from len) (append_assoc HEADERS (pictures_text x PICTURES) rest)
    ∙ walk_heads (pictures_text x PICTURES ++ rest) kind code from len
    ∙ emit_more head_shapes (map shape_of PICTURES) (pictures_text x PICTURES ++ rest) rest
    (walk_pictures x PICTURES rest are_pictures) kind code from len

walk_sample : (x groups : ℕ) (kind : Kind) (code from len : ℕ)
    → walk kind code from len (sample_text x groups) ≡ emit kind code from len (shapes_of groups) []
unfolding sample_text shapes_of
walk_sample x zero kind code from len = refl
walk_sample x (suc groups) kind code from len =
    walk_group x (sample_text (state_behind_group x) groups) kind code from len
    ∙ emit_more group_shapes (shapes_of groups) (sample_text (state_behind_group x) groups) []
    (walk_sample (state_behind_group x) groups) kind code from len

-- pieces of these shapes, one behind the other from a byte on
abbrev pub pieces_on : ℕ → List Shape → List Piece
pieces_on from [] = []
pieces_on from (x ∷ xs) = piece x.0 x.1 from x.2 ∷ pieces_on (from + x.2) xs

emitted : (kind : Kind) (code from len : ℕ) (xs : List Shape)
    → emit kind code from len xs [] ≡ pieces_on from ((kind, code, len) ∷ xs)
emitted kind code from len [] = refl
emitted kind code from len (x ∷ xs) =
    ap (λ (l : List Piece). piece kind code from len ∷ l) (emitted x.0 x.1 (from + len) x.2 xs)

-- a stream that begins with a sequence header
from_start : (rest : List ℕ)
    → pieces_of (0 ∷ 0 ∷ 1 ∷ 0xB3 ∷ rest) ≡ walk Head 0xB3 0 1 (0 ∷ 1 ∷ 0xB3 ∷ rest)
from_start rest =
    let s : List ℕ = 0 ∷ 0 ∷ 1 ∷ 0xB3 ∷ rest in
    let tail : List ℕ = 0 ∷ 1 ∷ 0xB3 ∷ rest in
    let next : List ℕ = filter (is_opener s) (range_with_len 1 (length tail)) in
    ap (Rattle.mpeg_scan.specs.Pieces.pieces_at s) (cond-true (is_opener s 0) (0 ∷ next) next (opener_is s 0))
    ∙ walked s 0 0 1 1 tail refl (omega arith) refl

pub sample_pieces : (x groups : ℕ) → pieces_of (sample_text x (suc groups)) ≡ pieces_on 0 (shapes_of (suc groups))
unfolding sample_text group_text shapes_of
sample_pieces x groups =
    from_start (drop 4 HEADERS ++ (pictures_text x PICTURES ++ sample_text (state_behind_group x) groups))
    ∙ ap (drop 1) (walk_sample x (suc groups) Head 0 0 0)
    ∙ emitted Head 0xB3 0 12 (drop 1 group_shapes ++ shapes_of groups)
