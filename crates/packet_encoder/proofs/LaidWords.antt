-- The words of a message, laid out block by block.
use borrow.Rule.Slice.PartMut.{put_mid}
use Rattle.std.proofs.Common.{◌≡◌, ℕ, zero, suc, ◌+◌, ◌-◌, ◌*◌, ◌<◌, ◌≤◌, List, ◌∷◌, length, get_or, take, drop}
use Rattle.std.proofs.Common.{refl, sym, ap, ap₂, ◌∙◌, arith}
use Rattle.std.proofs.lemmas.List.{drop-drop, drop-take, take-take, length-drop, length-take-le}
use Rattle.std.proofs.lemmas.Nat.{mul-le}
use Rattle.pet_poly.specs.Rows.{words}
use Rattle.pet_poly.specs.laws.RowLaws.{length-words}
use Rattle.field_rows.specs.Blocks.{columns_of, size_of, stripes_of}
use Rattle.field_rows.specs.declared.blocks.Block.{Block}
use Rattle.field_rows.proofs.FirstBlocks.{b0, room_size}
use Rattle.field_rows.proofs.LayingOut.{laid_more}

span : (at n w : ℕ) → (at + n) * w - at * w ≡ n * w
span at n w = let split : (at + n) * w ≡ at * w + n * w = omega arith in omega (arith, split)

-- a block is within its row
pub block_room : (bs : List Block) (i at m : ℕ) → i < length bs → at ≡ size_of (take i bs) → m ≡ size_of bs
    → at + (get_or bs i b0).length * (get_or bs i b0).width ≤ m
block_room bs i at m l place whole = omega (arith, room_size bs i l, place, whole)

pub part_room : {E : Type 0} (at n : ℕ) (laid : List E) → at + n ≤ length laid
    → length (take (at + n - at) (drop at laid)) ≡ n
part_room at n laid room =
    length-take-le (at + n - at) (drop at laid) (omega (arith, length-drop at laid, room)) ∙ omega arith

-- the bytes of a part of the words
pub start_bytes : (at n x : ℕ) → at * x ≤ (at + n) * x
start_bytes at n x = mul-le at x (at + n) x (omega arith) (omega arith)

module _ (at n x w m : ℕ) (bytes : List ℕ) (room : at + n ≤ m) (wide : x ≡ w) (fits : length bytes ≡ m * w) where
  pub end_bytes : (at + n) * x ≤ length bytes
  end_bytes = rw fits (rw wide (mul-le (at + n) w m w room (omega arith)))

  pub part_bytes : length (take ((at + n) * x - at * x) (drop (at * x) bytes)) ≡ n * w
  part_bytes =
      length-take-le ((at + n) * x - at * x) (drop (at * x) bytes)
      (omega (arith, length-drop (at * x) bytes, end_bytes, start_bytes at n x))
      ∙ span at n x ∙ ap (λ t. n * t) wide

module _ {E : Type 0} (spelt : List ℕ → E) (w : ℕ) where
  -- the words of the first bytes are the first words
  words_front : (n m : ℕ) (bytes : List ℕ) → n ≤ m
      → words spelt w n (take (n * w) bytes) ≡ take n (words spelt w m bytes)
  words_front zero m bytes l = refl
  words_front (suc n) zero bytes l = absurd (omega arith)
  words_front (suc n) (suc m) bytes l =
      let e : suc n * w ≡ w + n * w = omega arith in
      ap (λ t. words spelt w (suc n) (take t bytes)) e
      ∙ ap₂ ◌∷◌ (ap spelt (take-take w (w + n * w) bytes (omega arith)))
      (ap (words spelt w n) (drop-take w (n * w) bytes) ∙ words_front n m (drop w bytes) (omega arith))

  -- the words of a part of the bytes are that part of the words
  words_part : (at n m : ℕ) (bytes : List ℕ) → at + n ≤ m
      → words spelt w n (take (n * w) (drop (at * w) bytes)) ≡ take n (drop at (words spelt w m bytes))
  words_part zero n m bytes l =
      let z : 0 * w ≡ 0 = omega arith in
      ap (λ k. words spelt w n (take (n * w) (drop k bytes))) z ∙ words_front n m bytes (omega arith)
  words_part (suc at) n zero bytes l = absurd (omega arith)
  words_part (suc at) n (suc m) bytes l =
      let e : w + at * w ≡ suc at * w = omega arith in
      ap (λ t. words spelt w n (take (n * w) t)) (sym (drop-drop (at * w) w bytes ∙ ap (λ k. drop k bytes) e))
      ∙ words_part at n m (drop w bytes) (omega arith)

  -- one block more, whose bytes begin `x` times as far as its words
  module _ (d : E) (bs : List Block) (i at x m : ℕ) (bytes : List ℕ) (laid new : List E) (l : i < length bs)
      (place : at ≡ size_of (take i bs)) (whole : m ≡ size_of bs) (long : length laid ≡ m) (wide : x ≡ w) where
    abbrev b : Block
    b = get_or bs i b0

    abbrev n : ℕ
    n = b.length * b.width

    room : at + n ≤ m
    room = block_room bs i at m l place whole

    same_words : words spelt w (length (take (at + n - at) (drop at laid)))
        (take ((at + n) * x - at * x) (drop (at * x) bytes))
        ≡ take (at + n - at) (drop at (words spelt w m bytes))
    same_words =
        let size : n ≡ at + n - at = omega arith in
        ap₂ (λ k j. words spelt w k (take j (drop (at * x) bytes)))
        (part_room at n laid (omega (arith, room, long))) (span at n x ∙ ap (λ t. n * t) wide)
        ∙ ap (λ t. words spelt w n (take (n * w) (drop (at * t) bytes))) wide
        ∙ words_part at n m bytes room ∙ ap (λ k. take k (drop at (words spelt w m bytes))) size

    pub more_laid : length new ≡ length (take (at + n - at) (drop at laid))
        → ((c j : ℕ) → c < b.width → j < b.length
        → get_or new (j * b.width + c) d
        ≡ get_or (words spelt w (length (take (at + n - at) (drop at laid)))
        (take ((at + n) * x - at * x) (drop (at * x) bytes))) (c * b.length + j) d)
        → columns_of d (take i bs) laid ≡ stripes_of (take i bs) (words spelt w m bytes)
        → columns_of d (take (i + 1) bs) (put_mid at (at + n - at) laid new)
        ≡ stripes_of (take (i + 1) bs) (words spelt w m bytes)
    more_laid same is done =
        laid_more d bs i at (words spelt w m bytes) laid new l place (length-words spelt w m bytes ∙ whole)
        (long ∙ whole) same (λ c j p q. is c j p q ∙ ap (λ t. get_or t (c * b.length + j) d) same_words) done
