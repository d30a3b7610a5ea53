-- A part of a block that is written over.
use borrow.Rule.Slice.PartMut.{put_mid, post_of}
use Rattle.std.proofs.Common.{◌≡◌, ℕ, zero, suc, ◌+◌, ◌-◌, ◌<◌, ◌≤◌, List, [], ◌∷◌, ◌++◌, All, length, get_or, take}
use Rattle.std.proofs.Common.{drop, refl, ap, ◌∙◌, arith}
use Rattle.std.proofs.lemmas.List.{get_or_append_left, get_or-append_right, get_or-drop, get_or-take, length-take-le}
use Rattle.std.proofs.lemmas.List.{length-drop, length-append}
use Rattle.std.proofs.lemmas.List.Elements.{All-append, All-take, All-drop}
use Rattle.field_elements.specs.Field.{Operations}
use Rattle.pet_poly.specs.InPlace.{scaled_sum}

module _ {E : Type 0} (d : E) (a k : ℕ) (xs ys : List E) (room : a + k ≤ length xs) (long : length ys ≡ k) where
  size : length (take a xs) ≡ a
  size = length-take-le a xs (omega arith)

  pub part_length : length (put_mid a k xs ys) ≡ length xs
  part_length =
      length-append (take a xs) (ys ++ post_of a k xs)
      ∙ omega (arith, size, length-append ys (post_of a k xs), length-drop k (drop a xs), length-drop a xs)

  pub part_before : (i : ℕ) → i < a → get_or (put_mid a k xs ys) i d ≡ get_or xs i d
  part_before i l =
      get_or_append_left (take a xs) (ys ++ post_of a k xs) d i (omega (arith, size)) ∙ get_or-take a xs i d l

  pub part_inside : (c : ℕ) → c < k → get_or (put_mid a k xs ys) (a + c) d ≡ get_or ys c d
  part_inside c l =
      let e : a + c - a ≡ c = omega arith in
      get_or-append_right (take a xs) (ys ++ post_of a k xs) a (a + c) d size (omega arith)
      ∙ ap (λ i. get_or (ys ++ post_of a k xs) i d) e
      ∙ get_or_append_left ys (post_of a k xs) d c (omega arith)

  pub part_behind : (i : ℕ) → a + k ≤ i → get_or (put_mid a k xs ys) i d ≡ get_or xs i d
  part_behind i l =
      let e : a + (k + (i - a - k)) ≡ i = omega arith in
      get_or-append_right (take a xs) (ys ++ post_of a k xs) a i d size (omega arith)
      ∙ get_or-append_right ys (post_of a k xs) k (i - a) d long (omega arith)
      ∙ get_or-drop k (drop a xs) (i - a - k) d ∙ get_or-drop a xs (k + (i - a - k)) d ∙ ap (λ n. get_or xs n d) e

  pub part_elements : (P : E → Type 0) → All P xs → All P ys → All P (put_mid a k xs ys)
  part_elements P h g =
      All-append P (take a xs) (ys ++ post_of a k xs) (All-take P a xs h)
      (All-append P ys (post_of a k xs) g (All-drop P k (drop a xs) (All-drop P a xs h)))

pub scaled_entry : {E : Type 0} (o : Operations E) (by d : E) (xs ys : List E) (c : ℕ) → c < length ys
    → length ys ≤ length xs
    → get_or (scaled_sum o by xs ys) c d ≡ o.plus (get_or xs c d) (o.times by (get_or ys c d))
scaled_entry o by d xs [] c l m = absurd (omega arith)
scaled_entry o by d [] (y ∷ ys) c l m = absurd (omega arith)
scaled_entry o by d (x ∷ xs) (y ∷ ys) zero l m = refl
scaled_entry o by d (x ∷ xs) (y ∷ ys) (suc c) l m = scaled_entry o by d xs ys c (omega arith) (omega arith)
