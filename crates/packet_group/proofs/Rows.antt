-- The words of a row of bytes, a part of which is written anew.
use borrow.Rule.Slice.PartMut.{put_mid}
use Rattle.std.specs.Prelude.{flat_map}
use Rattle.std.proofs.Common.{◌≡◌, ℕ, zero, suc, ◌+◌, ◌-◌, ◌*◌, ◌<◌, ◌≤◌, List, [], ◌∷◌, ◌++◌, length, get_or, take}
use Rattle.std.proofs.Common.{drop, All, refl, sym, ap, ap₂, ◌∙◌, arith, append_assoc}
use Rattle.std.specs.List.{AllByRecursion as Each}
use Rattle.std.proofs.lemmas.List.{length-append, length-drop, length-take-le, take-append-le, drop-append-le}
use Rattle.std.proofs.lemmas.List.{take-append-drop, drop-drop, drop_at, take_at, take_more, append-nil}
use Rattle.std.proofs.lemmas.Grind.{flat_map-append}
use Rattle.std.proofs.lemmas.List.Elements.{recursion_from_All, All-nil, All-append, All-head, All-tail}
use Rattle.field_elements.specs.Field.{AreSpellings}
use Rattle.pet_poly.specs.Rows.{words}
use Rattle.pet_poly.specs.laws.RowLaws.{words_of_spellings}
use Rattle.field_rows.specs.laws.PlaceLaws.{more_rows, rows_le}

pub take_words : {E : Type 0} (spelt : List ℕ → E) (w n a : ℕ) (bytes : List ℕ) → a ≤ n
    → take a (words spelt w n bytes) ≡ words spelt w a bytes
take_words spelt w n zero bytes l = refl
take_words spelt w zero (suc a) bytes l = absurd (omega arith)
take_words spelt w (suc n) (suc a) bytes l =
    ap (λ t. spelt (take w bytes) ∷ t) (take_words spelt w n a (drop w bytes) (omega arith))

pub drop_words : {E : Type 0} (spelt : List ℕ → E) (w n a m : ℕ) (bytes : List ℕ) → n ≡ a + m
    → drop a (words spelt w n bytes) ≡ words spelt w m (drop (a * w) bytes)
drop_words spelt w n zero m bytes e =
    let same : n ≡ m = omega arith in
    let none : 0 ≡ 0 * w = omega arith in
    ap₂ (λ k t. words spelt w k (drop t bytes)) same none
drop_words spelt w zero (suc a) m bytes e = absurd (omega arith)
drop_words spelt w (suc n) (suc a) m bytes e =
    let next : w + a * w ≡ suc a * w = omega arith in
    drop_words spelt w n a m (drop w bytes) (omega arith)
    ∙ ap (words spelt w m) (drop-drop (a * w) w bytes ∙ ap (λ k. drop k bytes) next)

pub words_front : {E : Type 0} (spelt : List ℕ → E) (w a : ℕ) (xs ys : List ℕ) → a * w ≤ length xs
    → words spelt w a (xs ++ ys) ≡ words spelt w a xs
words_front spelt w zero xs ys l = refl
words_front spelt w (suc a) xs ys l =
    let room : w ≤ length xs = omega arith in
    ap₂ ◌∷◌ (ap spelt (take-append-le w xs ys room))
    (ap (words spelt w a) (drop-append-le w xs ys room)
    ∙ words_front spelt w a (drop w xs) ys (omega (arith, length-drop w xs)))

length_each : {E : Type 0} (P : E → Type 0) (w : ℕ) (spelt : List ℕ → E) (spelling : E → List ℕ)
    → AreSpellings P w spelt spelling
    → (vs : List E) → Each P vs → length (flat_map spelling vs) ≡ length vs * w
length_each P w spelt spelling laws [] h = omega arith
length_each P w spelt spelling laws (v ∷ vs) h =
    omega (
      arith,
      length-append (spelling v) (flat_map spelling vs),
      laws.spelling_width v h.0,
      length_each P w spelt spelling laws vs h.1,
    )

pub length-spellings : {E : Type 0} (P : E → Type 0) (w : ℕ) (spelt : List ℕ → E) (spelling : E → List ℕ)
    → AreSpellings P w spelt spelling
    → (vs : List E) → All P vs → length (flat_map spelling vs) ≡ length vs * w
length-spellings P w spelt spelling laws vs h = length_each P w spelt spelling laws vs (recursion_from_All P vs h)

pub bytes_spellings : {E : Type 0} (P : E → Type 0) (w : ℕ) (spelt : List ℕ → E) (spelling : E → List ℕ)
    → AreSpellings P w spelt spelling
    → (vs : List E) → All P vs → All (λ b. b < 256) (flat_map spelling vs)
bytes_spellings P w spelt spelling laws [] h = All-nil (λ b. b < 256)
bytes_spellings P w spelt spelling laws (v ∷ vs) h =
    All-append (λ b. b < 256) (spelling v) (flat_map spelling vs) (laws.spelling_bytes v (All-head P v vs h))
    (bytes_spellings P w spelt spelling laws vs (All-tail P v vs h))

-- the row `new` has `cs` from `at` on, and else what `row` has
pub record IsWritten {E : Type 0} (row new : List E) (at : ℕ) (cs : List E) : Type 0 where
  pub front : take at new ≡ take at row
  pub words : take (length cs) (drop at new) ≡ cs
  pub rest : drop (at + length cs) new ≡ drop (at + length cs) row

pub words_written : {E : Type 0} (P : E → Type 0) (w : ℕ) (spelt : List ℕ → E) (spelling : E → List ℕ)
    → AreSpellings P w spelt spelling
    → (n at k top : ℕ) (cs : List E) (old new : List ℕ) → All P cs → at + length cs ≤ n → k ≡ at * w
    → top ≡ k + length cs * w → top ≡ (at + length cs) * w → top ≤ length old
    → new ≡ take k old ++ flat_map spelling cs ++ drop top old
    → IsWritten (words spelt w n old) (words spelt w n new) at cs
words_written P w spelt spelling laws n at k top cs old new h inside k_is top_is top_too room is =
    let size = length cs in
    let F = flat_map spelling cs in
    let R = drop top old in
    let long : length F ≡ size * w = length-spellings P w spelt spelling laws cs h in
    let front_long : length (take k old) ≡ k = length-take-le k old (omega arith) in
    let two : new ≡ take k old ++ (F ++ R) = is ∙ append_assoc (take k old) F R in
    record {
      front =
          take_words spelt w n at new (omega arith) ∙ ap (words spelt w at) two
          ∙ words_front spelt w at (take k old) (F ++ R) (omega arith)
          ∙ sym (words_front spelt w at (take k old) (drop k old) (omega arith))
          ∙ ap (words spelt w at) (take-append-drop k old) ∙ sym (take_words spelt w n at old (omega arith));
      words =
          ap (take size)
          (drop_words spelt w n at (n - at) new (omega arith) ∙ ap (λ t. words spelt w (n - at) (drop t new)) (sym k_is)
          ∙ ap (λ t. words spelt w (n - at) (drop k t)) two
          ∙ ap (words spelt w (n - at)) (drop_at (take k old) (F ++ R) k front_long))
          ∙ take_words spelt w (n - at) size (F ++ R) (omega arith) ∙ words_front spelt w size F R (omega arith)
          ∙ words_of_spellings P w spelt spelling laws cs h;
      rest =
          let m = n - (at + size) in
          let e : n ≡ (at + size) + m = omega arith in
          let both : length (take k old ++ F) ≡ top = length-append (take k old) F ∙ omega arith in
          drop_words spelt w n (at + size) m new e ∙ ap (λ t. words spelt w m (drop t new)) (sym top_too)
          ∙ ap (λ t. words spelt w m (drop top t)) is ∙ ap (words spelt w m) (drop_at (take k old ++ F) R top both)
          ∙ ap (λ t. words spelt w m (drop t old)) top_too ∙ sym (drop_words spelt w n (at + size) m old e);
    }

-- a message with room for a stripe from word `at` on has room for its word i; a word has `width` bytes, as `next` has
pub word_room : (at i many w width next long : ℕ) → i < many → (at + many) * w ≤ long → width ≡ w → next ≡ w
    → (at + i) * width + next ≤ long
word_room at i many w width next long l room wide same =
    let place : (at + i) * width ≡ (at + i) * w = ap (λ n. (at + i) * n) wide in
    omega (arith, place, same, room, more_rows (at + i) w, rows_le (at + i + 1) (at + many) w (omega arith))

-- one word more is written behind the first i of a stripe's
pub one_word_more : {E : Type 0} (f : E → List ℕ) (xs : List E) (i : ℕ) (x : E) (w at place k : ℕ)
    (old now word : List ℕ) → i < length xs → x ≡ get_or xs i x → word ≡ f x
    → at * w ≤ length old → length (flat_map f (take i xs)) ≡ i * w → place ≡ (at + i) * w → k ≡ w
    → now ≡ take (at * w) old ++ flat_map f (take i xs) ++ drop ((at + i) * w) old
    → put_mid place k now word ≡ take (at * w) old ++ flat_map f (take (i + 1) xs) ++ drop ((at + (i + 1)) * w) old
one_word_more f xs i x w at place k old now word l read is room size here wide so_far =
    let front : List ℕ = take (at * w) old ++ flat_map f (take i xs) in
    let rest : List ℕ = drop ((at + i) * w) old in
    let long : length front ≡ place = length-append (take (at * w) old) (flat_map f (take i xs))
    ∙ omega (arith, length-take-le (at * w) old room) in
    let end : (at + i) * w + k ≡ (at + (i + 1)) * w = omega arith in
    let before : take place now ≡ front = ap (take place) so_far ∙ take_at front rest place long in
    let behind : drop k (drop place now) ≡ drop ((at + (i + 1)) * w) old =
    ap (λ t. drop k (drop place t)) so_far ∙ ap (drop k) (drop_at front rest place long)
    ∙ drop-drop k ((at + i) * w) old ∙ ap (λ n. drop n old) end in
    let more : flat_map f (take i xs) ++ word ≡ flat_map f (take (i + 1) xs) =
    ap (λ t. flat_map f (take i xs) ++ t) (is ∙ ap f read ∙ sym (append-nil (f (get_or xs i x))))
    ∙ sym (flat_map-append f (take i xs) (get_or xs i x ∷ []))
    ∙ ap (flat_map f) (sym (take_more xs i x l)) in
    ap₂ (λ a b. a ++ (word ++ b)) before behind
    ∙ sym (append_assoc front word (drop ((at + (i + 1)) * w) old))
    ∙ ap (λ t. t ++ drop ((at + (i + 1)) * w) old)
    (append_assoc (take (at * w) old) (flat_map f (take i xs)) word ∙ ap (λ t. take (at * w) old ++ t) more)
