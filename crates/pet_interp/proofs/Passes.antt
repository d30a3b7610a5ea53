-- One pass over the blocks of a progressive state.
use Rattle.std.proofs.Common.{◌≡◌, ℕ, zero, suc, ◌+◌, ◌-◌, ◌*◌, ◌<◌, ◌≤◌, inl, inr, List, [], ◌∷◌, ◌++◌, All, length}
use Rattle.std.proofs.Common.{get_or, set, take, drop, map, refl, sym, ap, ap₂, ◌∙◌, arith, subst}
use Rattle.std.specs.Prelude.{nat_lt}
use Rattle.std.proofs.Math.Seq.{take-add}
use Rattle.std.proofs.lemmas.Bool.{cases_lt, lt-ltb, le-ltb, cond-true, cond-false}
use Rattle.std.proofs.lemmas.Grind.{flat_map-append}
use Rattle.std.proofs.lemmas.List.Elements.{All-set}
use Rattle.std.proofs.lemmas.List.Folds.{length-flat_map-take}
use Rattle.std.proofs.lemmas.List.{length-append, map-append, take_more, take_more_set, drop-set-lt, drop-drop}
use Rattle.std.proofs.lemmas.List.{append-nil, get_or-drop, get_or_default, get_or-append_right, drop-take}
use Rattle.std.proofs.lemmas.List.{length-take-le, length-drop, take_all}
use Rattle.field_elements.specs.Field.{Operations}
use Rattle.pet_poly.specs.Value.{value}
use Rattle.pet_poly.specs.Rows.{words}
use Rattle.pet_poly.specs.laws.RowLaws.{length-words}
use Rattle.pet_poly.specs.InPlace.{scaled_sum}
use Rattle.pet_poly.specs.laws.InPlaceLaws as I
use Rattle.pet_interp.specs.Progressive.{longer_than}
use Rattle.pet_interp.specs.Blocks.{HeldBlock, IsBlock, stripes_in, no_block}
use Rattle.pet_interp.specs.inside.Lifted.{factor, lifted, lifted_all, begun, begun_all, grown, grown_to}
use Rattle.pet_interp.proofs.BlockStripes.{longer_append}
use Rattle.field_rows.specs.laws.PlaceLaws.{rows_le}
use Rattle.pet_interp.proofs.Columns.{parts, scaled_high, scaled_front}
use Rattle.pet_interp.proofs.Lifted.{cost_more, lifted_yes, lifted_no}

kept : {E : Type 0} (P : E → Type 0) (met room : ℕ) (old new : HeldBlock E) → IsBlock P met room old
    → new.size ≡ old.size → new.waits ≡ old.waits
    → length new.stripes ≡ length old.stripes → All (λ s. (length s ≡ new.size) × All P s) new.stripes
    → IsBlock P met room new
kept P met room old new h size waits count each =
    record {
      each = each;
      waits = waits ∙ h.waits ∙ ap (nat_lt met) (sym size);
      fits = rw (ap₂ ◌*◌ size count) h.fits;
    }

pub blocks_kept : {E : Type 0} (P : E → Type 0) (met room : ℕ) (bs : List (HeldBlock E)) (i : ℕ) (b new : HeldBlock E)
    → All (IsBlock P met room) bs → i < length bs
    → new.size ≡ (get_or bs i b).size → new.waits ≡ (get_or bs i b).waits
    → length new.stripes ≡ length (get_or bs i b).stripes
    → All (λ s. (length s ≡ new.size) × All P s) new.stripes → All (IsBlock P met room) (set bs i new)
blocks_kept P met room bs i b new h l size waits count each =
    All-set (IsBlock P met room) bs i new (kept P met room (get_or bs i b) new (h i b l) size waits count each) h

-- the stripes of one block more
pub stripes_more : {E : Type 0} (bs : List (HeldBlock E)) (i : ℕ) → i < length bs
    → stripes_in (take (i + 1) bs) ≡ stripes_in (take i bs) ++ (get_or bs i no_block).stripes
stripes_more bs i l =
    ap stripes_in (take_more bs i no_block l)
    ∙ flat_map-append (λ b. b.stripes) (take i bs) (get_or bs i no_block ∷ [])
    ∙ ap (λ t. stripes_in (take i bs) ++ t) (append-nil (get_or bs i no_block).stripes)

pub stripes_more_set : {E : Type 0} (bs : List (HeldBlock E)) (i : ℕ) (new : HeldBlock E) → i < length bs
    → stripes_in (take (i + 1) (set bs i new)) ≡ stripes_in (take i bs) ++ new.stripes
stripes_more_set bs i new l =
    ap stripes_in (take_more_set bs i new l) ∙ flat_map-append (λ b. b.stripes) (take i bs) (new ∷ [])
    ∙ ap (λ t. stripes_in (take i bs) ++ t) (append-nil new.stripes)

pub rest_more : {A : Type 0} (xs ys : List A) (i : ℕ) (v : A) → drop i xs ≡ drop i ys
    → drop (i + 1) (set xs i v) ≡ drop (i + 1) ys
rest_more xs ys i v e =
    drop-set-lt (i + 1) xs i v (omega arith) ∙ sym (drop-drop 1 i xs) ∙ ap (drop 1) e ∙ drop-drop 1 i ys

first_of_rest : {A : Type 0} (xs ys : List A) (i : ℕ) (d : A) → drop i xs ≡ drop i ys → get_or xs i d ≡ get_or ys i d
first_of_rest xs ys i d e =
    let z : i + 0 ≡ i = omega arith in
    ap (λ n. get_or xs n d) (sym z) ∙ sym (get_or-drop i xs 0 d) ∙ ap (λ t. get_or t 0 d) e ∙ get_or-drop i ys 0 d
    ∙ ap (λ n. get_or ys n d) z

-- a block that the pass has not reached
pub block_ahead : {A : Type 0} (now old : List A) (i : ℕ) (b d : A) → i < length now → drop i now ≡ drop i old
    → get_or now i b ≡ get_or old i d
block_ahead now old i b d l rest = get_or_default now i b d l ∙ first_of_rest now old i d rest

-- ---- the first pass

pub begun_append : {E : Type 0} (o : Operations E) (met : ℕ) (x i : E) (ss ts : List (List E)) (ys vs : List E)
    → length ys ≡ length ss
    → begun_all o met x i (ss ++ ts) (ys ++ vs) ≡ begun_all o met x i ss ys ++ begun_all o met x i ts vs
begun_append o met x i [] ts [] vs e = refl
begun_append o met x i [] ts (y ∷ ys) vs e = absurd (omega arith)
begun_append o met x i (s ∷ ss) ts [] vs e = absurd (omega arith)
begun_append o met x i (s ∷ ss) ts (y ∷ ys) vs e =
    ap (λ t. begun o met x i s y ∷ t) (begun_append o met x i ss ts ys vs (omega arith))

pub words_append : {E : Type 0} (spelt : List ℕ → E) (w n m : ℕ) (bytes : List ℕ)
    → words spelt w (n + m) bytes ≡ words spelt w n bytes ++ words spelt w m (drop (n * w) bytes)
words_append spelt w zero m bytes =
    let e : 0 * w ≡ 0 = omega arith in ap₂ (λ k t. words spelt w k (drop t bytes)) (omega arith) (sym e)
words_append spelt w (suc n) m bytes =
    let e : w + n * w ≡ suc n * w = omega arith in
    let s : suc n + m ≡ suc (n + m) = omega arith in
    ap (λ k. words spelt w k bytes) s
    ∙ ap (λ t. spelt (take w bytes) ∷ t) (words_append spelt w n m (drop w bytes)
    ∙ ap (λ t. words spelt w n (drop w bytes) ++ words spelt w m t)
    (drop-drop (n * w) w bytes ∙ ap (λ k. drop k bytes) e))

first_of_take : {A : Type 0} (w k : ℕ) (xs : List A) → w ≤ k → take w (take k xs) ≡ take w xs
first_of_take zero k xs l = refl
first_of_take (suc w) zero xs l = absurd (omega arith)
first_of_take (suc w) (suc k) [] l = refl
first_of_take (suc w) (suc k) (x ∷ xs) l = ap (λ t. x ∷ t) (first_of_take w k xs (omega arith))

pub words_take : {E : Type 0} (spelt : List ℕ → E) (w n k : ℕ) (bytes : List ℕ) → n * w ≤ k
    → words spelt w n (take k bytes) ≡ words spelt w n bytes
words_take spelt w zero k bytes l = refl
words_take spelt w (suc n) k bytes l =
    let e : w + (k - w) ≡ k = omega arith in
    let cut : drop w (take k bytes) ≡ take (k - w) (drop w bytes) =
    ap (λ t. drop w (take t bytes)) (sym e) ∙ drop-take w (k - w) bytes in
    ap₂ ◌∷◌ (ap spelt (first_of_take w k bytes (omega arith)))
    (ap (words spelt w n) cut ∙ words_take spelt w n (k - w) (drop w bytes) (omega arith))

-- ---- the other passes

pub length-grown : {E : Type 0} (o : Operations E) (met from : ℕ) (factors s : List E) → from ≤ met
    → length (grown o met from factors s) ≡ length s
length-grown o met from factors s l =
    elim (cases_lt met (length s)) [
      | inl h ↦
          ap length (cond-true (nat_lt met (length s))
          (take from s ++ scaled_sum o (get_or s met o.nought) (drop from s) factors) s (lt-ltb met (length s) h))
          ∙ length-append (take from s) (scaled_sum o (get_or s met o.nought) (drop from s) factors)
          ∙ omega (
            arith,
            I.length-scaled_sum o (get_or s met o.nought) (drop from s) factors,
            length-take-le from s (omega arith),
            length-drop from s,
          )
      | inr h ↦ ap length (cond-false (nat_lt met (length s))
          (take from s ++ scaled_sum o (get_or s met o.nought) (drop from s) factors) s (le-ltb met (length s) h))
    ]

pub scaled_chunks : {E : Type 0} (o : Operations E) (b : E) (s l1 l2 : List E) → length l1 ≤ length s
    → scaled_sum o b s (l1 ++ l2)
    ≡ take (length l1) (scaled_sum o b s l1) ++ scaled_sum o b (drop (length l1) (scaled_sum o b s l1)) l2
scaled_chunks o b s [] l2 l = refl
scaled_chunks o b [] (y ∷ l1) l2 l = absurd (omega arith)
scaled_chunks o b (x ∷ s) (y ∷ l1) l2 l = ap (λ t. o.plus x (o.times b y) ∷ t) (scaled_chunks o b s l1 l2 (omega arith))

-- the multiples by some factors and then by those behind them
pub grown_twice : {E : Type 0} (o : Operations E) (met from : ℕ) (first part s : List E) → length first ≡ from
    → from ≤ met
    → grown o met from part (grown_to o met first s) ≡ grown_to o met (first ++ part) s
grown_twice o met from first part s e l =
    elim (cases_lt met (length s)) [
      | inl h ↦
          let z = o.nought in
          let b = get_or s met z in
          let t = scaled_sum o b s first in
          let is : grown_to o met first s ≡ t = cond-true (nat_lt met (length s)) t s (lt-ltb met (length s) h) in
          let long : met < length t = rw (I.length-scaled_sum o b s first) h in
          let here : get_or t met z ≡ b = scaled_high o b z s first met (omega arith) (omega arith) in
          ap (grown o met from part) is
          ∙ cond-true (nat_lt met (length t)) (take from t ++ scaled_sum o (get_or t met z) (drop from t) part) t
          (lt-ltb met (length t) long)
          ∙ ap₂ (λ n c. take n t ++ scaled_sum o c (drop n t) part) (sym e) here
          ∙ sym (scaled_chunks o b s first part (omega arith))
          ∙ sym (cond-true (nat_lt met (length s)) (scaled_sum o b s (first ++ part)) s (lt-ltb met (length s) h))
      | inr h ↦
          let no = le-ltb met (length s) h in
          ap (grown o met from part)
          (cond-false (nat_lt met (length s)) (scaled_sum o (get_or s met o.nought) s first) s no)
          ∙ cond-false (nat_lt met (length s))
          (take from s ++ scaled_sum o (get_or s met o.nought) (drop from s) part) s no
          ∙ sym (cond-false (nat_lt met (length s)) (scaled_sum o (get_or s met o.nought) s (first ++ part)) s no)
    ]

pub grown_more : {E : Type 0} (o : Operations E) (met from : ℕ) (first part : List E) (ss : List (List E))
    → length first ≡ from → from ≤ met
    → map (grown o met from part) (map (grown_to o met first) ss) ≡ map (grown_to o met (first ++ part)) ss
grown_more o met from first part [] e l = refl
grown_more o met from first part (s ∷ ss) e l =
    ap₂ ◌∷◌ (grown_twice o met from first part s e l) (grown_more o met from first part ss e l)

-- the multiples by the factors of one part more
pub grown_part : {E : Type 0} (o : Operations E) (met from n : ℕ) (product by : List E) (ss now new : List (List E))
    → by ≡ take n (drop from product) → from ≤ length product → from ≤ met
    → new ≡ map (grown o met from by) now → now ≡ map (grown_to o met (take from product)) ss
    → new ≡ map (grown_to o met (take (from + n) product)) ss
grown_part o met from n product by ss now new part l m made done =
    made ∙ ap (λ p. map (grown o met from p) now) part ∙ ap (map (grown o met from (take n (drop from product)))) done
    ∙ grown_more o met from (take from product) (take n (drop from product)) ss (length-take-le from product l) m
    ∙ ap (λ t. map (grown_to o met t) ss) (sym (take-add from n product))

pub grown_nothing : {E : Type 0} (o : Operations E) (met : ℕ) (ss : List (List E)) → map (grown_to o met []) ss ≡ ss
grown_nothing o met [] = refl
grown_nothing o met (s ∷ ss) =
    ap₂ ◌∷◌
    (elim (cases_lt met (length s)) [
      | inl h ↦ cond-true (nat_lt met (length s)) s s (lt-ltb met (length s) h)
      | inr h ↦ cond-false (nat_lt met (length s)) s s (le-ltb met (length s) h)
    ])
    (grown_nothing o met ss)

pub lengths_grown : {E : Type 0} (o : Operations E) (met from : ℕ) (part : List E) (ss : List (List E)) → from ≤ met
    → map length (map (grown o met from part) ss) ≡ map length ss
lengths_grown o met from part [] l = refl
lengths_grown o met from part (s ∷ ss) l =
    ap₂ ◌∷◌ (length-grown o met from part s l) (lengths_grown o met from part ss l)

-- ---- all passes

pub length-begun : {E : Type 0} (o : Operations E) (met : ℕ) (x i : E) (s : List E) (y : E)
    → length (begun o met x i s y) ≡ length s
length-begun o met x i s y =
    let b = o.times (o.minus y (value o (take met s) x)) i in
    elim (cases_lt met (length s)) [
      | inl h ↦
          ap length (cond-true (nat_lt met (length s)) (take met s ++ (b ∷ drop (met + 1) s)) s
          (lt-ltb met (length s) h))
          ∙ length-append (take met s) (b ∷ drop (met + 1) s)
          ∙ omega (arith, length-take-le met s (omega arith), length-drop (met + 1) s)
      | inr h ↦ ap length
          (cond-false (nat_lt met (length s)) (take met s ++ (b ∷ drop (met + 1) s)) s (le-ltb met (length s) h))
    ]

pub lengths_begun : {E : Type 0} (o : Operations E) (met : ℕ) (x i : E) (ss : List (List E)) (ys : List E)
    → map length (begun_all o met x i ss ys) ≡ map length ss
lengths_begun o met x i ss [] = refl
lengths_begun o met x i [] (y ∷ ys) = refl
lengths_begun o met x i (s ∷ ss) (y ∷ ys) = ap₂ ◌∷◌ (length-begun o met x i s y) (lengths_begun o met x i ss ys)

pub passes_lift : {E : Type 0} (o : Operations E) (low : List E) (x i : E) (s : List E) (y : E)
    → grown_to o (length low) low (begun o (length low) x i s y) ≡ lifted o low x i s y
passes_lift o low x i s y =
    let r = length low in
    let z = o.nought in
    let b = factor o low x i s y in
    elim (cases_lt r (length s)) [
      | inl h ↦
          let tail = drop (r + 1) s in
          let t = take r s ++ (b ∷ tail) in
          let front : length (take r s) ≡ r = length-take-le r s (omega arith) in
          let is : begun o r x i s y ≡ t = cond-true (nat_lt r (length s)) t s (lt-ltb r (length s) h) in
          let long : r < length t = rw (sym (ap length is) ∙ length-begun o r x i s y) h in
          let zero : r - r ≡ 0 = omega arith in
          let here : get_or t r z ≡ b = get_or-append_right (take r s) (b ∷ tail) r r z front (omega arith)
          ∙ ap (λ n. get_or (b ∷ tail) n z) zero in
          ap (grown_to o r low) is
          ∙ cond-true (nat_lt r (length t)) (scaled_sum o (get_or t r z) t low) t (lt-ltb r (length t) long)
          ∙ ap (λ c. scaled_sum o c t low) here ∙ scaled_front o b (take r s) (b ∷ tail) low (omega (arith, front))
          ∙ sym (lifted_yes o low x i s y h)
      | inr h ↦
          let no = le-ltb r (length s) h in
          ap (grown_to o r low) (cond-false (nat_lt r (length s)) (take r s ++ (b ∷ drop (r + 1) s)) s no)
          ∙ cond-false (nat_lt r (length s)) (scaled_sum o (get_or s r z) s low) s no ∙ sym (lifted_no o low x i s y h)
    ]

pub passes_lift_all : {E : Type 0} (o : Operations E) (low : List E) (x i : E) (ss : List (List E)) (ys : List E)
    → length ys ≡ length ss
    → map (grown_to o (length low) low) (begun_all o (length low) x i ss ys) ≡ lifted_all o low x i ss ys
passes_lift_all o low x i [] [] e = refl
passes_lift_all o low x i [] (y ∷ ys) e = refl
passes_lift_all o low x i (s ∷ ss) [] e = absurd (omega arith)
passes_lift_all o low x i (s ∷ ss) (y ∷ ys) e =
    ap₂ ◌∷◌ (passes_lift o low x i s y) (passes_lift_all o low x i ss ys (omega arith))

-- ---- steps

longer_more_block : {E : Type 0} (r : ℕ) (bs : List (HeldBlock E)) (i : ℕ) → i < length bs
    → longer_than r (map length (stripes_in (take (i + 1) bs)))
    ≡ longer_than r (map length (stripes_in (take i bs))) + longer_than r (map length (get_or bs i no_block).stripes)
longer_more_block r bs i l =
    ap (λ t. longer_than r (map length t)) (stripes_more bs i l)
    ∙ ap (longer_than r) (map-append length (stripes_in (take i bs)) (get_or bs i no_block).stripes)
    ∙ longer_append r (map length (stripes_in (take i bs))) (map length (get_or bs i no_block).stripes)

pub cost_block : {E : Type 0} (met k : ℕ) (now old : List (HeldBlock E)) (i : ℕ) (b : HeldBlock E) (m0 m1 m2 : ℕ)
    → i < length old → get_or now i b ≡ get_or old i no_block
    → m1 ≡ m0 + longer_than met (map length (stripes_in (take i old))) * k
    → m2 ≡ m1 + longer_than met (map length (get_or now i b).stripes) * k
    → m2 ≡ m0 + longer_than met (map length (stripes_in (take (i + 1) old))) * k
cost_block met k now old i b m0 m1 m2 l same before more =
    cost_more m0 m1 m2 (longer_than met (map length (stripes_in (take i old))))
    (longer_than met (map length (get_or now i b).stripes))
    (longer_than met (map length (stripes_in (take (i + 1) old)))) k
    before more
    (longer_more_block met old i l
    ∙ ap (λ v. longer_than met (map length (stripes_in (take i old))) + longer_than met (map length v.stripes))
    (sym same))

pub cost_part : (m0 m1 m2 q q' from n n' : ℕ) → m1 ≡ m0 + q * from → m2 ≡ m1 + q' * n' → q' ≡ q → n' ≡ n
    → m2 ≡ m0 + q * (from + n)
cost_part m0 m1 m2 q q' from n n' a b e f =
    let g : q' * n' ≡ q * n = ap₂ ◌*◌ e f in
    let h : q * (from + n) ≡ q * from + q * n = omega arith in
    omega (arith, g, h)

pub cost_all : (m0 m1 m2 m3 m4 m5 q q' r r' : ℕ) → m1 ≡ m0 + r' → m2 ≡ m1 + 1 → m3 ≡ m2 + q * (r + 1)
    → m4 ≡ m3 + q' * r' → m5 ≡ m4 + r → q' ≡ q → r' ≡ r
    → m5 ≡ m0 + (q + 1) * (2 * r + 1)
cost_all m0 m1 m2 m3 m4 m5 q q' r r' a b c d e f g =
    let h : q' * r' ≡ q * r = ap₂ ◌*◌ f g in
    let i : q * (r + 1) ≡ q * r + q = omega arith in
    let j : (q + 1) * (2 * r + 1) ≡ 2 * (q * r) + q + 2 * r + 1 = omega arith in
    omega (arith, h, i, j)

-- ---- the values of a block

pub begun_more : {E : Type 0} (o : Operations E) (met : ℕ) (x i : E) (spelt : List ℕ → E) (w : ℕ) (bytes : List ℕ)
    (ss ts : List (List E))
    → begun_all o met x i (ss ++ ts) (words spelt w (length (ss ++ ts)) bytes)
    ≡ begun_all o met x i ss (words spelt w (length ss) bytes)
    ++ begun_all o met x i ts (words spelt w (length ts) (drop (length ss * w) bytes))
begun_more o met x i spelt w bytes ss ts =
    ap (λ n. begun_all o met x i (ss ++ ts) (words spelt w n bytes)) (length-append ss ts)
    ∙ ap (begun_all o met x i (ss ++ ts)) (words_append spelt w (length ss) (length ts) bytes)
    ∙ begun_append o met x i ss ts (words spelt w (length ss) bytes)
    (words spelt w (length ts) (drop (length ss * w) bytes)) (length-words spelt w (length ss) bytes)

-- the first pass over one block more
pub begun_block : {E : Type 0} (o : Operations E) (met : ℕ) (x inverse : E) (spelt : List ℕ → E) (w : ℕ)
    (bytes part : List ℕ) (now old : List (HeldBlock E)) (i : ℕ) (b new : HeldBlock E)
    → i < length old → length now ≡ length old → drop i now ≡ drop i old
    → stripes_in (take i now)
    ≡ begun_all o met x inverse (stripes_in (take i old)) (words spelt w (length (stripes_in (take i old))) bytes)
    → new.stripes
    ≡ begun_all o met x inverse (get_or now i b).stripes (words spelt w (length (get_or now i b).stripes) part)
    → words spelt w (length (get_or old i no_block).stripes) part
    ≡ words spelt w (length (get_or old i no_block).stripes) (drop (length (stripes_in (take i old)) * w) bytes)
    → stripes_in (take (i + 1) (set now i new))
    ≡ begun_all o met x inverse (stripes_in (take (i + 1) old))
    (words spelt w (length (stripes_in (take (i + 1) old))) bytes)
begun_block o met x inverse spelt w bytes part now old i b new l long rest before did read =
    let here = get_or old i no_block in
    let same : get_or now i b ≡ here = block_ahead now old i b no_block (omega (arith, long)) rest in
    stripes_more_set now i new (omega (arith, long))
    ∙ ap₂ ◌++◌ before
    (did ∙ ap (λ v. begun_all o met x inverse v.stripes (words spelt w (length v.stripes) part)) same
    ∙ ap (begun_all o met x inverse here.stripes) read)
    ∙ sym (begun_more o met x inverse spelt w bytes (stripes_in (take i old)) here.stripes)
    ∙ ap (λ t. begun_all o met x inverse t (words spelt w (length t) bytes)) (sym (stripes_more old i l))

values_room : (n w all size at wide size' len : ℕ) → n + w ≤ all → at ≡ n * size → wide ≡ w → size' ≡ size
    → len ≡ all * size → at + wide * size' ≤ len
values_room n w all size at wide size' len l a b c d =
    let e : wide * size' ≡ w * size = ap₂ ◌*◌ b c in
    omega (arith, e, parts n w size, rows_le (n + w) all size l)

-- the values of the block that comes next
pub values_ahead : {E : Type 0} (now old : List (HeldBlock E)) (i : ℕ) (b : HeldBlock E) (size at wide size' len : ℕ)
    → i < length old → length now ≡ length old → drop i now ≡ drop i old
    → at ≡ length (stripes_in (take i old)) * size → wide ≡ length (get_or now i b).stripes → size' ≡ size
    → len ≡ length (stripes_in old) * size → at + wide * size' ≤ len
values_ahead now old i b size at wide size' len l long rest a wide_is size_is len_is =
    let same = block_ahead now old i b no_block (omega (arith, long)) rest in
    values_room (length (stripes_in (take i old))) (length (get_or old i no_block).stripes)
    (length (stripes_in old)) size at wide size' len (length-flat_map-take (λ v. v.stripes) old i no_block l)
    a (wide_is ∙ ap (λ v. length v.stripes) same) size_is len_is

pub turned : {E : Type 0} (P : E → Type 0) (before met room : ℕ) (old new : HeldBlock E) → IsBlock P before room old
    → new.size ≡ old.size → new.waits ≡ nat_lt met old.size
    → new.stripes ≡ old.stripes → IsBlock P met room new
turned P before met room old new h size waits same =
    record {
      each =
          subst (λ n. All (λ s. (length s ≡ n) × All P s) new.stripes) (sym size)
          (subst (All (λ s. (length s ≡ old.size) × All P s)) (sym same) h.each);
      waits = waits ∙ ap (nat_lt met) (sym size);
      fits = rw (ap₂ ◌*◌ size (ap length same)) h.fits;
    }

-- ---- a pass over all blocks

-- what was made of the first i blocks was made of all
pub all_stripes : {E : Type 0} (made : List (List E) → List (List E)) (now old : List (HeldBlock E)) (i : ℕ)
    → length now ≡ length old → length old ≤ i
    → stripes_in (take i now) ≡ made (stripes_in (take i old)) → stripes_in now ≡ made (stripes_in old)
all_stripes made now old i long all done =
    sym (ap stripes_in (take_all i now (omega arith))) ∙ done ∙ ap (λ b. made (stripes_in b)) (take_all i old all)

pub all_cost : {E : Type 0} (met each before after : ℕ) (old : List (HeldBlock E)) (i : ℕ) → length old ≤ i
    → after ≡ before + longer_than met (map length (stripes_in (take i old))) * each
    → after ≡ before + longer_than met (map length (stripes_in old)) * each
all_cost met each before after old i all cost =
    subst (λ b. after ≡ before + longer_than met (map length (stripes_in b)) * each) (take_all i old all) cost
