-- Columns of what is made of rows: each step on rows is that step on each column.
use Rattle.std.proofs.Common.{◌≡◌, ◌<◌, ◌≤◌, ◌+◌, ◌-◌, ◌*◌, ◌/◌, ◌^◌, ◌++◌, ℕ, suc, zero, List, [], ◌∷◌, length, take}
use Rattle.std.proofs.Common.{drop, get_or, map, All, refl, sym, ap, ap₂, ◌∙◌, arith, bit_xor, subst}
use Rattle.std.proofs.Math.Seq.{take-append_seam, drop-append_seam}
use Rattle.std.proofs.lemmas.List.{ext_get_or, get_or-drop, get_or-map, length-drop, length-map, length-take-le}
use Rattle.std.proofs.lemmas.List.{take-append-drop, take_all}
use native.Mathlib.Nat.{pow-suc}
use lib.Bits.{xor_shifted}
use Rattle.field_elements.specs.Field.{Operations, IsField, ArePoints}
use Rattle.field_rows.specs.Columns.{column}
use Rattle.field_rows.specs.laws.ColumnLaws.{length-column, column_at, column_elements, column_front, column_take}
use Rattle.field_rows.specs.laws.PlaceLaws.{place_below}
use Rattle.pet_poly.specs.Value.{value}
use Rattle.field_transform.specs.Basis.{hats, squared, value_in_basis}
use Rattle.field_transform.specs.inside.Columnwise.{Columnwise, along, Flies, Lifts, Expands, Scales, Converts}
use Rattle.field_transform.specs.Subspaces.{HasSubspaces}
use Rattle.field_transform.proofs.Places.{length-along, flies_more, flies_fewer, flies_none}
use Rattle.field_transform.proofs.OneColumn.{converts_value, flies_value, expands_step, expands_none, scales_step}
use Rattle.field_transform.proofs.OneColumn.{scales_none, converts_step, converts_none}

-- ---- rows cut and joined

module _ {E : Type 0} (d : E) where
  pub along_at : (g : E → E → E) (xs ys : List E) (i : ℕ) → i < length ys → length ys ≤ length xs
      → get_or (along g xs ys) i d ≡ g (get_or xs i d) (get_or ys i d)
  along_at g [] [] i l m = absurd (omega arith)
  along_at g (x ∷ xs) [] i l m = absurd (omega arith)
  along_at g [] (y ∷ ys) i l m = absurd (omega arith)
  along_at g (x ∷ xs) (y ∷ ys) zero l m = refl
  along_at g (x ∷ xs) (y ∷ ys) (suc i) l m = along_at g xs ys i (omega arith) (omega arith)

  -- at the end of a loop along both
  pub along_whole : (g : E → E → E) (xs ys now : List E) (n i : ℕ) → length ys ≤ n → length xs ≡ length ys
      → now ≡ along g xs (take n ys) → i < length ys
      → get_or now i d ≡ g (get_or xs i d) (get_or ys i d)
  along_whole g xs ys now n i m e is l =
      ap (λ r. get_or r i d) (is ∙ ap (along g xs) (take_all n ys m)) ∙ along_at g xs ys i l (omega arith)

  pub column_along : (g : E → E → E) (w k c : ℕ) (xs ys new : List E) → c < w → length ys ≡ k * w
      → ((i : ℕ) → i < length ys → get_or new i d ≡ g (get_or xs i d) (get_or ys i d))
      → column d w k c new ≡ along g (column d w k c xs) (column d w k c ys)
  column_along g w k c xs ys new l long is =
      let a = column d w k c xs in
      let b = column d w k c ys in
      let na : length a ≡ k = length-column d w k c xs in
      let nb : length b ≡ k = length-column d w k c ys in
      ext_get_or d (column d w k c new) (along g a b) (length-column d w k c new ∙ sym (length-along g a b ∙ na))
      (λ i m.
      let r : i < k = omega (arith, length-column d w k c new) in
      column_at d d w k c i new r ∙ is (i * w + c) (omega (arith, long, place_below i k w c r l))
      ∙ ap₂ g (sym (column_at d d w k c i xs r)) (sym (column_at d d w k c i ys r))
      ∙ sym (along_at g a b i (omega arith) (omega arith)))

  pub column_map : (f : E → E) (w k c : ℕ) (xs new : List E) → c < w → length xs ≡ k * w
      → ((i : ℕ) → i < length xs → get_or new i d ≡ f (get_or xs i d)) → column d w k c new ≡ map f (column d w k c xs)
  column_map f w k c xs new l long is =
      let a = column d w k c xs in
      let na : length a ≡ k = length-column d w k c xs in
      ext_get_or d (column d w k c new) (map f a) (length-column d w k c new ∙ sym (length-map a f ∙ na))
      (λ i m.
      let r : i < k = omega (arith, length-column d w k c new) in
      column_at d d w k c i new r ∙ is (i * w + c) (omega (arith, long, place_below i k w c r l))
      ∙ ap f (sym (column_at d d w k c i xs r)) ∙ sym (get_or-map f a i d d (omega arith)))

  pub column_of_front : (w j n c : ℕ) (rows front : List E) → c < w → j ≤ n → front ≡ take (j * w) rows
      → column d w j c front ≡ take j (column d w n c rows)
  column_of_front w j n c rows front l m e =
      ap (column d w j c) e ∙ column_take d w j c (j * w) rows l (omega arith) ∙ column_front d w n j c rows m

  place_behind : (j i w c : ℕ) → j * w + (i * w + c) ≡ (j + i) * w + c
  place_behind j i w c = grind arith

  pub column_of_back : (w j k n c : ℕ) (rows back : List E) → n ≡ j + k → back ≡ drop (j * w) rows
      → column d w k c back ≡ drop j (column d w n c rows)
  column_of_back w j k n c rows back e eb =
      let b = column d w n c rows in
      let nb : length b ≡ n = length-column d w n c rows in
      ext_get_or d (column d w k c back) (drop j b) (length-column d w k c back ∙ omega (arith, length-drop j b))
      (λ i m.
      let r : i < k = omega (arith, length-column d w k c back) in
      column_at d d w k c i back r ∙ ap (λ s. get_or s (i * w + c) d) eb ∙ get_or-drop (j * w) rows (i * w + c) d
      ∙ ap (λ t. get_or rows t d) (place_behind j i w c)
      ∙ sym (get_or-drop j b i d ∙ column_at d d w n c (j + i) rows (omega arith)))

  pub column_append : (w j k n c : ℕ) (xs ys : List E) → c < w → n ≡ j + k → length xs ≡ j * w
      → column d w n c (xs ++ ys) ≡ column d w j c xs ++ column d w k c ys
  column_append w j k n c xs ys l e ex =
      sym (take-append-drop j (column d w n c (xs ++ ys)))
      ∙ sym (ap₂ ◌++◌ (column_of_front w j n c (xs ++ ys) xs l (omega arith)
      (sym (take-append_seam xs ys) ∙ ap (λ t. take t (xs ++ ys)) ex))
      (column_of_back w j k n c (xs ++ ys) ys e (sym (drop-append_seam xs ys) ∙ ap (λ t. drop t (xs ++ ys)) ex)))

-- ---- halves of rows

pub doubled_power : (k : ℕ) → 2 ^ suc k ≡ 2 ^ k + 2 ^ k
doubled_power k = omega (arith, pow-suc 2 k)

pub power_halves : (j level : ℕ) → 0 < level → 2 ^ (j + level) ≡ 2 ^ (j + (level - 1)) + 2 ^ (j + (level - 1))
power_halves j level l =
    let e : j + level ≡ suc (j + (level - 1)) = omega arith in
    ap (λ k. 2 ^ k) e ∙ doubled_power (j + (level - 1))

pub power_half : (level : ℕ) → 0 < level → 2 ^ level ≡ 2 ^ (level - 1) + 2 ^ (level - 1)
power_half level l =
    let e : level ≡ suc (level - 1) = omega arith in
    ap (λ k. 2 ^ k) e ∙ doubled_power (level - 1)

pub power_next : (q : ℕ) → 2 ^ (q + 1) ≡ 2 ^ q + 2 ^ q
power_next q =
    let e : q + 1 ≡ suc q = omega arith in
    ap (λ k. 2 ^ k) e ∙ doubled_power q

pub power_between : (j level : ℕ) → 0 < level → 2 ^ (j + level + 1) ≡ 2 ^ (j + (level - 1) + 1) + 2 ^ (j + (level - 1) + 1)
power_between j level l =
    let e : j + level + 1 ≡ suc (j + (level - 1) + 1) = omega arith in
    ap (λ k. 2 ^ k) e ∙ doubled_power (j + (level - 1) + 1)

twice : (p w : ℕ) → (p + p) * w ≡ p * w + p * w
twice p w = grind arith

-- the middle of so many rows
pub middle : {E : Type 0} (n p w : ℕ) (rows : List E) → n ≡ p + p → length rows ≡ n * w → length rows / 2 ≡ p * w
middle n p w rows e long =
    let t : length rows ≡ p * w + p * w = long ∙ ap (λ k. k * w) e ∙ twice p w in
    omega arith

-- what is behind the middle
pub rest_fits : {E : Type 0} (n p w known : ℕ) (rows high : List E) → n ≡ p + p → length rows ≡ n * w
    → length high ≡ p * w → known ≤ length rows → known - length rows / 2 ≤ length high
rest_fits n p w known rows high e long l h =
    let t : length rows ≡ p * w + p * w = long ∙ ap (λ k. k * w) e ∙ twice p w in
    omega (arith, middle n p w rows e long)

pub length_low : {E : Type 0} (n p w m : ℕ) (rows low : List E) → n ≡ p + p → length rows ≡ n * w → m ≡ length rows / 2
    → low ≡ take m rows → length low ≡ p * w
length_low n p w m rows low e long em l =
    let t : length rows ≡ p * w + p * w = long ∙ ap (λ k. k * w) e ∙ twice p w in
    let h : m ≡ p * w = em ∙ middle n p w rows e long in
    ap length l ∙ length-take-le m rows (omega arith) ∙ h

pub length_high : {E : Type 0} (n p w m : ℕ) (rows high : List E) → n ≡ p + p → length rows ≡ n * w
    → m ≡ length rows / 2 → high ≡ drop m rows → length high ≡ p * w
length_high n p w m rows high e long em h =
    let t : length rows ≡ p * w + p * w = long ∙ ap (λ k. k * w) e ∙ twice p w in
    let q : m ≡ p * w = em ∙ middle n p w rows e long in
    ap length h ∙ length-drop m rows ∙ omega arith

-- both halves are as long
pub halves_alike : {E : Type 0} (n p w m : ℕ) (rows low high : List E) → n ≡ p + p → length rows ≡ n * w
    → m ≡ length rows / 2 → low ≡ take m rows → high ≡ drop m rows
    → length low ≡ length high
halves_alike n p w m rows low high e long em l h =
    length_low n p w m rows low e long em l ∙ sym (length_high n p w m rows high e long em h)

-- halves of blocks of 2 to the power j rows
module _ {E : Type 0} (j level w : ℕ) where
  pub block_low : (m : ℕ) (rows low : List E) → 0 < level → length rows ≡ 2 ^ (j + level) * w → m ≡ length rows / 2
      → low ≡ take m rows
      → length low ≡ 2 ^ (j + (level - 1)) * w
  block_low m rows low s long em l =
      length_low (2 ^ (j + level)) (2 ^ (j + (level - 1))) w m rows low (power_halves j level s) long em l

  pub block_high : (m : ℕ) (rows high : List E) → 0 < level → length rows ≡ 2 ^ (j + level) * w → m ≡ length rows / 2
      → high ≡ drop m rows
      → length high ≡ 2 ^ (j + (level - 1)) * w
  block_high m rows high s long em h =
      length_high (2 ^ (j + level)) (2 ^ (j + (level - 1))) w m rows high (power_halves j level s) long em h

  pub block_middle : (rows : List E) → 0 < level → length rows ≡ 2 ^ (j + level) * w
      → length rows / 2 ≡ 2 ^ (j + (level - 1)) * w
  block_middle rows s long = middle (2 ^ (j + level)) (2 ^ (j + (level - 1))) w rows (power_halves j level s) long

  pub block_rest : (known : ℕ) (rows high : List E) → 0 < level → length rows ≡ 2 ^ (j + level) * w
      → length high ≡ 2 ^ (j + (level - 1)) * w → known ≤ length rows
      → known - length rows / 2 ≤ length high
  block_rest known rows high s long l h =
      rest_fits (2 ^ (j + level)) (2 ^ (j + (level - 1))) w known rows high (power_halves j level s) long l h

-- and of rows that are such blocks in pairs
module _ {E : Type 0} (j level w m : ℕ) (rows : List E) (s : 0 < level) (long : length rows ≡ 2 ^ (j + level + 1) * w)
    (em : m ≡ length rows / 2) where
  pub pairs_low : (low : List E) → low ≡ take m rows → length low ≡ 2 ^ (j + (level - 1) + 1) * w
  pairs_low low l =
      length_low (2 ^ (j + level + 1)) (2 ^ (j + (level - 1) + 1)) w m rows low (power_between j level s) long em l

  pub pairs_high : (high : List E) → high ≡ drop m rows → length high ≡ 2 ^ (j + (level - 1) + 1) * w
  pairs_high high h =
      length_high (2 ^ (j + level + 1)) (2 ^ (j + (level - 1) + 1)) w m rows high (power_between j level s) long em h

  pub pairs_middle : length rows / 2 ≡ 2 ^ (j + (level - 1) + 1) * w
  pairs_middle = middle (2 ^ (j + level + 1)) (2 ^ (j + (level - 1) + 1)) w rows (power_between j level s) long

module _ {E : Type 0} (d : E) where
  module _ (n p w m c : ℕ) (rows : List E) (e : n ≡ p + p) (long : length rows ≡ n * w) (em : m ≡ length rows / 2)
      (l : c < w) where
    pub column_low : (low : List E) → low ≡ take m rows → column d w p c low ≡ take p (column d w n c rows)
    column_low low h =
        column_of_front d w p n c rows low l (omega arith) (h ∙ ap (λ t. take t rows) (em ∙ middle n p w rows e long))

    pub column_high : (high : List E) → high ≡ drop m rows → column d w p c high ≡ drop p (column d w n c rows)
    column_high high h = column_of_back d w p p n c rows high e (h ∙ ap (λ t. drop t rows) (em ∙ middle n p w rows e long))

-- ---- the butterflies

module _ {E : Type 0} (o : Operations E) (inverse point : ℕ → E) where
  module _ (w level k c : ℕ) (by : E) (m : ℕ) (rows low high low1 : List E) (e : level ≡ suc k)
      (long : length rows ≡ 2 ^ level * w) (em : m ≡ length rows / 2)
      (l : low ≡ take m rows) (h : high ≡ drop m rows) (b : by ≡ hats o inverse k (point c))
      (l1 : (i : ℕ) → i < length high
      → get_or low1 i o.nought ≡ o.plus (get_or low i o.nought) (o.times by (get_or high i o.nought))) where
    ep : 2 ^ level ≡ 2 ^ k + 2 ^ k
    ep = ap (λ j. 2 ^ j) e ∙ doubled_power k

    summed : (i : ℕ) → i < w
        → column o.nought w (2 ^ k) i low1 ≡ along (λ x y. o.plus x (o.times by y)) (column o.nought w (2 ^ k) i low) (column o.nought w (2 ^ k) i high)
    summed i li =
        column_along o.nought (λ x y. o.plus x (o.times by y)) w (2 ^ k) i low high low1 li (length_high (2 ^ level) (2 ^ k) w m rows high ep long em h) l1

    pub flies_columns : (s half count : ℕ) (high1 new_low new_high : List E) → s ≡ 2 ^ k → half ≡ 2 ^ k → half < count
        → point (bit_xor c (2 ^ k)) ≡ o.plus (point c) (point (2 ^ k)) → length low1 ≡ 2 ^ k * w → length new_low ≡ 2 ^ k * w
        → ((i : ℕ) → i < length high → get_or high1 i o.nought ≡ o.plus (get_or low1 i o.nought) (get_or high i o.nought))
        → Columnwise o.nought (Flies o inverse point k c half) w (2 ^ k) low1 new_low
        → Columnwise o.nought (Flies o inverse point k (bit_xor c s) (count - half)) w (2 ^ k) high1 new_high
        → Columnwise o.nought (Flies o inverse point level c count) w (2 ^ level) rows (new_low ++ new_high)
    flies_columns s half count high1 new_low new_high es eh some hp n1 nl h1 f g i li =
        let p = 2 ^ k in
        let C = λ (rows : List E). column o.nought w p i rows in
        let nh : length high ≡ p * w = length_high (2 ^ level) p w m rows high ep long em h in
        subst (Flies o inverse point level c count (column o.nought w (2 ^ level) i rows))
        (sym (column_append o.nought w p p (2 ^ level) i new_low new_high li ep nl))
        (flies_more o inverse point level k c by half s count (column o.nought w (2 ^ level) i rows) (C low) (C high)
        (C low1) (C high1) (C new_low) (C new_high) e eh es (omega arith)
        (column_low o.nought (2 ^ level) p w m i rows ep long em li low l
        ∙ ap (λ t. take t (column o.nought w (2 ^ level) i rows)) (sym eh))
        (column_high o.nought (2 ^ level) p w m i rows ep long em li high h
        ∙ ap (λ t. drop t (column o.nought w (2 ^ level) i rows)) (sym eh)) b (summed i li)
        (column_along o.nought o.plus w p i low1 high high1 li nh (λ j lj. h1 j lj)) hp
        (length-column o.nought w p i new_low) (f i li) (g i li))

    pub flies_low_columns : (count : ℕ) (new_low : List E) → count ≤ 2 ^ k → length new_low ≡ 2 ^ k * w
        → Columnwise o.nought (Flies o inverse point k c count) w (2 ^ k) low1 new_low
        → Columnwise o.nought (Flies o inverse point level c count) w (2 ^ level) rows (new_low ++ high)
    flies_low_columns count new_low few nl f i li =
        let p = 2 ^ k in
        let C = λ (rows : List E). column o.nought w p i rows in
        subst (Flies o inverse point level c count (column o.nought w (2 ^ level) i rows))
        (sym (column_append o.nought w p p (2 ^ level) i new_low high li ep nl))
        (flies_fewer o inverse point level k c by p count (column o.nought w (2 ^ level) i rows) (C low) (C high)
        (C low1) (C new_low) e refl few
        (column_low o.nought (2 ^ level) p w m i rows ep long em li low l)
        (column_high o.nought (2 ^ level) p w m i rows ep long em li high h) b (summed i li)
        (length-column o.nought w p i new_low) (f i li))

  pub flies_none_columns : (w level c count : ℕ) (rows : List E) → (0 < count → level ≡ 0)
      → Columnwise o.nought (Flies o inverse point level c count) w (2 ^ level) rows rows
  flies_none_columns w level c count rows e i l =
      flies_none o inverse point level c count (column o.nought w (2 ^ level) i rows) e

-- ---- the expansion and the scaling

module _ {E : Type 0} (o : Operations E) where
  pub lifts_columns : (w q n m1 m2 : ℕ) (low high first second third fourth third1 second1 : List E)
      → n ≡ 2 ^ q + 2 ^ q → length low ≡ n * w → length high ≡ n * w
      → m1 ≡ length low / 2 → m2 ≡ length high / 2 → first ≡ take m1 low → second ≡ drop m1 low → third ≡ take m2 high
      → fourth ≡ drop m2 high → length third1 ≡ 2 ^ q * w
      → ((i : ℕ) → i < length fourth
      → get_or third1 i o.nought ≡ o.plus (get_or third i o.nought) (get_or fourth i o.nought))
      → ((i : ℕ) → i < length third1
      → get_or second1 i o.nought ≡ o.plus (get_or second i o.nought) (get_or third1 i o.nought))
      → (c : ℕ) → c < w
      → Lifts o (2 ^ q) (column o.nought w n c low) (column o.nought w n c high) (column o.nought w n c (first ++ second1)) (column o.nought w n c (third1 ++ fourth))
  lifts_columns w q n m1 m2 low high first second third fourth third1 second1 e nl nh e1 e2 f s t u n3 a b c l =
      let p = 2 ^ q in
      let C = λ (rows : List E). column o.nought w p c rows in
      let cs = column_high o.nought n p w m1 c low e nl e1 l second s in
      let ct = column_low o.nought n p w m2 c high e nh e2 l third t in
      let cu = column_high o.nought n p w m2 c high e nh e2 l fourth u in
      let c3 : C third1 ≡ along o.plus (take p (column o.nought w n c high)) (drop p (column o.nought w n c high)) =
      column_along o.nought o.plus w p c third fourth third1 l (length_high n p w m2 high fourth e nh e2 u) a
      ∙ ap₂ (along o.plus) ct cu in
      record {
        front =
            column_append o.nought w p p n c first second1 l e (length_low n p w m1 low first e nl e1 f)
            ∙ ap₂ ◌++◌ (column_low o.nought n p w m1 c low e nl e1 l first f)
            (column_along o.nought o.plus w p c second third1 second1 l n3 b ∙ ap₂ (along o.plus) cs c3);
        back = column_append o.nought w p p n c third1 fourth l e n3 ∙ ap₂ ◌++◌ c3 cu;
      }

  pub expands_columns : (w level n j m k r : ℕ) (rows low high low1 high1 new_low new_high : List E) → level ≡ suc n
      → k ≡ 2 ^ (j + level) → r ≡ k + k
      → length rows ≡ r * w → m ≡ length rows / 2 → low ≡ take m rows → high ≡ drop m rows → length new_low ≡ k * w
      → ((i : ℕ) → i < w
      → Lifts o (2 ^ (j + n)) (column o.nought w k i low) (column o.nought w k i high) (column o.nought w k i low1) (column o.nought w k i high1))
      → Columnwise o.nought (Expands o j n) w k low1 new_low → Columnwise o.nought (Expands o j n) w k high1 new_high
      → Columnwise o.nought (Expands o j level) w r rows (new_low ++ new_high)
  expands_columns w level n j m k r rows low high low1 high1 new_low new_high e ek er long em l h nl lifts f g i li =
      let C = λ (rows : List E). column o.nought w k i rows in
      let cl = column_low o.nought r k w m i rows er long em li low l in
      let ch = column_high o.nought r k w m i rows er long em li high h in
      subst (Expands o j level (column o.nought w r i rows))
      (sym (column_append o.nought w k k r i new_low new_high li er nl))
      (expands_step o level n j k (column o.nought w r i rows) (C low) (C high) (C low1) (C high1) (C new_low)
      (C new_high) e ek cl ch
      (lifts i li).front (lifts i li).back (f i li) (g i li))

  pub expands_pairs : (j level w m : ℕ) (rows low high low1 high1 new_low new_high : List E) → 0 < level
      → length rows ≡ 2 ^ (j + level + 1) * w → m ≡ length rows / 2
      → low ≡ take m rows → high ≡ drop m rows → length new_low ≡ 2 ^ (j + (level - 1) + 1) * w
      → ((i : ℕ) → i < w
      → Lifts o (2 ^ (j + (level - 1))) (column o.nought w (2 ^ (j + (level - 1) + 1)) i low)
      (column o.nought w (2 ^ (j + (level - 1) + 1)) i high)
      (column o.nought w (2 ^ (j + (level - 1) + 1)) i low1) (column o.nought w (2 ^ (j + (level - 1) + 1)) i high1))
      → Columnwise o.nought (Expands o j (level - 1)) w (2 ^ (j + (level - 1) + 1)) low1 new_low
      → Columnwise o.nought (Expands o j (level - 1)) w (2 ^ (j + (level - 1) + 1)) high1 new_high
      → Columnwise o.nought (Expands o j level) w (2 ^ (j + level + 1)) rows (new_low ++ new_high)
  expands_pairs j level w m rows low high low1 high1 new_low new_high s long em l h nl lifts f g =
      let q : j + (level - 1) + 1 ≡ j + level = omega arith in
      expands_columns w level (level - 1) j m (2 ^ (j + (level - 1) + 1))
      (2 ^ (j + level + 1)) rows low high low1 high1 new_low new_high (omega arith) (ap (λ i. 2 ^ i) q)
      (power_between j level s) long em l h nl lifts f g

  pub expands_none_columns : (w level j k : ℕ) (rows : List E) → level ≡ 0
      → Columnwise o.nought (Expands o j level) w k rows rows
  expands_none_columns w level j k rows e i l = expands_none o level j (column o.nought w k i rows) e

  -- ---- the scaling

  pub scales_columns : (w level n j : ℕ) (g a b : E) (m k r : ℕ) (rows low high new_low new_high : List E)
      → level ≡ suc n → k ≡ 2 ^ (j + n) → r ≡ k + k
      → length rows ≡ r * w → m ≡ length rows / 2 → low ≡ take m rows → high ≡ drop m rows → length new_low ≡ k * w
      → b ≡ o.times a (squared o n g)
      → Columnwise o.nought (Scales o j n g a) w k low new_low
      → Columnwise o.nought (Scales o j n g b) w k high new_high → Columnwise o.nought (Scales o j level g a) w r rows (new_low ++ new_high)
  scales_columns w level n j g a b m k r rows low high new_low new_high e ek er long em l h nl eb f q i li =
      let C = λ (rows : List E). column o.nought w k i rows in
      subst (Scales o j level g a (column o.nought w r i rows))
      (sym (column_append o.nought w k k r i new_low new_high li er nl))
      (scales_step o level n j g a b k (column o.nought w r i rows) (C low) (C high) (C new_low) (C new_high) e ek
      (column_low o.nought r k w m i rows er long em li low l)
      (column_high o.nought r k w m i rows er long em li high h) eb (f i li) (q i li))

  pub scales_none_columns : (w level j : ℕ) (g a : E) (k : ℕ) (rows new : List E) → level ≡ 0 → length rows ≡ k * w
      → ((i : ℕ) → i < length rows → get_or new i o.nought ≡ o.times a (get_or rows i o.nought))
      → Columnwise o.nought (Scales o j level g a) w k rows new
  scales_none_columns w level j g a k rows new e long is i l =
      scales_none o level j g a (column o.nought w k i rows) (column o.nought w k i new) e
      (column_map o.nought (o.times a) w k i rows new l long is)

-- ---- the conversion

module _ {E : Type 0} (o : Operations E) (factor : ℕ → E) where
  pub converts_columns : (w level n j : ℕ) (g : E) (k k1 k2 : ℕ) (rows r1 r2 r3 : List E) → level ≡ suc n → k1 ≡ k
      → k2 ≡ k → g ≡ factor j
      → Columnwise o.nought (Expands o j n) w k1 rows r1 → Columnwise o.nought (Scales o (j + 1) n g o.unit) w k2 r1 r2
      → Columnwise o.nought (Converts o factor (j + 1) n) w k2 r2 r3
      → Columnwise o.nought (Converts o factor j level) w k rows r3
  converts_columns w level n j g k k1 k2 rows r1 r2 r3 e e1 e2 eg f s h i l =
      converts_step o factor level n j g (column o.nought w k i rows) (column o.nought w k i r1)
      (column o.nought w k i r2) (column o.nought w k i r3) e eg
      (subst (λ t. Expands o j n (column o.nought w t i rows) (column o.nought w t i r1)) e1 (f i l))
      (subst (λ t. Scales o (j + 1) n g o.unit (column o.nought w t i r1) (column o.nought w t i r2)) e2 (s i l))
      (subst (λ t. Converts o factor (j + 1) n (column o.nought w t i r2) (column o.nought w t i r3)) e2 (h i l))

  pub converts_none_columns : (w level j k : ℕ) (rows : List E) → level ≡ 0
      → Columnwise o.nought (Converts o factor j level) w k rows rows
  converts_none_columns w level j k rows e i l = converts_none o factor level j (column o.nought w k i rows) e

-- ---- the calls

module _ {E : Type 0} (P : E → Type 0) (o : Operations E) (f : IsField P o) (count : ℕ) (point : ℕ → E)
    (points : ArePoints P count point)
    (m : ℕ) (factor inverse : ℕ → E) (S : HasSubspaces P o count point m factor inverse) where
  pub converted_columns : (w n k : ℕ) (x : E) (i : ℕ) (old new : List E) → k ≡ 2 ^ n → n < m → P x → All P old
      → length old ≡ 2 ^ n * w → i < w
      → Columnwise o.nought (Converts o factor 0 n) w k old new
      → value_in_basis o inverse n (column o.nought w (2 ^ n) i new) x ≡ value o (column o.nought w (2 ^ n) i old) x
  converted_columns w n k x i old new e few hx h long l g =
      converts_value P o f count point points m factor inverse S n x (column o.nought w (2 ^ n) i old)
      (column o.nought w (2 ^ n) i new) few hx
      (length-column o.nought w (2 ^ n) i old) (column_elements P o.nought w (2 ^ n) i old l (omega arith) h)
      (subst (λ t. Converts o factor 0 n (column o.nought w t i old) (column o.nought w t i new)) e (g i l))

  pub flown_columns : (w n a d k p i : ℕ) (old new : List E) → d ≡ a * 2 ^ n → n < m → a * 2 ^ n < count → p < k
      → k ≤ 2 ^ n → All P old
      → length old ≡ 2 ^ n * w → i < w → Columnwise o.nought (Flies o inverse point n d k) w (2 ^ n) old new
      → get_or new (p * w + i) o.nought
      ≡ value_in_basis o inverse n (column o.nought w (2 ^ n) i old) (point (a * 2 ^ n + p))
  flown_columns w n a d k p i old new e few small lp within h long l g =
      sym (column_at o.nought o.nought w (2 ^ n) i p new (omega arith))
      ∙ flies_value P o f count point points m factor inverse S n a k p (column o.nought w (2 ^ n) i old)
      (column o.nought w (2 ^ n) i new) few small lp within
      (length-column o.nought w (2 ^ n) i old) (column_elements P o.nought w (2 ^ n) i old l (omega arith) h)
      (subst (λ t. Flies o inverse point n t k (column o.nought w (2 ^ n) i old) (column o.nought w (2 ^ n) i new)) e
      (g i l))

  -- the numbers of a coset have points
  pub in_coset : (n a p : ℕ) → n < m → a * 2 ^ n < count → p < 2 ^ n → a * 2 ^ n + p < count
  in_coset n a p few small l =
      subst (λ k. k < count) (xor_shifted a n p l) (S.sums.closed (a * 2 ^ n) p small (omega (arith, S.room n few)))
