-- Where row `met` of a block stands, and which block a stripe is in.
use Rattle.std.proofs.Common.{◌≡◌, ℕ, zero, suc, ◌+◌, ◌-◌, ◌*◌, ◌<◌, ◌≤◌, false, List, [], ◌∷◌, ◌++◌, length, get_or}
use Rattle.std.proofs.Common.{take, drop, refl, sym, ap, ◌∙◌, arith}
use Rattle.std.proofs.lemmas.Bool.{le-ltb}
use Rattle.std.proofs.lemmas.List.{get_or_append_left, get_or-append_right, length-append, length-drop, length-take-le}
use Rattle.field_rows.specs.laws.PlaceLaws.{more_rows, rows_le}
use Rattle.pet_interp.specs.Blocks.{HeldBlock, IsBlock, stripes_in}

-- ---- rows

pub row_inside : (w k met n : ℕ) → n ≡ k * w → met < k → met * w + w ≤ n
row_inside w k met n whole few = omega (arith, whole, more_rows met w, rows_le (met + 1) k w (omega arith))

-- where a word of the bytes stands
pub word_inside : (w n c at wide bytes : ℕ) → wide ≡ w → at ≡ c * w → bytes ≡ n * w → c < n → at + wide ≤ bytes
word_inside w n c at wide bytes is place whole few = omega (arith, is, place, row_inside w n c bytes whole few)

pub row_long : {E : Type 0} (w k met : ℕ) (rows rest : List E) → rest ≡ drop (met * w) rows → length rows ≡ k * w
    → met < k → length (take w rest) ≡ w
row_long w k met rows rest back whole few =
    ap (λ t. length (take w t)) back
    ∙ length-take-le w (drop (met * w) rows)
    (omega (arith, length-drop (met * w) rows, row_inside w k met (length rows) whole few))

-- ---- blocks

pub block_here : {E : Type 0} (bs : List (HeldBlock E)) (i p : ℕ) → p < length (stripes_in (drop i bs)) → i < length bs
block_here [] zero p l = absurd (omega arith)
block_here [] (suc i) p l = absurd (omega arith)
block_here (b ∷ bs) zero p l = omega arith
block_here (b ∷ bs) (suc i) p l = omega (arith, block_here bs i p l)

-- the stripes from a block on
pub stripes_from : {E : Type 0} (bs : List (HeldBlock E)) (i : ℕ) (b : HeldBlock E) → i < length bs
    → stripes_in (drop i bs) ≡ (get_or bs i b).stripes ++ stripes_in (drop (i + 1) bs)
stripes_from [] i b l = absurd (omega arith)
stripes_from (a ∷ bs) zero b l = refl
stripes_from (a ∷ bs) (suc i) b l =
    let e : suc (i + 1) ≡ suc i + 1 = omega arith in
    stripes_from bs i b (omega arith) ∙ ap (λ n. (get_or bs i b).stripes ++ stripes_in (drop n (a ∷ bs))) e

pub place_then : {E : Type 0} (bs : List (HeldBlock E)) (i p n : ℕ) (b : HeldBlock E)
    → p < length (stripes_in (drop i bs)) → n ≡ length (get_or bs i b).stripes → n ≤ p
    → p - n < length (stripes_in (drop (i + 1) bs))
place_then bs i p n b l e m =
    let long = ap length (stripes_from bs i b (block_here bs i p l))
    ∙ length-append (get_or bs i b).stripes (stripes_in (drop (i + 1) bs)) in
    omega (arith, long, l, e, m)

pub stripe_then : {E : Type 0} (bs : List (HeldBlock E)) (i p n : ℕ) (b : HeldBlock E)
    → p < length (stripes_in (drop i bs)) → n ≡ length (get_or bs i b).stripes → n ≤ p
    → get_or (stripes_in (drop (i + 1) bs)) (p - n) [] ≡ get_or (stripes_in (drop i bs)) p []
stripe_then bs i p n b l e m =
    sym (ap (λ t. get_or t p []) (stripes_from bs i b (block_here bs i p l))
    ∙ get_or-append_right (get_or bs i b).stripes (stripes_in (drop (i + 1) bs)) n p [] (sym e) m)

pub stripe_here : {E : Type 0} (bs : List (HeldBlock E)) (i p : ℕ) (b : HeldBlock E)
    → p < length (stripes_in (drop i bs)) → p < length (get_or bs i b).stripes
    → get_or (get_or bs i b).stripes p [] ≡ get_or (stripes_in (drop i bs)) p []
stripe_here bs i p b l m =
    sym (ap (λ t. get_or t p []) (stripes_from bs i b (block_here bs i p l))
    ∙ get_or_append_left (get_or bs i b).stripes (stripes_in (drop (i + 1) bs)) [] p m)

-- a block waits for no point whose stripes have met enough
pub waits_not : {E : Type 0} (P : E → Type 0) (met room : ℕ) (b : HeldBlock E) (p : ℕ) (s : List E)
    → IsBlock P met room b → p < length b.stripes → get_or b.stripes p [] ≡ s → length s ≤ met
    → b.waits ≡ false
waits_not P met room b p s h l e enough =
    let size : length (get_or b.stripes p []) ≡ b.size = (h.each p [] l).0 in
    let short : b.size ≤ met = omega (arith, size, ap length e) in
    h.waits ∙ le-ltb met b.size short
