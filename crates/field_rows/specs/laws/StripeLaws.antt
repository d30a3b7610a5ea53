-- What callers may conclude about stripes on end.
use Rattle.std.specs.Prelude.{sum, replicate}
use Rattle.std.specs.List.{flat_map}
use Rattle.std.proofs.Common.{◌≡◌, ℕ, zero, suc, ◌+◌, ◌*◌, ◌<◌, ◌≤◌, List, [], ◌∷◌, ◌++◌, All, length, get_or, take}
use Rattle.std.proofs.Common.{drop, map, refl, sym, ap, ap₂, ◌∙◌, arith}
use Rattle.std.proofs.lemmas.List.{drop-drop, length-drop, length-replicate, length-take-le, take-append-drop}
use Rattle.std.proofs.lemmas.List.Sums.{sum_by-cons}
use Rattle.std.proofs.lemmas.List.Folds.{sum_by-replicate}
use Rattle.std.proofs.lemmas.List.Elements.{All-cons, All-nil, All-drop, All-take}
use Rattle.field_rows.specs.Stripes.{stripes_by, cut}

pub sum-cons : (n : ℕ) (ns : List ℕ) → sum (n ∷ ns) ≡ n + sum ns
sum-cons n ns = sum_by-cons (λ k. k) n ns

pub length-stripes_by : {E : Type 0} (lengths : List ℕ) (row : List E)
    → length (stripes_by lengths row) ≡ length lengths
length-stripes_by [] row = refl
length-stripes_by (n ∷ ns) row = ap suc (length-stripes_by ns (drop n row))

pub stripes_by-append : {E : Type 0} (ms ns : List ℕ) (row : List E)
    → stripes_by (ms ++ ns) row ≡ stripes_by ms row ++ stripes_by ns (drop (sum ms) row)
stripes_by-append [] ns row = refl
stripes_by-append (m ∷ ms) ns row =
    ap (λ t. take m row ∷ t)
    (stripes_by-append ms ns (drop m row)
    ∙ ap (λ t. stripes_by ms (drop m row) ++ stripes_by ns t)
    (drop-drop (sum ms) m row ∙ ap (λ k. drop k row) (sym (sum-cons m ms))))

-- a row that is long enough has stripes of just these lengths
pub stripe_lengths : {E : Type 0} (lengths : List ℕ) (row : List E) → sum lengths ≤ length row
    → map length (stripes_by lengths row) ≡ lengths
stripe_lengths [] row l = refl
stripe_lengths (n ∷ ns) row l =
    ap₂ ◌∷◌ (length-take-le n row (omega (arith, sum-cons n ns)))
    (stripe_lengths ns (drop n row) (omega (arith, sum-cons n ns, length-drop n row)))

pub stripes_are : {E : Type 0} (P : E → Type 0) (lengths : List ℕ) (row : List E) → All P row
    → All (All P) (stripes_by lengths row)
stripes_are P [] row h = All-nil (All P)
stripes_are P (n ∷ ns) row h =
    All-cons (All P) (take n row) (stripes_by ns (drop n row)) (All-take P n row h)
    (stripes_are P ns (drop n row) (All-drop P n row h))

-- the stripes on end are the row
pub stripes_on_end : {E : Type 0} (lengths : List ℕ) (row : List E) → length row ≡ sum lengths
    → flat_map (λ s. s) (stripes_by lengths row) ≡ row
stripes_on_end [] [] e = refl
stripes_on_end [] (x ∷ row) e = absurd (omega arith)
stripes_on_end (n ∷ ns) row e =
    ap (λ t. take n row ++ t) (stripes_on_end ns (drop n row) (length-drop n row ∙ omega (arith, sum-cons n ns)))
    ∙ take-append-drop n row

-- ---- stripes of one length

pub sum-replicate : (n k : ℕ) → sum (replicate n k) ≡ n * k
sum-replicate n k = sum_by-replicate (λ m. m) n k

pub length-cut : {E : Type 0} (n k : ℕ) (row : List E) → length (cut n k row) ≡ n
length-cut n k row = length-stripes_by (replicate n k) row ∙ length-replicate n k

pub cut_at : {E : Type 0} (n k c : ℕ) (row : List E) → c < n → get_or (cut n k row) c [] ≡ take k (drop (c * k) row)
cut_at zero k c row l = absurd (omega arith)
cut_at (suc n) k zero row l = let z : 0 * k ≡ 0 = omega arith in ap (λ i. take k (drop i row)) (sym z)
cut_at (suc n) k (suc c) row l =
    let e : k + c * k ≡ suc c * k = omega arith in
    cut_at n k c (drop k row) (omega arith) ∙ ap (take k) (drop-drop (c * k) k row ∙ ap (λ i. drop i row) e)
