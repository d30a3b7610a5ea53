-- The entry at the front of the bytes that wait.
use Rattle.std.proofs.Common.{◌≡◌, ℕ, ◌+◌, ◌≤◌, List, [], ◌∷◌, ◌++◌, length, take, drop, Some, sym, ap, ◌∙◌, arith}
use Rattle.std.proofs.lemmas.Grind.{common_steps}
use Rattle.std.proofs.lemmas.List.{take_at, drop-drop}
use Rattle.std.specs.Int.{w16, from_be_bytes}
use Rattle.pet_base.specs.Entries.{first_entry, whole_or_damaged}

whole : (n : ℕ) (more : List ℕ) → n ≤ length more → whole_or_damaged n more ≡ (take n more, drop n more)
whole n more le = grind (arith, common_steps)

-- the bytes that the first two tell, and what is behind them
pub first_of : (bytes : List ℕ) (n : ℕ) → 2 ≤ length bytes → n ≡ from_be_bytes w16 (take 2 bytes)
    → n ≤ length (drop 2 bytes)
    → first_entry bytes ≡ Some (take n (drop 2 bytes), drop n (drop 2 bytes))
first_of [] n two says le = absurd (omega arith)
first_of (a ∷ []) n two says le = absurd (omega arith)
first_of (a ∷ b ∷ more) n two says le =
    let e : from_be_bytes w16 (a ∷ b ∷ []) ≡ n = sym says in
    rw e (ap (λ (p : List ℕ × List ℕ). Some p) (whole n more le))

-- it is copied to the front of a buffer, and the bytes behind it are left
pub popped : (kept into copied head rest entries left : List ℕ) (gone n : ℕ) → entries ≡ drop gone kept
    → 2 ≤ length entries → head ≡ take 2 entries → rest ≡ drop 2 entries
    → n ≡ from_be_bytes w16 head → n ≤ length rest → copied ≡ take n rest → length copied ≡ n
    → left ≡ drop (gone + (2 + n)) kept
    → first_entry entries ≡ Some (take n (copied ++ drop n into), left)
popped kept into copied head rest entries left gone n at two h r says le c len l =
    let f : first_entry entries ≡ Some (take n (drop 2 entries), drop n (drop 2 entries)) =
    first_of entries n two (says ∙ ap (λ (t : List ℕ). from_be_bytes w16 t) h) (rw (← r) le) in
    let front : take n (copied ++ drop n into) ≡ take n (drop 2 entries) =
    take_at copied (drop n into) n len ∙ c ∙ ap (λ (t : List ℕ). take n t) r in
    let behind : drop n (drop 2 entries) ≡ left =
    ap (λ (t : List ℕ). drop n (drop 2 t)) at ∙ ap (λ (t : List ℕ). drop n t) (drop-drop 2 gone kept)
    ∙ drop-drop n (gone + 2) kept ∙ grind (arith, common_steps) in
    rw front (rw (← behind) f)
