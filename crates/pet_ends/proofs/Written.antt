-- Bytes that are written one part after the other.
use Rattle.std.proofs.Common.{◌≡◌, ℕ, zero, suc, ◌+◌, ◌-◌, List, [], ◌∷◌, ◌++◌, length, take, drop, Option, refl, sym}
use Rattle.std.proofs.Common.{ap, subst, ◌∙◌, arith}
use Rattle.std.proofs.lemmas.List.{take_rest}
use Rattle.std.specs.Io.KnownBytes.{Appends}
use Rattle.std.proofs.KnownBytes.{Appends-trans}

take-nil : (n : ℕ) → take {A = ℕ} n [] ≡ []
take-nil zero = refl
take-nil (suc n) = refl

take-add : (n k : ℕ) (xs : List ℕ) → take n xs ++ take k (drop n xs) ≡ take (n + k) xs
take-add zero k xs = let e : 0 + k ≡ k = omega arith in rw e refl
take-add (suc n) k [] = take-nil k ∙ sym (take-nil (suc n + k))
take-add (suc n) k (x ∷ xs) =
    let e : suc n + k ≡ suc (n + k) = omega arith in
    rw e (ap (λ (t : List ℕ). x ∷ t) (take-add n k xs))

-- a further part, of the bytes that are left
pub written_more : (n k : ℕ) (bytes : List ℕ) (first before after : Option (List ℕ))
    → Appends first before (take n bytes) → Appends before after (take k (take (length bytes - n) (drop n bytes)))
    → Appends first after (take (n + k) bytes)
written_more n k bytes first before after p q =
    let part : Appends before after (take k (drop n bytes)) =
    subst (λ (t : List ℕ). Appends before after (take k t)) (take_rest bytes n) q in
    subst (Appends first after) (take-add n k bytes) (Appends-trans first before after _ _ p part)
