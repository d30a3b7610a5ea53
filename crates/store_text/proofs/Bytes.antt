-- No bytes, and eight bytes with others behind them.
use Rattle.std.specs.Prelude.{◌==◌}
use Rattle.std.proofs.Common.{◌≡◌, ℕ, true, List, [], ◌∷◌, ◌++◌, length, refl, arith, get_or}

-- what a test for no bytes says
pub no_bytes : (bytes : List ℕ) → true ≡ (length bytes == 0) → [] ≡ bytes
no_bytes bytes e = by bytes (none (length bytes) e)
  where
    none : (n : ℕ) → true ≡ (n == 0) → n ≡ 0
    none n e = grind (arith, e)

    by : (bytes : List ℕ) → length bytes ≡ 0 → [] ≡ bytes
    by [] e = refl
    by (b ∷ bytes) e = absurd (omega (arith, e))

pub eight : (xs rest : List ℕ) → length xs ≡ 8
    → get_or xs 0 0 ∷ get_or xs 1 0 ∷ get_or xs 2 0 ∷ get_or xs 3 0 ∷ get_or xs 4 0 ∷ get_or xs 5 0 ∷ get_or xs 6 0
    ∷ get_or xs 7 0 ∷ rest ≡ xs ++ rest
eight (a ∷ b ∷ c ∷ d ∷ e ∷ f ∷ g ∷ h ∷ []) rest long = refl
eight (a ∷ b ∷ c ∷ d ∷ e ∷ f ∷ g ∷ h ∷ i ∷ xs) rest long = absurd (omega (arith, long))
eight [] rest long = absurd (omega (arith, long))
eight (a ∷ []) rest long = absurd (omega (arith, long))
eight (a ∷ b ∷ []) rest long = absurd (omega (arith, long))
eight (a ∷ b ∷ c ∷ []) rest long = absurd (omega (arith, long))
eight (a ∷ b ∷ c ∷ d ∷ []) rest long = absurd (omega (arith, long))
eight (a ∷ b ∷ c ∷ d ∷ e ∷ []) rest long = absurd (omega (arith, long))
eight (a ∷ b ∷ c ∷ d ∷ e ∷ f ∷ []) rest long = absurd (omega (arith, long))
eight (a ∷ b ∷ c ∷ d ∷ e ∷ f ∷ g ∷ []) rest long = absurd (omega (arith, long))
