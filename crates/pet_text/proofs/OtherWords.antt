-- Words of another number than a form has.
use Rattle.std.proofs.Common.{◌≡◌, ◌<◌, ◌≤◌, List, [], ◌∷◌, length, None, refl, arith}
use Rattle.std.specs.Prelude.{String}
use Rattle.std.specs.declared.alloc.Global.{Global}
use Rattle.pet_text.specs.KeepWords.{keep_words_of}
use Rattle.pet_text.specs.Words.{texts_of, command_of}

pub none_of_few : (words : List (String Global)) → length words < 3 → command_of (texts_of words) ≡ None
none_of_few [] few = refl
none_of_few (a ∷ []) few = refl
none_of_few (a ∷ b ∷ []) few = refl
none_of_few (a ∷ b ∷ c ∷ words) few = absurd (omega (arith, few))

pub none_of_many : (words : List (String Global)) → 6 ≤ length words → command_of (texts_of words) ≡ None
none_of_many (a ∷ b ∷ c ∷ d ∷ e ∷ f ∷ words) many = refl
none_of_many [] many = absurd (omega (arith, many))
none_of_many (a ∷ []) many = absurd (omega (arith, many))
none_of_many (a ∷ b ∷ []) many = absurd (omega (arith, many))
none_of_many (a ∷ b ∷ c ∷ []) many = absurd (omega (arith, many))
none_of_many (a ∷ b ∷ c ∷ d ∷ []) many = absurd (omega (arith, many))
none_of_many (a ∷ b ∷ c ∷ d ∷ e ∷ []) many = absurd (omega (arith, many))

-- and of `pet-keep`
pub not_keep_of_few : (words : List (String Global)) → length words < 4 → keep_words_of (texts_of words) ≡ None
not_keep_of_few [] few = refl
not_keep_of_few (a ∷ []) few = refl
not_keep_of_few (a ∷ b ∷ []) few = refl
not_keep_of_few (a ∷ b ∷ c ∷ []) few = refl
not_keep_of_few (a ∷ b ∷ c ∷ d ∷ words) few = absurd (omega (arith, few))

pub not_keep_of_many : (words : List (String Global)) → 5 ≤ length words → keep_words_of (texts_of words) ≡ None
not_keep_of_many (a ∷ b ∷ c ∷ d ∷ e ∷ words) many = refl
not_keep_of_many [] many = absurd (omega (arith, many))
not_keep_of_many (a ∷ []) many = absurd (omega (arith, many))
not_keep_of_many (a ∷ b ∷ []) many = absurd (omega (arith, many))
not_keep_of_many (a ∷ b ∷ c ∷ []) many = absurd (omega (arith, many))
not_keep_of_many (a ∷ b ∷ c ∷ d ∷ []) many = absurd (omega (arith, many))
