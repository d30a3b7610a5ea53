-- The parts of a text that was cut: there is a first one, a line in front of others, and a cut that was made.
use Rattle.std.proofs.Common.{◌≡◌, ℕ, ◌<◌, List, [], ◌∷◌, ◌++◌, length, refl}
use Rattle.std.proofs.Common.{ap, ◌∙◌, sym, subst, true, inl, inr, arith}
use Rattle.std.specs.Prelude.{Option, Some, None, MatchOption, is_some, ◌==◌}
use Rattle.std.proofs.lemmas.Bool.{cases_Bool}
use Rattle.text_cuts.specs.Cuts.{split_from, split_at, without_empty_end, lines_of}

-- there is a first part
pub parts_some : (mark : ℕ) (part bytes : List ℕ)
    → (first : List ℕ) × (rest : List (List ℕ)) × (split_from mark part bytes ≡ first ∷ rest)
parts_some mark part [] = (part, [], refl)
parts_some mark part (b ∷ bytes) =
    elim (cases_Bool (b == mark)) [
      | inl e ↦ (part, split_from mark [] bytes, grind (arith, e))
      | inr e ↦ (
          let more = parts_some mark (part ++ b ∷ []) bytes in
          (more.0, more.1, grind (arith, e, more.2))
          )
    ]

line_kept : (line : List ℕ) (parts : List (List ℕ)) (first : List ℕ) (rest : List (List ℕ)) → parts ≡ first ∷ rest
    → without_empty_end (line ∷ parts) ≡ line ∷ without_empty_end parts
line_kept [] parts first rest is = subst (λ p. without_empty_end ([] ∷ p) ≡ [] ∷ without_empty_end p) (sym is) refl
line_kept (b ∷ line) parts first rest is = refl

-- a line in front of more
pub lines_more : (bytes line rest : List ℕ) → split_at 10 bytes ≡ line ∷ split_at 10 rest
    → lines_of bytes ≡ line ∷ lines_of rest
lines_more bytes line rest is =
    let more = parts_some 10 [] rest in
    ap without_empty_end is ∙ line_kept line (split_at 10 rest) more.0 more.1 more.2

-- the last line, which no newline ends
pub lines_last : (bytes line : List ℕ) → 0 < length bytes → line ≡ bytes → split_at 10 bytes ≡ line ∷ []
    → lines_of bytes ≡ line ∷ lines_of []
lines_last bytes [] some same is = absurd (omega (arith, some, ap length same))
lines_last bytes (b ∷ line) some same is = ap without_empty_end is

-- what a clause says of a part that is there
pub at_some : {A : Type 0} (o : Option A) (x : A) (P : Type 0) (Q : A → Type 0) → o ≡ Some x → MatchOption o P Q → Q x
at_some o x P Q is so = subst (λ p. MatchOption p P Q) is so

pub of_some : {A : Type 0} (o : Option A) (P : Type 0) (Q : A → Type 0) → is_some o ≡ true → MatchOption o P Q
    → (x : A) × Q x
of_some None P Q is so = grind (arith, is)
of_some (Some x) P Q is so = (x, so)
