-- Layers of twice the lengths of a cut, one by one.
use Rattle.std.proofs.Common.{◌≡◌, ◌≢◌, ◌↔◌, ℕ, ◌+◌, ◌*◌, ◌≤◌, List, [], ◌∷◌, drop, get_or, length, map, min}
use Rattle.std.proofs.Common.{refl, sym, ◌∙◌, ap, ap₂, arith, inl, inr}
use Rattle.std.proofs.lemmas.Bool.{cases_lt}
use Rattle.std.proofs.lemmas.List.{drop_all, length-map}
use Rattle.stripe_plan.specs.declared.layer.LayerSize.{LayerSize}
use Rattle.stripe_plan.specs.Sizes.{twofold}
use Rattle.priority_file.specs.Priority.{Rule}
use Rattle.stream_session.specs.Tables.{sizes_with}

-- these are the layers of twice the lengths, from this one on
abbrev pub AreFrom : ℕ → List LayerSize → List ℕ → List Rule → Type 0
AreFrom at layers lengths rules = drop at layers ≡ map twofold (sizes_with (drop at lengths) (drop at rules))

abbrev pub doubled : ℕ → Rule → LayerSize
doubled bytes rule = record { length = 2 * bytes; need = rule.need }

-- as many layers as there are lengths and rules
pub sizes_many : (lengths : List ℕ) (rules : List Rule)
    → length (map twofold (sizes_with lengths rules)) ≡ min (length lengths) (length rules)
sizes_many lengths rules = length-map (sizes_with lengths rules) twofold ∙ by lengths rules
  where
    by : (ls : List ℕ) (rs : List Rule) → length (sizes_with ls rs) ≡ min (length ls) (length rs)
    by [] rs = omega arith
    by (l ∷ ls) [] = omega arith
    by (l ∷ ls) (r ∷ rs) = let rest = by ls rs in omega (arith, rest)

module _ (at : ℕ) (layers : List LayerSize) (lengths : List ℕ) (rules : List Rule) (layer : LayerSize) (bytes : ℕ)
    (rule : Rule) (here : drop at layers ≡ layer ∷ drop (at + 1) layers)
    (long : drop at lengths ≡ bytes ∷ drop (at + 1) lengths) (ruled : drop at rules ≡ rule ∷ drop (at + 1) rules) where
  at_next : map twofold (sizes_with (drop at lengths) (drop at rules))
      ≡ doubled bytes rule ∷ map twofold (sizes_with (drop (at + 1) lengths) (drop (at + 1) rules))
  at_next = ap₂ (λ (ls : List ℕ) (rs : List Rule). map twofold (sizes_with ls rs)) long ruled

  pub same_after : layer ≡ doubled bytes rule
      → AreFrom at layers lengths rules ↔ AreFrom (at + 1) layers lengths rules
  same_after same = (
    λ are. ap (drop 1) (sym here ∙ are ∙ at_next),
    λ are. here ∙ ap₂ (λ (x : LayerSize) (xs : List LayerSize). x ∷ xs) same are ∙ sym at_next,
  )

  pub other_here : layer ≢ doubled bytes rule → AreFrom at layers lengths rules → ⊥
  other_here other are = other (ap (λ (xs : List LayerSize). get_or xs 0 layer) (sym here ∙ are ∙ at_next))

-- none is left
pub none_left : (at : ℕ) (layers : List LayerSize) (lengths : List ℕ) (rules : List Rule) → length layers ≤ at
    → min (length lengths) (length rules) ≤ at → AreFrom at layers lengths rules
none_left at layers lengths rules few end = drop_all at layers few ∙ sym (by end)
  where
    no_rules : (ls : List ℕ) → map twofold (sizes_with ls []) ≡ []
    no_rules [] = refl
    no_rules (l ∷ ls) = refl

    by : min (length lengths) (length rules) ≤ at
        → map twofold (sizes_with (drop at lengths) (drop at rules)) ≡ []
    by end = elim (cases_lt (length lengths) (length rules)) [
      | inl lt ↦ ap (λ (ls : List ℕ). map twofold (sizes_with ls (drop at rules)))
          (drop_all at lengths (omega (arith, lt, end)))
      | inr ge ↦ ap (λ (rs : List Rule). map twofold (sizes_with (drop at lengths) rs))
          (drop_all at rules (omega (arith, ge, end)))
          ∙ no_rules (drop at lengths)
    ]
