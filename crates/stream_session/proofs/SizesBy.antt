-- Lengths and needs, one by one.
use Rattle.std.proofs.Common.{◌≡◌, ℕ, ◌+◌, ◌<◌, ◌≤◌, List, [], ◌∷◌, drop, get_or, length, min, refl, ◌∙◌, ap, arith}
use Rattle.std.proofs.Common.{inl, inr}
use Rattle.std.proofs.lemmas.Bool.{cases_lt}
use Rattle.std.proofs.lemmas.List.{drop_more, drop_all}
use Rattle.stream_session.specs.Tables.{sizes_by}

no_needs : (lengths : List ℕ) → sizes_by lengths [] ≡ []
no_needs [] = refl
no_needs (bytes ∷ lengths) = refl

-- nothing is left behind the shorter one
pub by_end : (lengths needs : List ℕ) (at : ℕ) → min (length lengths) (length needs) ≤ at
    → sizes_by (drop at lengths) (drop at needs) ≡ []
by_end lengths needs at le = elim (cases_lt (length lengths) (length needs)) [
  | inl lt ↦ ap (λ ls. sizes_by ls (drop at needs)) (drop_all at lengths (omega arith))
  | inr ge ↦ ap (sizes_by (drop at lengths)) (drop_all at needs (omega arith)) ∙ no_needs (drop at lengths)
]

pub by_more : (lengths needs : List ℕ) (at d k : ℕ) → at < length lengths → at < length needs
    → sizes_by (drop at lengths) (drop at needs)
    ≡ record { length = get_or lengths at d; need = get_or needs at k }
    ∷ sizes_by (drop (at + 1) lengths) (drop (at + 1) needs)
by_more lengths needs at d k lt small =
    ap (λ ls. sizes_by ls (drop at needs)) (drop_more lengths at d lt)
    ∙ ap (λ ns. sizes_by (get_or lengths at d ∷ drop (at + 1) lengths) ns) (drop_more needs at k small)
