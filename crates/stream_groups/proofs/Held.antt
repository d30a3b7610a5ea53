-- The bytes that are held, cut at a place that may lie behind them.
use Rattle.std.proofs.Common.{◌≡◌, ℕ, ◌-◌, min, List, length, take, drop, map, sym, ap, ◌∙◌, inl, inr, arith}
use Rattle.std.proofs.lemmas.Bool.{cases_lt}
use Rattle.std.proofs.lemmas.List.{take_all, drop_all, length-drop}
use Rattle.layer_split.specs.Layers.{Cut}
use Rattle.layer_split.specs.Splitting.{rebased}
use Rattle.stream_groups.specs.CutGroups.{CutGroup}
use Rattle.stream_groups.specs.Cutting.{group_from}

pub front_held : (n size len : ℕ) (held : List ℕ) → len ≡ min n size → size ≡ length held → take len held ≡ take n held
front_held n size len held least whole =
    elim (cases_lt n (length held)) [
      | inl lt ↦ ap (λ k. take k held) (omega arith)
      | inr ge ↦ take_all len held (omega arith) ∙ sym (take_all n held ge)
    ]

pub rest_held : (n size len : ℕ) (held known rest : List ℕ) → known ≡ held
    → rest ≡ take (length known - len) (drop len known) → len ≡ min n size → size ≡ length held → rest ≡ drop n held
rest_held n size len held known rest same is least whole =
    let here : rest ≡ drop len held = (rw same at is)
    ∙ take_all (length held - len) (drop len held) (omega (arith, length-drop len held)) in
    here ∙ elim (cases_lt n (length held)) [
      | inl lt ↦ ap (λ k. drop k held) (omega arith)
      | inr ge ↦ drop_all len held (omega arith) ∙ sym (drop_all n held ge)
    ]

abbrev pub group_of : Cut → List ℕ → CutGroup
group_of cut bytes = record { cut = cut; bytes = bytes }

-- the group of a cut that was counted anew, and these bytes
pub taken_is : (from : ℕ) (cut counted : Cut) (bytes front : List ℕ)
    → counted ≡ record { runs = map (rebased from) cut.runs; lengths = cut.lengths } → bytes ≡ front
    → group_of counted bytes ≡ group_from from cut front
taken_is from cut counted bytes front is same = ap (λ (k : Cut). group_of k bytes) is ∙ ap (group_from from cut) same
