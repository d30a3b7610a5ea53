-- Rows of equal stripe lengths, and the text that they have on end.
use Rattle.std.proofs.Common.{◌≡◌, ◌≢◌, ℕ, zero, suc, ◌+◌, ◌-◌, ◌<◌, ◌≤◌, ◌^◌, ◌==◌, nat_lt, List, [], ◌∷◌, ◌++◌}
use Rattle.std.proofs.Common.{length, replicate, map, take, drop, append-nil, refl, sym, ap, ◌∙◌, inl, inr, arith}
use Rattle.std.proofs.Common.{append_assoc}
use Rattle.std.specs.Prelude.{codes}
use Rattle.std.specs.List.{flat_map}
use Rattle.std.proofs.lemmas.Bool.{cases_Bool}
use Rattle.std.proofs.lemmas.Grind.{flat_map-append}
use Rattle.std.proofs.lemmas.List.{length-take, take-append-drop, take-append-le}
use Rattle.stripe_plan.specs.declared.layer.LayerSize.{LayerSize}
use Rattle.stripe_plan.specs.Layers.{needs_of, stripes_from}
use Rattle.stripe_plan.specs.Plan.{ends_within, longest_fit, plan_from}
use Rattle.stripe_plan.specs.Sizes.{IsTable}
use Rattle.stripe_plan.specs.laws.StripeLaws.{length-stripes_of}
use Rattle.stripe_plan.proofs.LayerLemmas.{length-needs_of}
use Rattle.stripe_plan.proofs.TableLemmas.{words_half}
use Rattle.text_plan.specs.PlanLines.{with_length, rows_of, row_text, lengths_from, lengths_text, plan_lengths}

-- a row of one length
pub one_row : (size times : ℕ) → 0 < times → rows_of (replicate times size) ≡ (size, times) ∷ []
one_row size zero some = absurd (omega arith)
one_row size (suc zero) some = refl
one_row size (suc (suc times)) some = rw (one_row size (suc times) (omega arith)) (grind arith)

-- an equal length more
pub row_more : (size times : ℕ) (sizes : List ℕ)
    → replicate times size ++ size ∷ sizes ≡ replicate (times + 1) size ++ sizes
row_more size zero sizes = refl
row_more size (suc times) sizes =
    let same : suc (times + 1) ≡ suc times + 1 = omega arith in
    ap (λ (rest : List ℕ). size ∷ rest) (row_more size times sizes) ∙ ap (λ (n : ℕ). replicate n size ++ sizes) same

other_row : (size next : ℕ) (rows : List (ℕ × ℕ)) → next ≢ size
    → with_length size (with_length next rows) ≡ (size, 1) ∷ with_length next rows
other_row size next [] other = grind (arith, other)
other_row size next (row ∷ rows) other =
    elim (cases_Bool (next == row.0)) [
      | inl e ↦ grind (arith, e, other)
      | inr e ↦ grind (arith, e, other)
    ]

-- another length
pub row_ended : (size times next : ℕ) (sizes : List ℕ) → next ≢ size
    → rows_of (replicate times size ++ next ∷ sizes) ≡ rows_of (replicate times size) ++ rows_of (next ∷ sizes)
row_ended size zero next sizes other = refl
row_ended size (suc zero) next sizes other = other_row size next (rows_of sizes) other
row_ended size (suc (suc times)) next sizes other =
    let some : 0 < suc times = omega arith in
    let row : rows_of (replicate (suc times) size) ≡ (size, suc times) ∷ [] = one_row size (suc times) some in
    let step : rows_of (replicate (suc times) size ++ next ∷ sizes) ≡ (size, suc times) ∷ rows_of (next ∷ sizes) =
    row_ended size (suc times) next sizes other ∙ ap (λ (rows : List (ℕ × ℕ)). rows ++ rows_of (next ∷ sizes)) row in
    ap (with_length size) step ∙ grind (arith, row)

-- no more stripes begin from a word on than there are words
few_within : (fuel : ℕ) (needs : List ℕ) (start : ℕ) → length (ends_within fuel needs start) ≤ fuel
few_within zero needs start = omega arith
few_within (suc fuel) needs start =
    let end = start + longest_fit needs start (length needs - start) in
    elim (cases_Bool (nat_lt start (length needs))) [
      | inl e ↦ rw e (omega (arith, few_within fuel needs end))
      | inr e ↦ rw e (omega arith)
    ]

pub few_stripes : (packets : ℕ) (layers : List LayerSize) (at : ℕ) → IsTable packets layers
    → length (stripes_from layers at) < 2 ^ 31
unfolding stripes_from plan_from
few_stripes packets layers at table =
    let ends = plan_from (needs_of layers) at in
    omega (
      arith,
      length-stripes_of at ends,
      few_within (length (needs_of layers)) (needs_of layers) at,
      length-needs_of layers,
      words_half layers,
      table.few_bytes,
      table.few_layers,
    )

-- the word in front of all rows
pub text_begun : (layers : List LayerSize) (old into : List ℕ) → into ≡ old ++ codes "lengths"
    → into ++ (flat_map row_text (rows_of (lengths_from layers 0)) ++ codes "\n")
    ≡ old ++ lengths_text (plan_lengths layers)
unfolding lengths_text
text_begun layers old into is =
    rw is (append_assoc old (codes "lengths") (flat_map row_text (rows_of (lengths_from layers 0)) ++ codes "\n"))

-- a stripe of the same length, and of another
pub text_same : (size times next : ℕ) (sizes into : List ℕ) → next ≡ size
    → into ++ flat_map row_text (rows_of (replicate (times + 1) next ++ sizes))
    ≡ into ++ flat_map row_text (rows_of (replicate times size ++ next ∷ sizes))
text_same size times next sizes into same =
    ap (λ (lengths : List ℕ). into ++ flat_map row_text (rows_of lengths))
    (sym (row_more next times sizes) ∙ ap (λ (length : ℕ). replicate times length ++ next ∷ sizes) same)

pub text_other : (size times next : ℕ) (sizes before into : List ℕ) → next ≢ size
    → into ≡ before ++ flat_map row_text (rows_of (replicate times size))
    → into ++ flat_map row_text (rows_of (next ∷ sizes))
    ≡ before ++ flat_map row_text (rows_of (replicate times size ++ next ∷ sizes))
text_other size times next sizes before into other is =
    let row = flat_map row_text (rows_of (replicate times size)) in
    let rest = flat_map row_text (rows_of (next ∷ sizes)) in
    ap (λ (t : List ℕ). t ++ rest) is
    ∙ append_assoc before row rest
    ∙ ap (λ (t : List ℕ). before ++ t) (sym
    (ap (λ (rows : List (ℕ × ℕ)). flat_map row_text rows) (row_ended size times next sizes other)
    ∙ flat_map-append row_text (rows_of (replicate times size)) (rows_of (next ∷ sizes))))

-- a stripe more
pub text_more : (old new rest next whole : List ℕ) → new ++ next ≡ old ++ rest → old ++ (rest ++ codes "\n") ≡ whole
    → new ++ (next ++ codes "\n") ≡ whole
text_more old new rest next whole step so =
    sym (append_assoc new next (codes "\n")) ∙ ap (λ (t : List ℕ). t ++ codes "\n") step
    ∙ append_assoc old rest (codes "\n") ∙ so

-- the last row, and the newline
pub text_ended : (size times : ℕ) (left : List (ℕ × ℕ)) (into with_row new whole : List ℕ) → left ≡ []
    → with_row ≡ into ++ flat_map row_text (rows_of (replicate times size)) → new ≡ with_row ++ codes "\n"
    → into ++ (flat_map row_text (rows_of (replicate times size ++ map (λ (s : ℕ × ℕ). s.1) left)) ++ codes "\n")
    ≡ whole → new ≡ whole
text_ended size times left into with_row new whole none row newline so =
    newline
    ∙ (ap (λ (t : List ℕ). t ++ codes "\n") row
    ∙ (append_assoc into (flat_map row_text (rows_of (replicate times size))) (codes "\n")
    ∙ (rw (none, append-nil (replicate times size)) at so)))

-- what stood at the front stands there
pub front_kept : (old before more into : List ℕ) → into ≡ before ++ more → take (length old) before ≡ old
    → take (length old) into ≡ old
front_kept old before more into is front =
    let long : length old ≤ length before = omega (arith, ap length front, length-take (length old) before) in
    ap (take (length old)) is ∙ take-append-le (length old) before more long ∙ front

pub front_stays : (old before into : List ℕ) → take (length before) into ≡ before → take (length old) before ≡ old
    → take (length old) into ≡ old
front_stays old before into first front =
    let whole : into ≡ before ++ drop (length before) into =
    sym (take-append-drop (length before) into) ∙ ap (λ (t : List ℕ). t ++ drop (length before) into) first in
    front_kept old before (drop (length before) into) into whole front
