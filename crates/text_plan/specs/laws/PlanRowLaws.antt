-- The rows of a plan's lengths (this project's own): no more than twice as many as there are layers. In a layer all
-- stripes
-- but the last that begins there are as long as its need.
use Rattle.std.proofs.Common.{◌≡◌, ◌≢◌, ℕ, zero, suc, ◌+◌, ◌-◌, ◌*◌, ◌<◌, ◌≤◌, List, [], ◌∷◌, length, map, get_or, drop}
use Rattle.std.proofs.Common.{sym, ap, subst, ◌∙◌, ◌⊎◌, arith, inl, inr}
use Rattle.std.proofs.lemmas.Bool.{cases_eq, cases_lt}
use Rattle.std.proofs.lemmas.List.{length-drop, get_or-drop, drop-drop}
use Rattle.stripe_plan.specs.declared.layer.LayerSize.{LayerSize}
use Rattle.stripe_plan.specs.Stripes.{Respects, IsLongest, IsPlan, stripes_of}
use Rattle.stripe_plan.specs.Layers.{needs_of, plan_ends, stripes_from}
use Rattle.stripe_plan.specs.Sizes.{IsTable}
use Rattle.stripe_plan.proofs.PlanLemmas.{plan_ends_plan}
use Rattle.text_plan.specs.PlanLines.{rows_of, plan_lengths}
use Rattle.text_plan.specs.laws.RowCountLaws.{FirstIs, with_length-first, count-bounds, count-same, count-drop}
use Rattle.text_plan.specs.laws.RowCountLaws.{count-drop_other, count-some, count-needs}

-- so many words from `start` on have this need, or one of them has another
same_or_other : (needs : List ℕ) (start need size : ℕ)
    → ((word : ℕ) → word < size → get_or needs (start + word) 0 ≡ need)
    ⊎ ((word : ℕ) × (word < size) × (get_or needs (start + word) 0 ≢ need))
same_or_other needs start need zero = inl (λ word below. absurd (omega arith))
same_or_other needs start need (suc size) =
    elim (cases_eq (get_or needs (start + size) 0) need) [
      | inr other ↦ inr (size, omega arith, other)
      | inl same ↦ (
          elim (same_or_other needs start need size) [
            | inr found ↦ inr (found.0, omega (arith, found.1), found.2)
            | inl all ↦ inl (λ word below.
                elim (cases_lt word size) [
                  | inl before ↦ all word before
                  | inr last ↦ ap (λ w. get_or needs (start + w) 0) (omega arith) ∙ same
                ])
          ])
    ]

-- a stripe that the end of its needs does not stop is as long as its first word's need
full_length : (needs : List ℕ) (start end : ℕ) → IsLongest needs start end → end < length needs
    → ((word : ℕ) → word < end + 1 - start → get_or needs (start + word) 0 ≡ get_or needs start 0)
    → end - start ≡ get_or needs start 0
full_length needs start end l more same =
    let begun = l.respects.begun in
    let most : end - start ≤ get_or needs start 0 = l.respects.short start (omega arith) begun in
    elim (cases_lt (end - start) (get_or needs start 0)) [
      | inl less ↦ (
          let longer : Respects needs start (end + 1) = record {
            begun = omega arith;
            inside = omega arith;
            short = λ word from below.
                let here : start + (word - start) ≡ word = omega arith in
                omega (arith, ap (λ w. get_or needs w 0) here, same (word - start) (omega arith));
          } in
          absurd (omega (arith, l.longest (end + 1) longer))
          )
      | inr full ↦ omega arith
    ]

-- where a word of another need stands among so many from `start` on, fewer rows are left behind these words
fewer_left : (needs : List ℕ) (start end word : ℕ) → start + word ≤ end → end < length needs
    → get_or needs (start + word) 0 ≢ get_or needs start 0
    → length (rows_of (drop end needs)) + 1 ≤ length (rows_of (drop start needs))
fewer_left needs start end word before inside other =
    let rest : List ℕ = drop start needs in
    let first : get_or rest 0 0 ≡ get_or needs start 0 =
    get_or-drop start needs 0 0 ∙ ap (λ k. get_or needs k 0) (omega arith) in
    let found : get_or rest word 0 ≡ get_or needs (start + word) 0 = get_or-drop start needs word 0 in
    let fewer = count-drop_other word rest (omega (arith, length-drop start needs))
    (λ e. other (sym found ∙ sym e ∙ first)) in
    let moved : start + word + (end - (start + word)) ≡ end = omega arith in
    let left : drop end needs ≡ drop (end - (start + word)) (drop word rest) =
    ap (λ n. drop n needs) (sym moved) ∙ sym (drop-drop (end - (start + word)) (start + word) needs)
    ∙ ap (drop (end - (start + word))) (sym (drop-drop word start needs)) in
    omega (arith, fewer, count-drop (end - (start + word)) (drop word rest), ap (λ xs. length (rows_of xs)) left)

-- a longest stripe that is not the last is as long as the need of its first word, which is that of the word behind it
-- too; or
-- fewer rows are left behind it
full_or_fewer : (needs : List ℕ) (start end : ℕ) → IsLongest needs start end → end < length needs
    → ((end - start ≡ get_or needs start 0) × (get_or needs end 0 ≡ get_or needs start 0))
    ⊎ (length (rows_of (drop end needs)) + 1 ≤ length (rows_of (drop start needs)))
full_or_fewer needs start end l more =
    let begun = l.respects.begun in
    elim (same_or_other needs start (get_or needs start 0) (end + 1 - start)) [
      | inl same ↦ (
          let here : start + (end - start) ≡ end = omega arith in
          inl (
            full_length needs start end l more same,
            ap (λ w. get_or needs w 0) (sym here) ∙ same (end - start) (omega arith),
          )
          )
      | inr found ↦ inr (fewer_left needs start end found.0 (omega (arith, found.1)) more found.2)
    ]

abbrev lengths_of : ℕ → List ℕ → List ℕ
lengths_of start ends = map (λ stripe. stripe.1) (stripes_of start ends)

-- the rows of the plan's lengths are at most twice those of the needs, and fewer where the first is not as long as its
-- need
plan_rows : (needs : List ℕ) (start end : ℕ) (ends : List ℕ) → IsPlan needs start (end ∷ ends)
    → (length (rows_of (lengths_of start (end ∷ ends))) ≤ 2 * length (rows_of (drop start needs)))
    × (end - start ≢ get_or needs start 0
    → length (rows_of (lengths_of start (end ∷ ends))) + 1 ≤ 2 * length (rows_of (drop start needs)))
plan_rows needs start end [] plan =
    let some = count-some (drop start needs)
    (omega (arith, length-drop start needs, plan.0.respects.begun, plan.0.respects.inside)) in
    (omega (arith, some), λ other. omega (arith, some))
plan_rows needs start end (next ∷ ends) plan =
    let later : List ℕ = lengths_of end (next ∷ ends) in
    let rest = plan_rows needs end next ends plan.1 in
    let begun = plan.1.0.respects.begun in
    let inside = plan.1.0.respects.inside in
    let more = (count-bounds (end - start) (rows_of later)).1 in
    elim (full_or_fewer needs start end plan.0 (omega arith)) [
      | inr fewer ↦ (omega (arith, rest.0, more, fewer), λ other. omega (arith, rest.0, more, fewer))
      | inl full ↦ (
          let left : length (rows_of (drop end needs)) ≤ length (rows_of (drop start needs)) =
          none_more needs start end (omega (arith, plan.0.respects.begun)) in
          let most : length (rows_of (lengths_of start (end ∷ next ∷ ends))) ≤ 2 * length (rows_of (drop start needs)) =
          elim (cases_eq (next - end) (get_or needs end 0)) [
            | inr other ↦ omega (arith, rest.1 other, more, left)
            | inl same ↦ (
                let known : FirstIs (end - start) (rows_of later) =
                subst (λ size. FirstIs size (rows_of later)) (same ∙ full.1 ∙ sym full.0)
                (with_length-first (next - end) (rows_of (lengths_of next ends))) in
                omega (arith, rest.0, left, count-same (end - start) (rows_of later) known)
                )
          ] in
          (most, λ other. absurd (other full.0))
          )
    ]
  where
    none_more : (needs : List ℕ) (start end : ℕ) → start ≤ end
        → length (rows_of (drop end needs)) ≤ length (rows_of (drop start needs))
    none_more needs start end order =
        let moved : start + (end - start) ≡ end = omega arith in
        let left : drop end needs ≡ drop (end - start) (drop start needs) =
        ap (λ n. drop n needs) (sym moved) ∙ sym (drop-drop (end - start) start needs) in
        omega (arith, count-drop (end - start) (drop start needs), ap (λ xs. length (rows_of xs)) left)

-- the lengths of a whole plan
all_rows : (needs ends : List ℕ) → IsPlan needs 0 ends
    → length (rows_of (lengths_of 0 ends)) ≤ 2 * length (rows_of needs)
all_rows needs [] plan = omega arith
all_rows needs (end ∷ ends) plan = (plan_rows needs 0 end ends plan).0

-- the lengths of a table's plan have at most two rows for each layer
pub rows_few : (packets : ℕ) (layers : List LayerSize) → IsTable packets layers
    → length (rows_of (plan_lengths layers)) ≤ 2 * length layers
unfolding stripes_from
rows_few packets layers table =
    omega (
      arith,
      all_rows (needs_of layers) (plan_ends layers) (plan_ends_plan layers table.needed),
      count-needs layers,
    )
