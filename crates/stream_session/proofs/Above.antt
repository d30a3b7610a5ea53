-- The first place above a limit, counted from another place.
use Rattle.std.proofs.Common.{◌≡◌, ℕ, ◌+◌, ◌<◌, ◌≤◌, List, [], ◌∷◌, Option, Some, None, option_map, map, drop, get_or}
use Rattle.std.proofs.Common.{length, nat_lt, refl, sym, ◌∙◌, ap, arith, inl, inr}
use Rattle.std.proofs.lemmas.Bool.{cond-true, cond-false, cases_Bool, lt-ltb, le-ltb}
use Rattle.std.proofs.lemmas.List.{drop_more}
use Rattle.std.specs.Prelude.{if◌then◌else◌}
use Rattle.stripe_plan.specs.Sizes.{Sizes}
use Rattle.stream_session.specs.Refusals.{first_above}
use Rattle.stream_session.specs.inside.Planning.{above_from, table_cost}

shifted : (at : ℕ) (o : Option ℕ)
    → option_map (λ n. n + (at + 1)) o ≡ option_map (λ n. n + at) (option_map (λ n. n + 1) o)
shifted at None = refl
shifted at (Some n) = ap Some (omega arith)

above_is : (at limit before : ℕ) (costs : List ℕ)
    → above_from at limit before costs ≡ option_map (λ n. n + at) (first_above limit before costs)
above_is at limit before [] = refl
above_is at limit before (cost ∷ costs) =
    let later : Option ℕ = option_map (λ n. n + 1) (first_above limit (before + cost) costs) in
    let zero_more : at ≡ 0 + at = omega arith in
    elim (cases_Bool (nat_lt limit (before + cost))) [
      | inl e ↦
          cond-true (nat_lt limit (before + cost)) (Some at) (above_from (at + 1) limit (before + cost) costs) e
          ∙ (ap Some zero_more
          ∙ sym (ap (option_map (λ n. n + at)) (cond-true (nat_lt limit (before + cost)) (Some 0) later e)))
      | inr e ↦
          cond-false (nat_lt limit (before + cost)) (Some at) (above_from (at + 1) limit (before + cost) costs) e
          ∙ (above_is (at + 1) limit (before + cost) costs
          ∙ (shifted at (first_above limit (before + cost) costs)
          ∙ sym (ap (option_map (λ n. n + at)) (cond-false (nat_lt limit (before + cost)) (Some 0) later e))))
    ]

no_more : (o : Option ℕ) → option_map (λ n. n + 0) o ≡ o
no_more None = refl
no_more (Some n) = ap Some (omega arith)

pub above_from_start : (limit : ℕ) (costs : List ℕ) → first_above limit 0 costs ≡ above_from 0 limit 0 costs
above_from_start limit costs = sym (above_is 0 limit 0 costs ∙ no_more (first_above limit 0 costs))

-- one table more
above_more : (word : ℕ) (tables : List Sizes) (at limit before : ℕ) (table : Sizes) → at < length tables
    → get_or tables at table ≡ table
    → above_from at limit before (map (table_cost word) (drop at tables))
    ≡ (if nat_lt limit (before + table_cost word table) then Some at
    else above_from (at + 1) limit (before + table_cost word table) (map (table_cost word) (drop (at + 1) tables)))
above_more word tables at limit before table lt is =
    ap (λ ts. above_from at limit before (map (table_cost word) ts))
    (drop_more tables at table lt ∙ ap (λ t. t ∷ drop (at + 1) tables) is)

pub above_here : (word : ℕ) (tables : List Sizes) (at limit before : ℕ) (table : Sizes) → at < length tables
    → get_or tables at table ≡ table → limit < before + table_cost word table
    → above_from at limit before (map (table_cost word) (drop at tables)) ≡ Some at
above_here word tables at limit before table lt is over =
    above_more word tables at limit before table lt is
    ∙ cond-true (nat_lt limit (before + table_cost word table)) (Some at) _
    (lt-ltb limit (before + table_cost word table) over)

pub above_later : (word : ℕ) (tables : List Sizes) (at limit before : ℕ) (table : Sizes) → at < length tables
    → get_or tables at table ≡ table → before + table_cost word table ≤ limit
    → above_from at limit before (map (table_cost word) (drop at tables))
    ≡ above_from (at + 1) limit (before + table_cost word table) (map (table_cost word) (drop (at + 1) tables))
above_later word tables at limit before table lt is under =
    above_more word tables at limit before table lt is
    ∙ cond-false (nat_lt limit (before + table_cost word table)) (Some at) _
    (le-ltb limit (before + table_cost word table) under)
