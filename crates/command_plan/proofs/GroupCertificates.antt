-- Of the groups up to one the lists are certificates, or this is the first of which its list is none.
use Rattle.std.proofs.Common.{◌≡◌, ℕ, ◌+◌, ◌<◌, Bool, false, List, length, map, get_or, refl, sym, ap, subst, ◌∙◌}
use Rattle.std.proofs.Common.{arith, inl, inr}
use Rattle.std.specs.Prelude.{IsTrue, ◌↔◌, slice_get, option_map, Some}
use Rattle.std.proofs.lemmas.Bool.{cases_lt}
use Rattle.std.proofs.lemmas.Option.{slice_get-map, slice_get_read, same_Some}
use Rattle.stripe_plan.specs.Sizes.{Sizes}
use Rattle.text_plan.specs.declared.plan_file.Repeat.{Repeat}
use Rattle.command_plan.specs.Certified.{IsLeastAt, IsFirstNotLeast}
use Rattle.command_plan.specs.Least.{IsLeast}

-- one group's table and list, and those of the groups before it
module _ {A : Type 0} (items : A → List Repeat) (tables : List Sizes) (lists : List A) (g : ℕ) (t : Sizes) (v : A)
    (within : g < length tables) (many : length lists ≡ length tables)
    (t_there : t ≡ get_or tables g t) (v_there : v ≡ get_or lists g v) where
  table_there : slice_get tables g ≡ Some t
  table_there = slice_get_read tables (length tables) g t refl within t_there

  list_there : slice_get (map items lists) g ≡ Some (items v)
  list_there =
      slice_get-map items lists g
      ∙ ap (option_map items) (slice_get_read lists (length lists) g v refl (omega (arith, within, many)) v_there)

  least_at : (l : List Repeat) → l ≡ items v → IsLeast t.layers l → IsLeastAt tables (map items lists) g
  least_at l is least = record {
    table = t;
    list = items v;
    table_there = table_there;
    list_there = list_there;
    least = subst (IsLeast t.layers) is least;
  }

  not_least_at : (l : List Repeat) → l ≡ items v → (IsLeast t.layers l → ⊥) → IsLeastAt tables (map items lists) g → ⊥
  not_least_at l is never at =
      let table : at.table ≡ t = same_Some at.table t (sym at.table_there ∙ table_there) in
      let list : at.list ≡ l = same_Some at.list (items v) (sym at.list_there ∙ list_there) ∙ sym is in
      never (subst (λ (s : Sizes). IsLeast s.layers l) table (subst (IsLeast at.table.layers) list at.least))

  pub least_up_to : (l : List Repeat) → l ≡ items v → IsLeast t.layers l
      → ((earlier : ℕ) → earlier < g → IsLeastAt tables (map items lists) earlier)
      → (earlier : ℕ) → earlier < g + 1 → IsLeastAt tables (map items lists) earlier
  least_up_to l is least before earlier below = elim (cases_lt earlier g) [
    | inl lt ↦ before earlier lt
    | inr ge ↦ (
        let here : g ≡ earlier = omega (arith, ge, below) in
        subst (IsLeastAt tables (map items lists)) here (least_at l is least)
        )
  ]

  pub first_not_least : (l : List Repeat) → l ≡ items v → (IsLeast t.layers l → ⊥)
      → length (map items lists) ≡ length tables
      → ((earlier : ℕ) → earlier < g → IsLeastAt tables (map items lists) earlier)
      → IsFirstNotLeast tables (map items lists) g
  first_not_least l is never as_many before =
      record { many = as_many; within = within; before = before; not_least = not_least_at l is never }

pub false_is : {P : Type 0} (b : Bool) → b ≡ false → (IsTrue b ↔ P) → P → ⊥
false_is b e is p = let t = is.1 p in cc
