-- The least layer that is not shown.
use Rattle.std.proofs.Common.{◌≡◌, ℕ, ◌+◌, ◌<◌, Bool, true, false, List, [], ◌∷◌, length, Option, None, Some, refl}
use Rattle.std.proofs.Common.{sym, ap, subst, ◌∙◌, arith, inl, inr, leb}
use Rattle.std.specs.Prelude.{not, option_map, slice_get, MatchOption}
use Rattle.std.specs.Map.{lookup}
use Rattle.std.specs.BTreeMap.{is_at}
use Rattle.std.specs.Ordering.{nat_cmp}
use Rattle.std.specs.List.{find, range_with_len}
use Rattle.std.proofs.lemmas.Bool.{cases_lt, lt-leb, le-leb, leb-true}
use Rattle.stripe_plan.specs.Layers.{count_of}
use Rattle.packet_set.specs.Packets.{Packets, count_in, layers_of}
use Rattle.packet_verdicts.specs.KeptSet.{KeptSet, open_group, told_by}
use Rattle.pet_receive.specs.ShownBytes.{IsShown, IsShownIn}
use Rattle.packet_rebuild.specs.Repairs.{is_hidden, first_hidden, fault_in, repair_fault}
use Rattle.packet_rebuild.specs.declared.fault.RepairFault.TheVariants.{NotOpen, NotShown}
use Rattle.packet_rebuild.specs.laws.RangeLaws.{find_more, find_here, none_passes}

module _ (set : KeptSet) (group : ℕ) (p : Packets) (opened : open_group set group ≡ Some p) where
  shown_in_it : (layer : ℕ) → IsShown set group layer → IsShownIn p layer
  shown_in_it layer shown = subst (λ (o : Option Packets). MatchOption o ⊥ (λ p. IsShownIn p layer)) opened shown

  in_it_shown : (layer : ℕ) → IsShownIn p layer → IsShown set group layer
  in_it_shown layer shown = subst (λ (o : Option Packets). MatchOption o ⊥ (λ p. IsShownIn p layer))
      (sym opened) shown

  pub shown_not_hidden : (layer : ℕ) → IsShown set group layer → is_hidden p layer ≡ false
  shown_not_hidden layer shown =
      ap not (le-leb (count_of (layers_of p) layer) (count_in p) (shown_in_it layer shown).1)

  pub not_hidden_shown : (layer : ℕ) → layer < length (layers_of p) → is_hidden p layer ≡ false
      → IsShown set group layer
  not_hidden_shown layer lt out = in_it_shown layer (
    lt,
    leb-true (count_of (layers_of p) layer) (count_in p)
        (not_not (leb (count_of (layers_of p) layer) (count_in p)) out),
  )
    where
      not_not : (b : Bool) → not b ≡ false → b ≡ true
      not_not true e = refl
      not_not false e = absurd cc

  pub hidden_when : (layer : ℕ) → layer < length (layers_of p) → (IsShown set group layer → ⊥)
      → is_hidden p layer ≡ true
  hidden_when layer lt none =
      elim (cases_lt (count_in p) (count_of (layers_of p) layer)) [
        | inl few ↦ ap not (lt-leb (count_of (layers_of p) layer) (count_in p) few)
        | inr enough ↦ absurd (none (in_it_shown layer (lt, enough)))
      ]

  -- one layer more is shown
  pub hidden_more : (n : ℕ) → find (is_hidden p) (range_with_len 0 n) ≡ None → IsShown set group n
      → find (is_hidden p) (range_with_len 0 (n + 1)) ≡ None
  hidden_more n none shown = let z : 0 + n ≡ n = omega arith in find_more (is_hidden p) 0 n none (ap (is_hidden p) z
      ∙ shown_not_hidden n shown)

  -- and this one is not
  pub hidden_here : (n : ℕ) → n < length (layers_of p) → find (is_hidden p) (range_with_len 0 n) ≡ None
      → (IsShown set group n → ⊥) → first_hidden p ≡ Some n
  hidden_here n lt none not_shown =
      let z : 0 + n ≡ n = omega arith in
      find_here (is_hidden p) 0 n (length (layers_of p)) lt none (ap (is_hidden p) z ∙ hidden_when n lt not_shown)
      ∙ ap (λ (k : ℕ). Some k) z

  -- where none is hidden, all are shown
  pub all_shown_of : first_hidden p ≡ None → (layer : ℕ) → layer < length (layers_of p) → IsShown set group layer
  all_shown_of none layer lt =
      let z : layer ≡ 0 + layer = omega arith in
      not_hidden_shown layer lt (ap (is_hidden p) z
      ∙ none_passes (is_hidden p) 0 (length (layers_of p)) none layer lt)

  -- why the group cannot be made again
  pub fault_is : (o : Option ℕ) → first_hidden p ≡ o → repair_fault set group ≡ option_map NotShown o
  unfolding repair_fault
  fault_is o is = ap fault_in opened ∙ ap (option_map NotShown) is

pub not_open : (set : KeptSet) (group : ℕ) → open_group set group ≡ None → repair_fault set group ≡ Some NotOpen
unfolding repair_fault
not_open set group closed = ap fault_in closed

-- where no number of groups is told, no group is open
pub none_told : (set : KeptSet) (group : ℕ) → told_by set ≡ None
    → option_map (λ (p : Packets). p.header) (open_group set group) ≡ None
none_told set group none = by set.groups refl none
  where
    by : (es : List (ℕ × Packets)) → set.groups ≡ es → option_map (λ (e : ℕ × Packets). e.1.header.groups)
        (slice_get es 0) ≡ None
        → option_map (λ (p : Packets). p.header) (open_group set group) ≡ None
    by [] is none = ap (λ (es : List (ℕ × Packets)). option_map (λ (p : Packets). p.header)
        (lookup (is_at (nat_cmp group)) es)) is
    by (e ∷ es) is none = absurd cc
