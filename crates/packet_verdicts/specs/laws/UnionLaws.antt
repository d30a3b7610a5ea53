-- The union of two kept sets commutes, is idempotent and has the empty set as its unit. For callers.
use Rattle.std.proofs.Common.{◌≡◌, ℕ, ◌≤◌, List, [], ◌∷◌, suc, get_or, Option, None, Some, refl, sym, ap, ap₂, ◌∙◌}
use Rattle.std.proofs.Common.{subst}
use Rattle.std.specs.Option.{option_or}
use Rattle.std.proofs.lemmas.Option.{same_Some}
use Rattle.packet_set.specs.Packets.{Packets, slot_at}
use Rattle.packet_verdicts.specs.KeptSet.{KeptSet, IsKeptSet, empty_set, open_group, cost_kept}
use Rattle.packet_verdicts.specs.Union.{join_slots, join_group, join_groups, union, absorb_fault}
use Rattle.packet_verdicts.specs.laws.KeptSetLaws.{empty_sound}
use Rattle.packet_verdicts.specs.laws.JoinedGroups.{Rises, join_open, rises_join}
use Rattle.packet_verdicts.specs.laws.FitLaws.{Agrees, agrees_back}
use Rattle.packet_verdicts.specs.laws.UnionSound.{union_open}
use Rattle.packet_verdicts.specs.laws.UnionKept.{one_header, union_sound}
use Rattle.packet_verdicts.specs.laws.FitExactly.{fit_agrees, fit_within, fits}
use Rattle.packet_verdicts.specs.laws.SameSets.{same_groups, same_parts}

-- what two sets, which need not be kept sets, must share for their union to commute
pub record AreAlike (a b : KeptSet) : Type 0 where
  pub header : (group : ℕ) (p q : Packets) → open_group a group ≡ Some p → open_group b group ≡ Some q
      → p.header ≡ q.header
  pub word : (group : ℕ) (p q : Packets) → open_group a group ≡ Some p → open_group b group ≡ Some q → p.word ≡ q.word
  pub payload : (group : ℕ) (p q : Packets) → open_group a group ≡ Some p → open_group b group ≡ Some q
      → (i : ℕ) (x y : List ℕ) → slot_at p i ≡ Some x → slot_at q i ≡ Some y → x ≡ y

pub alike : (a b : KeptSet) → IsKeptSet a → IsKeptSet b → Agrees a b → AreAlike a b
alike a b kept other agrees = record {
  header = one_header a b kept other agrees;
  word = λ group p q o u. (kept.groups group p o).word_is ∙ sym (other.groups group q u).word_is;
  payload = agrees.payload;
}

-- ---- it commutes

or_commutes : {A : Type 0} (o u : Option A) → ((x y : A) → o ≡ Some x → u ≡ Some y → x ≡ y)
    → option_or o u ≡ option_or u o
or_commutes None None h = refl
or_commutes None (Some y) h = refl
or_commutes (Some x) None h = refl
or_commutes (Some x) (Some y) h = ap Some (h x y refl refl)

slots_commute : (xs ys : List (Option (List ℕ)))
    → ((i : ℕ) (x y : List ℕ) → get_or xs i None ≡ Some x → get_or ys i None ≡ Some y → x ≡ y)
    → join_slots xs ys ≡ join_slots ys xs
unfolding join_slots
slots_commute [] [] h = refl
slots_commute [] (y ∷ ys) h = refl
slots_commute (x ∷ xs) [] h = refl
slots_commute (x ∷ xs) (y ∷ ys) h =
    ap₂ (λ (t : Option (List ℕ)) ts. t ∷ ts) (or_commutes x y (h 0)) (slots_commute xs ys (λ i. h (suc i)))

module _ (a b : KeptSet) (s : Rises a.groups) (t : Rises b.groups) (h : AreAlike a b) where
  open_commutes : (group : ℕ) (o u : Option Packets) → open_group a group ≡ o → open_group b group ≡ u
      → join_open o u ≡ join_open u o
  open_commutes group None None o u = refl
  open_commutes group None (Some q) o u = refl
  open_commutes group (Some p) None o u = refl
  open_commutes group (Some p) (Some q) o u =
      let one : join_group (Some p) q ≡ join_group (Some q) p =
      let slots = slots_commute p.slots q.slots (h.payload group p q o u) in
      λ i. record { header = h.header group p q o u i; word = h.word group p q o u i; slots = slots i } in
      ap Some one

  pub groups_commute : (union a b).groups ≡ (union b a).groups
  groups_commute =
      same_groups (union a b) (union b a) (rises_join a.groups b.groups s) (rises_join b.groups a.groups t)
      (λ group. union_open a b group t ∙ open_commutes group (open_group a group) (open_group b group) refl refl
      ∙ sym (union_open b a group s))

-- what these groups cost
abbrev pub cost_of_groups : List (ℕ × Packets) → ℕ
cost_of_groups groups = cost_kept (record { session = []; limit = 0; groups = groups })

module _ (a b : KeptSet) (kept : IsKeptSet a) (other : IsKeptSet b) (fit : absorb_fault a b ≡ None) where
  pub union_back : (union a b).groups ≡ (union b a).groups
  union_back = groups_commute a b kept.rising other.rising (alike a b kept other (fit_agrees a b kept other fit))

  pub fit_back : cost_kept (union a b) ≤ b.limit → absorb_fault b a ≡ None
  fit_back within =
      fits b a other kept (agrees_back a b (fit_agrees a b kept other fit))
      (subst (λ gs. cost_of_groups gs ≤ b.limit) union_back within)

  -- under one limit the two ways round can both be joined, to the same set
  pub fit_commutes : a.limit ≡ b.limit → absorb_fault b a ≡ None
  fit_commutes same = fit_back (subst (λ l. cost_kept (union a b) ≤ l) same (fit_within a b kept other fit))

  pub union_commutes : a.limit ≡ b.limit → union a b ≡ union b a
  union_commutes same = same_parts (union a b) (union b a) (fit_agrees a b kept other fit).session same union_back

  pub fit_sound : IsKeptSet (union a b)
  fit_sound = union_sound a b kept other (fit_agrees a b kept other fit) (fit_within a b kept other fit)

-- ---- a set with itself

or_itself : {A : Type 0} (o : Option A) → option_or o o ≡ o
or_itself None = refl
or_itself (Some x) = refl

slots_itself : (xs : List (Option (List ℕ))) → join_slots xs xs ≡ xs
unfolding join_slots
slots_itself [] = refl
slots_itself (x ∷ xs) = ap₂ (λ (t : Option (List ℕ)) ts. t ∷ ts) (or_itself x) (slots_itself xs)

open_itself : (o : Option Packets) → join_open o o ≡ o
open_itself None = refl
open_itself (Some p) = ap (λ xs. Some (record { header = p.header; word = p.word; slots = xs })) (slots_itself p.slots)

pub union_itself : (a : KeptSet) → Rises a.groups → union a a ≡ a
union_itself a s =
    same_parts (union a a) a refl refl
    (same_groups (union a a) a (rises_join a.groups a.groups s) s
    (λ group. union_open a a group s ∙ open_itself (open_group a group)))

agrees_itself : (a : KeptSet) → IsKeptSet a → Agrees a a
agrees_itself a kept = record {
  session = refl;
  count = kept.one_count;
  table = λ g p q o u. ap (λ (r : Packets). r.header.table) (same_Some p q (sym o ∙ u));
  payload = λ g p q o u i x y k l. same_Some x y
      (sym k ∙ ap (λ (r : Packets). slot_at r i) (same_Some p q (sym o ∙ u)) ∙ l);
}

pub fit_itself : (a : KeptSet) → IsKeptSet a → absorb_fault a a ≡ None
fit_itself a kept =
    fits a a kept kept (agrees_itself a kept)
    (subst (λ s. cost_kept s ≤ a.limit) (sym (union_itself a kept.rising)) kept.within)

-- ---- the empty set

pub union_nothing : (a : KeptSet) (session : List ℕ) (limit : ℕ) → union a (empty_set session limit) ≡ a
unfolding join_groups
union_nothing a session limit = refl

pub nothing_union : (b : KeptSet) (session : List ℕ) (limit : ℕ) → Rises b.groups
    → (union (empty_set session limit) b).groups ≡ b.groups
nothing_union b session limit t =
    let e = empty_set session limit in
    same_groups (union e b) b (rises_join [] b.groups (empty_sound {word = 2} session limit).rising) t
    (λ group. union_open e b group t ∙ by (open_group b group))
  where
    by : (u : Option Packets) → join_open None u ≡ u
    by None = refl
    by (Some q) = refl

pub fit_nothing : (a : KeptSet) (limit : ℕ) → IsKeptSet a → absorb_fault a (empty_set a.session limit) ≡ None
fit_nothing a limit kept =
    fits a (empty_set a.session limit) kept (empty_sound {word = 2} a.session limit)
    (record {
      session = refl;
      count = λ g h p q o u. absurd (cc);
      table = λ g p q o u. absurd (cc);
      payload = λ g p q o u i x y k l. absurd (cc);
    })
    (subst (λ s. cost_kept s ≤ a.limit) (sym (union_nothing a a.session limit)) kept.within)

pub nothing_fit : (b : KeptSet) (limit : ℕ) → IsKeptSet b → cost_kept b ≤ limit
    → absorb_fault (empty_set b.session limit) b ≡ None
nothing_fit b limit other within =
    fits (empty_set b.session limit) b (empty_sound {word = 2} b.session limit) other
    (record {
      session = refl;
      count = λ g h p q o u. absurd (cc);
      table = λ g p q o u. absurd (cc);
      payload = λ g p q o u i x y k l. absurd (cc);
    })
    (subst (λ gs. cost_of_groups gs ≤ limit) (sym (nothing_union b b.session limit other.rising)) within)
