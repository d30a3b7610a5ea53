-- Kept sets that keep the same are the same, for callers.
use Rattle.std.specs.Prelude.{option_and_then}
use Rattle.std.proofs.Common.{◌≡◌, ◌≢◌, ℕ, ◌<◌, List, [], ◌∷◌, suc, length, get_or, Option, None, Some, refl, sym, ap}
use Rattle.std.proofs.Common.{ap₂, ◌∙◌, arith, inl, inr}
use Rattle.std.proofs.lemmas.Bool.{cases_eq, cases_lt}
use Rattle.std.proofs.lemmas.Option.{same_Some}
use Rattle.packet_frame.specs.declared.frame.Header.{Header}
use Rattle.packet_set.specs.Packets.{Packets, slot_at}
use Rattle.packet_verdicts.specs.KeptSet.{KeptSet, IsKeptSet, open_group, payload_of}
use Rattle.packet_verdicts.specs.laws.JoinedGroups.{found, Rises, found_first, found_later, found_below, once_found}
use Rattle.packet_verdicts.specs.laws.JoinedGroups.{rises_later}
use Rattle.packet_verdicts.specs.laws.FitLaws.{some_frame}

module _ {X : Type 0} where
  found_behind : (e f : ℕ × X) (es fs : List (ℕ × X)) → Rises (e ∷ es) → Rises (f ∷ fs) → e.0 ≡ f.0
      → ((k : ℕ) → found (e ∷ es) k ≡ found (f ∷ fs) k) → (k : ℕ) → found es k ≡ found fs k
  found_behind e f es fs s t same h k =
      elim (cases_eq k e.0) [
        | inl here ↦ ap (found es) here ∙ once_found e es s ∙ sym (once_found f fs t)
            ∙ ap (found fs) (sym same ∙ sym here)
        | inr other ↦ let apart : k ≢ f.0 = λ u. other (u ∙ sym same) in
            sym (found_later e es k other) ∙ h k ∙ found_later f fs k apart
      ]

  below_head : (e f : ℕ × X) (es fs : List (ℕ × X)) → Rises (f ∷ fs) → ((k : ℕ) → found (e ∷ es) k ≡ found (f ∷ fs) k)
      → e.0 < f.0 → ⊥
  below_head e f es fs t h l =
      let no : Some e.1 ≡ None = sym (found_first e es) ∙ h e.0 ∙ found_below f fs e.0 t l in cc

  one_head : (e f : ℕ × X) (es fs : List (ℕ × X)) → Rises (e ∷ es) → Rises (f ∷ fs)
      → ((k : ℕ) → found (e ∷ es) k ≡ found (f ∷ fs) k) → e.0 ≡ f.0
  one_head e f es fs s t h =
      elim (cases_lt e.0 f.0) [
        | inl l ↦ absurd (below_head e f es fs t h l)
        | inr m ↦ elim (cases_lt f.0 e.0) [
          | inl l ↦ absurd (below_head f e fs es s (λ k. sym (h k)) l)
          | inr n ↦ omega arith
        ]
      ]

  -- entries in rising order in which the same is found are the same
  pub same_entries : (es fs : List (ℕ × X)) → Rises es → Rises fs → ((k : ℕ) → found es k ≡ found fs k) → es ≡ fs
  same_entries [] [] s t h = refl
  same_entries [] (f ∷ fs) s t h = let no : None ≡ Some f.1 = h f.0 ∙ found_first f fs in absurd (cc)
  same_entries (e ∷ es) [] s t h = let no : None ≡ Some e.1 = sym (h e.0) ∙ found_first e es in absurd (cc)
  same_entries (e ∷ es) (f ∷ fs) s t h =
      let same = one_head e f es fs s t h in
      let value : Some e.1 ≡ Some f.1 = sym (found_first e es) ∙ h e.0 ∙ ap (found (f ∷ fs)) same ∙ found_first f fs in
      let first : e ≡ f = ap₂ (λ (k : ℕ) (v : X). (k, v)) same (same_Some e.1 f.1 value) in
      ap₂ (λ (x : ℕ × X) xs. x ∷ xs) first
      (same_entries es fs (rises_later e es s) (rises_later f fs t) (found_behind e f es fs s t same h))

pub same_groups : (a b : KeptSet) → Rises a.groups → Rises b.groups
    → ((group : ℕ) → open_group a group ≡ open_group b group) → a.groups ≡ b.groups
same_groups a b s t h = same_entries a.groups b.groups s t h

pub same_parts : (a b : KeptSet) → a.session ≡ b.session → a.limit ≡ b.limit → a.groups ≡ b.groups → a ≡ b
same_parts a b s l g =
    ap (λ x. record { session = x; limit = a.limit; groups = a.groups }) s
    ∙ ap (λ x. record { session = b.session; limit = x; groups = a.groups }) l
    ∙ ap (λ x. record { session = b.session; limit = b.limit; groups = x }) g

pub same_sets : (a b : KeptSet) → IsKeptSet a → IsKeptSet b → a.session ≡ b.session → a.limit ≡ b.limit
    → ((group : ℕ) → open_group a group ≡ open_group b group) → a ≡ b
same_sets a b kept other s l h = same_parts a b s l (same_groups a b kept.rising other.rising h)

-- ---- by their payloads

same_slots : {A : Type 0} (xs ys : List (Option A)) → length xs ≡ length ys
    → ((i : ℕ) → get_or xs i None ≡ get_or ys i None) → xs ≡ ys
same_slots [] [] e h = refl
same_slots [] (y ∷ ys) e h = absurd (omega arith)
same_slots (x ∷ xs) [] e h = absurd (omega arith)
same_slots (x ∷ xs) (y ∷ ys) e h =
    ap₂ (λ (t : Option _) ts. t ∷ ts) (h 0) (same_slots xs ys (omega arith) (λ i. h (suc i)))

-- sets that keep the same payloads, under the same headers, have the same groups
module _ (a b : KeptSet) (kept : IsKeptSet a) (other : IsKeptSet b)
    (same : (group number : ℕ) → payload_of a group number ≡ payload_of b group number)
    (headers : (group : ℕ) (p q : Packets) → open_group a group ≡ Some p → open_group b group ≡ Some q
    → p.header ≡ q.header) where
  open_by : (group : ℕ) (o u : Option Packets) → open_group a group ≡ o → open_group b group ≡ u
      → ((i : ℕ) → option_and_then (λ p. slot_at p i) o ≡ option_and_then (λ p. slot_at p i) u) → o ≡ u
  open_by group None None o u h = refl
  open_by group (Some p) None o u h =
      let f = some_frame p (kept.groups group p o).some in
      let no : Some f.1 ≡ None = sym f.2 ∙ h f.0 in
      absurd (cc)
  open_by group None (Some q) o u h =
      let f = some_frame q (other.groups group q u).some in
      let no : None ≡ Some f.1 = h f.0 ∙ f.2 in
      absurd (cc)
  open_by group (Some p) (Some q) o u h =
      let header = headers group p q o u in
      let long : length p.slots ≡ length q.slots =
      (kept.groups group p o).slots ∙ ap (λ (t : Header). t.table.packets) header
      ∙ sym (other.groups group q u).slots in
      let word = (kept.groups group p o).word_is ∙ sym (other.groups group q u).word_is in
      let slots = same_slots p.slots q.slots long h in
      let one : p ≡ q = λ i. record { header = header i; word = word i; slots = slots i } in
      ap Some one

  pub same_open : (group : ℕ) → open_group a group ≡ open_group b group
  same_open group = open_by group (open_group a group) (open_group b group) refl refl (same group)

  pub same_payloads : a.groups ≡ b.groups
  same_payloads = same_groups a b kept.rising other.rising same_open
