-- Room for the groups of another receiver: what is open then, and what is left where it is taken out again.
use Rattle.std.specs.Prelude.{filter, nat_lt, MatchOption}
use Rattle.std.proofs.Common.{◌≡◌, ℕ, cond, Bool, true, false, List, [], ◌∷◌, All, Option, None, Some, Ordering, Less}
use Rattle.std.proofs.Common.{Equal, Greater, nat_cmp, is_eq, refl, ap, ◌∙◌}
use Rattle.std.specs.Ordering.{match_ordering}
use Rattle.std.specs.BTreeMap.{is_at, insert_entry}
use Rattle.std.specs.Map.{lookup}
use Rattle.std.proofs.lemmas.List.Elements.{All-head, All-tail}
use Rattle.field_elements.specs.Field.{Coding}
use Rattle.packet_frame.specs.declared.frame.Header.{Header}
use Rattle.packet_set.specs.Packets.{count_in, no_packets_of}
use Rattle.packet_verdicts.specs.laws.KeptSetLaws.{count_none}
use Rattle.packet_receiver.specs.Arrivals.{GroupState, HoldsAfter}
use Rattle.packet_receiver.specs.inside.Joining.{OpensOne, OpensAll}

module _ {X : Type 0} (p : ℕ × X → Bool) where
  keep_head : (b : Bool) (e : ℕ × X) (s t : List (ℕ × X)) → s ≡ t → cond b (e ∷ s) s ≡ cond b (e ∷ t) t
  keep_head b e s t same = ap (λ u. cond b (e ∷ u) u) same

  insert_by : (e : ℕ × X) (es : List (ℕ × X)) (k : ℕ) (v : X) (r : Ordering) → p (k, v) ≡ false
      → cond (is_eq r) (Some e.1) (lookup (is_at (nat_cmp k)) es) ≡ None
      → (lookup (is_at (nat_cmp k)) es ≡ None → filter p (insert_entry nat_cmp es k v) ≡ filter p es)
      → filter p (match_ordering r ((k, v) ∷ e ∷ es) ((e.0, v) ∷ es) (e ∷ insert_entry nat_cmp es k v))
      ≡ filter p (e ∷ es)
  insert_by e es k v Less out none ih = ap (λ b. cond b ((k, v) ∷ filter p (e ∷ es)) (filter p (e ∷ es))) out
  insert_by e es k v Equal out none ih = absurd (cc)
  insert_by e es k v Greater out none ih =
      keep_head (p e) e (filter p (insert_entry nat_cmp es k v)) (filter p es) (ih none)

  -- an entry that does not pass, of a new key, changes nothing of those that pass
  pub filter_insert : (es : List (ℕ × X)) (k : ℕ) (v : X) → p (k, v) ≡ false → lookup (is_at (nat_cmp k)) es ≡ None
      → filter p (insert_entry nat_cmp es k v) ≡ filter p es
  filter_insert [] k v out none = ap (λ b. cond b ((k, v) ∷ []) []) out
  filter_insert (e ∷ es) k v out none = insert_by e es k v (nat_cmp k e.0) out none (filter_insert es k v out)

-- where all pass, all stay
pub filter_all : {A : Type 0} (p : A → Bool) (xs : List A) → All (λ x. p x ≡ true) xs → filter p xs ≡ xs
filter_all p [] all = refl
filter_all p (x ∷ xs) all =
    ap (λ b. cond b (x ∷ filter p xs) (filter p xs)) (All-head (λ y. p y ≡ true) x xs all)
    ∙ ap (λ t. x ∷ t) (filter_all p xs (All-tail (λ y. p y ≡ true) x xs all))

-- a group that is opened has no packet, so that those that have one are the same
module _ {E : Type 0} (P : E → Type 0) (c : Coding E) (es mid : List (ℕ × GroupState E)) (k : ℕ) (h : Header) where
  abbrev has_some : ℕ × GroupState E → Bool
  has_some e = nat_lt 0 (count_in e.1.packets)

  same_by : (o : Option (GroupState E)) → lookup (is_at (nat_cmp k)) es ≡ o
      → MatchOption o ((g : GroupState E) × (mid ≡ insert_entry nat_cmp es k g) × (g.packets ≡ no_packets_of c.width h)
      × HoldsAfter P c g []) (λ g. mid ≡ es)
      → filter has_some mid ≡ filter has_some es
  same_by (Some g) is m = ap (filter has_some) m
  same_by None is m =
      let out : nat_lt 0 (count_in m.0.packets) ≡ false =
      ap (nat_lt 0) (ap count_in m.2 ∙ count_none (List ℕ) h.table.packets) in
      ap (filter has_some) m.1 ∙ filter_insert has_some es k m.0 out is

  pub opens_same : OpensOne P c es k h mid → filter has_some mid ≡ filter has_some es
  opens_same m = same_by (lookup (is_at (nat_cmp k)) es) refl m

-- one group more
pub opens_next : {E : Type 0} (P : E → Type 0) (c : Coding E) (es mid after : List (ℕ × GroupState E))
    (e : ℕ × GroupState E) (rest : List (ℕ × GroupState E))
    → OpensOne P c es e.0 e.1.packets.header mid → OpensAll P c mid rest after → OpensAll P c es (e ∷ rest) after
unfolding OpensAll
opens_next P c es mid after e rest one all = (mid, one, all)

pub opens_end : {E : Type 0} (P : E → Type 0) (c : Coding E) (es : List (ℕ × GroupState E)) → OpensAll P c es [] es
unfolding OpensAll
opens_end P c es = refl
