-- The union of kept sets associates: what can be joined in the one order can in the other, to the same set. For
-- callers.
use Rattle.std.specs.Prelude.{option_and_then}
use Rattle.std.proofs.Common.{◌≡◌, ◌⊎◌, ℕ, ◌≤◌, List, [], ◌∷◌, Option, None, Some, nat_cmp, refl, sym, ap, ap₂, ◌∙◌}
use Rattle.std.proofs.Common.{arith, subst, inl, inr}
use Rattle.std.specs.Option.{option_or}
use Rattle.std.specs.Map.{lookup}
use Rattle.std.specs.BTreeMap.{is_at}
use Rattle.packet_frame.specs.declared.frame.Header.{Header}
use Rattle.packet_set.specs.Packets.{Packets, slot_at}
use Rattle.packet_verdicts.specs.KeptSet.{KeptSet, IsKeptSet, open_group, payload_of, cost_kept}
use Rattle.packet_verdicts.specs.Union.{join_slots, join_group, union, absorb_fault}
use Rattle.packet_verdicts.specs.laws.JoinedGroups.{Rises, join_open, rises_join}
use Rattle.packet_verdicts.specs.laws.FitLaws.{Agrees}
use Rattle.packet_verdicts.specs.laws.UnionSound.{union_open, union_payload, union_cost}
use Rattle.packet_verdicts.specs.laws.UnionKept.{IsFrom, one_header, open_from, union_sound}
use Rattle.packet_verdicts.specs.laws.FitExactly.{fit_agrees, fit_within, fits}
use Rattle.packet_verdicts.specs.laws.SameSets.{same_groups, same_parts}
use Rattle.packet_verdicts.specs.laws.UnionLaws.{AreAlike, groups_commute, cost_of_groups, union_back, fit_sound}

or_associates : {A : Type 0} (o u v : Option A) → option_or (option_or o u) v ≡ option_or o (option_or u v)
or_associates None u v = refl
or_associates (Some x) u v = refl

slots_associate : (xs ys zs : List (Option (List ℕ)))
    → join_slots (join_slots xs ys) zs ≡ join_slots xs (join_slots ys zs)
unfolding join_slots
slots_associate [] ys zs = refl
slots_associate (x ∷ xs) [] zs = refl
slots_associate (x ∷ xs) (y ∷ ys) [] = refl
slots_associate (x ∷ xs) (y ∷ ys) (z ∷ zs) =
    ap₂ (λ (t : Option (List ℕ)) ts. t ∷ ts) (or_associates x y z) (slots_associate xs ys zs)

open_associates : (o u v : Option Packets) → join_open (join_open o u) v ≡ join_open o (join_open u v)
open_associates o u None = refl
open_associates o None (Some r) = refl
open_associates None (Some q) (Some r) = refl
open_associates (Some p) (Some q) (Some r) =
    ap (λ xs. Some (record { header = p.header; word = p.word; slots = xs })) (slots_associate p.slots q.slots r.slots)

pub union_associates : (a b c : KeptSet) → Rises a.groups → Rises b.groups → Rises c.groups
    → union (union a b) c ≡ union a (union b c)
union_associates a b c s t u =
    same_parts (union (union a b) c) (union a (union b c)) refl refl
    (same_groups (union (union a b) c) (union a (union b c))
    (rises_join (union a b).groups c.groups (rises_join a.groups b.groups s)) (rises_join a.groups (union b c).groups s)
    (λ group.
    union_open (union a b) c group u
    ∙ ap (λ o. join_open o (open_group c group)) (union_open a b group t)
    ∙ open_associates (open_group a group) (open_group b group) (open_group c group)
    ∙ sym (ap (join_open (open_group a group)) (union_open b c group u))
    ∙ sym (union_open a (union b c) group (rises_join b.groups c.groups t))))

-- ---- which sets agree

payload_by : (o u : Option Packets)
    → ((p q : Packets) → o ≡ Some p → u ≡ Some q → (i : ℕ) (x y : List ℕ) → slot_at p i ≡ Some x → slot_at q i ≡ Some y
    → x ≡ y)
    → (i : ℕ) (x y : List ℕ) → option_and_then (λ p. slot_at p i) o ≡ Some x
    → option_and_then (λ p. slot_at p i) u ≡ Some y → x ≡ y
payload_by None u h i x y k l = absurd (cc)
payload_by (Some p) None h i x y k l = absurd (cc)
payload_by (Some p) (Some q) h i x y k l = h p q refl refl i x y k l

pub one_payload : (a b : KeptSet) → Agrees a b → (group i : ℕ) (x y : List ℕ) → payload_of a group i ≡ Some x
    → payload_of b group i ≡ Some y → x ≡ y
one_payload a b agrees group = payload_by (open_group a group) (open_group b group) (agrees.payload group)

kept_in : (set : KeptSet) (group : ℕ) (p : Packets) → open_group set group ≡ Some p → (i : ℕ) (x : List ℕ)
    → slot_at p i ≡ Some x → payload_of set group i ≡ Some x
kept_in set group p o i x k = ap (option_and_then (λ (q : Packets). slot_at q i)) o ∙ k

-- agreement looks at the session and the groups alone
agrees_same : (s t c : KeptSet) → s.session ≡ t.session → s.groups ≡ t.groups → Agrees s c → Agrees t c
agrees_same s t c e g h = record {
  session = sym e ∙ h.session;
  count = λ group k p q o u. h.count group k p q (ap (lookup (is_at (nat_cmp group))) g ∙ o) u;
  table = λ group p q o u. h.table group p q (ap (lookup (is_at (nat_cmp group))) g ∙ o) u;
  payload = λ group p q o u. h.payload group p q (ap (lookup (is_at (nat_cmp group))) g ∙ o) u;
}

-- a group that is open here is in the union, with its header and all that is kept of it
record IsIn (a b : KeptSet) (group : ℕ) (p : Packets) : Type 0 where
  packets : Packets
  opened : open_group (union a b) group ≡ Some packets
  header : packets.header ≡ p.header

in_by : (a b : KeptSet) (group : ℕ) (p : Packets) (u : Option Packets)
    → open_group (union a b) group ≡ join_open (Some p) u → IsIn a b group p
in_by a b group p None e = record { packets = p; opened = e; header = refl }
in_by a b group p (Some q) e = record { packets = join_group (Some p) q; opened = e; header = refl }

is_in : (a b : KeptSet) → Rises b.groups → (group : ℕ) (p : Packets) → open_group a group ≡ Some p → IsIn a b group p
is_in a b s group p o =
    in_by a b group p (open_group b group) (union_open a b group s ∙ ap (λ x. join_open x (open_group b group)) o)

-- what agrees with a union agrees with its first set
agrees_first : (a b c : KeptSet) → Rises b.groups → Agrees (union a b) c → Agrees a c
agrees_first a b c s h = record {
  session = h.session;
  count = λ g k p q o u. let r = is_in a b s g p o in
      sym (ap (λ (t : Header). t.groups) r.header) ∙ h.count g k r.packets q r.opened u;
  table = λ g p q o u. let r = is_in a b s g p o in
      sym (ap (λ (t : Header). t.table) r.header) ∙ h.table g r.packets q r.opened u;
  payload = λ g p q o u i x y k l.
      let held : payload_of (union a b) g i ≡ Some x =
      union_payload a b g i s ∙ ap (λ x. option_or x (payload_of b g i)) (kept_in a g p o i x k) in
      one_payload (union a b) c h g i x y held (kept_in c g q u i y l);
}

either : {A : Type 0} (x y : A) (o u : Option A) → option_or o u ≡ Some y → (o ≡ Some y → x ≡ y) → (u ≡ Some y → x ≡ y)
    → x ≡ y
either x y None u e h k = k e
either x y (Some z) u e h k = h e

-- and what agrees with two sets agrees with their union
agrees_both : (a b c : KeptSet) → IsKeptSet b → IsKeptSet c → Agrees b c → Agrees a b → Agrees a c
    → Agrees a (union b c)
agrees_both a b c kept other between h k = record {
  session = h.session;
  count = λ g j p r o v. count_by g j p r o (open_from b c kept other between j r v);
  table = λ g p r o v. table_by g p r o (open_from b c kept other between g r v);
  payload = λ g p r o v i x y m l.
      let held : option_or (payload_of b g i) (payload_of c g i) ≡ Some y =
      sym (union_payload b c g i other.rising) ∙ kept_in (union b c) g r v i y l in
      let mine = kept_in a g p o i x m in
      either x y (payload_of b g i) (payload_of c g i) held (one_payload a b h g i x y mine)
      (one_payload a c k g i x y mine);
}
  where
    count_by : (g j : ℕ) (p r : Packets) → open_group a g ≡ Some p
        → IsFrom b c kept other between j r b ⊎ IsFrom b c kept other between j r c → p.header.groups ≡ r.header.groups
    count_by g j p r o (inl x) = h.count g j p x.packets o x.opened ∙ sym (ap (λ (t : Header). t.groups) x.header)
    count_by g j p r o (inr x) = k.count g j p x.packets o x.opened ∙ sym (ap (λ (t : Header). t.groups) x.header)

    table_by : (g : ℕ) (p r : Packets) → open_group a g ≡ Some p
        → IsFrom b c kept other between g r b ⊎ IsFrom b c kept other between g r c → p.header.table ≡ r.header.table
    table_by g p r o (inl x) = h.table g p x.packets o x.opened ∙ sym (ap (λ (t : Header). t.table) x.header)
    table_by g p r o (inr x) = k.table g p x.packets o x.opened ∙ sym (ap (λ (t : Header). t.table) x.header)

-- ---- what can be joined in the other order

module _ (a b c : KeptSet) (kept : IsKeptSet a) (other : IsKeptSet b) (third : IsKeptSet c)
    (fit : absorb_fault a b ≡ None) (then' : absorb_fault (union a b) c ≡ None) where
  agrees_ab : Agrees a b
  agrees_ab = fit_agrees a b kept other fit

  agrees_all : Agrees (union a b) c
  agrees_all = fit_agrees (union a b) c (fit_sound a b kept other fit) third then'

  agrees_ac : Agrees a c
  agrees_ac = agrees_first a b c other.rising agrees_all

  agrees_bc : Agrees b c
  agrees_bc =
      agrees_first b a c kept.rising
      (agrees_same (union a b) (union b a) c agrees_ab.session (union_back a b kept other fit) agrees_all)

  agrees_rest : Agrees a (union b c)
  agrees_rest = agrees_both a b c other third agrees_bc agrees_ab agrees_ac

  header_by : (g : ℕ) (p r : Packets) → open_group a g ≡ Some p
      → IsFrom b c other third agrees_bc g r b ⊎ IsFrom b c other third agrees_bc g r c → p.header ≡ r.header
  header_by g p r o (inl x) = one_header a b kept other agrees_ab g p x.packets o x.opened ∙ sym x.header
  header_by g p r o (inr x) = one_header a c kept third agrees_ac g p x.packets o x.opened ∙ sym x.header

  word_by : (g : ℕ) (p r : Packets) → open_group a g ≡ Some p
      → IsFrom b c other third agrees_bc g r b ⊎ IsFrom b c other third agrees_bc g r c → p.word ≡ r.word
  word_by g p r o (inl x) = (kept.groups g p o).word_is ∙ sym (x.word ∙ (other.groups g x.packets x.opened).word_is)
  word_by g p r o (inr x) = (kept.groups g p o).word_is ∙ sym (x.word ∙ (third.groups g x.packets x.opened).word_is)

  rest_alike : AreAlike a (union b c)
  rest_alike = record {
    header = λ g p r o v. header_by g p r o (open_from b c other third agrees_bc g r v);
    word = λ g p r o v. word_by g p r o (open_from b c other third agrees_bc g r v);
    payload = agrees_rest.payload;
  }

  one_way : union (union a b) c ≡ union a (union b c)
  one_way = union_associates a b c kept.rising other.rising third.rising

  cost_all : cost_kept (union a (union b c)) ≤ a.limit
  cost_all =
      subst (λ s. cost_kept s ≤ a.limit) one_way (fit_within (union a b) c (fit_sound a b kept other fit) third then')

  cost_rest : cost_kept (union b c) ≤ a.limit
  cost_rest =
      let rises = rises_join b.groups c.groups other.rising in
      let turned = ap cost_of_groups (groups_commute a (union b c) kept.rising rises rest_alike) in
      omega (arith, cost_all, turned, union_cost (union b c) a rises kept.rising)

  pub fit_rest : a.limit ≤ b.limit → absorb_fault b c ≡ None
  fit_rest same = fits b c other third agrees_bc (omega (arith, cost_rest))

  pub fit_first : a.limit ≤ b.limit → absorb_fault a (union b c) ≡ None
  fit_first same =
      fits a (union b c) kept (union_sound b c other third agrees_bc (omega (arith, cost_rest))) agrees_rest cost_all
