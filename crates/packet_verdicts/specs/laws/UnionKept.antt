-- The union of two kept sets that agree is a kept set, within the limit. For callers.
use Rattle.std.specs.Prelude.{option_map, slice_get}
use Rattle.std.proofs.Common.{◌≡◌, ◌⊎◌, ℕ, ◌≤◌, List, [], ◌∷◌, length, Option, None, Some, nat_cmp, refl, sym, ap, ap₂}
use Rattle.std.proofs.Common.{◌∙◌, arith, subst, inl, inr}
use Rattle.std.specs.Option.{option_or}
use Rattle.std.specs.Map.{lookup}
use Rattle.std.specs.BTreeMap.{is_at}
use Rattle.std.proofs.lemmas.Option.{same_Some}
use Rattle.packet_frame.specs.Frame.{IsFrame}
use Rattle.packet_frame.specs.View.{fields_with}
use Rattle.packet_frame.specs.declared.frame.Header.{Header}
use Rattle.packet_set.specs.Packets.{Packets, slot_at}
use Rattle.packet_verdicts.specs.KeptSet.{KeptSet, IsKeptSet, IsKeptGroup, open_group, cost_kept, told_by}
use Rattle.packet_verdicts.specs.Union.{join_group, join_groups, union}
use Rattle.packet_verdicts.specs.laws.JoinedGroups.{length_join, slot_join, join_open, rises_join, found_first}
use Rattle.packet_verdicts.specs.laws.FitLaws.{Agrees}
use Rattle.packet_verdicts.specs.laws.ToldLaws.{open_tells}
use Rattle.packet_verdicts.specs.laws.UnionSound.{union_open, count_join}

same_parts : (h k : Header) → h.session ≡ k.session → h.groups ≡ k.groups → h.group ≡ k.group → h.table ≡ k.table
    → h ≡ k
same_parts h k s n g t =
    ap (λ x. record { session = x; groups = h.groups; group = h.group; table = h.table }) s
    ∙ ap (λ x. record { session = k.session; groups = x; group = h.group; table = h.table }) n
    ∙ ap (λ x. record { session = k.session; groups = k.groups; group = x; table = h.table }) g
    ∙ ap (λ x. record { session = k.session; groups = k.groups; group = k.group; table = x }) t

module _ (a b : KeptSet) (kept : IsKeptSet a) (other : IsKeptSet b) (agrees : Agrees a b) where
  -- groups that are open in both have one header
  pub one_header : (group : ℕ) (p q : Packets) → open_group a group ≡ Some p → open_group b group ≡ Some q
      → p.header ≡ q.header
  one_header group p q o u =
      let g = kept.groups group p o in
      let h = other.groups group q u in
      same_parts p.header q.header (g.same_session ∙ agrees.session ∙ sym h.same_session)
      (agrees.count group group p q o u) (g.same_group ∙ sym h.same_group) (agrees.table group p q o u)

  from_theirs : (group : ℕ) (q : Packets) → open_group b group ≡ Some q → IsKeptGroup a.session group q
  from_theirs group q u = subst (λ s. IsKeptGroup s group q) (sym agrees.session) (other.groups group q u)

  module _ (group : ℕ) (p q : Packets) (o : open_group a group ≡ Some p) (u : open_group b group ≡ Some q) where
    frames_by : (number : ℕ) (payload : List ℕ) (x : Option (List ℕ)) → slot_at p number ≡ x
        → option_or x (slot_at q number) ≡ Some payload → IsFrame (fields_with p.header number payload)
    frames_by number payload (Some x) is e = (kept.groups group p o).frames number payload (is ∙ e)
    frames_by number payload None is e =
        subst (λ h. IsFrame (fields_with h number payload)) (sym (one_header group p q o u))
        ((other.groups group q u).frames number payload e)

    same_length : length p.slots ≡ length q.slots
    same_length =
        (kept.groups group p o).slots ∙ ap (λ (h : Header). h.table.packets) (one_header group p q o u)
        ∙ sym (other.groups group q u).slots

    joined_sound : IsKeptGroup a.session group (join_group (Some p) q)
    joined_sound =
        let g = kept.groups group p o in
        record {
          same_session = g.same_session;
          same_group = g.same_group;
          word_is = g.word_is;
          slots = length_join p.slots q.slots same_length ∙ g.slots;
          some = omega (arith, count_join (Some p) q, g.some);
          frames = λ number payload e. frames_by number payload (slot_at p number) refl
              (sym (slot_join p.slots q.slots number) ∙ e);
        }

  joined_by : (group : ℕ) (r : Packets) (o u : Option Packets) → open_group a group ≡ o → open_group b group ≡ u
      → join_open o u ≡ Some r → IsKeptGroup a.session group r
  joined_by group r None None o u e = absurd (cc)
  joined_by group r (Some p) None o u e = kept.groups group r (o ∙ e)
  joined_by group r None (Some q) o u e = from_theirs group r (u ∙ e)
  joined_by group r (Some p) (Some q) o u e =
      subst (IsKeptGroup a.session group) (same_Some (join_group (Some p) q) r e) (joined_sound group p q o u)

  -- the header of an open group of the union is that of the group here or there
  pub record IsFrom (group : ℕ) (r : Packets) (set : KeptSet) : Type 0 where
    pub packets : Packets
    pub opened : open_group set group ≡ Some packets
    pub header : r.header ≡ packets.header
    pub word : r.word ≡ packets.word

  from_by : (group : ℕ) (r : Packets) (o u : Option Packets) → open_group a group ≡ o → open_group b group ≡ u
      → join_open o u ≡ Some r → IsFrom group r a ⊎ IsFrom group r b
  from_by group r None None o u e = absurd (cc)
  from_by group r (Some p) None o u e = inl (record { packets = r; opened = o ∙ e; header = refl; word = refl })
  from_by group r None (Some q) o u e = inr (record { packets = r; opened = u ∙ e; header = refl; word = refl })
  from_by group r (Some p) (Some q) o u e =
      inl (record {
        packets = p;
        opened = o;
        header = ap (λ (t : Packets). t.header) (sym (same_Some (join_group (Some p) q) r e));
        word = ap (λ (t : Packets). t.word) (sym (same_Some (join_group (Some p) q) r e));
      })

  pub open_from : (group : ℕ) (r : Packets) → open_group (union a b) group ≡ Some r
      → IsFrom group r a ⊎ IsFrom group r b
  open_from group r opened =
      from_by group r (open_group a group) (open_group b group) refl refl
      (sym (union_open a b group other.rising) ∙ opened)

  counts_by : (g h : ℕ) (r s : Packets) → IsFrom g r a ⊎ IsFrom g r b → IsFrom h s a ⊎ IsFrom h s b
      → r.header.groups ≡ s.header.groups
  counts_by g h r s (inl x) (inl y) =
      ap (λ (t : Header). t.groups) x.header ∙ kept.one_count g h x.packets y.packets x.opened y.opened
      ∙ sym (ap (λ (t : Header). t.groups) y.header)
  counts_by g h r s (inl x) (inr y) =
      ap (λ (t : Header). t.groups) x.header ∙ agrees.count g h x.packets y.packets x.opened y.opened
      ∙ sym (ap (λ (t : Header). t.groups) y.header)
  counts_by g h r s (inr x) (inl y) =
      ap (λ (t : Header). t.groups) x.header ∙ sym (agrees.count h g y.packets x.packets y.opened x.opened)
      ∙ sym (ap (λ (t : Header). t.groups) y.header)
  counts_by g h r s (inr x) (inr y) =
      ap (λ (t : Header). t.groups) x.header ∙ other.one_count g h x.packets y.packets x.opened y.opened
      ∙ sym (ap (λ (t : Header). t.groups) y.header)

  -- the union of sets that agree is a kept set, where the limit bears it
  pub union_sound : cost_kept (union a b) ≤ a.limit → IsKeptSet (union a b)
  union_sound fits = record {
    rising = rises_join a.groups b.groups kept.rising;
    groups = λ group r opened. joined_by group r (open_group a group) (open_group b group) refl refl
        (sym (union_open a b group other.rising) ∙ opened);
    one_count = λ g h r s x y. counts_by g h r s (open_from g r x) (open_from h s y);
    within = fits;
  }

  -- ---- the number of groups that it tells

  head_by : (group : ℕ) (p : Packets) (u : Option Packets) → open_group (union a b) group ≡ join_open (Some p) u
      → (r : Packets) × (open_group (union a b) group ≡ Some r) × (r.header ≡ p.header)
  head_by group p None e = (p, e, refl)
  head_by group p (Some q) e = (join_group (Some p) q, e, refl)

  told_cases : IsKeptSet (union a b) → (es fs : List (ℕ × Packets)) → a.groups ≡ es → b.groups ≡ fs
      → told_by (union a b) ≡ option_or (told_by a) (told_by b)
  unfolding join_groups
  told_cases sound [] [] is so =
      let tell : List (ℕ × Packets)
      → Option ℕ = λ es. option_map (λ (e : ℕ × Packets). e.1.header.groups) (slice_get es 0) in
      ap tell (ap₂ join_groups is so) ∙ sym (ap₂ (λ x y. option_or (tell x) (tell y)) is so)
  told_cases sound (e ∷ es) fs is so =
      let first : open_group a e.0 ≡ Some e.1 = ap (lookup (is_at (nat_cmp e.0))) is ∙ found_first e es in
      let here = head_by e.0 e.1 (open_group b e.0)
      (union_open a b e.0 other.rising ∙ ap (λ o. join_open o (open_group b e.0)) first) in
      open_tells (union a b) sound e.0 here.0 here.1
      ∙ ap (λ (h : Header). Some h.groups) here.2
      ∙ sym (ap (λ o. option_or o (told_by b)) (open_tells a kept e.0 e.1 first))
  told_cases sound [] (f ∷ fs) is so =
      let first : open_group b f.0 ≡ Some f.1 = ap (lookup (is_at (nat_cmp f.0))) so ∙ found_first f fs in
      let none : open_group a f.0 ≡ None = ap (lookup (is_at (nat_cmp f.0))) is in
      let nothing : told_by a
      ≡ None =
      ap (λ (es : List (ℕ × Packets)). option_map (λ (e : ℕ × Packets). e.1.header.groups) (slice_get es 0)) is in
      open_tells (union a b) sound f.0 f.1 (union_open a b f.0 other.rising ∙ ap₂ join_open none first)
      ∙ sym (open_tells b other f.0 f.1 first)
      ∙ sym (ap (λ o. option_or o (told_by b)) nothing)

  pub union_told : IsKeptSet (union a b) → told_by (union a b) ≡ option_or (told_by a) (told_by b)
  union_told sound = told_cases sound a.groups b.groups refl refl
