-- Laws of what a kept set has of one group, for callers: it is a kept set, whose frames are those of the group, and the
-- numbers of the group are in the order in which they are in the whole set.
use Rattle.std.specs.Prelude.{unwrap_or, sum_by}
use Rattle.std.specs.Option.{option_map_or}
use Rattle.std.proofs.Common.{◌≡◌, ◌≢◌, ℕ, zero, suc, ◌+◌, ◌-◌, ◌<◌, ◌≤◌, Bool, true, false, cond, ◌==◌, List, [], ◌∷◌}
use Rattle.std.proofs.Common.{◌++◌, All, Option, None, Some, map, is_eq, nat_cmp, refl, sym, ap, subst, ◌∙◌, arith, inl, inr}
use Rattle.std.specs.BTreeMap.{is_at}
use Rattle.std.specs.List.{filter, flat_map, range_with_len}
use Rattle.std.specs.List.Sorted.{IsStrictlySortedBy}
use Rattle.std.specs.Map.{lookup, keys_of}
use Rattle.std.proofs.lemmas.Bool.{cases_eq, ne_eqb}
use Rattle.std.proofs.lemmas.List.{append-nil}
use Rattle.std.proofs.lemmas.List.Elements.{All-append, All-cons, All-nil}
use Rattle.std.proofs.lemmas.List.Sums.{sum_by-cons}
use Rattle.std.proofs.lemmas.Option.{same_Some, none-some}
use Rattle.packet_frame.specs.Frame.{Fields, IsFrame}
use Rattle.packet_frame.specs.View.{fields_with}
use Rattle.packet_frame.specs.declared.frame.Header.{Header}
use Rattle.packet_set.specs.Packets.{Packets}
use Rattle.packet_verdicts.specs.KeptSet.{KeptSet, IsKeptSet, IsKeptGroup, open_group, told_by, cost_in, cost_kept}
use Rattle.packet_verdicts.specs.Union.{frames_in, frames_in_group}
use Rattle.packet_verdicts.specs.laws.EntryLaws.{cmp_same, cmp_apart}
use Rattle.packet_verdicts.specs.laws.FramesInOrder.{frames_from, group_from}
use Rattle.packet_verdicts.specs.laws.FramesLaws.{frames_of, frames_told, frames_are, no_frames}
use Rattle.packet_verdicts.specs.laws.ToldLaws.{open_tells}
use Rattle.pet_receive.specs.Arrivals.{numbers_of}
use Rattle.pet_receive.specs.ShownBytes.{groups_told}
use Rattle.store_groups.specs.declared.groups.GroupPackets.{GroupPackets}
use Rattle.store_groups.specs.Groups.{HasFrames, ArePackets, AreAbove, only_group, frames_above}
use Rattle.store_merge.specs.Reading.{pairs_in}

-- ---- what the frames of a group tell

-- the frame is of the group, of so many
abbrev pub Tells : ℕ → ℕ → Fields → Type 0
Tells group groups f = (f.group ≡ group) × (f.groups ≡ groups)

slots_tell : (h : Header) (at : ℕ) (slots : List (Option (List ℕ)))
    → All (Tells h.group h.groups) (frames_from h at slots)
slots_tell h at [] = All-nil (Tells h.group h.groups)
slots_tell h at (None ∷ rest) = slots_tell h (at + 1) rest
slots_tell h at (Some payload ∷ rest) =
    All-cons (Tells h.group h.groups) (fields_with h at payload) (frames_from h (at + 1) rest) (refl, refl)
    (slots_tell h (at + 1) rest)

group_tells : (p : Packets) → All (Tells p.header.group p.header.groups) (frames_in_group p)
group_tells p =
    subst (λ (fs : List Fields). All (Tells p.header.group p.header.groups) fs) (sym (group_from p))
    (slots_tell p.header 0 p.slots)

module _ (set : KeptSet) (sound : IsKeptSet set) where
  tells_by : (group : ℕ) (o : Option Packets) → open_group set group ≡ o
      → All (Tells group (groups_told set)) (option_map_or frames_in_group o [])
  tells_by group None is = All-nil (Tells group (groups_told set))
  tells_by group (Some p) is =
      let told = open_tells set sound group p is in
      λ i d l. let one = group_tells p i d l in
      (one.0 ∙ (sound.groups group p is).same_group, one.1 ∙ sym (ap (λ (o : Option ℕ). unwrap_or o 0) told))

  -- Each frame of a group is of it, and tells the set's number of groups.
  pub frames_tell : (group : ℕ) → All (Tells group (groups_told set)) (frames_of set group)
  frames_tell group = tells_by group (open_group set group) refl

  -- ---- the frames of a group and of those above it

  -- the frame is of this group or of one above it, of so many
  abbrev pub TellsFrom : ℕ → Fields → Type 0
  TellsFrom least f = (least ≤ f.group) × (f.groups ≡ groups_told set)

  from_by : (n from least : ℕ) → least ≤ from → All (TellsFrom least) (flat_map (frames_of set) (range_with_len from n))
  from_by zero from least le = All-nil (TellsFrom least)
  from_by (suc n) from least le =
      All-append (TellsFrom least) (frames_of set from) (flat_map (frames_of set) (range_with_len (from + 1) n))
      (λ i d l. let one = frames_tell from i d l in (omega (arith, one.0, le), one.1))
      (from_by n (from + 1) least (omega (arith, le)))

  pub above_tell : (group : ℕ) → All (TellsFrom group) (frames_above set group)
  above_tell group = from_by (groups_told set - group) group group (omega arith)

  -- those of all groups are the frames of the set
  pub above_all : frames_above set 0 ≡ frames_in set
  above_all = by (told_by set) refl
    where
      by : (o : Option ℕ) → told_by set ≡ o → frames_above set 0 ≡ frames_in set
      by None told =
          ap (λ (o : Option ℕ). flat_map (frames_of set) (range_with_len 0 (unwrap_or o 0 - 0))) told
          ∙ sym (no_frames set told)
      by (Some n) told =
          let all : groups_told set - 0 ≡ n = omega (arith, ap (λ (o : Option ℕ). unwrap_or o 0) told) in
          ap (λ (k : ℕ). flat_map (frames_of set) (range_with_len 0 k)) all ∙ sym (frames_told set sound n told)

-- So packets that are all of the set are those of its groups from the first on.
pub all_above : (packets : GroupPackets) (set : KeptSet) → ArePackets packets set → AreAbove packets set 0
all_above packets set are =
    subst (λ (fs : List Fields). HasFrames packets set fs) (sym (above_all set are.sound)) are

-- those of a group come first
pub above_one : (set : KeptSet) (group : ℕ) → group < groups_told set
    → frames_above set group ≡ frames_of set group ++ frames_above set (group + 1)
above_one set group inside =
    let one : groups_told set - group ≡ suc (groups_told set - (group + 1)) = omega (arith, inside) in
    ap (λ (n : ℕ). flat_map (frames_of set) (range_with_len group n)) one

-- ---- one group alone

one_open : (group : ℕ) (o : Option Packets)
    → lookup (is_at (nat_cmp group)) (option_map_or (λ p. (group, p) ∷ []) o []) ≡ o
one_open group None = refl
one_open group (Some p) = ap (λ r. cond (is_eq r) (Some p) None) (cmp_same group)

-- The group has there what it has in the set,
pub only_open : (set : KeptSet) (group : ℕ) → open_group (only_group set group) group ≡ open_group set group
only_open set group = one_open group (open_group set group)

-- and no other group is there.
one_found : (group : ℕ) (o : Option Packets) (k : ℕ) (q : Packets)
    → lookup (is_at (nat_cmp k)) (option_map_or (λ p. (group, p) ∷ []) o []) ≡ Some q → (k ≡ group) × (o ≡ Some q)
one_found group None k q found = absurd (none-some q found)
one_found group (Some p) k q found =
    let one : List (ℕ × Packets) = (group, p) ∷ [] in
    elim (cases_eq k group) [
      | inl same ↦ (
        same,
        sym (one_open group (Some p)) ∙ sym (ap (λ (j : ℕ). lookup (is_at (nat_cmp j)) one) same) ∙ found,
      )
      | inr apart ↦ absurd (none-some q (sym (ap (λ b. cond b (Some p) None) (cmp_apart k group apart)) ∙ found))
    ]

one_rising : (group : ℕ) (o : Option Packets)
    → IsStrictlySortedBy nat_cmp (keys_of (option_map_or (λ p. (group, p) ∷ []) o []))
unfolding IsStrictlySortedBy
one_rising group None = tt
one_rising group (Some p) = (tt, tt)

cost_by_test : (b : Bool) (e : ℕ × Packets) (es : List (ℕ × Packets)) (o : Option Packets) (p : Packets)
    → (o ≡ Some p → cost_in p ≤ sum_by (λ d. cost_in d.1) es) → cond b (Some e.1) o ≡ Some p
    → cost_in p ≤ sum_by (λ d. cost_in d.1) (e ∷ es)
cost_by_test true e es o p later found =
    omega (arith, ap cost_in (same_Some e.1 p found), sum_by-cons (λ (d : ℕ × Packets). cost_in d.1) e es)
cost_by_test false e es o p later found =
    omega (arith, later found, sum_by-cons (λ (d : ℕ × Packets). cost_in d.1) e es)

found_cost : (es : List (ℕ × Packets)) (k : ℕ) (p : Packets) → lookup (is_at (nat_cmp k)) es ≡ Some p
    → cost_in p ≤ sum_by (λ e. cost_in e.1) es
found_cost [] k p found = absurd (none-some p found)
found_cost (e ∷ es) k p found =
    cost_by_test (is_eq (nat_cmp k e.0)) e es (lookup (is_at (nat_cmp k)) es) p (λ later. found_cost es k p later) found

one_cost : (set : KeptSet) (group : ℕ) (o : Option Packets) → open_group set group ≡ o
    → sum_by (λ (e : ℕ × Packets). cost_in e.1) (option_map_or (λ p. (group, p) ∷ []) o []) ≤ cost_kept set
one_cost set group None is = omega arith
one_cost set group (Some p) is =
    omega (
      arith,
      found_cost set.groups group p is,
      sum_by-cons (λ (d : ℕ × Packets). cost_in d.1) (group, p) [],
    )

-- It is a kept set,
pub only_sound : (set : KeptSet) → IsKeptSet set → (group : ℕ) → IsKeptSet (only_group set group)
only_sound set sound group =
    let o = open_group set group in
    record {
      rising = one_rising group o;
      groups =
          λ k q found. let at = one_found group o k q found in
          subst (λ (j : ℕ). IsKeptGroup set.session j q) (sym at.0) (sound.groups group q at.1);
      one_count =
          λ a b p q here there. let one = one_found group o a p here in let other = one_found group o b q there in
          ap (λ (s : Packets). s.header.groups) (same_Some p q (sym one.1 ∙ other.1));
      within = omega (arith, one_cost set group o refl, sound.within);
    }

one_frames : (group : ℕ) (o : Option Packets)
    → flat_map (λ (e : ℕ × Packets). frames_in_group e.1) (option_map_or (λ p. (group, p) ∷ []) o [])
    ≡ option_map_or frames_in_group o []
one_frames group None = refl
one_frames group (Some p) = append-nil (frames_in_group p)

-- whose frames are those of the group.
pub only_frames : (set : KeptSet) (group : ℕ) → frames_in (only_group set group) ≡ frames_of set group
only_frames set group = one_frames group (open_group set group)

-- Each frame of a group and of those above it is a frame.
pub above_are : (set : KeptSet) → IsKeptSet set → (group : ℕ) → All IsFrame (frames_above set group)
above_are set sound group = by (groups_told set - group) group
  where
    by : (n from : ℕ) → All IsFrame (flat_map (frames_of set) (range_with_len from n))
    by zero from = All-nil IsFrame
    by (suc n) from =
        All-append IsFrame (frames_of set from) (flat_map (frames_of set) (range_with_len (from + 1) n))
        (subst (λ (fs : List Fields). All IsFrame fs) (only_frames set from)
        (frames_are (only_group set from) (only_sound set sound from))) (by n (from + 1))

-- ---- the numbers of a group, in the order of the set

module _ (group : ℕ) where
  abbrev is_of : ℕ × ℕ → Bool
  is_of pair = pair.0 == group

  abbrev pairs_of : List Fields → List (ℕ × ℕ)
  pairs_of fs = filter is_of (map (λ f. (f.group, f.number)) fs)

  none_before : (xs ys : List Fields) → All (λ f. f.group ≢ group) xs → pairs_of (xs ++ ys) ≡ pairs_of ys
  none_before [] ys apart = refl
  none_before (x ∷ xs) ys apart =
      ap (λ b. cond b ((x.group, x.number) ∷ pairs_of (xs ++ ys)) (pairs_of (xs ++ ys)))
      (ne_eqb x.group group (apart 0 x (omega arith)))
      ∙ none_before xs ys (λ i d l. apart (suc i) d (omega arith))

  none_there : (ys : List Fields) → All (λ f. f.group ≢ group) ys → pairs_of ys ≡ []
  none_there ys apart = ap pairs_of (sym (append-nil ys)) ∙ none_before ys [] apart

  none_behind : (xs ys : List Fields) → All (λ f. f.group ≢ group) ys → pairs_of (xs ++ ys) ≡ pairs_of xs
  none_behind [] ys apart = none_there ys apart
  none_behind (x ∷ xs) ys apart =
      ap (λ ps. cond (x.group == group) ((x.group, x.number) ∷ ps) ps) (none_behind xs ys apart)

  module _ (set : KeptSet) (sound : IsKeptSet set) (inside : group < groups_told set) where
    -- those of the groups below it are others
    from_here : (many at : ℕ) → at + many ≡ group → pairs_of (frames_above set at) ≡ pairs_of (frames_above set group)
    from_here zero at is = ap (λ (k : ℕ). pairs_of (frames_above set k)) (omega (arith, is))
    from_here (suc many) at is =
        let below : at < groups_told set = omega (arith, is, inside) in
        ap pairs_of (above_one set at below)
        ∙ none_before (frames_of set at) (frames_above set (at + 1))
        (λ i d l same. omega (arith, (frames_tell set sound at i d l).0, same, is))
        ∙ from_here many (at + 1) (omega (arith, is))

    -- The set has the group's numbers in the order in which it has them alone.
    pub only_numbers : numbers_of (pairs_in (only_group set group)) group ≡ numbers_of (pairs_in set) group
    only_numbers =
        ap (map (λ (p : ℕ × ℕ). p.1))
        (ap pairs_of (only_frames set group)
        ∙ sym (none_behind (frames_of set group) (frames_above set (group + 1))
        (λ i d l same. omega (arith, (above_tell set sound (group + 1) i d l).0, same)))
        ∙ sym (ap pairs_of (above_one set group inside))
        ∙ sym (from_here group 0 (omega arith))
        ∙ ap pairs_of (above_all set sound))
