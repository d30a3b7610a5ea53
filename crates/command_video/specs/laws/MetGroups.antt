-- What the store of some packets of a session tells of a group: which layers are shown, which numbers are kept, and the
-- bytes of a
-- shown layer.
use Rattle.std.proofs.Common.{◌≡◌, ℕ, zero, suc, ◌+◌, ◌<◌, ◌≤◌, Bool, true, false, cond, List, [], ◌∷◌, length, get_or}
use Rattle.std.proofs.Common.{map, Option, None, Some, All, refl, sym, ap, subst, ◌∙◌, arith, inl, inr}
use Rattle.std.specs.Prelude.{◌==◌, slice_get, count_by, filter, Contains, IsSome, MatchOption}
use Rattle.std.specs.List.{range_with_len}
use Rattle.std.proofs.lemmas.Bool.{cases_Bool, cond-true, cond-false, le-leb, leb-true, eqb-true}
use Rattle.std.proofs.lemmas.List.Elements.{All-cons, All-nil, All-head, All-tail, All-map, All-contains}
use Rattle.std.proofs.lemmas.List.Elements.{All-contains_itself, All-get_or}
use Rattle.std.proofs.lemmas.List.FromFn.{length-range_with_len, get_or-range_with_len}
use Rattle.std.proofs.lemmas.List.Sums.{sum_by-cons, prefix_len_is}
use Rattle.std.proofs.lemmas.Option.{same_Some, slice_get_within, get_or_from_slice_get}
use Rattle.pet_base.specs.declared.limits.TheConstants.{MAX_SESSION}
use Rattle.stripe_plan.specs.declared.layer.LayerSize.{LayerSize}
use Rattle.stripe_plan.specs.Layers.{count_of, needs_of, plan_ends, plan_stripes, words_before}
use Rattle.stripe_plan.specs.Stripes.{IsPlan}
use Rattle.stripe_plan.proofs.PlanLemmas.{plan_ends_plan}
use Rattle.field_elements.specs.Gf16.{gf16_coding}
use Rattle.field_elements.specs.laws.Gf16Laws.{gf16_lawful}
use Rattle.packet_frame.specs.Frame.{Fields}
use Rattle.packet_frame.specs.declared.frame.Header.{Header}
use Rattle.packet_set.specs.Packets.{Packets, slot_at, count_in}
use Rattle.packet_session.specs.Session.{Session, SessionGroup, IsSession, IsSessionGroup, IsMessage, IsPacketOf}
use Rattle.packet_session.specs.Session.{bytes_of_layer, packet_of, packets_of}
use Rattle.packet_session.specs.laws.SessionLaws.{packets_are}
use Rattle.pet_receive.specs.Arrivals.{layers_of}
use Rattle.packet_verdicts.specs.KeptSet.{KeptSet, open_group}
use Rattle.pet_receive.specs.ShownBytes.{IsShown, IsShownIn, IsShownBytes}
use Rattle.packet_verdicts.specs.Union.{frames_in}
use Rattle.packet_group.proofs.Agreement.{agreed_bytes}
use Rattle.packet_met.specs.Met.{Pair, has_pair, distinct_met, shows}
use Rattle.packet_met.specs.laws.SumLaws.{count_nothing}
use Rattle.packet_met.specs.laws.KeptIsMet.{HasMet, count_met_in}
use Rattle.packet_met.specs.laws.DatagramMore.{made, agrees}
use Rattle.packet_met.specs.laws.FramesAreMet.{is_met, frames_are_met}
use Rattle.packet_met.specs.laws.CountsAreMet.{some_count}
use Rattle.packet_met.specs.laws.SetOfPairs.{IsMetSet, pair_of}
use Rattle.reassemble.specs.Leading.{AreLeading}
use Rattle.command_video.specs.StoreVideo.{numbers_in}
use Rattle.command_video.specs.StreamVideo.{leading_shown}

-- counts by tests that are equal at each number of a stretch
count_same_in : (p q : ℕ → Bool) (k n : ℕ) → ((i : ℕ) → k ≤ i → i < k + n → p i ≡ q i)
    → count_by p (range_with_len k n) ≡ count_by q (range_with_len k n)
count_same_in p q k zero same = refl
count_same_in p q k (suc n) same =
    let xs = range_with_len (k + 1) n in
    let one : cond {A = ℕ} (p k) 1 0 ≡ cond {A = ℕ} (q k) 1 0 =
    ap (λ (b : Bool). cond {A = ℕ} b 1 0) (same k (omega arith) (omega arith)) in
    let there : count_by p xs ≡ count_by q xs =
    count_same_in p q (k + 1) n (λ i from below. same i (omega (arith, from)) (omega (arith, below))) in
    omega (
      arith,
      one,
      there,
      sum_by-cons (λ y. cond {A = ℕ} (p y) 1 0) k xs,
      sum_by-cons (λ y. cond {A = ℕ} (q y) 1 0) k xs,
    )

-- what holds of each element that passes, of those that pass
passing : {X : Type 0} (p : X → Bool) (P : X → Type 0) (xs : List X) → All (λ x. p x ≡ true → P x) xs
    → All P (filter p xs)
passing p P [] each = All-nil P
passing p P (x ∷ xs) each =
    let later = passing p P xs (All-tail (λ y. p y ≡ true → P y) x xs each) in
    elim (cases_Bool (p x)) [
      | inl e ↦ subst (All P) (sym (cond-true (p x) (x ∷ filter p xs) (filter p xs) e))
          (All-cons P x (filter p xs) (All-head (λ y. p y ≡ true → P y) x xs each e) later)
      | inr e ↦ subst (All P) (sym (cond-false (p x) (x ∷ filter p xs) (filter p xs) e)) later
    ]

some_there : {A : Type 0} (o : Option A) (x : A) → o ≡ Some x → IsSome o
some_there o x e = subst IsSome (sym e) refl

module _ (s : Session) (pairs : List Pair) (set : KeptSet) (is_session : IsSession 2 s)
    (is : IsMetSet gf16_coding s MAX_SESSION pairs set) where
  met_at : (group : ℕ) (g : SessionGroup) → slice_get s.groups group ≡ Some g → (number : ℕ) → number < g.packets
      → has_pair is.met group number ≡ has_pair pairs group number
  met_at group g at number below =
      let f = packet_of gf16_coding s group g number in
      let its : IsPacketOf gf16_coding s f = record { source = g; group = at; number = below; made = refl } in
      All-contains (λ (x : Fields). is_met is.met x ≡ is_met pairs x) (packets_of gf16_coding s) f is.same
      ((packets_are gf16_coding s f).1 its)

  distinct_same : (group : ℕ) (g : SessionGroup) → slice_get s.groups group ≡ Some g
      → distinct_met is.met group g.packets ≡ distinct_met pairs group g.packets
  distinct_same group g at =
      count_same_in (has_pair is.met group) (has_pair pairs group) 0 g.packets
      (λ i from below. met_at group g at i (omega (arith, below)))

  pub group_in : (group : ℕ) (g : SessionGroup) → slice_get s.groups group ≡ Some g → IsSessionGroup 2 g
  group_in group g at =
      subst (IsSessionGroup 2) (get_or_from_slice_get s.groups group g g at)
      (All-get_or (IsSessionGroup 2) s.groups group g (slice_get_within s.groups group g at) is_session.groups)

  -- an open group has the layers of the session's, and as many packets as were met
  record IsOpenAs (group : ℕ) (g : SessionGroup) (p : Packets) : Type 0 where
    pub layers : layers_of p ≡ g.layers
    pub count : count_in p ≡ distinct_met pairs group g.packets
    pub has : HasMet (made gf16_coding) s is.met group g p

  opened : (group : ℕ) (g : SessionGroup) → slice_get s.groups group ≡ Some g → (p : Packets)
      → open_group set group ≡ Some p → IsOpenAs group g p
  opened group g at p here =
      let there = is.follows.opened group p here in
      let same : there.0 ≡ g = same_Some there.0 g (sym there.1 ∙ at) in
      let has = subst (λ (x : SessionGroup). HasMet (made gf16_coding) s is.met group x p) same there.2 in
      record {
        layers = ap (λ (h : Header). h.table.layers) has.header;
        count = count_met_in (made gf16_coding) s is.met group g p has ∙ distinct_same group g at;
        has = has;
      }

  pub layers_are : (group : ℕ) (g : SessionGroup) → slice_get s.groups group ≡ Some g → (p : Packets)
      → open_group set group ≡ Some p → layers_of p ≡ g.layers
  layers_are group g at p here = (opened group g at p here).layers

  -- ---- which layers are shown

  pub shown_to : (group : ℕ) (g : SessionGroup) → slice_get s.groups group ≡ Some g → (layer : ℕ)
      → IsShown set group layer → (layer < length g.layers) × (shows pairs group g layer ≡ true)
  shown_to group g at layer shown = by (open_group set group) refl shown
    where
      by : (o : Option Packets) → open_group set group ≡ o → MatchOption o ⊥ (λ p. IsShownIn p layer)
          → (layer < length g.layers) × (shows pairs group g layer ≡ true)
      by None here told = absurd told
      by (Some p) here told =
          let known = opened group g at p here in
          let long : length (layers_of p) ≡ length g.layers = ap (λ (l : List LayerSize). length l) known.layers in
          let counts : count_of (layers_of p) layer ≡ count_of g.layers layer =
          ap (λ (l : List LayerSize). count_of l layer) known.layers in (
            omega (arith, told.0, long),
            le-leb (count_of g.layers layer) (distinct_met pairs group g.packets)
                (omega (arith, told.1, counts, known.count)),
          )

  shown_from : (group : ℕ) (g : SessionGroup) → slice_get s.groups group ≡ Some g → (layer : ℕ)
      → layer < length g.layers → shows pairs group g layer ≡ true → IsShown set group layer
  shown_from group g at layer inside passes =
      subst (λ (o : Option Packets). MatchOption o ⊥ (λ p. IsShownIn p layer)) refl (by (open_group set group) refl)
    where
      enough : count_of g.layers layer ≤ distinct_met pairs group g.packets
      enough = leb-true (count_of g.layers layer) (distinct_met pairs group g.packets) passes

      by : (o : Option Packets) → open_group set group ≡ o → MatchOption o ⊥ (λ p. IsShownIn p layer)
      by None here =
          let none : distinct_met is.met group g.packets ≡ 0 =
          count_nothing (has_pair is.met group) (range_with_len 0 g.packets) (is.follows.closed group here) in
          let some = some_count (words_before g.layers layer) (words_before g.layers (layer + 1))
          (plan_stripes g.layers) in
          absurd (omega (arith, enough, none, distinct_same group g at, some))
      by (Some p) here =
          let known = opened group g at p here in
          let long : length (layers_of p) ≡ length g.layers = ap (λ (l : List LayerSize). length l) known.layers in
          let counts : count_of (layers_of p) layer ≡ count_of g.layers layer =
          ap (λ (l : List LayerSize). count_of l layer) known.layers in
          (omega (arith, inside, long), omega (arith, enough, counts, known.count))

  -- so many lead
  leading_by : (group : ℕ) (g : SessionGroup) → slice_get s.groups group ≡ Some g → (many : ℕ) → many ≤ length g.layers
      → ((layer : ℕ) → layer < many → IsShown set group layer) → (IsShown set group many → ⊥)
      → leading_shown pairs group g ≡ many
  leading_by group g at many few each next =
      let n = length g.layers in
      let long = length-range_with_len 0 n in
      prefix_len_is (shows pairs group g) (range_with_len 0 n) many 0 (omega (arith, few, long))
      (λ k below. let same : get_or (range_with_len 0 n) k 0
      ≡ k = get_or-range_with_len 0 n k 0 (omega (arith, below, few)) ∙ (let e : 0 + k ≡ k = omega arith in e) in
      ap (shows pairs group g) same ∙ (shown_to group g at k (each k below)).1)
      (λ inside. let low : many < n = omega (arith, inside, long) in
      let same : get_or (range_with_len 0 n) many 0 ≡ many =
      get_or-range_with_len 0 n many 0 low ∙ (let e : 0 + many ≡ many = omega arith in e) in
      ap (shows pairs group g) same ∙ not_shown low)
    where
      not_shown : many < length g.layers → shows pairs group g many ≡ false
      not_shown low = elim (cases_Bool (shows pairs group g many)) [
        | inl passes ↦ absurd (next (shown_from group g at many low passes))
        | inr e ↦ e
      ]

  pub leading_is : (group : ℕ) (g : SessionGroup) → slice_get s.groups group ≡ Some g → (many : ℕ)
      → IsShown set group 0 → AreLeading set group many
      → (0 < many) × (many ≤ length g.layers) × (leading_shown pairs group g ≡ many)
  leading_is group g at many first leading =
      let some = some_leading many leading.next in
      let few = few_leading many leading.shown in
      (some, few, leading_by group g at many few leading.shown leading.next)
    where
      some_leading : (k : ℕ) → (IsShown set group k → ⊥) → 0 < k
      some_leading zero next = absurd (next first)
      some_leading (suc k) next = omega arith

      few_leading : (k : ℕ) → ((layer : ℕ) → layer < k → IsShown set group layer) → k ≤ length g.layers
      few_leading zero each = omega arith
      few_leading (suc k) each = omega (arith, (shown_to group g at k (each k (omega arith))).0)

  -- none, where the first is not shown
  pub none_leading : (group : ℕ) (g : SessionGroup) → slice_get s.groups group ≡ Some g → (IsShown set group 0 → ⊥)
      → leading_shown pairs group g ≡ 0
  none_leading group g at first =
      leading_by group g at 0 (omega arith) (λ layer below. absurd (omega (arith, below))) first

  -- ---- which numbers are kept, and the bytes of a shown layer

  abbrev IsKeptAt : Packets → ℕ → Type 0
  IsKeptAt p number = IsSome (slot_at p number) × (number < 65536)

  numbers_kept : (group : ℕ) (g : SessionGroup) → slice_get s.groups group ≡ Some g → (p : Packets)
      → open_group set group ≡ Some p → All (IsKeptAt p) (numbers_in set group)
  numbers_kept group g at p here =
      All-map (IsKeptAt p) (λ (q : Pair). q.1) (filter (λ (q : Pair). q.0 == group) (map pair_of (frames_in set)))
      (passing (λ (q : Pair). q.0 == group) (λ (q : Pair). IsKeptAt p q.1) (map pair_of (frames_in set))
      (All-map (λ (q : Pair). (q.0 == group) ≡ true → IsKeptAt p q.1) pair_of (frames_in set)
      (subst (All (λ (f : Fields). (f.group == group) ≡ true → IsKeptAt p f.number))
      (sym (frames_are_met gf16_coding s MAX_SESSION is.met set is.follows))
      (passing (is_met is.met) (λ (f : Fields). (f.group == group) ≡ true → IsKeptAt p f.number)
      (packets_of gf16_coding s) each))))
    where
      known : IsOpenAs group g p
      known = opened group g at p here

      kept : (f : Fields) → IsPacketOf gf16_coding s f → is_met is.met f ≡ true → f.group ≡ group → IsKeptAt p f.number
      kept f its met same =
          let slot : slot_at p f.number ≡ Some (made gf16_coding g f.number) =
          known.has.each f.number
          ∙ ap (λ (b : Bool). cond b (Some (made gf16_coding g f.number)) None)
          (ap (λ (k : ℕ). has_pair is.met k f.number) (sym same) ∙ met) in
          let few = (group_in f.group its.source its.group).table.few_packets in
          (some_there (slot_at p f.number) (made gf16_coding g f.number) slot, omega (arith, its.number, few))

      each : All (λ (f : Fields). is_met is.met f ≡ true → (f.group == group) ≡ true → IsKeptAt p f.number)
          (packets_of gf16_coding s)
      each k d lt =
          let f = get_or (packets_of gf16_coding s) k d in
          let its = (packets_are gf16_coding s f).0 (All-contains_itself (packets_of gf16_coding s) k d lt) in
          λ met same. kept f its met (eqb-true f.group group same)

  pub shown_bytes_are : (group : ℕ) (g : SessionGroup) → slice_get s.groups group ≡ Some g → (p : Packets)
      → open_group set group ≡ Some p → (layer : ℕ) (bytes : List ℕ) → layer < length g.layers
      → IsShownBytes (λ a. a < 65536) gf16_coding p (numbers_in set group) layer bytes
      → bytes ≡ bytes_of_layer 2 g.layers g.message layer
  shown_bytes_are group g at p here layer bytes inside shown =
      let known = opened group g at p here in
      let sound = group_in group g at in
      let message : IsMessage 2 (layers_of p) g.message =
      subst (λ (l : List LayerSize). IsMessage 2 l g.message) (sym known.layers) sound.message in
      let plan : IsPlan (needs_of (layers_of p)) 0 (plan_ends (layers_of p)) =
      subst (λ (l : List LayerSize). IsPlan (needs_of l) 0 (plan_ends l)) (sym known.layers)
      (plan_ends_plan g.layers sound.table.needed) in
      let long : length (layers_of p) ≡ length g.layers = ap (λ (l : List LayerSize). length l) known.layers in
      let kept : (i : ℕ) → Contains (numbers_in set group) i → IsSome (slot_at p i) × (i < 65536) =
      λ i there. All-contains (IsKeptAt p) (numbers_in set group) i (numbers_kept group g at p here) there in
      agreed_bytes (λ a. a < 65536) 65536 gf16_coding gf16_lawful p g.message message plan (numbers_in set group) kept
      (agrees gf16_coding s is.met group g p known.has) layer bytes (omega (arith, inside, long)) shown
      ∙ ap (λ (l : List LayerSize). bytes_of_layer 2 l g.message layer) known.layers
