-- What the packets of two stores come to, joined.
use Rattle.std.specs.Prelude.{if◌then◌else◌, not, is_some, is_none, filter}
use Rattle.std.proofs.Common.{◌≡◌, ℕ, ◌+◌, ◌-◌, ◌<◌, ◌^◌, Bool, true, false, ◌||◌, nat_lt, cond, List, [], ◌∷◌}
use Rattle.std.proofs.Common.{length, map, All, Option, None, Some, Result, Ok, Err, refl, sym, ap, ap₂, ◌∙◌, arith}
use Rattle.std.proofs.Common.{inl, inr}
use Rattle.std.specs.Str.{bytes_eq}
use Rattle.std.specs.List.{find}
use Rattle.std.proofs.lemmas.Bool.{cases_Bool, cases_lt, le-ltb, lt-ltb}
use Rattle.std.proofs.lemmas.List.{length-append}
use Rattle.std.proofs.lemmas.List.Elements.{All-head, All-tail}
use Rattle.std.proofs.lemmas.Slice.Eq.{bytes_eq-Decides}
use Rattle.stripe_plan.specs.Sizes.{Sizes, cost_of, cost_by}
use Rattle.packet_frame.specs.Frame.{Fields, IsFrame}
use Rattle.packet_set.specs.Packets.{Packets}
use Rattle.packet_verdicts.specs.KeptSet.{KeptSet, IsKeptSet, empty_set, open_group, header_of, cost_in, cost_kept}
use Rattle.packet_verdicts.specs.KeptSet.{kept_in_all}
use Rattle.packet_verdicts.specs.Union.{union, absorb_fault, frames_in, first_past, first_full, then_full}
use Rattle.packet_verdicts.specs.Union.{then_clash}
use Rattle.packet_verdicts.specs.Verdicts.{clashes}
use Rattle.packet_verdicts.specs.declared.union.Absorb.{Absorb}
use Rattle.packet_verdicts.specs.declared.union.Absorb.TheVariants.{OtherSession, Clash, Full}
use Rattle.packet_verdicts.specs.laws.KeptSetLaws.{not_false}
use Rattle.packet_verdicts.specs.laws.FramesLaws.{frames_are, frames_many as kept_many}
use Rattle.store_text.specs.laws.LedKeptSets.{HasGrownBy, leads_make}
use Rattle.store_text.specs.laws.FormLaws.{store_form_is}
use Rattle.store_text.specs.laws.ManyFrames.{each_kept, few_frames}
use Rattle.packet_verdicts.specs.laws.UnionLaws.{fit_sound}
use Rattle.store_text.specs.Store.{store_of, store_text}
use Rattle.store_text.specs.declared.format.TheConstants.{STORE_FORM, HEAD_LENGTH}
use Rattle.store_text.specs.laws.Leading.{pair_of}
use Rattle.store_packets.specs.Packets.{HasPackets}
use Rattle.store_union.specs.Joined.{AreJoined}
use Rattle.store_packets.specs.declared.packets.StorePackets.{StorePackets}
use Rattle.store_union.specs.declared.union.Budget.{Budget}
use Rattle.store_union.specs.declared.union.Met.{Met}
use Rattle.store_packets.specs.inside.Listed.{is_other, tables_from, left_by, full_by}
use Rattle.store_union.specs.inside.Merging.{left_from, last_before, passed, without, first_in, merged, is_open}
use Rattle.store_union.specs.inside.Merging.{is_there}
use Rattle.store_union.specs.inside.Merging.{budget_behind, met_behind, meets, nothing_met, frames_of, Stand}
use Rattle.store_union.specs.inside.Merging.{AreSpelled}
use Rattle.store_union.specs.inside.Merging.{both_text}
use Rattle.store_union.proofs.KeptFrames.{all_in, in_kept, frames_rise}
use Rattle.store_packets.proofs.Listed.{frames_many}
use Rattle.store_union.proofs.Meeting.{none_meets, one_clashes, one_meets}
use Rattle.store_union.proofs.Merged.{merged_none, merged_next, many_without, many_passed}
use Rattle.store_packets.proofs.Migrating.{read_there, lead_tables}
use Rattle.store_union.proofs.Neighbours.{IsSplit, IsAt, split_first, passes_to, clash_is, open_is}
use Rattle.store_union.proofs.Order.{Before, In, Chain, then_before, chain_after, no_last}
use Rattle.store_packets.proofs.Standing.{Stands, within, table_in}
use Rattle.store_union.proofs.Uniting.{union_frames}

-- ---- all that is met, where nothing clashes

unfoldable met_all : Option Fields → List Fields → Met → List Fields → Met
met_all last mine m [] = m
met_all last mine m (g ∷ rest) =
    met_all (last_before g last mine) (left_from g mine)
    (met_behind m (last_before g last mine) (first_in (left_from g mine)) g) rest

all_none : (last : Option Fields) (mine : List Fields) (m : Met) → met_all last mine m [] ≡ m
unfolding met_all
all_none last mine m = refl

all_more : (last : Option Fields) (mine : List Fields) (m : Met) (g : Fields) (rest : List Fields)
    → met_all last mine m (g ∷ rest) ≡ met_all (last_before g last mine) (left_from g mine)
    (met_behind m (last_before g last mine) (first_in (left_from g mine)) g) rest
unfolding met_all
all_more last mine m g rest = refl

abbrev met_by : Option Fields → Met → Result Met Absorb
met_by None m = Ok m
met_by (Some f) m = Err (Clash f.group f.number)

-- ---- the first group past the limit

abbrev full_all : Option ℕ → ℕ → List (ℕ × Sizes) → Option ℕ
full_all full left [] = full
full_all full left (e ∷ es) = full_all (full_by full left e) (left_by left e) es

full_found : (group left : ℕ) (es : List (ℕ × Sizes)) → full_all (Some group) left es ≡ Some group
full_found group left [] = refl
full_found group left (e ∷ es) = full_found group (left_by left e) es

module _ (p : ℕ → Bool) where
  full_is : (gs : List (ℕ × Packets)) (limit spent left : ℕ) → All (λ e. e.1.word ≡ 2) gs → spent + left ≡ limit
      → full_all None left (filter (λ e. p e.0) (map table_in gs)) ≡ first_past limit spent (filter (λ e. p e.0) gs)
  unfolding first_past
  full_is [] limit spent left two e = refl
  full_is (g ∷ gs) limit spent left two e =
      let cost = cost_of g.1.header.table.packets g.1.header.table.layers in
      let is : cost_in g.1 ≡ cost =
      ap (λ w. cost_by w g.1.header.table.packets g.1.header.table.layers)
      (All-head (λ (t : ℕ × Packets). t.1.word ≡ 2) g gs two) in
      let later = All-tail (λ (t : ℕ × Packets). t.1.word ≡ 2) g gs two in
      let rest = filter (λ (t : ℕ × Packets). p t.0) gs in
      let tables = filter (λ (t : ℕ × Sizes). p t.0) (map table_in gs) in
      let same : nat_lt limit (spent + cost_in g.1) ≡ nat_lt left cost =
      ap (λ n. nat_lt limit (spent + n)) is ∙ within spent left limit cost e in
      elim (cases_Bool (p g.0)) [
        | inr old ↦
            ap (λ b. full_all None left (cond b (table_in g ∷ tables) tables)) old
            ∙ full_is gs limit spent left later e
            ∙ sym (ap (λ b. first_past limit spent (cond b (g ∷ rest) rest)) old)
        | inl new ↦
            ap (λ b. full_all None left (cond b (table_in g ∷ tables) tables)) new
            ∙ elim (cases_lt left cost) [
              | inl lt ↦
                  ap (λ b. full_all (if b then Some g.0 else None) (left - cost) tables) (lt-ltb left cost lt)
                  ∙ full_found g.0 (left - cost) tables
                  ∙ sym (ap (λ b. if b then Some g.0 else first_past limit (spent + cost_in g.1) rest)
                  (same ∙ lt-ltb left cost lt))
              | inr le ↦
                  ap (λ b. full_all (if b then Some g.0 else None) (left - cost) tables) (le-ltb left cost le)
                  ∙ full_is gs limit (spent + cost_in g.1) (left - cost) later (omega (arith, e, le, is))
                  ∙ sym (ap (λ b. if b then Some g.0 else first_past limit (spent + cost_in g.1) rest)
                  (same ∙ le-ltb left cost le))
            ]
            ∙ sym (ap (λ b. first_past limit spent (cond b (g ∷ rest) rest)) new)
      ]

-- ---- the walk

abbrev new_in : KeptSet → ℕ → Bool
new_in a group = is_none (open_group a group)

none_some : {A : Type 0} (o : Option A) → is_none o ≡ not (is_some o)
none_some None = refl
none_some (Some x) = refl

-- each comes after what was passed
abbrev Low : Option Fields → List Fields → Type 0
Low last theirs = (l : Fields) → last ≡ Some l → (h : Fields) → In h theirs → Before l h

abbrev AreFine : KeptSet → List Fields → Type 0
AreFine a theirs = (g : Fields) → In g theirs → IsFrame g × (g.session ≡ a.session)

module _ (a : KeptSet) (sound : IsKeptSet a) where
  module _ (last : Option Fields) (mine : List Fields) (g : Fields) (rest : List Fields)
      (split : IsSplit (frames_in a) last mine) (low : Low last (g ∷ rest)) where
    here : IsAt (frames_in a) (last_before g last mine) (left_from g mine) g
    here = passes_to (frames_in a) g mine last split (λ l e. low l e g (inl refl))

    next_low : Chain (Some (pair_of g)) rest → Low (last_before g last mine) rest
    next_low c l e h i = then_before l g h (here.low l e) (chain_after g rest c h i)

  meets_are : (theirs : List Fields) (last : Option Fields) (mine : List Fields) (m : Met)
      → IsSplit (frames_in a) last mine → Low last theirs → Chain None theirs → AreFine a theirs
      → meets last mine m theirs ≡ met_by (find (clashes a) theirs) (met_all last mine m theirs)
  meets_are [] last mine m split low c fine = none_meets last mine m ∙ ap Ok (sym (all_none last mine m))
  meets_are (g ∷ rest) last mine m split low c fine =
      let at = here last mine g rest split low in
      let ok = fine g (inl refl) in
      let o = last_before g last mine in
      let fs = left_from g mine in
      let clash = clash_is a sound o fs g ok.0 at ok.1 in
      elim (cases_Bool (clashes a g)) [
        | inl e ↦
            one_clashes last mine m g rest (sym clash ∙ e)
            ∙ sym (ap (λ b. met_by (cond b (Some g) (find (clashes a) rest)) (met_all last mine m (g ∷ rest))) e)
        | inr e ↦
            one_meets last mine m g rest (sym clash ∙ e)
            ∙ meets_are rest o fs (met_behind m o (first_in fs) g) at.split
            (next_low last mine g rest split low c.1) (no_last (Some (pair_of g)) rest c.1) (λ h i. fine h (inr i))
            ∙ ap (met_by (find (clashes a) rest)) (sym (all_more last mine m g rest))
            ∙ sym (ap (λ b. met_by (cond b (Some g) (find (clashes a) rest)) (met_all last mine m (g ∷ rest))) e)
      ]

  -- ---- the budget

  -- a frame more, by whether it opens a group of its own list, and whether its group is open here
  budget_more : (b : Budget) (g : Fields) (rest : List Fields) (own held : Bool)
      → held ≡ is_some (open_group a g.group) → (m : Budget) → m ≡ budget_behind b (not own || held) g
      → full_all m.full m.left (filter (λ e. new_in a e.0) (tables_from m.last rest))
      ≡ full_all b.full b.left (filter (λ e. new_in a e.0)
      (if own then (g.group, (header_of g).table) ∷ tables_from (Some g.group) rest else tables_from (Some g.group) rest))
  budget_more b g rest false held is m same =
      ap (λ (n : Budget). full_all n.full n.left (filter (λ e. new_in a e.0) (tables_from n.last rest))) same
  budget_more b g rest true true is m same =
      let tables = filter (λ (e : ℕ × Sizes). new_in a e.0) (tables_from (Some g.group) rest) in
      ap (λ (n : Budget). full_all n.full n.left (filter (λ e. new_in a e.0) (tables_from n.last rest))) same
      ∙ sym (ap (λ x. full_all b.full b.left (cond x ((g.group, (header_of g).table) ∷ tables) tables))
      (none_some (open_group a g.group) ∙ ap not (sym is)))
  budget_more b g rest true false is m same =
      let tables = filter (λ (e : ℕ × Sizes). new_in a e.0) (tables_from (Some g.group) rest) in
      ap (λ (n : Budget). full_all n.full n.left (filter (λ e. new_in a e.0) (tables_from n.last rest))) same
      ∙ sym (ap (λ x. full_all b.full b.left (cond x ((g.group, (header_of g).table) ∷ tables) tables))
      (none_some (open_group a g.group) ∙ ap not (sym is)))

  budget_is : (theirs : List Fields) (last : Option Fields) (mine : List Fields) (m : Met)
      → IsSplit (frames_in a) last mine → Low last theirs → Chain None theirs → AreFine a theirs
      → (met_all last mine m theirs).budget.full
      ≡ full_all m.budget.full m.budget.left (filter (λ e. new_in a e.0) (tables_from m.budget.last theirs))
  budget_is [] last mine m split low c fine = ap (λ (n : Met). n.budget.full) (all_none last mine m)
  budget_is (g ∷ rest) last mine m split low c fine =
      let at = here last mine g rest split low in
      let o = last_before g last mine in
      let fs = left_from g mine in
      let next = met_behind m o (first_in fs) g in
      ap (λ (n : Met). n.budget.full) (all_more last mine m g rest)
      ∙ budget_is rest o fs next at.split (next_low last mine g rest split low c.1)
      (no_last (Some (pair_of g)) rest c.1) (λ h i. fine h (inr i))
      ∙ budget_more m.budget g rest (is_other m.budget.last g) (is_open o (first_in fs) g)
      (open_is a sound o fs g (fine g (inl refl)).0 at) next.budget refl

  -- ---- how many there are

  count_more : (there : Bool) (found more passed mine front whole new all : ℕ)
      → found + mine ≡ more + (if there then new else new + 1) → more ≡ front + (if there then 1 else 0)
      → all ≡ passed + mine → whole ≡ passed + (1 + front) → found + all ≡ whole + new
  count_more true found more passed mine front whole new all p q r s = omega (arith, p, q, r, s)
  count_more false found more passed mine front whole new all p q r s = omega (arith, p, q, r, s)

  count_is : (theirs : List Fields) (last : Option Fields) (mine : List Fields) (m : Met) → Chain None theirs
      → (met_all last mine m theirs).new + length mine ≡ length (merged mine theirs) + m.new
  count_is [] last mine m c =
      omega (arith, ap (λ (n : Met). n.new) (all_none last mine m), ap length (merged_none mine))
  count_is (g ∷ rest) last mine m c =
      let o = last_before g last mine in
      let fs = left_from g mine in
      let next = met_behind m o (first_in fs) g in
      let tail = g ∷ merged (without g fs) rest in
      ap (λ (n : Met). n.new + length mine) (all_more last mine m g rest)
      ∙ count_more (is_there (first_in fs) g) (met_all o fs next rest).new (length (merged fs rest))
      (length (passed g mine)) (length fs) (length (merged (without g fs) rest)) (length (merged mine (g ∷ rest)))
      m.new (length mine)
      (count_is rest o fs next (no_last (Some (pair_of g)) rest c.1)) (many_without g fs rest c.1) (many_passed g mine)
      (omega (arith, ap length (merged_next mine g rest), length-append (passed g mine) tail))

-- ---- the packets of a store are those of a set

pub record AreOf (p : StorePackets) (a : KeptSet) : Type 0 where
  pub stands : Stand p
  pub spelled : All (λ byte. byte < 256) p.entries.now → AreSpelled p
  pub sound : IsKeptSet a
  pub frames : frames_in a ≡ frames_of p
  pub session : a.session ≡ p.session
  pub tables : tables_from None (frames_of p) ≡ map table_in a.groups
  pub left : cost_kept a + p.left ≡ a.limit

pub packets_are : (p : StorePackets) (a : KeptSet) → HasPackets p a → AreOf p a
packets_are p a has =
    let start = empty_set p.session a.limit in
    let there = read_there STORE_FORM store_form_is p.count HEAD_LENGTH start None p.entries.now a has.read in
    let grown : HasGrownBy start (frames_of p) a = leads_make (frames_of p) p.session a.limit a there.leads in
    let stands : Stands STORE_FORM start p.session None a.limit =
    record { session_is = refl; spent = omega arith; ends = refl } in
    record {
      stands = there.listed;
      spelled = there.spelled;
      sound = grown.sound;
      frames = grown.frames;
      session = grown.session;
      tables = sym (lead_tables STORE_FORM store_form_is p.session a (frames_of p) start None a.limit stands there.leads);
      left = has.left;
    }

-- ---- both

-- what a comparison of sessions tells
pub other_bytes : (xs ys : List ℕ) (b : Bool) → b ≡ not (bytes_eq xs ys) → b ≡ true → bytes_eq xs ys ≡ false
other_bytes xs ys b is e = not_true (bytes_eq xs ys) (sym is ∙ e)
  where
    not_true : (b : Bool) → not b ≡ true → b ≡ false
    not_true false e = refl
    not_true true e = absurd (cc)

pub same_bytes : (xs ys : List ℕ) (b : Bool) → b ≡ not (bytes_eq xs ys) → b ≡ false → xs ≡ ys
same_bytes xs ys b is e = (bytes_eq-Decides xs ys).0 (not_false (bytes_eq xs ys) (sym is ∙ e))

other_session : (a b : KeptSet) → bytes_eq a.session b.session ≡ false → absorb_fault a b ≡ Some OtherSession
unfolding absorb_fault
other_session a b e =
    ap (λ s. if not s then Some OtherSession else then_clash (find (clashes a) (frames_in b))
    (then_full (first_full a b))) e

same_session : (a b : KeptSet) → a.session ≡ b.session
    → absorb_fault a b ≡ then_clash (find (clashes a) (frames_in b)) (then_full (first_full a b))
unfolding absorb_fault
same_session a b e =
    ap (λ s. if not s then Some OtherSession else then_clash (find (clashes a) (frames_in b))
    (then_full (first_full a b))) ((bytes_eq-Decides a.session b.session).1 e)

clash_by : (o : Option Fields) (m : Met) (fault : Absorb) (later : Option Absorb) → met_by o m ≡ Err fault
    → then_clash o later ≡ Some fault
clash_by None m fault later e = absurd (cc)
clash_by (Some f) m fault later e = ap Some (same_Err (Clash f.group f.number) fault e)
  where
    same_Err : (x y : Absorb) → ◌≡◌ {A = Result Met Absorb} (Err x) (Err y) → x ≡ y
    same_Err x y e = cc

record Finds (o : Option Fields) (m met : Met) : Type 0 where
  none : o ≡ None
  same : m ≡ met

found_by : (o : Option Fields) (m met : Met) → met_by o m ≡ Ok met → Finds o m met
found_by (Some f) m met e = absurd (cc)
found_by None m met e = record { none = refl; same = same_Ok m met e }
  where
    same_Ok : (x y : Met) → ◌≡◌ {A = Result Met Absorb} (Ok x) (Ok y) → x ≡ y
    same_Ok x y e = cc

module _ (mine theirs : StorePackets) (a b : KeptSet) (has : HasPackets mine a) (other : HasPackets theirs b) where
  one : AreOf mine a
  one = packets_are mine a has

  two : AreOf theirs b
  two = packets_are theirs b other

  pub join_session : bytes_eq mine.session theirs.session ≡ false → absorb_fault a b ≡ Some OtherSession
  join_session e = other_session a b (ap₂ bytes_eq one.session two.session ∙ e)

  module _ (same : mine.session ≡ theirs.session) where
    sessions : a.session ≡ b.session
    sessions = one.session ∙ same ∙ sym two.session

    fine : AreFine a (frames_in b)
    fine g i =
        let k = in_kept b two.sound g i in (
          all_in IsFrame (frames_in b) (frames_are b two.sound) g i,
          ap (λ (t : Fields). t.session) (sym k.whole)
              ∙ (two.sound.groups g.group k.packets k.opened).same_session ∙ sym sessions,
        )

    abbrev all : Met
    all = met_all None (frames_in a) (nothing_met mine.left) (frames_in b)

    low : Low None (frames_in b)
    low l e = absurd (cc)

    meets_is : meets None (frames_of mine) (nothing_met mine.left) (frames_of theirs)
        ≡ met_by (find (clashes a) (frames_in b)) all
    meets_is =
        ap (λ fs. meets None fs (nothing_met mine.left) (frames_of theirs)) (sym one.frames)
        ∙ ap (meets None (frames_in a) (nothing_met mine.left)) (sym two.frames)
        ∙ meets_are a one.sound (frames_in b) None (frames_in a) (nothing_met mine.left)
        (split_first (frames_in a) (frames_rise a one.sound)) low (frames_rise b two.sound) fine

    pub join_clash : (fault : Absorb)
        → Err fault ≡ meets None (frames_of mine) (nothing_met mine.left) (frames_of theirs)
        → absorb_fault a b ≡ Some fault
    join_clash fault e =
        same_session a b sessions
        ∙ clash_by (find (clashes a) (frames_in b)) all fault (then_full (first_full a b)) (sym meets_is ∙ sym e)

    module _ (met : Met) (e : Ok met ≡ meets None (frames_of mine) (nothing_met mine.left) (frames_of theirs)) where
      finds : Finds (find (clashes a) (frames_in b)) all met
      finds = found_by (find (clashes a) (frames_in b)) all met (sym meets_is ∙ sym e)

      full : met.budget.full ≡ first_full a b
      full =
          ap (λ (m : Met). m.budget.full) (sym finds.same)
          ∙ budget_is a one.sound (frames_in b) None (frames_in a) (nothing_met mine.left)
          (split_first (frames_in a) (frames_rise a one.sound)) low (frames_rise b two.sound) fine
          ∙ ap (λ ts. full_all None mine.left (filter (λ (t : ℕ × Sizes). new_in a t.0) ts))
          (ap (tables_from None) two.frames ∙ two.tables)
          ∙ full_is (new_in a) b.groups a.limit (cost_kept a) mine.left words one.left
        where
          words : All (λ (t : ℕ × Packets). t.1.word ≡ 2) b.groups
          words i d lt = (each_kept b two.sound i d lt).word_is

      joins : absorb_fault a b ≡ then_full met.budget.full
      joins =
          same_session a b sessions ∙ ap (λ o. then_clash o (then_full (first_full a b))) finds.none
          ∙ ap then_full (sym full)

      pub join_full : (group : ℕ) → Some group ≡ met.budget.full → absorb_fault a b ≡ Some (Full group)
      join_full group is = joins ∙ ap then_full (sym is)

      module _ (is : None ≡ met.budget.full) where
        pub join_fits : absorb_fault a b ≡ None
        join_fits = joins ∙ ap then_full (sym is)

        pub join_count : mine.count + met.new ≡ kept_in_all (union a b)
        join_count =
            omega (
              arith,
              count_is a one.sound (frames_in b) None (frames_in a) (nothing_met mine.left) (frames_rise b two.sound),
              ap (λ (m : Met). m.new) finds.same,
              ap length (union_frames a b one.sound two.sound join_fits),
              kept_many (union a b),
              ap length one.frames,
              frames_many STORE_FORM mine.count mine.entries.now,
            )

        pub join_few : mine.count + met.new < 2 ^ 32
        join_few =
            omega (
              arith,
              join_count,
              kept_many (union a b),
              few_frames (union a b) (fit_sound a b one.sound two.sound join_fits),
            )

-- ---- the store of both

module _ (mine theirs : StorePackets) (a b : KeptSet) (j : AreJoined mine theirs a b) where
  mine_of : AreOf mine a
  mine_of = packets_are mine a j.mine_is

  theirs_of : AreOf theirs b
  theirs_of = packets_are theirs b j.theirs_is

  union_is : frames_in (union a b) ≡ merged (frames_of mine) (frames_of theirs)
  union_is = union_frames a b mine_of.sound theirs_of.sound j.fits ∙ ap₂ merged mine_of.frames theirs_of.frames

  pub union_many : kept_in_all (union a b) ≡ length (merged (frames_of mine) (frames_of theirs))
  union_many = sym (kept_many (union a b)) ∙ ap length union_is

  pub union_text : both_text mine theirs ≡ store_text (union a b)
  union_text =
      ap (λ (s : List ℕ). store_of s (merged (frames_of mine) (frames_of theirs))) (sym mine_of.session)
      ∙ ap (λ (fs : List Fields). store_of a.session fs) (sym union_is)
