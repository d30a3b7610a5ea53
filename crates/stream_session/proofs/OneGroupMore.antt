-- One group more: its layers are kept; and of the groups so far the tables, the first that is too long, and the first that
-- is too wide.
use Rattle.std.proofs.Common.{◌≡◌, ℕ, zero, suc, ◌+◌, ◌<◌, ◌≤◌, Bool, true, false, List, [], ◌∷◌, ◌++◌, length}
use Rattle.std.proofs.Common.{Option, Some, None, position, map, take, drop, get_or, refl, sym, ◌∙◌, ap, subst, arith}
use Rattle.std.proofs.Common.{inl, inr, append_assoc}
use Rattle.std.specs.Prelude.{if◌then◌else◌, Result, Ok, Err}
use Rattle.std.specs.Option.{option_or}
use Rattle.std.specs.List.{position_from}
use Rattle.std.proofs.lemmas.Iterator.Adapters.{position_from-zero}
use Rattle.std.proofs.lemmas.Bool.{cond-true, cond-false, cases_Bool}
use Rattle.std.proofs.lemmas.List.{map-append, length-append, length-map, length-take-le, take_more, take_all, take-append-drop}
use Rattle.std.proofs.lemmas.List.Elements.{All-append, All-cons, All-nil}
use Rattle.pet_base.specs.declared.limits.TheConstants.{MAX_GROUPS}
use Rattle.stripe_plan.specs.declared.layer.LayerSize.{LayerSize}
use Rattle.stripe_plan.specs.declared.table.TableFault.{TableFault}
use Rattle.stripe_plan.specs.declared.table.TableFault.TheVariants.{Packets, Layers, Need, Sum, Wide}
use Rattle.stripe_plan.specs.Sizes.{Sizes}
use Rattle.packet_frame.specs.declared.format.Format.{Format}
use Rattle.priority_file.specs.Priority.{Priorities}
use Rattle.layer_split.specs.Layers.{Cut}
use Rattle.stream_session.specs.declared.group_tables.GroupTables.{GroupTables}
use Rattle.stream_session.specs.declared.needs.LayerNeeds.{LayerNeeds}
use Rattle.stream_session.specs.Tables.{sizes_of, table_of_in, tables_of_in, IsFit}
use Rattle.stream_session.specs.declared.fault.SessionFault.TheVariants.{ByteLong, TooWide}
use Rattle.stream_session.specs.Refusals.{is_long_in, is_wide_in, fault_of_cuts_in, long_fault, size_fault}
use Rattle.stream_session.specs.Refusals.{first_above, group_cost_in}
use Rattle.stream_session.specs.inside.Planning.{Takes, IsLongMade}
use Rattle.stream_session.specs.Planning.{HasTables, AreOf}

some_not_none : {A : Type 0} (x : A) → Some x ≡ None → ⊥
some_not_none x e = cc

-- the layers of one group more
pub keeps_more : (old new : GroupTables) (priority : Priorities) (cuts : List Cut) (cut : Cut) (layers : List LayerSize)
    → new.needs ≡ old.needs → new.layers.items ≡ old.layers.items ++ layers ∷ [] → layers ≡ sizes_of priority cut
    → length cuts < MAX_GROUPS → IsFit priority cut → HasTables old priority cuts
    → HasTables new priority (cuts ++ cut ∷ [])
keeps_more old new priority cuts cut layers needs pushed is few fit h = record {
  needs = subst (λ (n : LayerNeeds). AreOf n priority) (sym needs) h.needs;
  layers =
      pushed ∙ ap (λ l. l ++ layers ∷ []) h.layers ∙ ap (λ l. map (sizes_of priority) cuts ++ l ∷ []) is
      ∙ sym (map-append (sizes_of priority) cuts (cut ∷ []));
  fit = All-append (IsFit priority) cuts (cut ∷ []) h.fit (All-cons (IsFit priority) cut [] fit (All-nil (IsFit priority)));
  few = omega (arith, length-append cuts (cut ∷ []), few);
}

-- where a test first passes among more
from_append : {X : Type 0} (p : X → Bool) (i : ℕ) (xs ys : List X) → position_from p i xs ≡ None
    → position_from p i (xs ++ ys) ≡ position_from p (i + length xs) ys
from_append p i [] ys e = let k : i ≡ i + 0 = omega arith in ap (λ n. position_from p n ys) k
from_append p i (x ∷ xs) ys e = elim (cases_Bool (p x)) [
  | inl t ↦ absurd (some_not_none i (sym (cond-true (p x) (Some i) (position_from p (i + 1) xs) t) ∙ e))
  | inr f ↦
      (let k : i + 1 + length xs ≡ i + suc (length xs) = omega arith in
      cond-false (p x) (Some i) (position_from p (i + 1) (xs ++ ys)) f
      ∙ (from_append p (i + 1) xs ys (sym (cond-false (p x) (Some i) (position_from p (i + 1) xs) f) ∙ e)
      ∙ ap (λ n. position_from p n ys) k))
]

from_found : {X : Type 0} (p : X → Bool) (i n : ℕ) (xs ys : List X) → position_from p i xs ≡ Some n
    → position_from p i (xs ++ ys) ≡ Some n
from_found p i n [] ys e = absurd (some_not_none n (sym e))
from_found p i n (x ∷ xs) ys e = elim (cases_Bool (p x)) [
  | inl t ↦ cond-true (p x) (Some i) (position_from p (i + 1) (xs ++ ys)) t
      ∙ (sym (cond-true (p x) (Some i) (position_from p (i + 1) xs) t) ∙ e)
  | inr f ↦ cond-false (p x) (Some i) (position_from p (i + 1) (xs ++ ys)) f
      ∙ from_found p (i + 1) n xs ys (sym (cond-false (p x) (Some i) (position_from p (i + 1) xs) f) ∙ e)
]

module _ {X : Type 0} (p : X → Bool) (xs : List X) (x : X) (rest : List X) where
  as_from : (ys : List X) → position p ys ≡ position_from p 0 ys
  as_from ys = position_from-zero p ys

  -- nowhere so far, and not here
  pub passed_over : position p xs ≡ None → p x ≡ false → position p (xs ++ x ∷ []) ≡ None
  passed_over none here =
      as_from (xs ++ x ∷ []) ∙ from_append p 0 xs (x ∷ []) (sym (as_from xs) ∙ none)
      ∙ cond-false (p x) (Some (0 + length xs)) None here

  -- here first
  pub found_here : (n : ℕ) → n ≡ length xs → position p xs ≡ None → p x ≡ true → position p (xs ++ x ∷ rest) ≡ Some n
  found_here n at none here =
      as_from (xs ++ x ∷ rest) ∙ from_append p 0 xs (x ∷ rest) (sym (as_from xs) ∙ none)
      ∙ cond-true (p x) (Some (0 + length xs)) (position_from p (0 + length xs + 1) rest) here
      ∙ ap (λ k. Some k) (omega (arith, at))

  -- before here
  pub found_before : (n : ℕ) → position p xs ≡ Some n → position p (xs ++ x ∷ []) ≡ Some n
  found_before n some = as_from (xs ++ x ∷ []) ∙ from_found p 0 n xs (x ∷ []) (sym (as_from xs) ∙ some)

-- Of the cuts so far none is too long. This is the first that is too wide; while there is none these are the tables.
pub record StandsAt (t : Format) (priority : Priorities) (cuts : List Cut) (wide : Option ℕ) (tables : List Sizes)
    : Type 0 where
  pub short : position (is_long_in t priority) cuts ≡ None
  pub first_wide : wide ≡ position (is_wide_in t priority) cuts
  pub made : wide ≡ None → tables ≡ tables_of_in t priority cuts

pub stands_none : (t : Format) (priority : Priorities) → StandsAt t priority [] None []
stands_none t priority = record { short = refl; first_wide = refl; made = λ none. refl }

-- what is made of a cut in a format
abbrev pub made_of : Format → Priorities → Cut → Result Sizes TableFault
made_of t priority cut =
    if is_long_in t priority cut then Err Sum else if is_wide_in t priority cut then Err Wide
    else Ok (table_of_in t priority cut)

-- what it tells of the cut
made_table : (t : Format) (priority : Priorities) (cut : Cut) (table : Sizes) → Ok table ≡ made_of t priority cut
    → (is_long_in t priority cut ≡ false) × (is_wide_in t priority cut ≡ false) × (table ≡ table_of_in t priority cut)
made_table t priority cut table e = by_tests (is_long_in t priority cut) (is_wide_in t priority cut) e
  where
    by_tests : (long wide : Bool)
        → Ok table ≡ (if long then Err Sum else if wide then Err Wide else Ok (table_of_in t priority cut))
        → (long ≡ false) × (wide ≡ false) × (table ≡ table_of_in t priority cut)
    by_tests true wide e = absurd cc
    by_tests false true e = absurd cc
    by_tests false false e = (refl, refl, cc)

made_wide : (t : Format) (priority : Priorities) (cut : Cut) → Err Wide ≡ made_of t priority cut
    → (is_long_in t priority cut ≡ false) × (is_wide_in t priority cut ≡ true)
made_wide t priority cut e = by_tests (is_long_in t priority cut) (is_wide_in t priority cut) e
  where
    by_tests : (long wide : Bool)
        → Err Wide ≡ (if long then Err Sum else if wide then Err Wide else Ok (table_of_in t priority cut))
        → (long ≡ false) × (wide ≡ true)
    by_tests true wide e = absurd cc
    by_tests false true e = (refl, refl)
    by_tests false false e = absurd cc

made_long : (t : Format) (priority : Priorities) (cut : Cut) (made : Result Sizes TableFault) → IsLongMade made
    → made ≡ made_of t priority cut → is_long_in t priority cut ≡ true
made_long t priority cut made long e =
    by_tests (is_long_in t priority cut) (is_wide_in t priority cut) (subst IsLongMade e long)
  where
    by_tests : (long wide : Bool)
        → IsLongMade (if long then Err Sum else if wide then Err Wide else Ok (table_of_in t priority cut))
        → long ≡ true
    by_tests true wide h = refl
    by_tests false true h = absurd h
    by_tests false false h = absurd h

-- the cut at a place, whose layers are those that are kept there
pub record IsCutAt (kept : GroupTables) (priority : Priorities) (cuts : List Cut) (i : ℕ) (layers : List LayerSize)
    : Type 0 where
  pub cut : Cut
  pub rest : List Cut
  pub needs : AreOf kept.needs priority
  pub fit : IsFit priority cut
  pub is : layers ≡ sizes_of priority cut
  pub more : take (i + 1) cuts ≡ take i cuts ++ cut ∷ []
  pub whole : cuts ≡ take i cuts ++ cut ∷ rest
  pub at : length (take i cuts) ≡ i

layers_at : (priority : Priorities) (cuts : List Cut) (i : ℕ) (d : List LayerSize) (none : Cut) → i < length cuts
    → get_or (map (sizes_of priority) cuts) i d ≡ sizes_of priority (get_or cuts i none)
layers_at priority [] i d none lt = absurd (omega arith)
layers_at priority (cut ∷ cuts) zero d none lt = refl
layers_at priority (cut ∷ cuts) (suc i) d none lt = layers_at priority cuts i d none (omega (arith, lt))

pub cut_at : (kept : GroupTables) (priority : Priorities) (cuts : List Cut) (i : ℕ) (layers d : List LayerSize)
    → HasTables kept priority cuts → i < length kept.layers.items → layers ≡ get_or kept.layers.items i d
    → IsCutAt kept priority cuts i layers
cut_at kept priority cuts i layers d h lt is =
    let none : Cut = record { runs = []; lengths = [] } in
    let count : length kept.layers.items ≡ length cuts =
    ap length h.layers ∙ length-map cuts (sizes_of priority) in
    let within : i < length cuts = omega (arith, lt, count) in
    let more = take_more cuts i none within in
    record {
      cut = get_or cuts i none;
      rest = drop (i + 1) cuts;
      needs = h.needs;
      fit = h.fit i none within;
      is = is ∙ ap (λ l. get_or l i d) h.layers ∙ layers_at priority cuts i d none within;
      more = more;
      whole =
          sym (take-append-drop (i + 1) cuts) ∙ ap (λ l. l ++ drop (i + 1) cuts) more
          ∙ append_assoc (take i cuts) (get_or cuts i none ∷ []) (drop (i + 1) cuts);
      at = length-take-le i cuts (omega (arith, within));
    }

module _ (t : Format) (kept : GroupTables) (priority : Priorities) (cuts : List Cut) (i : ℕ) (layers : List LayerSize)
    (here : IsCutAt kept priority cuts i layers) (wide : Option ℕ) (tables : List Sizes)
    (stands : StandsAt t priority (take i cuts) wide tables) where
  -- it has a table
  pub stands_table : (table : Sizes) → Ok table ≡ made_of t priority here.cut
      → StandsAt t priority (take (i + 1) cuts) wide (tables ++ table ∷ [])
  stands_table table e =
      let made = made_table t priority here.cut table e in
      subst (λ cs. StandsAt t priority cs wide (tables ++ table ∷ [])) (sym here.more)
      (record {
        short = passed_over (is_long_in t priority) (take i cuts) here.cut [] stands.short made.0;
        first_wide = still wide stands.first_wide made.1;
        made = λ none.
            ap (λ l. l ++ table ∷ []) (stands.made none)
            ∙ ap (λ x. tables_of_in t priority (take i cuts) ++ x ∷ []) made.2
            ∙ sym (map-append (table_of_in t priority) (take i cuts) (here.cut ∷ []));
      })
    where
      still : (o : Option ℕ) → o ≡ position (is_wide_in t priority) (take i cuts)
          → is_wide_in t priority here.cut ≡ false
          → o ≡ position (is_wide_in t priority) (take i cuts ++ here.cut ∷ [])
      still None is narrow = sym (passed_over (is_wide_in t priority) (take i cuts) here.cut [] (sym is) narrow)
      still (Some n) is narrow = sym (found_before (is_wide_in t priority) (take i cuts) here.cut [] n (sym is))

  -- it is too wide
  pub stands_wide : (number : ℕ) → number ≡ i → Err Wide ≡ made_of t priority here.cut
      → StandsAt t priority (take (i + 1) cuts) (option_or wide (Some number)) tables
  stands_wide number is e =
      let made = made_wide t priority here.cut e in
      subst (λ cs. StandsAt t priority cs (option_or wide (Some number)) tables) (sym here.more)
      (by_wide wide stands.first_wide made.1 made.0)
    where
      by_wide : (o : Option ℕ) → o ≡ position (is_wide_in t priority) (take i cuts)
          → is_wide_in t priority here.cut ≡ true → is_long_in t priority here.cut ≡ false
          → StandsAt t priority (take i cuts ++ here.cut ∷ []) (option_or o (Some number)) tables
      by_wide None first here_wide short = record {
        short = passed_over (is_long_in t priority) (take i cuts) here.cut [] stands.short short;
        first_wide =
            sym (found_here (is_wide_in t priority) (take i cuts) here.cut [] number (is ∙ sym here.at) (sym first)
            here_wide);
        made = λ none. absurd (some_not_none number none);
      }
      by_wide (Some n) first here_wide short = record {
        short = passed_over (is_long_in t priority) (take i cuts) here.cut [] stands.short short;
        first_wide = sym (found_before (is_wide_in t priority) (take i cuts) here.cut [] n (sym first));
        made = λ none. absurd (some_not_none n none);
      }

  -- what was made of it is taken
  pub stands_more : (made : Result Sizes TableFault) (number : ℕ) (new_tables : List Sizes) (new_wide : Option ℕ)
      → number ≡ i → made ≡ made_of t priority here.cut → Takes made number tables wide new_tables new_wide
      → StandsAt t priority (take (i + 1) cuts) new_wide new_tables
  stands_more (Ok table) number new_tables new_wide is e taken =
      subst (λ xs. StandsAt t priority (take (i + 1) cuts) new_wide xs) (sym taken.0)
      (subst (λ o. StandsAt t priority (take (i + 1) cuts) o (tables ++ table ∷ [])) (sym taken.1) (stands_table table e))
  stands_more (Err Wide) number new_tables new_wide is e taken =
      subst (λ xs. StandsAt t priority (take (i + 1) cuts) new_wide xs) (sym taken.0)
      (subst (λ o. StandsAt t priority (take (i + 1) cuts) o tables) (sym taken.1) (stands_wide number is e))
  stands_more (Err Packets) number new_tables new_wide is e taken = absurd taken
  stands_more (Err Layers) number new_tables new_wide is e taken = absurd taken
  stands_more (Err Need) number new_tables new_wide is e taken = absurd taken
  stands_more (Err Sum) number new_tables new_wide is e taken = absurd taken

  -- it is too long
  pub stands_long : (made : Result Sizes TableFault) (number : ℕ) → number ≡ i → IsLongMade made
      → made ≡ made_of t priority here.cut → position (is_long_in t priority) cuts ≡ Some number
  stands_long made number is long e =
      ap (position (is_long_in t priority)) here.whole
      ∙ found_here (is_long_in t priority) (take i cuts) here.cut here.rest number (is ∙ sym here.at) stands.short
      (made_long t priority here.cut made long e)

-- a cause against the cuts: the first that is too long, or else the first that is too wide
pub long_refuses : (t : Format) (limit : ℕ) (priority : Priorities) (cuts : List Cut) (number : ℕ)
    → position (is_long_in t priority) cuts ≡ Some number
    → fault_of_cuts_in t limit priority cuts ≡ Some (ByteLong number)
long_refuses t limit priority cuts number e =
    ap (λ o. long_fault o (size_fault (position (is_wide_in t priority) cuts)
    (first_above limit 0 (map (group_cost_in t priority) cuts)))) e

pub wide_refuses : (t : Format) (limit : ℕ) (priority : Priorities) (cuts : List Cut) (number : ℕ)
    → position (is_long_in t priority) cuts ≡ None → position (is_wide_in t priority) cuts ≡ Some number
    → fault_of_cuts_in t limit priority cuts ≡ Some (TooWide number)
wide_refuses t limit priority cuts number short e =
    let costs = first_above limit 0 (map (group_cost_in t priority) cuts) in
    ap (λ o. long_fault o (size_fault (position (is_wide_in t priority) cuts) costs)) short
    ∙ ap (λ o. size_fault o costs) e

-- all cuts, where as many are kept
pub all_taken : (kept : GroupTables) (priority : Priorities) (cuts : List Cut) (i : ℕ) → HasTables kept priority cuts
    → length kept.layers.items ≤ i → take i cuts ≡ cuts
all_taken kept priority cuts i h le =
    let count : length kept.layers.items ≡ length cuts = ap length h.layers ∙ length-map cuts (sizes_of priority) in
    take_all i cuts (omega (arith, le, count))

pub few_kept : (kept : GroupTables) (priority : Priorities) (cuts : List Cut) → HasTables kept priority cuts
    → length kept.layers.items ≤ MAX_GROUPS
few_kept kept priority cuts h = omega (arith, ap length h.layers ∙ length-map cuts (sizes_of priority), h.few)
