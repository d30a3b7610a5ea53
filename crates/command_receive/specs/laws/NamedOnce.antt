-- The layers that a layers text names are those that are shown, each once.
use Rattle.std.proofs.Common.{◌≡◌, ◌≢◌, ◌⊎◌, ℕ, zero, suc, ◌+◌, ◌<◌, ◌≤◌, Bool, true, false, cond, List, [], ◌∷◌, ◌++◌}
use Rattle.std.proofs.Common.{length, map, Option, None, Some, refl, sym, ap, subst, ◌∙◌, append_assoc, arith, inl, inr}
use Rattle.std.proofs.lemmas.Bool.{cases_lt, cases_eq}
use Rattle.std.specs.Prelude.{Contains, MatchOption, filter, unwrap_or, option_map}
use Rattle.std.specs.List.{range_with_len}
use Rattle.stripe_plan.specs.Counts.{longest_meeting}
use Rattle.stripe_plan.specs.Layers.{count_of, plan_stripes, words_before}
use Rattle.stripe_plan.specs.declared.layer.LayerSize.{LayerSize}
use Rattle.packet_frame.specs.Frame.{Fields}
use Rattle.packet_frame.specs.Refusals.{fields_of, first_fault}
use Rattle.packet_frame.specs.declared.frame.Header.{Header}
use Rattle.packet_frame.specs.laws.Laws.{reads_frames}
use Rattle.packet_set.specs.Packets.{Packets, count_in}
use Rattle.field_elements.specs.Field.{Coding}
use Rattle.pet_receive.specs.Arrivals.{Order, layers_of}
use Rattle.packet_verdicts.specs.KeptSet.{KeptSet, IsKeptSet, keep, keep_by, open_group, group_with, count_kept}
use Rattle.pet_receive.specs.ShownBytes.{IsShown, IsShownIn}
use Rattle.packet_verdicts.specs.Verdicts.{verdict_of, is_kept, newly_shown, after, after_in, after_all, after_all_in}
use Rattle.packet_verdicts.specs.laws.KeptSetLaws.{IsKeepable, keepable, open_here, open_other, header_with, count_with}
use Rattle.packet_verdicts.specs.laws.KeptSetLaws.{verdict_read, after_kept, after_other, after_sound, empty_sound}
use Rattle.packet_verdicts.specs.laws.LayerSetLaws.{filter_more, newly_shown-is}
use Rattle.packet_met.specs.Kept.{nothing_of, kept_of}
use Rattle.packet_met.specs.LayersText.{AreRecords, IsArrivalText, IsArrivalTextIn, IsLayersText, IsLayersTextIn}
use Rattle.packet_met.specs.LayersText.{order_after, record_text, shown_by}
use Rattle.packet_met.specs.Gf16 as G
use Rattle.field_elements.specs.Gf16.{gf16_coding}
use Rattle.pet_base.specs.declared.limits.TheConstants.{MAX_SESSION}
use Rattle.packet_met.specs.laws.KeptDatagram.{kept_frame}
use Rattle.command_receive.specs.NamedLayers.{Name, HasName, AreDistinct, IsTextOf, NamesShown}

-- names on end
named_left : (a b : List Name) (group layer : ℕ) → HasName a group layer → HasName (a ++ b) group layer
named_left [] b group layer has = absurd has
named_left (name ∷ a) b group layer (inl is) = inl is
named_left (name ∷ a) b group layer (inr has) = inr (named_left a b group layer has)

named_right : (a b : List Name) (group layer : ℕ) → HasName b group layer → HasName (a ++ b) group layer
named_right [] b group layer has = has
named_right (name ∷ a) b group layer has = inr (named_right a b group layer has)

named_cases : (a b : List Name) (group layer : ℕ) → HasName (a ++ b) group layer
    → HasName a group layer ⊎ HasName b group layer
named_cases [] b group layer has = inr has
named_cases (name ∷ a) b group layer (inl is) = inl (inl is)
named_cases (name ∷ a) b group layer (inr has) =
    elim (named_cases a b group layer has) [ inl l ↦ inl (inr l) | inr r ↦ inr r ]

distinct_append : (a b : List Name) → AreDistinct a → AreDistinct b
    → ((group layer : ℕ) → HasName a group layer → HasName b group layer → ⊥) → AreDistinct (a ++ b)
distinct_append [] b one two apart = two
distinct_append (name ∷ a) b one two apart = (
  λ has. elim (named_cases a b name.0 name.1 has) [ inl l ↦ one.0 l | inr r ↦ apart name.0 name.1 (inl (refl, refl)) r ],
  distinct_append a b one.1 two (λ group layer l r. apart group layer (inr l) r),
)

text_append : (a b : List Name) (front rest : List ℕ) → IsTextOf a front → IsTextOf b rest
    → IsTextOf (a ++ b) (front ++ rest)
text_append [] b front rest one two = subst (λ (f : List ℕ). IsTextOf b (f ++ rest)) (sym one) two
text_append (name ∷ a) b front rest one two =
    (one.0, one.1, one.2 ++ rest, ap (λ (t : List ℕ). t ++ rest) one.3 ∙ append_assoc (record_text one.0 name.0 name.1 one.1) one.2 rest, text_append a b one.2 rest one.4 two)

-- layers of one group
abbrev in_group : ℕ → List ℕ → List Name
in_group group layers = map (λ j. (group, j)) layers

in_append : (group : ℕ) (a b : List ℕ) → in_group group (a ++ b) ≡ in_group group a ++ in_group group b
in_append group [] b = refl
in_append group (j ∷ a) b = ap (λ (l : List Name). (group, j) ∷ l) (in_append group a b)

named_in : (own : ℕ) (layers : List ℕ) (group layer : ℕ) → own ≡ group → Contains layers layer
    → HasName (in_group own layers) group layer
named_in own [] group layer is (k, lt, at) = absurd (omega (arith, lt))
named_in own (j ∷ layers) group layer is (zero, lt, at) = inl (is, at)
named_in own (j ∷ layers) group layer is (suc k, lt, at) =
    inr (named_in own layers group layer is (k, omega (arith, lt), at))

in_named : (own : ℕ) (layers : List ℕ) (group layer : ℕ) → HasName (in_group own layers) group layer
    → (own ≡ group) × Contains layers layer
in_named own [] group layer has = absurd has
in_named own (j ∷ layers) group layer (inl is) = (is.0, (0, omega arith, is.1))
in_named own (j ∷ layers) group layer (inr has) =
    let more = in_named own layers group layer has in
    (more.0, (suc more.1.0, (let lt = more.1.1 in omega (arith, lt)), more.1.2))

-- the numbers below n that pass, as names
filter_ends : (p : ℕ → Bool) (n : ℕ)
    → filter p (range_with_len 0 (suc n)) ≡ filter p (range_with_len 0 n) ++ cond (p n) (n ∷ []) []
filter_ends p n =
    let s : suc n ≡ n + 1 = omega arith in ap (λ (k : ℕ). filter p (range_with_len 0 k)) s ∙ filter_more p n

names_end : (own : ℕ) (p : ℕ → Bool) (n : ℕ)
    → in_group own (filter p (range_with_len 0 (suc n)))
    ≡ in_group own (filter p (range_with_len 0 n)) ++ in_group own (cond (p n) (n ∷ []) [])
names_end own p n =
    ap (in_group own) (filter_ends p n) ∙ in_append own (filter p (range_with_len 0 n)) (cond (p n) (n ∷ []) [])

last_is : (own n : ℕ) (b : Bool) (group layer : ℕ) → HasName (in_group own (cond b (n ∷ []) [])) group layer → layer ≡ n
last_is own n true group layer (inl is) = sym is.1
last_is own n true group layer (inr has) = absurd has
last_is own n false group layer has = absurd has

below : (own : ℕ) (p : ℕ → Bool) (n : ℕ) (group layer : ℕ)
    → HasName (in_group own (filter p (range_with_len 0 n))) group layer → layer < n
below own p zero group layer has = absurd has
below own p (suc n) group layer has =
    elim (named_cases (in_group own (filter p (range_with_len 0 n)))
    (in_group own (cond (p n) (n ∷ []) [])) group layer
    (subst (λ (l : List Name). HasName l group layer) (names_end own p n) has)) [
      | inl l ↦ let lt = below own p n group layer l in omega (arith, lt)
      | inr r ↦ let is = last_is own n (p n) group layer r in omega (arith, is)
    ]

distinct_last : (own n : ℕ) (b : Bool) → AreDistinct (in_group own (cond b (n ∷ []) []))
distinct_last own n true = (λ has. has, tt)
distinct_last own n false = tt

distinct_filter : (own : ℕ) (p : ℕ → Bool) (n : ℕ) → AreDistinct (in_group own (filter p (range_with_len 0 n)))
distinct_filter own p zero = tt
distinct_filter own p (suc n) =
    subst AreDistinct (sym (names_end own p n))
    (distinct_append (in_group own (filter p (range_with_len 0 n))) (in_group own (cond (p n) (n ∷ []) []))
    (distinct_filter own p n) (distinct_last own n (p n))
    (λ group layer l r. let lt = below own p n group layer l in let is = last_is own n (p n) group layer r in
    absurd (omega (arith, lt, is))))

-- a count is at least one
some_met : (first last : ℕ) (stripes : List (ℕ × ℕ)) → 1 ≤ longest_meeting first last stripes
some_met first last [] = omega arith
some_met first last (stripe ∷ stripes) = let more = some_met first last stripes in omega (arith, more)

some_count : (layers : List LayerSize) (layer : ℕ) → 1 ≤ count_of layers layer
some_count layers layer = some_met (words_before layers layer) (words_before layers (layer + 1)) (plan_stripes layers)

-- whether a layer is shown
shown_or_not : (set : KeptSet) (group layer : ℕ) → IsShown set group layer ⊎ (IsShown set group layer → ⊥)
shown_or_not set group layer = by (open_group set group)
  where
    by : (o : Option Packets)
        → MatchOption o ⊥ (λ p. IsShownIn p layer) ⊎ (MatchOption o ⊥ (λ p. IsShownIn p layer) → ⊥)
    by None = inr (λ shown. shown)
    by (Some p) =
        elim (cases_lt layer (length (layers_of p))) [
          | inl l ↦
              elim (cases_lt (count_in p) (count_of (layers_of p) layer))
              [ inl few ↦ inr (λ shown. let s = shown.1 in absurd (omega (arith, few, s))) | inr enough ↦ inl (l, enough) ]
          | inr past ↦ inr (λ shown. let s = shown.0 in absurd (omega (arith, past, s)))
        ]

-- a layer of these layers, whose count so many packets reach
abbrev Reaches : List LayerSize → ℕ → ℕ → Type 0
Reaches layers layer packets = (layer < length layers) × (count_of layers layer ≤ packets)

reaches_as : (a b : List LayerSize) (layer m n : ℕ) → a ≡ b → m ≡ n → Reaches a layer m → Reaches b layer n
reaches_as a b layer m n same count reaches =
    subst (λ (l : List LayerSize). Reaches l layer n) same (subst (λ (k : ℕ). Reaches a layer k) count reaches)

-- what a frame that is kept shows of its group, and of the others
module _ (set : KeptSet) (d : List ℕ) (sound : IsKeptSet set) (kept : is_kept (verdict_of set d) ≡ true) where
  abbrev f : Fields
  f = fields_of d

  whole : first_fault d ≡ None
  whole = kept_frame set d kept

  able : IsKeepable set f
  able = keepable set f (ap is_kept (sym (verdict_read set d whole)) ∙ kept)

  opened : open_group (after set d) f.group ≡ Some (group_with set f)
  opened = ap (λ (x : KeptSet). open_group x f.group) (after_kept set d kept) ∙ open_here set f

  other : (group : ℕ) → group ≢ f.group → open_group (after set d) group ≡ open_group set group
  other group apart = ap (λ (x : KeptSet). open_group x group) (after_kept set d kept) ∙ open_other set f group apart

  layers_are : layers_of (group_with set f) ≡ f.layers
  layers_are = ap (λ (h : Header). h.table.layers) (header_with set sound f (reads_frames d whole) able)

  count_is : count_in (group_with set f) ≡ count_kept set f.group + 1
  count_is = count_with set sound f (reads_frames d whole) able

  -- of the frame's group, before
  reached_before : (layer : ℕ) → IsShown set f.group layer → Reaches f.layers layer (count_kept set f.group)
  reached_before layer = by (open_group set f.group) refl
    where
      by : (o : Option Packets) → open_group set f.group ≡ o → MatchOption o ⊥ (λ p. IsShownIn p layer)
          → Reaches f.layers layer (unwrap_or (option_map count_in o) 0)
      by None is shown = absurd shown
      by (Some q) is shown =
          reaches_as (layers_of q) f.layers layer (count_in q) (count_in q)
          (ap (λ t. t.layers) (able.table q is)) refl shown

  before_reached : (layer : ℕ) → Reaches f.layers layer (count_kept set f.group) → IsShown set f.group layer
  before_reached layer = by (open_group set f.group) refl
    where
      by : (o : Option Packets) → open_group set f.group ≡ o
          → Reaches f.layers layer (unwrap_or (option_map count_in o) 0) → MatchOption o ⊥ (λ p. IsShownIn p layer)
      by None is reaches = let r = reaches.1 in absurd (omega (arith, r, some_count f.layers layer))
      by (Some q) is reaches =
          reaches_as f.layers (layers_of q) layer (count_in q) (count_in q)
          (sym (ap (λ t. t.layers) (able.table q is))) refl reaches

  -- and after
  reached_after : (layer : ℕ) → IsShown (after set d) f.group layer
      → Reaches f.layers layer (count_kept set f.group + 1)
  reached_after layer shown =
      reaches_as (layers_of (group_with set f)) f.layers layer (count_in (group_with set f))
      (count_kept set f.group + 1) layers_are count_is
      (subst (λ (o : Option Packets). MatchOption o ⊥ (λ p. IsShownIn p layer)) opened shown)

  after_reached : (layer : ℕ) → Reaches f.layers layer (count_kept set f.group + 1)
      → IsShown (after set d) f.group layer
  after_reached layer reaches =
      subst (λ (o : Option Packets). MatchOption o ⊥ (λ p. IsShownIn p layer)) (sym opened)
      (reaches_as f.layers (layers_of (group_with set f)) layer (count_kept set f.group + 1)
      (count_in (group_with set f)) (sym layers_are) (sym count_is) reaches)

  -- what was shown is shown still
  kept_stays : (group layer : ℕ) → IsShown set group layer → IsShown (after set d) group layer
  kept_stays group layer shown =
      elim (cases_eq group f.group) [
        | inl here ↦
            let r = reached_before layer (subst (λ (g : ℕ). IsShown set g layer) here shown) in
            subst (λ (g : ℕ). IsShown (after set d) g layer) (sym here)
            (after_reached layer (r.0, (let s = r.1 in omega (arith, s))))
        | inr apart ↦ subst (λ (o : Option Packets). MatchOption o ⊥ (λ p. IsShownIn p layer))
            (sym (other group apart)) shown
      ]

  abbrev news : List ℕ
  news = newly_shown set f

  -- the layers that it names are those that it newly shows
  named_new : (group layer : ℕ) → HasName (in_group f.group news) group layer
      → IsShown (after set d) group layer × (IsShown set group layer → ⊥)
  named_new group layer has =
      let at = in_named f.group news group layer has in
      let new = (newly_shown-is f.layers (count_kept set f.group) (count_kept set f.group + 1) layer).0 at.1 in (
        subst (λ (g : ℕ). IsShown (after set d) g layer) at.0 (after_reached layer (new.layer, new.reached)),
        λ shown. let r =
            (reached_before layer (subst (λ (g : ℕ). IsShown set g layer) (sym at.0) shown)).1 in let a =
            new.above in absurd (omega (arith, r, a)),
      )

  new_named : (group layer : ℕ) → IsShown (after set d) group layer → (IsShown set group layer → ⊥)
      → HasName (in_group f.group news) group layer
  new_named group layer shown hidden =
      elim (cases_eq group f.group) [
        | inl here ↦
            let r = reached_after layer (subst (λ (g : ℕ). IsShown (after set d) g layer) here shown) in
            elim (cases_lt (count_kept set f.group) (count_of f.layers layer)) [
              | inl above ↦
                  named_in f.group news group layer (sym here)
                  ((newly_shown-is f.layers (count_kept set f.group) (count_kept set f.group + 1) layer).1
                  (record { layer = r.0; above = above; reached = r.1 }))
              | inr enough ↦ absurd
                  (hidden (subst (λ (g : ℕ). IsShown set g layer) (sym here) (before_reached layer (r.0, enough))))
            ]
        | inr apart ↦ absurd
            (hidden (subst (λ (o : Option Packets). MatchOption o ⊥ (λ p. IsShownIn p layer))
            (other group apart) shown))
      ]

-- what a text names of what is shown in the end, and was not at first
record NamesMore (set last : KeptSet) (text : List ℕ) : Type 0 where
  names : List Name
  text_of : IsTextOf names text
  once : AreDistinct names
  new : (group layer : ℕ) → HasName names group layer → IsShown last group layer × (IsShown set group layer → ⊥)
  all : (group layer : ℕ) → IsShown last group layer → (IsShown set group layer → ⊥) → HasName names group layer

module _ {E : Type 0} (P : E → Type 0) (c : Coding E) where
  records_name : (arrival group : ℕ) (p : Packets) (numbers layers text : List ℕ)
      → AreRecords P c arrival group p numbers layers text → IsTextOf (in_group group layers) text
  records_name arrival group p numbers [] text are = are
  records_name arrival group p numbers (layer ∷ layers) text are =
      (arrival, are.0, are.1, are.2, records_name arrival group p numbers layers are.1 are.4)

  -- one datagram
  names_one : (b : Bool) (set : KeptSet) (order : Order) (arrival : ℕ) (d text : List ℕ) → IsKeptSet set
      → is_kept (verdict_of set d) ≡ b → IsArrivalText P c set order arrival d text → NamesMore set (after set d) text
  unfolding IsArrivalTextIn
  names_one true set order arrival d text sound kept is =
      let shown : shown_by set d ≡ newly_shown set (fields_of d) =
      ap (λ (b : Bool). cond b (newly_shown set (fields_of d)) []) kept in
      record {
        names = in_group (fields_of d).group (newly_shown set (fields_of d));
        text_of =
            subst (λ (l : List ℕ). IsTextOf (in_group (fields_of d).group l) text) shown
            (records_name arrival (fields_of d).group _ _ (shown_by set d) text is);
        once = distinct_filter (fields_of d).group _ (length (fields_of d).layers);
        new = named_new set d sound kept;
        all = new_named set d sound kept;
      }
  names_one false set order arrival d text sound out is =
      let none : shown_by set d ≡ [] = ap (λ (b : Bool). cond b (newly_shown set (fields_of d)) []) out in
      let same : after set d ≡ set = after_other set d out in
      record {
        names = [];
        text_of =
            subst (λ (l : List ℕ). IsTextOf (in_group (fields_of d).group l) text) none
            (records_name arrival (fields_of d).group _ _ (shown_by set d) text is);
        once = tt;
        new = λ group layer has. absurd has;
        all = λ group layer shown hidden. absurd (hidden (subst (λ (x : KeptSet). IsShown x group layer) same shown));
      }

  stays : (b : Bool) (set : KeptSet) (d : List ℕ) (group layer : ℕ) → IsKeptSet set → is_kept (verdict_of set d) ≡ b
      → IsShown set group layer → IsShown (after set d) group layer
  stays true set d group layer sound kept shown = kept_stays set d sound kept group layer shown
  stays false set d group layer sound out shown =
      subst (λ (x : KeptSet). IsShown x group layer) (sym (after_other set d out)) shown

  stays_all : (read : List (List ℕ)) (set : KeptSet) (group layer : ℕ) → IsKeptSet set → IsShown set group layer
      → IsShown (after_all set read) group layer
  unfolding after_all_in
  stays_all [] set group layer sound shown = shown
  stays_all (d ∷ read) set group layer sound shown =
      stays_all read (after set d) group layer (after_sound set d sound (reads_frames d))
      (stays (is_kept (verdict_of set d)) set d group layer sound refl shown)

  -- all of them
  names_all : (read : List (List ℕ)) (set : KeptSet) (order : Order) (arrival : ℕ) (text : List ℕ) → IsKeptSet set
      → IsLayersText P c set order arrival read text → NamesMore set (after_all set read) text
  unfolding IsLayersTextIn after_all_in
  names_all [] set order arrival text sound is = record {
    names = [];
    text_of = is;
    once = tt;
    new = λ group layer has. absurd has;
    all = λ group layer shown hidden. absurd (hidden shown);
  }
  names_all (d ∷ read) set order arrival text sound is =
      let next = after set d in
      let sound_next : IsKeptSet next = after_sound set d sound (reads_frames d) in
      let one = names_one (is_kept (verdict_of set d)) set order arrival d is.0 sound refl is.3 in
      let more = names_all read next (order_after set order d) (arrival + 1) is.1 sound_next is.4 in
      record {
        names = one.names ++ more.names;
        text_of =
            subst (IsTextOf (one.names ++ more.names)) (sym is.2)
            (text_append one.names more.names is.0 is.1 one.text_of more.text_of);
        once =
            distinct_append one.names more.names one.once more.once
            (λ group layer l r. (more.new group layer r).1 (one.new group layer l).0);
        new =
            λ group layer has.
            elim (named_cases one.names more.names group layer has) [
              | inl l ↦ (stays_all read next group layer sound_next (one.new group layer l).0, (one.new group layer l).1)
              | inr r ↦ ((more.new group layer r).0, λ shown. (more.new group layer r).1 (stays (is_kept (verdict_of set d)) set d group layer sound refl shown))
            ];
        all =
            λ group layer shown hidden.
            elim (shown_or_not next group layer) [
              | inl now ↦ named_left one.names more.names group layer (one.all group layer now hidden)
              | inr later ↦ named_right one.names more.names group layer (more.all group layer shown later)
            ];
      }

-- what is kept is a kept set
sound_all : (read : List (List ℕ)) (set : KeptSet) → IsKeptSet set → IsKeptSet (after_all set read)
unfolding after_all_in
sound_all [] set sound = sound
sound_all (d ∷ read) set sound = sound_all read (after set d) (after_sound set d sound (reads_frames d))

pub kept_sound : (session : List ℕ) (read : List (List ℕ)) → IsKeptSet (kept_of session read)
kept_sound session read = sound_all read (nothing_of session) (empty_sound session MAX_SESSION)

-- and it is of the session
session_after : (set : KeptSet) (d : List ℕ) → (after set d).session ≡ set.session
unfolding after_in keep_by
session_after set d = by (is_kept (verdict_of set d))
  where
    by : (b : Bool) → (cond b (keep set (fields_of d)) set).session ≡ set.session
    by true = refl
    by false = refl

session_all : (read : List (List ℕ)) (set : KeptSet) → (after_all set read).session ≡ set.session
unfolding after_all_in
session_all [] set = refl
session_all (d ∷ read) set = session_all read (after set d) ∙ session_after set d

pub kept_session : (session : List ℕ) (read : List (List ℕ)) → (kept_of session read).session ≡ session
kept_session session read = session_all read (nothing_of session)

-- the text of a session's datagrams, from the first on
pub names_shown : (session : List ℕ) (read : List (List ℕ)) (text : List ℕ)
    → G.IsLayersText (nothing_of session) [] 1 read text → NamesShown (kept_of session read) text
names_shown session read text is =
    let named = names_all (λ a. a < 65536) gf16_coding read (nothing_of session) [] 1 text
    (empty_sound session MAX_SESSION) is in
    record {
      names = named.names;
      text_of = named.text_of;
      once = named.once;
      exactly = λ group layer.
          (λ has. (named.new group layer has).0, λ shown. named.all group layer shown (λ none. none));
    }
