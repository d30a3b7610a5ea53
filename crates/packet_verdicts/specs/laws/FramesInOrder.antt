-- The frames of a kept set in their order, by group, then number: a frame that is kept and is above all of them comes
-- after them.
use Rattle.std.specs.Prelude.{filter_map, unwrap_or, flat_map}
use Rattle.std.proofs.Common.{◌≡◌, ◌≢◌, ℕ, ◌+◌, ◌<◌, ◌≤◌, ◌⊎◌, cond, zero, suc, List, [], ◌∷◌, ◌++◌, All, length, set}
use Rattle.std.proofs.Common.{get_or, replicate, Option, None, Some, option_map, Ordering, Less, Equal, Greater, is_eq}
use Rattle.std.proofs.Common.{nat_cmp, refl, sym, ap, ◌∙◌, arith, inl, inr}
use Rattle.std.specs.Ordering.{match_ordering}
use Rattle.std.specs.Cmp.{nat_cmp_is}
use Rattle.std.specs.List.{range_with_len}
use Rattle.std.specs.BTreeMap.{is_at, insert_entry}
use Rattle.std.specs.Map.{lookup, keys_of}
use Rattle.std.specs.List.Sorted.{IsStrictlySortedBy}
use Rattle.std.proofs.lemmas.Option.{same_Some}
use Rattle.std.proofs.lemmas.List.{append-nil, append_assoc, get_or-set_other}
use Rattle.std.proofs.lemmas.Map.Keys.{sorted_tail}
use Rattle.std.proofs.lemmas.Map.Views.{All-keys-insert_entry}
use Rattle.std.proofs.lemmas.Map.Lookups.{exact_unsigned}
use Rattle.std.specs.List.{cons_option}
use Rattle.packet_frame.specs.Frame.{Fields, IsFrame}
use Rattle.packet_frame.specs.View.{fields_with}
use Rattle.packet_frame.specs.declared.frame.Header.{Header}
use Rattle.packet_set.specs.Packets.{Packets, slot_at, with_packet, no_packets}
use Rattle.packet_verdicts.specs.KeptSet.{KeptSet, IsKeptSet, open_group, group_with, header_of, keep, keep_by}
use Rattle.packet_verdicts.specs.Union.{frames_in_group, frames_in}
use Rattle.packet_verdicts.specs.laws.EntryLaws.{cmp_says_less}
use Rattle.packet_verdicts.specs.laws.KeptSetLaws.{IsKeepable, open_here, slot_inside, header_with, none_in}

-- ---- the frames of a group, slot by slot

-- the frames of these slots, the first of which is of the number `at`
abbrev pub frames_from : Header → ℕ → List (Option (List ℕ)) → List Fields
frames_from h at [] = []
frames_from h at (slot ∷ rest) = cons_option (option_map (fields_with h at) slot) (frames_from h (at + 1) rest)

along : (h : Header) (slot : ℕ → Option (List ℕ)) (at : ℕ) (rest : List (Option (List ℕ)))
    → ((i : ℕ) → slot (at + i) ≡ get_or rest i None)
    → filter_map (λ number. option_map (fields_with h number) (slot number)) (range_with_len at (length rest))
    ≡ frames_from h at rest
along h slot at [] same = refl
along h slot at (first ∷ rest) same =
    let here : at + 0 ≡ at = omega arith in
    let first_is : slot at ≡ first = ap slot (sym here) ∙ same 0 in
    let next : (i : ℕ) → (at + 1) + i ≡ at + suc i = λ i. omega arith in
    let later : filter_map (λ number. option_map (fields_with h number) (slot number))
    (range_with_len (at + 1) (length rest)) ≡ frames_from h (at + 1) rest =
    along h slot (at + 1) rest (λ i. ap slot (next i) ∙ same (suc i)) in
    ap (λ o. cons_option (option_map (fields_with h at) o)
    (filter_map (λ number. option_map (fields_with h number) (slot number)) (range_with_len (at + 1) (length rest))))
    first_is
    ∙ ap (cons_option (option_map (fields_with h at) first)) later

pub group_from : (p : Packets) → frames_in_group p ≡ frames_from p.header 0 p.slots
group_from p =
    let same : (i : ℕ) → 0 + i ≡ i = λ i. omega arith in
    along p.header (slot_at p) 0 p.slots (λ i. ap (slot_at p) (same i))

pub none_from_here : (h : Header) (at : ℕ) (slots : List (Option (List ℕ))) → ((i : ℕ) → get_or slots i None ≡ None)
    → frames_from h at slots ≡ []
none_from_here h at [] none = refl
none_from_here h at (slot ∷ rest) none =
    ap (λ o. cons_option (option_map (fields_with h at) o) (frames_from h (at + 1) rest)) (none 0)
    ∙ none_from_here h (at + 1) rest (λ i. none (suc i))

cons_append : (o : Option Fields) (xs ys : List Fields) → cons_option o (xs ++ ys) ≡ cons_option o xs ++ ys
cons_append None xs ys = refl
cons_append (Some x) xs ys = refl

from_set : (h : Header) (at : ℕ) (slots : List (Option (List ℕ))) (n : ℕ) (payload : List ℕ) → n < length slots
    → ((i : ℕ) → n ≤ i → get_or slots i None ≡ None)
    → frames_from h at (set slots n (Some payload)) ≡ frames_from h at slots ++ (fields_with h (at + n) payload ∷ [])
from_set h at [] n payload lt none = absurd (omega arith)
from_set h at (slot ∷ rest) zero payload lt none =
    let here : at ≡ at + 0 = omega arith in
    let no_more = none_from_here h (at + 1) rest (λ i. none (suc i) (omega arith)) in
    ap (λ t. fields_with h at payload ∷ t) no_more
    ∙ ap (λ k. fields_with h k payload ∷ []) here
    ∙ ap (λ t. t ++ (fields_with h (at + 0) payload ∷ [])) (sym no_more)
    ∙ ap (λ o. cons_option (option_map (fields_with h at) o) (frames_from h (at + 1) rest)
    ++ (fields_with h (at + 0) payload ∷ [])) (sym (none 0 (omega arith)))
from_set h at (slot ∷ rest) (suc n) payload lt none =
    let next : (at + 1) + n ≡ at + suc n = omega arith in
    ap (cons_option (option_map (fields_with h at) slot))
    (from_set h (at + 1) rest n payload (omega arith) (λ i le. none (suc i) (omega arith)))
    ∙ cons_append (option_map (fields_with h at) slot) (frames_from h (at + 1) rest)
    (fields_with h ((at + 1) + n) payload ∷ [])
    ∙ ap (λ k. cons_option (option_map (fields_with h at) slot) (frames_from h (at + 1) rest)
    ++ (fields_with h k payload ∷ [])) next

-- one packet more, whose number is above all that are kept of the group
pub group_more : (p : Packets) (n : ℕ) (payload : List ℕ) → n < length p.slots → ((i : ℕ) → n ≤ i → slot_at p i ≡ None)
    → frames_in_group (with_packet p n payload) ≡ frames_in_group p ++ (fields_with p.header n payload ∷ [])
group_more p n payload lt none =
    let same : 0 + n ≡ n = omega arith in
    group_from (with_packet p n payload) ∙ from_set p.header 0 p.slots n payload lt none
    ∙ ap (λ k. frames_from p.header 0 p.slots ++ (fields_with p.header k payload ∷ [])) same
    ∙ ap (λ t. t ++ (fields_with p.header n payload ∷ [])) (sym (group_from p))

-- ---- the frames of all groups

abbrev frames_of : List (ℕ × Packets) → List Fields
frames_of es = flat_map (λ e. frames_in_group e.1) es

abbrev frames_there : Option Packets → List Fields
frames_there None = []
frames_there (Some p) = frames_in_group p

head_of : (k : ℕ) (ks : List ℕ) (most : ℕ) → All (λ x. x ≤ most) (k ∷ ks) → k ≤ most
head_of k ks most all = all 0 k (omega arith)

tail_of : (k : ℕ) (ks : List ℕ) (most : ℕ) → All (λ x. x ≤ most) (k ∷ ks) → All (λ x. x ≤ most) ks
tail_of k ks most all = λ i d lt. all (suc i) d (omega arith)

-- no key is above the last
none_above : (k : ℕ) (es : List (ℕ × Packets)) → IsStrictlySortedBy nat_cmp (k ∷ keys_of es)
    → All (λ x. x ≤ k) (keys_of es) → es ≡ []
unfolding IsStrictlySortedBy
none_above k [] s all = refl
none_above k (e ∷ es) s all =
    let above = cmp_says_less k e.0 s.0.0 in let below = head_of e.0 (keys_of es) k all in absurd (omega arith)

insert_last : (es : List (ℕ × Packets)) (k : ℕ) (v : Packets) (f : Fields) → IsStrictlySortedBy nat_cmp (keys_of es)
    → All (λ x. x ≤ k) (keys_of es)
    → frames_in_group v ≡ frames_there (lookup (is_at (nat_cmp k)) es) ++ (f ∷ [])
    → frames_of (insert_entry nat_cmp es k v) ≡ frames_of es ++ (f ∷ [])
insert_last [] k v f s all is = append-nil (frames_in_group v) ∙ is
insert_last (e ∷ es) k v f s all is =
    by (λ there. insert_last es k v f (sorted_tail nat_cmp e.0 (keys_of es) s) (tail_of e.0 (keys_of es) k all) there)
    (nat_cmp k e.0) refl
  where
    by : (frames_in_group v ≡ frames_there (lookup (is_at (nat_cmp k)) es) ++ (f ∷ [])
        → frames_of (insert_entry nat_cmp es k v) ≡ frames_of es ++ (f ∷ [])) → (r : Ordering) → nat_cmp k e.0 ≡ r
        → frames_of (match_ordering r ((k, v) ∷ e ∷ es) ((e.0, v) ∷ es) (e ∷ insert_entry nat_cmp es k v))
        ≡ frames_of (e ∷ es) ++ (f ∷ [])
    by more Less p =
        let below = cmp_says_less k e.0 p in let above = head_of e.0 (keys_of es) k all in absurd (omega arith)
    by more Equal p =
        let same = exact_unsigned k e.0 p in
        let no_more : es
        ≡ [] =
        none_above e.0 es s (λ i d lt. let le = tail_of e.0 (keys_of es) k all i d lt in omega (arith, le, same)) in
        let here : frames_in_group v ≡ frames_in_group e.1 ++ (f ∷ []) =
        is ∙ ap (λ r. frames_there (cond (is_eq r) (Some e.1) (lookup (is_at (nat_cmp k)) es)) ++ (f ∷ [])) p in
        ap (λ t. frames_in_group v ++ frames_of t) no_more ∙ append-nil (frames_in_group v) ∙ here
        ∙ ap (λ t. t ++ (f ∷ [])) (sym (append-nil (frames_in_group e.1)))
        ∙ ap (λ t. (frames_in_group e.1 ++ frames_of t) ++ (f ∷ [])) (sym no_more)
    by more Greater p =
        let there : lookup (is_at (nat_cmp k)) (e ∷ es) ≡ lookup (is_at (nat_cmp k)) es =
        ap (λ r. cond (is_eq r) (Some e.1) (lookup (is_at (nat_cmp k)) es)) p in
        ap (λ t. frames_in_group e.1 ++ t) (more (is ∙ ap (λ o. frames_there o ++ (f ∷ [])) there))
        ∙ sym (append_assoc (frames_in_group e.1) (frames_of es) (f ∷ []))

-- the frame is above all that are kept: no group that is open is above its group, and of its group no packet is kept
-- from
-- its number on
pub record IsAbove (set : KeptSet) (f : Fields) : Type 0 where
  pub keys : All (λ k. k ≤ f.group) (keys_of set.groups)
  pub later : (p : Packets) → open_group set f.group ≡ Some p → (i : ℕ) → f.number ≤ i → slot_at p i ≡ None

-- one frame comes before another
abbrev pub ComesBefore : ℕ → ℕ → Fields → Type 0
ComesBefore group number g = (group < g.group) ⊎ ((group ≡ g.group) × (number < g.number))

-- every frame is above none
pub above_none : (session : List ℕ) (limit : ℕ) (f : Fields)
    → IsAbove (record { session = session; limit = limit; groups = [] }) f
above_none session limit f = record { keys = λ i d lt. absurd (omega arith); later = λ p e. absurd (cc) }

-- no key is as high
pub lookup_past : {X : Type 0} (es : List (ℕ × X)) (q : ℕ) → All (λ k. k < q) (keys_of es)
    → lookup (is_at (nat_cmp q)) es ≡ None
lookup_past [] q all = refl
lookup_past (e ∷ es) q all =
    let above : nat_cmp q e.0 ≡ Greater = sym (nat_cmp_is q e.0 Greater (all 0 q (omega arith))) in
    ap (λ r. cond (is_eq r) (Some e.1) (lookup (is_at (nat_cmp q)) es)) above
    ∙ lookup_past es q (λ i d lt. all (suc i) d (omega arith))

group_before : (group number : ℕ) (g : Fields) → ComesBefore group number g → group ≤ g.group
group_before group number g (inl lt) = omega (arith, lt)
group_before group number g (inr same) = omega (arith, same.0)

abbrev packets_there : KeptSet → Fields → Packets
packets_there set f = unwrap_or (open_group set f.group) (no_packets (header_of f))

later_by : (f : Fields) (o : Option Packets)
    → ((p : Packets) → o ≡ Some p → (i : ℕ) → f.number ≤ i → slot_at p i ≡ None) → (i : ℕ) → f.number ≤ i
    → slot_at (unwrap_or o (no_packets (header_of f))) i ≡ None
later_by f None later i le = none_in (List ℕ) f.packets i
later_by f (Some p) later i le = later p refl i le

no_frames : (f : Fields) (o : Option Packets)
    → frames_in_group (unwrap_or o (no_packets (header_of f))) ≡ frames_there o
no_frames f None =
    group_from (no_packets (header_of f))
    ∙ none_from_here (header_of f) 0 (replicate f.packets None) (none_in (List ℕ) f.packets)
no_frames f (Some p) = refl

module _ (set : KeptSet) (sound : IsKeptSet set) (f : Fields) (frame : IsFrame f) (k : IsKeepable set f)
    (above : IsAbove set f) where
  -- it comes after them
  pub frames_more : frames_in (keep set f) ≡ frames_in set ++ (f ∷ [])
  unfolding keep_by
  frames_more =
      let there = packets_there set f in
      let whole : fields_with there.header f.number f.payload ≡ f =
      ap (λ h. fields_with h f.number f.payload) (header_with set sound f frame k) in
      let more = group_more there f.number f.payload (slot_inside set sound f frame k)
      (later_by f (open_group set f.group) above.later) in
      insert_last set.groups f.group (group_with set f) f sound.rising above.keys
      (more ∙ ap (λ g. frames_in_group there ++ (g ∷ [])) whole
      ∙ ap (λ t. t ++ (f ∷ [])) (no_frames f (open_group set f.group)))

  keys_after : (most : ℕ) → f.group ≤ most → All (λ x. x ≤ most) (keys_of (keep set f).groups)
  unfolding keep_by
  keys_after most le =
      All-keys-insert_entry nat_cmp f.group (group_with set f) (λ x. x ≤ most) set.groups
      (λ i d lt. let at = above.keys i d lt in omega (arith, at, le)) le

  none_after : (i : ℕ) → f.number < i → slot_at (group_with set f) i ≡ None
  none_after i lt =
      let other : i ≢ f.number = λ same. omega (arith, lt, same) in
      get_or-set_other (packets_there set f).slots f.number i (Some f.payload) None other
      ∙ later_by f (open_group set f.group) above.later i (omega (arith, lt))

  none_later : (g : Fields) → ComesBefore f.group f.number g → (p : Packets) → open_group (keep set f) g.group ≡ Some p
      → (i : ℕ) → g.number ≤ i → slot_at p i ≡ None
  none_later g (inl lt) p opened i le =
      let no : None
      ≡ Some p =
      sym (lookup_past (keep set f).groups g.group
      (λ j d l. let at = keys_after f.group (omega arith) j d l in omega (arith, at, lt))) ∙ opened in
      absurd (cc)
  none_later g (inr same) p opened i le =
      let found : Some (group_with set f) ≡ Some p =
      sym (open_here set f) ∙ ap (open_group (keep set f)) same.0 ∙ opened in
      ap (λ q. slot_at q i) (sym (same_Some (group_with set f) p found)) ∙ none_after i (omega (arith, same.1, le))

  -- and a frame that comes after it is above all that are kept then
  pub above_keep : (g : Fields) → ComesBefore f.group f.number g → IsAbove (keep set f) g
  above_keep g before =
      record { keys = keys_after g.group (group_before f.group f.number g before); later = none_later g before }
