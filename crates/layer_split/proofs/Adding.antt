-- A splitter that was given one piece more, and one at its end.
use Rattle.std.proofs.Common.{◌≡◌, ℕ, zero, suc, ◌+◌, ◌<◌, ◌≤◌, Bool, true, false, List, [], ◌∷◌, ◌++◌, length, take}
use Rattle.std.proofs.Common.{Some, None, refl, sym, ◌∙◌, ap, subst, arith, inl, inr, ◌||◌, ◌&&◌, append_assoc}
use Rattle.std.proofs.Common.{length-append}
use Rattle.std.specs.Prelude.{◌==◌, All, nat_lt}
use Rattle.std.specs.List.{list_any, position_from}
use Rattle.std.proofs.lemmas.Iterator.Adapters.{position_from-zero}
use Rattle.std.proofs.lemmas.List.{append-nil, map-append}
use Rattle.std.proofs.lemmas.List.Elements.{All-append, All-cons, All-nil}
use Rattle.std.proofs.lemmas.Bool.{and_parts, or_cases, ne_eqb, eqb-true, cond-true, cond-false, lt-ltb, le-ltb}
use Rattle.std.proofs.lemmas.Bool.{cases_Bool}
use Rattle.pet_base.specs.declared.kind.Kind.{Kind}
use Rattle.pet_base.specs.declared.limits.TheConstants.{MAX_GROUPS}
use Rattle.mpeg_scan.specs.declared.piece.Piece.{Piece}
use Rattle.priority_file.specs.Priority.{Priorities, layer_of}
use Rattle.layer_split.specs.declared.fault.SplitFault.TheVariants.{TooManyGroups, GroupTooLong}
use Rattle.layer_split.specs.declared.splitter.Splitter.{Splitter}
use Rattle.layer_split.specs.Groups.{groups_of, is_picture, is_group_head, begins_group, last_group}
use Rattle.layer_split.specs.Layers.{Cut, cut_of}
use Rattle.layer_split.specs.Faults.{is_too_long, fault_of, fault_by}
use Rattle.layer_split.specs.Splitting.{HasAdded, IsOneTooMany, AreOf, Holds, groups_after, cuts_of}
use Rattle.layer_split.specs.laws.EndedLaws.{none_begins, groups_begin, some_group, after_nil, all_groups, last_now}

-- the first that is too long
from_some : {X : Type 0} (p : X → Bool) (i k : ℕ) (xs : List X) (x : X) (ys : List X) → All (λ y. p y ≡ false) xs
    → p x ≡ true → length xs < k → position_from p i (take k (xs ++ x ∷ ys)) ≡ Some (i + length xs)
from_some p i zero xs x ys none is lt = absurd (omega arith)
from_some p i (suc k) [] x ys none is lt =
    cond-true (p x) (Some i) (position_from p (i + 1) (take k ys)) is ∙ ap Some (let e : i ≡ i + 0 = omega arith in e)
from_some p i (suc k) (y ∷ xs) x ys none is lt =
    let later : i + 1 + length xs ≡ i + suc (length xs) = omega arith in
    cond-false (p y) (Some i) (position_from p (i + 1) (take k (xs ++ x ∷ ys))) (none 0 y (omega arith))
    ∙ (from_some p (i + 1) k xs x ys (λ j d l. none (suc j) d (omega arith)) is (omega arith) ∙ ap Some later)

from_none : {X : Type 0} (p : X → Bool) (i k : ℕ) (xs : List X) → All (λ y. p y ≡ false) xs
    → position_from p i (take k xs) ≡ None
from_none p i zero xs none = refl
from_none p i (suc k) [] none = refl
from_none p i (suc k) (y ∷ xs) none =
    cond-false (p y) (Some i) (position_from p (i + 1) (take k xs)) (none 0 y (omega arith))
    ∙ from_none p (i + 1) k xs (λ j d l. none (suc j) d (omega arith))

from_full : {X : Type 0} (p : X → Bool) (i k : ℕ) (xs ys : List X) → All (λ y. p y ≡ false) xs → length xs ≡ k
    → position_from p i (take k (xs ++ ys)) ≡ None
from_full p i zero xs ys none e = refl
from_full p i (suc k) [] ys none e = absurd (omega arith)
from_full p i (suc k) (y ∷ xs) ys none e =
    cond-false (p y) (Some i) (position_from p (i + 1) (take k (xs ++ ys))) (none 0 y (omega arith))
    ∙ from_full p (i + 1) k xs ys (λ j d l. none (suc j) d (omega arith)) (omega arith)

-- the faults of groups
long_fault : (lo : Kind → ℕ → ℕ) (n : ℕ) (gone : List (List Piece)) (group : List Piece) (later : List (List Piece))
    → All (λ g. is_too_long lo n g ≡ false) gone → is_too_long lo n group ≡ true → length gone < MAX_GROUPS
    → fault_of lo n (gone ++ group ∷ later) ≡ Some (GroupTooLong (length gone))
long_fault lo n gone group later fit long few =
    ap (λ o. fault_by o (length (gone ++ group ∷ later)))
    (position_from-zero (is_too_long lo n) (take MAX_GROUPS (gone ++ group ∷ later))
    ∙ from_some (is_too_long lo n) 0 MAX_GROUPS gone group later fit long few)
    ∙ ap (λ k. Some (GroupTooLong k)) (let e : 0 + length gone ≡ length gone = omega arith in e)

many_fault : (lo : Kind → ℕ → ℕ) (n : ℕ) (gone : List (List Piece)) (next : List Piece) (later : List (List Piece))
    → All (λ g. is_too_long lo n g ≡ false) gone → length gone ≡ MAX_GROUPS
    → fault_of lo n (gone ++ next ∷ later) ≡ Some TooManyGroups
many_fault lo n gone next later fit e =
    ap (λ o. fault_by o (length (gone ++ next ∷ later)))
    (position_from-zero (is_too_long lo n) (take MAX_GROUPS (gone ++ next ∷ later))
    ∙ from_full (is_too_long lo n) 0 MAX_GROUPS gone (next ∷ later) fit e)
    ∙ cond-true (nat_lt MAX_GROUPS (length (gone ++ next ∷ later))) (Some TooManyGroups) None
    (lt-ltb MAX_GROUPS (length (gone ++ next ∷ later))
    (let l : length (gone ++ next ∷ later) ≡ length gone + suc (length later) = length-append gone (next ∷ later) in
    omega arith))

end_fault : (lo : Kind → ℕ → ℕ) (n : ℕ) (groups : List (List Piece)) → All (λ g. is_too_long lo n g ≡ false) groups
    → length groups ≤ MAX_GROUPS → fault_of lo n groups ≡ None
end_fault lo n groups fit few =
    ap (λ o. fault_by o (length groups)) (position_from-zero (is_too_long lo n) (take MAX_GROUPS groups)
    ∙ from_none (is_too_long lo n) 0 MAX_GROUPS groups fit)
    ∙ cond-false (nat_lt MAX_GROUPS (length groups)) (Some TooManyGroups) None (le-ltb MAX_GROUPS (length groups) few)

-- the groups with one piece more
push_not_nil : (xs : List Piece) (x : Piece) → xs ++ x ∷ [] ≡ [] → ⊥
push_not_nil [] x e = cc
push_not_nil (y ∷ ys) x e = cc

one_not_nil : (x : Piece) → x ∷ [] ≡ [] → ⊥
one_not_nil x e = cc

no_picture : (p : Piece) → is_group_head p ≡ true → list_any is_picture (p ∷ []) ≡ false
no_picture p h = ap (λ b. b || false) (ne_eqb p.code 0 (λ zero. elim (or_cases (p.code == 0xB3) _ h) [
  | inl e ↦ (let k = eqb-true p.code 0xB3 e in omega arith)
  | inr e ↦ (let k = eqb-true p.code 0xB8 e in omega arith)
]))

picture_push : (ps : List Piece) (p : Piece)
    → list_any is_picture (ps ++ p ∷ []) ≡ (list_any is_picture ps || is_picture p)
picture_push [] p =
    elim (cases_Bool (is_picture p)) [ inl e ↦ ap (λ b. b || false) e ∙ sym e | inr e ↦ ap (λ b. b || false) e ∙ sym e ]
picture_push (q ∷ ps) p = elim (cases_Bool (is_picture q)) [
  | inl e ↦ ap (λ b. b || list_any is_picture (ps ++ p ∷ [])) e
      ∙ sym (ap (λ b. (b || list_any is_picture ps) || is_picture p) e)
  | inr e ↦ ap (λ b. b || list_any is_picture (ps ++ p ∷ [])) e
      ∙ (picture_push ps p ∙ sym (ap (λ b. (b || list_any is_picture ps) || is_picture p) e))
]

piece_joins : (current : List Piece) (p : Piece) (later : List Piece) → begins_group current p ≡ false
    → groups_after current (p ∷ later) ≡ groups_after (current ++ p ∷ []) later
piece_joins [] p later e = refl
piece_joins (c ∷ cs) p later e = cond-false (begins_group (c ∷ cs) p) _ _ e

ends : (splitter : Splitter) (priority : Priorities) (pieces : List Piece) (cuts : List Cut)
    (h : HasAdded splitter priority pieces cuts) → (h.current ≡ [] → ⊥) → groups_of pieces ≡ h.gone ++ h.current ∷ []
ends splitter priority pieces cuts h some =
    all_groups splitter priority pieces cuts h ∙ ap (λ l. h.gone ++ l) (after_nil h.current some)

begins_now : (splitter : Splitter) (priority : Priorities) (pieces : List Piece) (cuts : List Cut) (p : Piece)
    (b : Bool) (h : HasAdded splitter priority pieces cuts) → (is_group_head p && splitter.has_picture) ≡ b
    → begins_group h.current p ≡ b
begins_now splitter priority pieces cuts p b h e = ap (λ k. is_group_head p && k) (sym h.picture) ∙ e

pub begins_last : (splitter : Splitter) (priority : Priorities) (pieces : List Piece) (cuts : List Cut) (p : Piece)
    (b : Bool) → HasAdded splitter priority pieces cuts → (is_group_head p && splitter.has_picture) ≡ b
    → b ≡ begins_group (last_group pieces) p
begins_last splitter priority pieces cuts p b h e =
    sym (ap (λ group. begins_group group p) (last_now splitter priority pieces cuts h)
    ∙ begins_now splitter priority pieces cuts p b h e)

-- the piece goes to the current group
pub added_stays : (old new : Splitter) (priority : Priorities) (pieces : List Piece) (cuts : List Cut) (p : Piece)
    (h : HasAdded old priority pieces cuts) → (is_group_head p && old.has_picture) ≡ false → new.layers ≡ old.layers
    → new.group ≡ old.group → new.refused ≡ old.refused → new.has_picture ≡ (old.has_picture || p.code == 0)
    → Holds new (layer_of priority) (h.current ++ p ∷ []) → HasAdded new priority (pieces ++ p ∷ []) (cuts ++ [])
added_stays old new priority pieces cuts p h begins layers group refused seen held =
    let b = begins_now old priority pieces cuts p false h begins in
    record {
      live = refused ∙ h.live;
      layers = subst (λ l. AreOf l priority) (sym layers) h.layers;
      gone = h.gone;
      current = h.current ++ p ∷ [];
      groups = λ later.
          ap groups_of (append_assoc pieces (p ∷ []) later)
          ∙ (h.groups (p ∷ later) ∙ ap (λ l. h.gone ++ l) (piece_joins h.current p later b));
      fresh = λ e. absurd (push_not_nil h.current p e);
      cut = append-nil cuts ∙ h.cut;
      fit = h.fit;
      number = group ∙ h.number;
      few = h.few;
      picture = seen ∙ (ap (λ k. k || p.code == 0) h.picture ∙ sym (picture_push h.current p));
      held = held;
    }

-- the piece begins another group
pub added_begins : (old new : Splitter) (priority : Priorities) (pieces : List Piece) (cuts : List Cut) (p : Piece)
    (cut : Cut) (h : HasAdded old priority pieces cuts) → (is_group_head p && old.has_picture) ≡ true
    → cut ≡ cut_of (layer_of priority) (length priority.layers) h.current
    → is_too_long (layer_of priority) (length priority.layers) h.current ≡ false → old.group + 1 < MAX_GROUPS
    → new.layers ≡ old.layers → new.group ≡ old.group + 1 → new.refused ≡ old.refused → new.has_picture ≡ false
    → Holds new (layer_of priority) (p ∷ []) → HasAdded new priority (pieces ++ p ∷ []) (cuts ++ cut ∷ [])
added_begins old new priority pieces cuts p cut h begins is short room layers group refused seen held =
    let b = begins_now old priority pieces cuts p true h begins in
    let lo : Kind → ℕ → ℕ = layer_of priority in
    let n : ℕ = length priority.layers in
    let count : length (h.gone ++ h.current ∷ []) ≡ length h.gone + 1 = length-append h.gone (h.current ∷ []) in
    let number = h.number in
    record {
      live = refused ∙ h.live;
      layers = subst (λ l. AreOf l priority) (sym layers) h.layers;
      gone = h.gone ++ h.current ∷ [];
      current = p ∷ [];
      groups = λ later.
          ap groups_of (append_assoc pieces (p ∷ []) later)
          ∙ (h.groups (p ∷ later)
          ∙ (ap (λ l. h.gone ++ l) (groups_begin h.current p later b)
          ∙ sym (append_assoc h.gone (h.current ∷ []) (groups_after (p ∷ []) later))));
      fresh = λ e. absurd (one_not_nil p e);
      cut =
          ap (λ l. l ++ cut ∷ []) h.cut
          ∙ (ap (λ c. cuts_of priority h.gone ++ c ∷ []) is ∙ sym (map-append (cut_of lo n) h.gone (h.current ∷ [])));
      fit =
          All-append (λ g. is_too_long lo n g ≡ false) h.gone (h.current ∷ []) h.fit
          (All-cons (λ g. is_too_long lo n g ≡ false) h.current [] short (All-nil (λ g. is_too_long lo n g ≡ false)));
      number = omega arith;
      few = omega arith;
      picture = seen ∙ sym (no_picture p (and_parts (is_group_head p) _ begins).0);
      held = held;
    }

-- the group before the piece is too long, or the piece would begin one too many
pub refuses_long : (old : Splitter) (priority : Priorities) (pieces : List Piece) (cuts : List Cut) (p : Piece)
    (h : HasAdded old priority pieces cuts) → (is_group_head p && old.has_picture) ≡ true
    → is_too_long (layer_of priority) (length priority.layers) h.current ≡ true → (later : List Piece)
    → fault_of (layer_of priority) (length priority.layers) (groups_of (pieces ++ p ∷ later))
    ≡ Some (GroupTooLong old.group)
refuses_long old priority pieces cuts p h begins long later =
    ap (fault_of (layer_of priority) (length priority.layers))
    (h.groups (p ∷ later)
    ∙ ap (λ l. h.gone ++ l) (groups_begin h.current p later (begins_now old priority pieces cuts p true h begins)))
    ∙ (long_fault (layer_of priority) (length priority.layers) h.gone h.current
    (groups_after (p ∷ []) later) h.fit long h.few
    ∙ ap (λ k. Some (GroupTooLong k)) (sym h.number))

pub refuses_many : (old : Splitter) (priority : Priorities) (pieces : List Piece) (cuts : List Cut) (p : Piece)
    (h : HasAdded old priority pieces cuts) → (is_group_head p && old.has_picture) ≡ true
    → is_too_long (layer_of priority) (length priority.layers) h.current ≡ false → MAX_GROUPS ≤ old.group + 1
    → (later : List Piece)
    → fault_of (layer_of priority) (length priority.layers) (groups_of (pieces ++ p ∷ later)) ≡ Some TooManyGroups
refuses_many old priority pieces cuts p h begins short full later =
    let lo : Kind → ℕ → ℕ = layer_of priority in
    let n : ℕ = length priority.layers in
    let next = some_group (p ∷ []) later in
    let count : length (h.gone ++ h.current ∷ []) ≡ length h.gone + 1 = length-append h.gone (h.current ∷ []) in
    let number = h.number in
    let few = h.few in
    ap (fault_of lo n) (h.groups (p ∷ later)
    ∙ (ap (λ l. h.gone ++ l) (groups_begin h.current p later (begins_now old priority pieces cuts p true h begins))
    ∙ (sym (append_assoc h.gone (h.current ∷ []) (groups_after (p ∷ []) later))
    ∙ ap (λ l. (h.gone ++ h.current ∷ []) ++ l) next.2)))
    ∙ many_fault lo n (h.gone ++ h.current ∷ []) next.0 next.1
    (All-append (λ g. is_too_long lo n g ≡ false) h.gone (h.current ∷ []) h.fit
    (All-cons (λ g. is_too_long lo n g ≡ false) h.current [] short (All-nil (λ g. is_too_long lo n g ≡ false))))
    (omega arith)

-- this piece decides it: the group before it is too long, or the last of those that may be
pub last_too_long : (old : Splitter) (priority : Priorities) (pieces : List Piece) (cuts : List Cut) (p : Piece)
    (h : HasAdded old priority pieces cuts) → (is_group_head p && old.has_picture) ≡ true
    → is_too_long (layer_of priority) (length priority.layers) h.current ≡ true → IsOneTooMany priority pieces p
last_too_long old priority pieces cuts p h begins long = record {
  begins = sym (begins_last old priority pieces cuts p true h begins);
  last =
      inl (ap (is_too_long (layer_of priority) (length priority.layers)) (last_now old priority pieces cuts h) ∙ long);
}

pub last_allowed : (old : Splitter) (priority : Priorities) (pieces : List Piece) (cuts : List Cut) (p : Piece)
    (h : HasAdded old priority pieces cuts) → (is_group_head p && old.has_picture) ≡ true → MAX_GROUPS ≤ old.group + 1
    → IsOneTooMany priority pieces p
last_allowed old priority pieces cuts p h begins full =
    let now = begins_now old priority pieces cuts p true h begins in
    let some : h.current ≡ [] → ⊥ = λ none. none_begins p (sym (ap (λ group. begins_group group p) none) ∙ now) in
    let count : length (groups_of pieces) ≡ length h.gone + 1 =
    ap length (ends old priority pieces cuts h some) ∙ length-append h.gone (h.current ∷ []) in
    let number = h.number in
    let few = h.few in
    record { begins = sym (begins_last old priority pieces cuts p true h begins); last = inr (omega arith) }

-- the end: no piece, or a last group
pub ends_none : (splitter : Splitter) (priority : Priorities) (pieces : List Piece) (cuts : List Cut)
    (h : HasAdded splitter priority pieces cuts) → h.current ≡ []
    → (cuts ++ [] ≡ cuts_of priority (groups_of pieces))
    × (fault_of (layer_of priority) (length priority.layers) (groups_of pieces) ≡ None)
ends_none splitter priority pieces cuts h none =
    let groups : groups_of pieces ≡ h.gone =
    all_groups splitter priority pieces cuts h ∙ (ap (λ c. h.gone ++ groups_after c []) none ∙ append-nil h.gone) in
    let few = h.few in (
      append-nil cuts ∙ (h.cut ∙ ap (cuts_of priority) (sym groups)),
      ap (fault_of (layer_of priority) (length priority.layers)) groups
          ∙ end_fault (layer_of priority) (length priority.layers) h.gone h.fit (omega arith),
    )

pub ends_cut : (splitter : Splitter) (priority : Priorities) (pieces : List Piece) (cuts : List Cut) (cut : Cut)
    (h : HasAdded splitter priority pieces cuts) → (h.current ≡ [] → ⊥)
    → cut ≡ cut_of (layer_of priority) (length priority.layers) h.current
    → is_too_long (layer_of priority) (length priority.layers) h.current ≡ false
    → (cuts ++ cut ∷ [] ≡ cuts_of priority (groups_of pieces))
    × (fault_of (layer_of priority) (length priority.layers) (groups_of pieces) ≡ None)
ends_cut splitter priority pieces cuts cut h some is short =
    let lo : Kind → ℕ → ℕ = layer_of priority in
    let n : ℕ = length priority.layers in
    let groups = ends splitter priority pieces cuts h some in
    let count : length (h.gone ++ h.current ∷ []) ≡ length h.gone + 1 = length-append h.gone (h.current ∷ []) in
    let few = h.few in (
      ap (λ l. l ++ cut ∷ []) h.cut
          ∙ (ap (λ c. cuts_of priority h.gone ++ c ∷ []) is
          ∙ (sym (map-append (cut_of lo n) h.gone (h.current ∷ [])) ∙ ap (cuts_of priority) (sym groups))),
      ap (fault_of lo n) groups
          ∙ end_fault lo n (h.gone ++ h.current ∷ [])
          (All-append (λ g. is_too_long lo n g ≡ false) h.gone (h.current ∷ []) h.fit
          (All-cons (λ g. is_too_long lo n g ≡ false) h.current [] short (All-nil (λ g. is_too_long lo n g ≡ false))))
          (omega arith),
    )

pub ends_long : (splitter : Splitter) (priority : Priorities) (pieces : List Piece) (cuts : List Cut)
    (h : HasAdded splitter priority pieces cuts) → (h.current ≡ [] → ⊥)
    → is_too_long (layer_of priority) (length priority.layers) h.current ≡ true
    → fault_of (layer_of priority) (length priority.layers) (groups_of pieces) ≡ Some (GroupTooLong splitter.group)
ends_long splitter priority pieces cuts h some long =
    ap (fault_of (layer_of priority) (length priority.layers)) (ends splitter priority pieces cuts h some)
    ∙ (long_fault (layer_of priority) (length priority.layers) h.gone h.current [] h.fit long h.few
    ∙ ap (λ k. Some (GroupTooLong k)) (sym h.number))

nil_not_push : (gone : List (List Piece)) (group : List Piece) → [] ≡ gone ++ group ∷ [] → ⊥
nil_not_push [] group e = cc
nil_not_push (g ∷ gone) group e = cc

pub some_piece : (splitter : Splitter) (priority : Priorities) (pieces : List Piece) (cuts : List Cut)
    (h : HasAdded splitter priority pieces cuts) → (h.current ≡ [] → ⊥) → pieces ≡ [] → ⊥
some_piece splitter priority pieces cuts h some none =
    nil_not_push h.gone h.current (sym (ap groups_of none) ∙ ends splitter priority pieces cuts h some)
