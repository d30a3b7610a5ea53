-- Where a splitter's groups end, one piece on and at the end.
use Rattle.std.proofs.Common.{◌≡◌, Bool, true, false, List, [], ◌∷◌, ◌++◌, length, refl, sym, ◌∙◌, ap, subst}
use Rattle.std.proofs.Common.{append_assoc}
use Rattle.std.proofs.lemmas.List.{map-append, same_from_push}
use Rattle.std.proofs.lemmas.Bool.{cond-false}
use Rattle.mpeg_scan.specs.declared.piece.Piece.{Piece}
use Rattle.priority_file.specs.Priority.{Priorities, layer_of}
use Rattle.layer_split.specs.declared.splitter.Splitter.{Splitter}
use Rattle.layer_split.specs.Groups.{groups_of, begins_group, last_group}
use Rattle.layer_split.specs.Layers.{Cut, cut_of}
use Rattle.layer_split.specs.laws.EndedLaws.{none_begins, groups_begin, after_nil, all_groups, last_now}
use Rattle.layer_split.specs.Splitting.{HasAdded, groups_after, cuts_of}

pub push_not_nil : (xs : List Piece) (x : Piece) → xs ++ x ∷ [] ≡ [] → ⊥
push_not_nil [] x e = cc
push_not_nil (y ∷ ys) x e = cc

-- the groups that are gone and the current one are told by the pieces
pub parted : (splitter : Splitter) (priority : Priorities) (pieces : List Piece) (cuts : List Cut)
    (k : HasAdded splitter priority pieces cuts) (gone : List (List Piece)) (current : List Piece) → (pieces ≡ [] → ⊥)
    → groups_of pieces ≡ gone ++ current ∷ [] → (k.gone ≡ gone) × (k.current ≡ current)
parted splitter priority pieces cuts k gone current some e =
    same_from_push k.gone gone k.current current
    (sym (all_groups splitter priority pieces cuts k
    ∙ ap (λ l. k.gone ++ l) (after_nil k.current (λ none. some (k.fresh none)))) ∙ e)

group_goes_on : (current : List Piece) (p : Piece) → begins_group current p ≡ false
    → groups_after current (p ∷ []) ≡ (current ++ p ∷ []) ∷ []
group_goes_on [] p e = refl
group_goes_on (c ∷ cs) p e = cond-false (begins_group (c ∷ cs) p) _ _ e

pub begins_some : (current : List Piece) (p : Piece) → begins_group current p ≡ true → current ≡ [] → ⊥
begins_some current p e none = none_begins p (subst (λ l. begins_group l p ≡ true) none e)

pub begins_last : (splitter : Splitter) (priority : Priorities) (pieces : List Piece) (cuts : List Cut) (p : Piece)
    (b : Bool) (h : HasAdded splitter priority pieces cuts) → b ≡ begins_group (last_group pieces) p
    → begins_group h.current p ≡ b
begins_last splitter priority pieces cuts p b h e =
    sym (e ∙ ap (λ group. begins_group group p) (last_now splitter priority pieces cuts h))

-- the piece goes to the current group
pub stays : (old new : Splitter) (priority : Priorities) (pieces : List Piece) (cuts more : List Cut) (p : Piece)
    (h : HasAdded old priority pieces cuts) (k : HasAdded new priority (pieces ++ p ∷ []) more)
    → begins_group h.current p ≡ false → (k.gone ≡ h.gone) × (k.current ≡ h.current ++ p ∷ [])
stays old new priority pieces cuts more p h k e =
    parted new priority (pieces ++ p ∷ []) more k h.gone (h.current ++ p ∷ []) (push_not_nil pieces p)
    (h.groups (p ∷ []) ∙ ap (λ l. h.gone ++ l) (group_goes_on h.current p e))

-- the piece begins another group
pub begins : (old new : Splitter) (priority : Priorities) (pieces : List Piece) (cuts more : List Cut) (p : Piece)
    (h : HasAdded old priority pieces cuts) (k : HasAdded new priority (pieces ++ p ∷ []) more)
    → begins_group h.current p ≡ true → (k.gone ≡ h.gone ++ h.current ∷ []) × (k.current ≡ p ∷ [])
begins old new priority pieces cuts more p h k e =
    parted new priority (pieces ++ p ∷ []) more k (h.gone ++ h.current ∷ []) (p ∷ []) (push_not_nil pieces p)
    (h.groups (p ∷ [])
    ∙ (ap (λ l. h.gone ++ l) (groups_begin h.current p [] e)
    ∙ sym (append_assoc h.gone (h.current ∷ []) ((p ∷ []) ∷ []))))

-- the cut that came is that of the group that ended
pub cut_is : (splitter : Splitter) (priority : Priorities) (pieces : List Piece) (cuts all : List Cut) (cut : Cut)
    (group : List Piece) (h : HasAdded splitter priority pieces cuts) → cuts ++ cut ∷ [] ≡ all
    → all ≡ cuts_of priority (h.gone ++ group ∷ []) → cut ≡ cut_of (layer_of priority) (length priority.layers) group
cut_is splitter priority pieces cuts all cut group h made is =
    (same_from_push cuts (cuts_of priority h.gone) cut (cut_of (layer_of priority) (length priority.layers) group)
    (made ∙ (is ∙ map-append (cut_of (layer_of priority) (length priority.layers)) h.gone (group ∷ [])))).1
