-- What callers know of the groups that have ended: a splitter has answered their cuts, and they stay as more pieces
-- come.
-- This project's own.
use Rattle.std.proofs.Common.{◌≡◌, ◌-◌, true, false, ◌&&◌, List, [], ◌∷◌, ◌++◌, length, refl, sym, ◌∙◌, ap, arith, inl}
use Rattle.std.proofs.Common.{inr}
use Rattle.std.proofs.lemmas.List.{append-nil}
use Rattle.std.proofs.lemmas.Bool.{cond-true, cond-false, cases_Bool, both_ways}
use Rattle.mpeg_scan.specs.declared.piece.Piece.{Piece}
use Rattle.mpeg_scan.specs.Pieces.{but_last}
use Rattle.mpeg_scan.specs.laws.EndedLaws.{but_last_push}
use Rattle.priority_file.specs.Priority.{Priorities}
use Rattle.layer_split.specs.declared.splitter.Splitter.{Splitter}
use Rattle.layer_split.specs.Groups.{groups_of, groups_from, ended_groups, last_from, last_group, is_group_head}
use Rattle.layer_split.specs.Groups.{begins_group}
use Rattle.layer_split.specs.Layers.{Cut}
use Rattle.layer_split.specs.Splitting.{HasAdded, groups_after}

-- all but the last
but_last_behind : {A : Type 0} (xs : List A) (y : A) (ys : List A) → but_last (xs ++ y ∷ ys) ≡ xs ++ but_last (y ∷ ys)
but_last_behind [] y ys = refl
but_last_behind (x ∷ []) y ys = refl
but_last_behind (x ∷ z ∷ xs) y ys = ap (λ l. x ∷ l) (but_last_behind (z ∷ xs) y ys)

but_last_length : {A : Type 0} (xs : List A) → length (but_last xs) ≡ length xs - 1
but_last_length [] = refl
but_last_length (x ∷ []) = omega arith
but_last_length (x ∷ y ∷ later) = let less = but_last_length (y ∷ later) in omega arith

-- a piece that begins another group ends the current one, which has pieces
pub none_begins : (piece : Piece) → begins_group [] piece ≡ true → ⊥
none_begins piece e = elim (cases_Bool (is_group_head piece)) [
  | inl k ↦ both_ways _ (ap (λ b. b && false) k) e
  | inr k ↦ both_ways _ (ap (λ b. b && false) k) e
]

pub groups_begin : (current : List Piece) (piece : Piece) (later : List Piece) → begins_group current piece ≡ true
    → groups_after current (piece ∷ later) ≡ current ∷ groups_after (piece ∷ []) later
groups_begin [] piece later e = absurd (none_begins piece e)
groups_begin (first ∷ current) piece later e = cond-true (begins_group (first ∷ current) piece) _ _ e

pub some_group : (current later : List Piece)
    → (next : List Piece) × (rest : List (List Piece)) × (groups_from current later ≡ next ∷ rest)
some_group current [] = (current, [], refl)
some_group current (piece ∷ later) = elim (cases_Bool (begins_group current piece)) [
  | inl e ↦ (current, groups_from (piece ∷ []) later, cond-true (begins_group current piece) _ _ e)
  | inr e ↦
      (let next = some_group (current ++ piece ∷ []) later in
      (next.0, next.1, cond-false (begins_group current piece) _ _ e ∙ next.2))
]

pub last_at : (d : List Piece) (gone : List (List Piece)) (group : List Piece)
    → last_from d (gone ++ group ∷ []) ≡ group
last_at d [] group = refl
last_at d (first ∷ gone) group = last_at first gone group

-- the groups that have ended, and the last, which goes on
record Splits (current pieces : List Piece) : Type 0 where
  ended : List (List Piece)
  first : Piece
  rest : List Piece
  groups : (later : List Piece) → groups_from current (pieces ++ later) ≡ ended ++ groups_from (first ∷ rest) later

from_splits : (first : Piece) (current pieces : List Piece) → Splits (first ∷ current) pieces
from_splits first current [] = record { ended = []; first = first; rest = current; groups = λ later. refl }
from_splits first current (piece ∷ pieces) = elim (cases_Bool (begins_group (first ∷ current) piece)) [
  | inl e ↦
      (let next = from_splits piece [] pieces in
      record {
        ended = (first ∷ current) ∷ next.ended;
        first = next.first;
        rest = next.rest;
        groups = λ later. cond-true (begins_group (first ∷ current) piece) _ _ e
            ∙ ap (λ l. (first ∷ current) ∷ l) (next.groups later);
      })
  | inr e ↦
      (let next = from_splits first (current ++ piece ∷ []) pieces in
      record {
        ended = next.ended;
        first = next.first;
        rest = next.rest;
        groups = λ later. cond-false (begins_group (first ∷ current) piece) _ _ e ∙ next.groups later;
      })
]

all_split : (piece : Piece) (pieces : List Piece) → let parts = from_splits piece [] pieces in
    groups_of (piece ∷ pieces) ≡ parts.ended ++ (parts.first ∷ parts.rest) ∷ []
all_split piece pieces =
    ap (groups_from (piece ∷ [])) (sym (append-nil pieces)) ∙ (from_splits piece [] pieces).groups []

ended_split : (piece : Piece) (pieces : List Piece)
    → ended_groups (piece ∷ pieces) ≡ (from_splits piece [] pieces).ended
ended_split piece pieces =
    let parts = from_splits piece [] pieces in
    ap but_last (all_split piece pieces) ∙ but_last_push parts.ended (parts.first ∷ parts.rest)

last_split : (piece : Piece) (pieces : List Piece) → let parts = from_splits piece [] pieces in
    last_group (piece ∷ pieces) ≡ parts.first ∷ parts.rest
last_split piece pieces =
    let parts = from_splits piece [] pieces in
    ap (last_from []) (all_split piece pieces) ∙ last_at [] parts.ended (parts.first ∷ parts.rest)

groups_split : (pieces later : List Piece)
    → groups_of (pieces ++ later) ≡ ended_groups pieces ++ groups_after (last_group pieces) later
groups_split [] later = refl
groups_split (piece ∷ pieces) later =
    let parts = from_splits piece [] pieces in
    parts.groups later
    ∙ sym (ap (λ gone. gone ++ groups_after (last_group (piece ∷ pieces)) later) (ended_split piece pieces)
    ∙ ap (λ group. parts.ended ++ groups_after group later) (last_split piece pieces))

ended_behind : (gone : List (List Piece)) (current later : List Piece)
    → but_last (gone ++ groups_from current later) ≡ gone ++ but_last (groups_from current later)
ended_behind gone current later =
    let next = some_group current later in
    ap (λ l. but_last (gone ++ l)) next.2
    ∙ (but_last_behind gone next.0 next.1 ∙ sym (ap (λ l. gone ++ but_last l) next.2))

-- a group with a piece, at the end
pub after_nil : (current : List Piece) → (current ≡ [] → ⊥) → groups_after current [] ≡ current ∷ []
after_nil [] some = absurd (some refl)
after_nil (c ∷ cs) some = refl

-- the groups of the pieces that were added
pub all_groups : (splitter : Splitter) (priority : Priorities) (pieces : List Piece) (cuts : List Cut)
    (h : HasAdded splitter priority pieces cuts) → groups_of pieces ≡ h.gone ++ groups_after h.current []
all_groups splitter priority pieces cuts h = ap groups_of (sym (append-nil pieces)) ∙ h.groups []

last_of : (pieces current : List Piece) (gone : List (List Piece)) → (current ≡ [] → pieces ≡ [])
    → groups_of pieces ≡ gone ++ groups_after current [] → last_group pieces ≡ current
last_of pieces [] gone fresh e = ap last_group (fresh refl)
last_of pieces (c ∷ cs) gone fresh e = ap (last_from []) e ∙ last_at [] gone (c ∷ cs)

-- the last of them
pub last_now : (splitter : Splitter) (priority : Priorities) (pieces : List Piece) (cuts : List Cut)
    (h : HasAdded splitter priority pieces cuts) → last_group pieces ≡ h.current
last_now splitter priority pieces cuts h =
    last_of pieces h.current h.gone h.fresh (all_groups splitter priority pieces cuts h)

-- the groups whose cuts were answered
ended_by : (pieces current : List Piece) (gone : List (List Piece)) → (current ≡ [] → pieces ≡ [])
    → groups_of pieces ≡ gone ++ groups_after current [] → gone ≡ ended_groups pieces
ended_by pieces [] gone fresh e =
    let none = fresh refl in
    sym (append-nil gone) ∙ (sym e ∙ (ap groups_of none ∙ sym (ap ended_groups none)))
ended_by pieces (first ∷ current) gone fresh e = sym (ap but_last e ∙ but_last_push gone (first ∷ current))

pub gone_ended : (splitter : Splitter) (priority : Priorities) (pieces : List Piece) (cuts : List Cut)
    (h : HasAdded splitter priority pieces cuts) → h.gone ≡ ended_groups pieces
gone_ended splitter priority pieces cuts h =
    ended_by pieces h.current h.gone h.fresh (all_groups splitter priority pieces cuts h)

-- they are the first groups, whatever comes
pub groups_stay : (pieces later : List Piece)
    → (more : List (List Piece)) × (groups_of (pieces ++ later) ≡ ended_groups pieces ++ more)
groups_stay pieces later = (groups_after (last_group pieces) later, groups_split pieces later)

-- and of those that have ended then
pub groups_grow : (pieces later : List Piece)
    → (more : List (List Piece)) × (ended_groups (pieces ++ later) ≡ ended_groups pieces ++ more)
groups_grow [] later = (ended_groups later, refl)
groups_grow (piece ∷ pieces) later =
    let parts = from_splits piece [] pieces in
    let more : List (List Piece) = but_last (groups_from (parts.first ∷ parts.rest) later) in (
      more,
      ap but_last (parts.groups later)
          ∙ (ended_behind parts.ended (parts.first ∷ parts.rest) later
          ∙ sym (ap (λ gone. gone ++ more) (ended_split piece pieces))),
    )

-- the last group ends where a piece begins another
pub last_ends : (pieces : List Piece) (piece : Piece) (later : List Piece)
    → begins_group (last_group pieces) piece ≡ true
    → (more : List (List Piece))
    × (groups_of (pieces ++ piece ∷ later) ≡ ended_groups pieces ++ last_group pieces ∷ more)
last_ends pieces piece later begins = (
  groups_after (piece ∷ []) later,
  groups_split pieces (piece ∷ later)
      ∙ ap (λ l. ended_groups pieces ++ l) (groups_begin (last_group pieces) piece later begins),
)

pub ended_count : (pieces : List Piece) → length (ended_groups pieces) ≡ length (groups_of pieces) - 1
ended_count pieces = but_last_length (groups_of pieces)
