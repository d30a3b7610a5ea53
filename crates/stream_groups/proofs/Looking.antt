-- A cutter that has looked at one piece more, or at the last.
use Rattle.std.proofs.Common.{◌≡◌, ℕ, ◌+◌, ◌-◌, ◌^◌, ◌<◌, ◌≤◌, true, false, List, [], ◌∷◌, ◌++◌, length, take, drop}
use Rattle.std.proofs.Common.{map, get_or, Option, Some, None, refl, sym, ◌∙◌, ap, subst, arith, append_assoc}
use Rattle.std.proofs.Common.{drop-drop}
use Rattle.std.specs.Prelude.{All, is_some}
use Rattle.std.proofs.lemmas.List.{append-nil, map-append, drop_more, drop_all, length-drop}
use Rattle.mpeg_scan.specs.declared.piece.Piece.{Piece}
use Rattle.mpeg_scan.specs.Pieces.{pieces_of, StandOnEnd}
use Rattle.priority_file.specs.Priority.{Priorities, layer_of}
use Rattle.layer_split.specs.declared.cut.Run.{Run}
use Rattle.layer_split.specs.declared.splitter.Splitter.{Splitter}
use Rattle.layer_split.specs.Groups.{groups_of, begins_group, last_group}
use Rattle.layer_split.specs.Layers.{Cut, cut_of}
use Rattle.layer_split.specs.Splitting.{HasAdded, cuts_of, cuts_in, groups_after}
use Rattle.stream_groups.specs.CutGroups.{CutGroup}
use Rattle.stream_groups.specs.declared.groups.GroupCutter.{GroupCutter}
use Rattle.stream_groups.specs.Cutting.{HasLooked, HasEnded, KeepsPieces, Ends, cut_group, cut_groups, group_from}
use Rattle.stream_groups.specs.Cutting.{groups_in, bytes_of_pieces, first_at, pending, pieces_left, end_of}
use Rattle.mpeg_scan.specs.laws.StandingLaws.{stand_le, stand_push}
use Rattle.layer_split.specs.laws.CutLaws.{runs_lie}
use Rattle.stream_groups.specs.laws.StandingLaws.{stand_end, stand_tail, end_push, stand_bytes}
use Rattle.layer_split.specs.laws.EndedLaws.{after_nil, all_groups}
use Rattle.stream_groups.proofs.Ending.{begins_last, begins_some, stays, begins, cut_is}

-- the current group lies in what was seen, up to the pieces that are pending
pub ends_within : (cutter : GroupCutter) (priority : Priorities) (seen : List ℕ) (pieces : List Piece)
    (given : List CutGroup) (h : HasLooked cutter priority seen pieces given)
    → (cutter.from ≤ end_of 0 h.looked) × (end_of 0 h.looked ≤ length seen)
ends_within cutter priority seen pieces given h =
    let front = stand_le cutter.from (end_of 0 h.looked) h.added.current h.current in
    let whole = subst (λ l. StandOnEnd 0 l (end_of 0 pieces)) h.whole h.stand in
    let rest = stand_le (end_of 0 h.looked) (end_of 0 pieces) (pending cutter)
    (stand_tail 0 (end_of 0 pieces) h.looked (pending cutter) whole) in
    let le = h.within in
    (front, omega arith)

-- where the next piece stands
pub next_stands : (cutter : GroupCutter) (priority : Priorities) (seen : List ℕ) (pieces later : List Piece)
    (given : List CutGroup) (p : Piece) (h : HasLooked cutter priority seen pieces given) → pending cutter ≡ p ∷ later
    → (p.at ≡ end_of 0 h.looked) × (0 < p.len)
next_stands cutter priority seen pieces later given p h next =
    let whole = subst (λ l. StandOnEnd 0 l (end_of 0 pieces)) h.whole h.stand in
    let here = subst (λ l. StandOnEnd (end_of 0 h.looked) l (end_of 0 pieces)) next
    (stand_tail 0 (end_of 0 pieces) h.looked (pending cutter) whole) in
    (here.0, here.1)

first_is : (a b : ℕ) (ps : List Piece) → (ps ≡ [] → ⊥) → StandOnEnd a ps b → first_at ps ≡ a
first_is a b [] some h = absurd (some refl)
first_is a b (p ∷ ps) some h = h.0

-- the group that was taken out of what is held
pub group_is : (cutter : GroupCutter) (priority : Priorities) (seen more : List ℕ) (pieces : List Piece)
    (given : List CutGroup) (cut : Cut) (end : ℕ) (group : Option CutGroup)
    (h : HasLooked cutter priority seen pieces given) → (h.added.current ≡ [] → ⊥)
    → cut ≡ cut_of (layer_of priority) (length priority.layers) h.added.current → end ≡ end_of 0 h.looked
    → (All (λ (run : Run). cutter.from ≤ run.at) cut.runs
    → group ≡ Some (group_from cutter.from cut (take (end - cutter.from) cutter.held.items)))
    → group ≡ Some (cut_group priority (seen ++ more) h.added.current)
group_is cutter priority seen more pieces given cut end group h some is at taken =
    let current : List Piece = h.added.current in
    let lo = layer_of priority in
    let m : ℕ = end_of 0 h.looked in
    let lie = runs_lie (layer_of priority) cutter.from m current h.current in
    let within = ends_within cutter priority seen pieces given h in
    let begin : All (λ (run : Run). cutter.from ≤ run.at) cut.runs =
    subst (λ (c : Cut). All (λ (run : Run). cutter.from ≤ run.at) c.runs) (sym is) (λ k d lt. (lie k d lt).0) in
    let bytes : take (end - cutter.from) cutter.held.items ≡ bytes_of_pieces (seen ++ more) current =
    ap (λ n. take (n - cutter.from) cutter.held.items) at
    ∙ (ap (take (m - cutter.from)) h.held ∙ sym (stand_bytes seen more cutter.from m current h.current within.1)) in
    taken begin
    ∙ (ap (λ bs. Some (group_from cutter.from cut bs)) bytes
    ∙ (ap (λ c. Some (group_from cutter.from c (bytes_of_pieces (seen ++ more) current))) is
    ∙ ap (λ n. Some (group_from n (cut_of (layer_of priority) (length priority.layers) current)
    (bytes_of_pieces (seen ++ more) current)))
    (sym (first_is cutter.from m current some h.current))))

-- one piece more was looked at
looks : (old new : GroupCutter) (p : Piece) (priority : Priorities) (seen : List ℕ) (pieces : List Piece)
    (given gives : List CutGroup) (cuts : List Cut) (h : HasLooked old priority seen pieces given)
    → pending old ≡ p ∷ pending new → new.looked ≤ length new.pieces.items
    → (k : HasAdded new.splitter priority (h.looked ++ p ∷ []) cuts)
    → ((more : List ℕ) → gives ≡ map (cut_group priority (seen ++ more)) k.gone)
    → StandOnEnd new.from k.current (end_of 0 h.looked + p.len) → new.held.items ≡ drop new.from seen
    → HasLooked new priority seen pieces gives
looks old new p priority seen pieces given gives cuts h next some k gone current held = record {
  looked = h.looked ++ p ∷ [];
  cuts = cuts;
  whole = h.whole ∙ (ap (λ l. h.looked ++ l) next ∙ sym (append_assoc h.looked (p ∷ []) (pending new)));
  some = some;
  stand = h.stand;
  within = h.within;
  added = k;
  gives = gone;
  current = subst (λ n. StandOnEnd new.from k.current n) (sym (end_push 0 h.looked p)) current;
  held = held;
}

-- the piece goes to the current group
look_stays : (old new : GroupCutter) (p : Piece) (priority : Priorities) (seen : List ℕ) (pieces : List Piece)
    (given : List CutGroup) (cuts : List Cut) (h : HasLooked old priority seen pieces given)
    → pending old ≡ p ∷ pending new → new.looked ≤ length new.pieces.items → new.from ≡ old.from
    → new.held.items ≡ old.held.items → (k : HasAdded new.splitter priority (h.looked ++ p ∷ []) cuts)
    → begins_group h.added.current p ≡ false → HasLooked new priority seen pieces given
look_stays old new p priority seen pieces given cuts h next some from held k b =
    let same = stays old.splitter new.splitter priority h.looked h.cuts cuts p h.added k b in
    let at = next_stands old priority seen pieces (pending new) given p h next in
    looks old new p priority seen pieces given given cuts h next some k
    (λ more. h.gives more ∙ ap (map (cut_group priority (seen ++ more))) (sym same.0))
    (subst (λ l. StandOnEnd new.from l (end_of 0 h.looked + p.len)) (sym same.1)
    (subst (λ n. StandOnEnd n (h.added.current ++ p ∷ []) (end_of 0 h.looked + p.len)) (sym from)
    (stand_push old.from (end_of 0 h.looked) h.added.current p h.current at.0 at.1)))
    (held ∙ (h.held ∙ ap (λ n. drop n seen) (sym from)))

-- the piece begins another group
look_begins : (old new : GroupCutter) (p : Piece) (priority : Priorities) (seen : List ℕ) (pieces : List Piece)
    (given : List CutGroup) (cut : Cut) (group : Option CutGroup) (h : HasLooked old priority seen pieces given)
    → pending old ≡ p ∷ pending new → new.looked ≤ length new.pieces.items → new.from ≡ p.at
    → new.held.items ≡ drop (p.at - old.from) old.held.items
    → (k : HasAdded new.splitter priority (h.looked ++ p ∷ []) (h.cuts ++ cut ∷ []))
    → begins_group h.added.current p ≡ true
    → (All (λ (run : Run). old.from ≤ run.at) cut.runs
    → group ≡ Some (group_from old.from cut (take (p.at - old.from) old.held.items)))
    → HasLooked new priority seen pieces (given ++ groups_in group)
look_begins old new p priority seen pieces given cut group h next some from held k b taken =
    let same = begins old.splitter new.splitter priority h.looked h.cuts (h.cuts ++ cut ∷ []) p h.added k b in
    let at = next_stands old priority seen pieces (pending new) given p h next in
    let within = ends_within old priority seen pieces given h in
    let place : p.at ≡ end_of 0 h.looked = at.0 in
    let is = cut_is old.splitter priority h.looked h.cuts (h.cuts ++ cut ∷ []) cut h.added.current h.added refl
    (k.cut ∙ ap (cuts_of priority) same.0) in
    looks old new p priority seen pieces given (given ++ groups_in group) (h.cuts ++ cut ∷ []) h next some k
    (λ more.
    ap (λ g. given ++ groups_in g)
    (group_is old priority seen more pieces given cut p.at group h (begins_some h.added.current p b) is place taken)
    ∙ (ap (λ l. l ++ cut_group priority (seen ++ more) h.added.current ∷ []) (h.gives more)
    ∙ (sym (map-append (cut_group priority (seen ++ more)) h.added.gone (h.added.current ∷ []))
    ∙ ap (map (cut_group priority (seen ++ more))) (sym same.0))))
    (subst (λ l. StandOnEnd new.from l (end_of 0 h.looked + p.len)) (sym same.1)
    (sym from, at.1, ap (λ n. n + p.len) (from ∙ place)))
    (held ∙ (ap (drop (p.at - old.from)) h.held
    ∙ (drop-drop (p.at - old.from) old.from seen
    ∙ (ap (λ n. drop n seen) (let e : old.from + (p.at - old.from) ≡ p.at = omega (arith, within.0) in e)
    ∙ ap (λ n. drop n seen) (sym from)))))

-- the next piece is the one that was read
pub next_is : (old new : GroupCutter) (p : Piece) → old.looked < length old.pieces.items
    → get_or old.pieces.items old.looked p ≡ p → new.pieces ≡ old.pieces → new.looked ≡ old.looked + 1
    → pending old ≡ p ∷ pending new
next_is old new p lt read pieces looked =
    drop_more old.pieces.items old.looked p lt
    ∙ (ap (λ x. x ∷ drop (old.looked + 1) old.pieces.items) read
    ∙ (ap (λ v. p ∷ drop (old.looked + 1) v) (ap (λ v. v.items) (sym pieces))
    ∙ ap (λ n. p ∷ drop n new.pieces.items) (sym looked)))

some_is : (old new : GroupCutter) → old.looked < length old.pieces.items → new.pieces ≡ old.pieces
    → new.looked ≡ old.looked + 1 → new.looked ≤ length new.pieces.items
some_is old new lt pieces looked = subst (λ v. new.looked ≤ length v.items) (sym pieces) (omega arith)

pub look_one : (old new : GroupCutter) (s : Splitter) (p : Piece) (cut : Option Cut) (group : Option CutGroup)
    → old.looked < length old.pieces.items → get_or old.pieces.items old.looked p ≡ p
    → ((priority : Priorities) (pieces : List Piece) (cuts : List Cut) → HasAdded old.splitter priority pieces cuts
    → HasAdded s priority (pieces ++ p ∷ []) (cuts ++ cuts_in cut))
    → ((priority : Priorities) (pieces : List Piece) (cuts : List Cut) → HasAdded old.splitter priority pieces cuts
    → is_some cut ≡ begins_group (last_group pieces) p)
    → KeepsPieces (record old { looked = old.looked + 1; splitter = s }) new
    → Ends (record old { looked = old.looked + 1; splitter = s }) new cut p.at group
    → (priority : Priorities) (seen : List ℕ) (pieces : List Piece) (given : List CutGroup)
    → HasLooked old priority seen pieces given → HasLooked new priority seen pieces (given ++ groups_in group)
look_one old new s p None group lt read ok begun keeps ends priority seen pieces given h =
    let k = subst (λ n. HasAdded n priority (h.looked ++ p ∷ []) (h.cuts ++ [])) (sym keeps.splitter)
    (ok priority h.looked h.cuts h.added) in
    let b = begins_last old.splitter priority h.looked h.cuts p false h.added
    (begun priority h.looked h.cuts h.added) in
    subst (λ g. HasLooked new priority seen pieces (given ++ groups_in g)) (sym ends.0)
    (subst (HasLooked new priority seen pieces) (sym (append-nil given))
    (look_stays old new p priority seen pieces given (h.cuts ++ []) h
    (next_is old new p lt read keeps.pieces keeps.looked) (some_is old new lt keeps.pieces keeps.looked)
    (ap (λ (n : GroupCutter). n.from) ends.1) (ap (λ (n : GroupCutter). n.held.items) ends.1) k b))
look_one old new s p (Some cut) group lt read ok begun keeps ends priority seen pieces given h =
    let k = subst (λ n. HasAdded n priority (h.looked ++ p ∷ []) (h.cuts ++ cut ∷ [])) (sym keeps.splitter)
    (ok priority h.looked h.cuts h.added) in
    let b = begins_last old.splitter priority h.looked h.cuts p true h.added (begun priority h.looked h.cuts h.added) in
    look_begins old new p priority seen pieces given cut group h (next_is old new p lt read keeps.pieces keeps.looked)
    (some_is old new lt keeps.pieces keeps.looked)
    ends.1 ends.0 k b ends.2

-- the pieces, from the next on
pub pieces_at : (old : GroupCutter) (p : Piece) (priority : Priorities) (seen : List ℕ) (pieces later : List Piece)
    (given : List CutGroup) (h : HasLooked old priority seen pieces given) → old.looked < length old.pieces.items
    → get_or old.pieces.items old.looked p ≡ p
    → h.looked ++ p ∷ (drop (old.looked + 1) old.pieces.items ++ later) ≡ pieces ++ later
pieces_at old p priority seen pieces later given h lt read =
    let rest : List Piece = drop (old.looked + 1) old.pieces.items in
    let next : pending old ≡ p ∷ rest = drop_more old.pieces.items old.looked p lt ∙ ap (λ x. x ∷ rest) read in
    sym (append_assoc h.looked (p ∷ rest) later)
    ∙ (ap (λ l. (h.looked ++ l) ++ later) (sym next) ∙ ap (λ l. l ++ later) (sym h.whole))

-- all pieces were looked at
pub all_looked : (cutter : GroupCutter) (priority : Priorities) (seen : List ℕ) (pieces : List Piece)
    (given : List CutGroup) (h : HasLooked cutter priority seen pieces given) → pieces_left cutter ≡ 0
    → h.looked ≡ pieces
all_looked cutter priority seen pieces given h none =
    let nil : pending cutter ≡ [] = drop_all cutter.looked cutter.pieces.items (omega arith) in
    sym (h.whole ∙ (ap (λ l. h.looked ++ l) nil ∙ append-nil h.looked))

some_not_none : (cut : Cut) → Some cut ≡ None → ⊥
some_not_none cut e = cc

nil_front : (gone later : List (List Piece)) → [] ≡ gone ++ later → gone ≡ []
nil_front [] later e = refl
nil_front (g ∷ gone) later e = cc

-- where what is held ends
held_ends : (cutter : GroupCutter) (priority : Priorities) (stream : List ℕ) (given : List CutGroup)
    (h : HasEnded cutter priority stream given) (end : ℕ)
    → (cutter.from + length cutter.held.items < 2 ^ 64 → end ≡ cutter.from + length cutter.held.items)
    → end ≡ length stream
held_ends cutter priority stream given h end sum =
    let within = ends_within cutter priority stream (pieces_of stream) given h.looked in
    let from = within.0 in
    let to = within.1 in
    let bounded = h.bounded in
    let rest : length cutter.held.items ≡ length stream - cutter.from =
    ap length h.looked.held ∙ length-drop cutter.from stream in
    let e = sum (omega arith) in
    omega arith

-- the last group
pub last_whole : (old new : GroupCutter) (s : Splitter) (cut : Option Cut) (end : ℕ) (group : Option CutGroup)
    → ((priority : Priorities) (pieces : List Piece) (cuts : List Cut) → HasAdded old.splitter priority pieces cuts
    → cuts ++ cuts_in cut ≡ cuts_of priority (groups_of pieces))
    → ((priority : Priorities) (pieces : List Piece) (cuts : List Cut) → HasAdded old.splitter priority pieces cuts
    → ((cut ≡ None → pieces ≡ []) × (pieces ≡ [] → cut ≡ None))) → Ends (record old { splitter = s }) new cut end group
    → (old.from + length old.held.items < 2 ^ 64 → end ≡ old.from + length old.held.items)
    → (priority : Priorities) (stream : List ℕ) (given : List CutGroup) → HasEnded old priority stream given
    → pieces_left old ≡ 0 → given ++ groups_in group ≡ cut_groups priority stream
last_whole old new s None end group ok none ends sum priority stream given ended left =
    let h = ended.looked in
    let all = all_looked old priority stream (pieces_of stream) given h left in
    let nil : h.looked ≡ [] = (none priority h.looked h.cuts h.added).0 refl in
    let gone : h.added.gone ≡ [] = nil_front h.added.gone (groups_after h.added.current [])
    (ap groups_of (sym nil) ∙ all_groups old.splitter priority h.looked h.cuts h.added) in
    ap (λ g. given ++ groups_in g) ends.0
    ∙ (append-nil given
    ∙ (h.gives [] ∙ (ap (map (cut_group priority (stream ++ []))) gone
    ∙ ap (λ ps. map (cut_group priority stream) (groups_of ps)) (sym nil ∙ all))))
last_whole old new s (Some cut) end group ok none ends sum priority stream given ended left =
    let h = ended.looked in
    let current : List Piece = h.added.current in
    let all = all_looked old priority stream (pieces_of stream) given h left in
    let some : current ≡ []
    → ⊥ = λ e. some_not_none cut ((none priority h.looked h.cuts h.added).1 (h.added.fresh e)) in
    let groups : groups_of h.looked ≡ h.added.gone ++ current ∷ [] =
    all_groups old.splitter priority h.looked h.cuts h.added ∙ ap (λ l. h.added.gone ++ l) (after_nil current some) in
    let is = cut_is old.splitter priority h.looked h.cuts (cuts_of priority (groups_of h.looked)) cut current h.added
    (ok priority h.looked h.cuts h.added) (ap (cuts_of priority) groups) in
    let place : end ≡ end_of 0 h.looked =
    held_ends old priority stream given ended end sum
    ∙ (stand_end 0 (length stream) (pieces_of stream) ended.standing ∙ ap (end_of 0) (sym all)) in
    ap (λ g. given ++ groups_in g)
    (group_is old priority stream [] (pieces_of stream) given cut end group h some is place ends.2)
    ∙ (ap (λ l. l ++ cut_group priority (stream ++ []) current ∷ []) (h.gives [])
    ∙ (sym (map-append (cut_group priority (stream ++ [])) h.added.gone (current ∷ []))
    ∙ (ap (map (cut_group priority (stream ++ []))) (sym groups)
    ∙ (ap (λ w. map (cut_group priority w) (groups_of h.looked)) (append-nil stream)
    ∙ ap (λ ps. map (cut_group priority stream) (groups_of ps)) all))))
