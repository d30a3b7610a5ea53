-- A cutter that has read a portion, given a group, or refused.
use Rattle.std.proofs.Common.{◌≡◌, ◌≢◌, ℕ, ◌≤◌, true, false, List, [], ◌∷◌, ◌++◌, length, drop, map, Option, Some, None}
use Rattle.std.proofs.Common.{is_some, refl, sym, ◌∙◌, ap, subst, arith, append_assoc, length-append}
use Rattle.std.specs.Prelude.{MatchOption}
use Rattle.std.proofs.lemmas.List.{append-nil, drop-append-le}
use Rattle.mpeg_scan.specs.declared.piece.Piece.{Piece}
use Rattle.mpeg_scan.specs.declared.refusal.Scan.{Scan}
use Rattle.mpeg_scan.specs.declared.scanner.Scanner.{Scanner}
use Rattle.mpeg_scan.specs.Refusals.{Refuses, IsAccepted, max_stream}
use Rattle.mpeg_scan.specs.Pieces.{pieces_of, StandOnEnd}
use Rattle.mpeg_scan.specs.Scanning.{HasRead, HasStopped, IsFrontOf, HasGrown, added}
use Rattle.priority_file.specs.Priority.{Priorities, layer_of}
use Rattle.layer_split.specs.declared.splitter.Splitter.{Splitter}
use Rattle.layer_split.specs.declared.fault.SplitFault.{SplitFault}
use Rattle.layer_split.specs.declared.fault.SplitFault.TheVariants as split
use Rattle.layer_split.specs.Groups.{groups_of}
use Rattle.layer_split.specs.Faults.{fault_of}
use Rattle.layer_split.specs.Layers.{Cut}
use Rattle.layer_split.specs.Splitting.{HasAdded, groups_after}
use Rattle.stream_groups.specs.CutGroups.{CutGroup}
use Rattle.stream_groups.specs.declared.groups.GroupCutter.{GroupCutter}
use Rattle.stream_groups.specs.declared.fault.CutFault.TheVariants.{Stream, Groups}
use Rattle.stream_groups.specs.Cutting.{HasCut, HasScanned, HasLooked, HasEnded, ScansOn, IsLive, IsSeen, IsStopped}
use Rattle.stream_groups.specs.Cutting.{IsCutting, IsCutFault, HaveEnded, NoneFurther, HasMetLimit, KeepsPending}
use Rattle.stream_groups.specs.Cutting.{groups_fault, cut_group, groups_in, pending, pieces_left, end_of}
use Rattle.stream_groups.specs.laws.StandingLaws.{stand_end}
use Rattle.stream_groups.specs.laws.EndedLaws.{given_ended, ended_longer}
use Rattle.stream_groups.proofs.Looking.{ends_within}
use Rattle.stream_groups.proofs.Further.{stopped_by}

-- where a cutter stands, by what it has refused
pub cutting_of : (cutter : GroupCutter) (priority : Priorities) (stream : List ℕ) (given : List CutGroup)
    → HasCut cutter priority stream given → cutter.fault ≡ None → IsCutting cutter priority stream given
cutting_of cutter priority stream given h fault =
    subst (λ o. MatchOption o (IsCutting cutter priority stream given) (λ f. IsStopped cutter priority stream given f)) fault h.state

pub live_of : (cutter : GroupCutter) (priority : Priorities) (stream : List ℕ) (given : List CutGroup)
    → HasCut cutter priority stream given → cutter.fault ≡ None → cutter.scan ≡ None → IsLive cutter priority stream given
live_of cutter priority stream given h fault scan =
    subst (λ o. MatchOption o (IsLive cutter priority stream given) (λ s. IsSeen cutter priority stream given s)) scan (cutting_of cutter priority stream given h fault)

pub stopped_of : (cutter : GroupCutter) (priority : Priorities) (stream : List ℕ) (given : List CutGroup)
    (fault : SplitFault) → HasCut cutter priority stream given → cutter.fault ≡ Some fault → IsStopped cutter priority stream given fault
stopped_of cutter priority stream given fault h e =
    subst (λ o. MatchOption o (IsCutting cutter priority stream given) (λ f. IsStopped cutter priority stream given f)) e h.state

pub read_of : (cutter : GroupCutter) (stream : List ℕ) → HasScanned cutter stream → cutter.scan ≡ None → (pieces : List Piece) × HasRead cutter.scanner stream pieces
read_of cutter stream h e =
    subst (λ o. MatchOption o ((pieces : List Piece) × HasRead cutter.scanner stream pieces) (λ scan. (rest : List ℕ) → Refuses (stream ++ rest) scan)) e h

pub refused_of : (cutter : GroupCutter) (stream : List ℕ) (scan : Scan) → HasScanned cutter stream → cutter.scan ≡ Some scan → (rest : List ℕ) → Refuses (stream ++ rest) scan
refused_of cutter stream scan h e =
    subst (λ o. MatchOption o ((pieces : List Piece) × HasRead cutter.scanner stream pieces) (λ s. (rest : List ℕ) → Refuses (stream ++ rest) s)) e h

pub is_none : {A : Type 0} (o : Option A) → is_some o ≡ false → o ≡ None
is_none None e = refl
is_none (Some x) e = absurd cc

-- what the scanner has told is the same
pub same_scanned : (old new : GroupCutter) (stream : List ℕ) → new.scanner ≡ old.scanner → new.scan ≡ old.scan → HasScanned old stream → HasScanned new stream
same_scanned old new stream scanner scan h =
    subst (λ o. MatchOption o ((pieces : List Piece) × HasRead new.scanner stream pieces) (λ s. (rest : List ℕ) → Refuses (stream ++ rest) s)) (sym scan)
    (subst (λ (r : Scanner). MatchOption old.scan ((pieces : List Piece) × HasRead r stream pieces) (λ s. (rest : List ℕ) → Refuses (stream ++ rest) s)) (sym scanner) h)

-- a cutter that nothing stops, by what the scanner has told
scanned_told : (scanner : Scanner) (stream : List ℕ) (pieces : List Piece) (o : Option Scan)
    → MatchOption o (HasRead scanner stream pieces) (λ scan. ((rest : List ℕ) → Refuses (stream ++ rest) scan) × HasStopped stream scan pieces) → MatchOption o ((ps : List Piece) × HasRead scanner stream ps) (λ scan. (rest : List ℕ) → Refuses (stream ++ rest) scan)
scanned_told scanner stream pieces None read = (pieces, read)
scanned_told scanner stream pieces (Some scan) over = over.0

scanned_cutting : (cutter : GroupCutter) (priority : Priorities) (stream : List ℕ) (pieces : List Piece)
    (given : List CutGroup) (o : Option Scan) → IsFrontOf stream pieces → HasLooked cutter priority stream pieces given → MatchOption o (HasRead cutter.scanner stream pieces) (λ scan. ((rest : List ℕ) → Refuses (stream ++ rest) scan) × HasStopped stream scan pieces) → MatchOption o (IsLive cutter priority stream given) (λ s. IsSeen cutter priority stream given s)
scanned_cutting cutter priority stream pieces given None front looked read = record { pieces = pieces; read = read; front = front; looked = looked }
scanned_cutting cutter priority stream pieces given (Some scan) front looked over = record {
  seen = stream;
  unseen = [];
  parts = sym (append-nil stream);
  pieces = pieces;
  front = front;
  refuses = over.0;
  stopped = over.1;
  looked = looked;
}

pub cut_scanned : (cutter : GroupCutter) (priority : Priorities) (stream : List ℕ) (pieces : List Piece)
    (given : List CutGroup) → cutter.fault ≡ None → IsFrontOf stream pieces → HasLooked cutter priority stream pieces given → MatchOption cutter.scan (HasRead cutter.scanner stream pieces) (λ scan. ((rest : List ℕ) → Refuses (stream ++ rest) scan) × HasStopped stream scan pieces) → HasCut cutter priority stream given
cut_scanned cutter priority stream pieces given fault front looked told = record {
  scanned = scanned_told cutter.scanner stream pieces cutter.scan told;
  state = subst (λ o. MatchOption o (IsCutting cutter priority stream given) (λ f. IsStopped cutter priority stream given f)) (sym fault)
      (scanned_cutting cutter priority stream pieces given cutter.scan front looked told);
}

-- what the scanner told of a portion
pub scans_live : (before : List Piece) (cutter : GroupCutter) (stream portion : List ℕ) (pieces : List Piece)
    → cutter.scan ≡ None → IsFrontOf (stream ++ portion) (pieces ++ added before cutter.pieces.items) → HasRead cutter.scanner (stream ++ portion) (pieces ++ added before cutter.pieces.items) → ScansOn before cutter stream portion pieces
scans_live before cutter stream portion pieces none front read =
    let all : List Piece = pieces ++ added before cutter.pieces.items in
    record {
      front = front;
      scanned =
          subst (λ o. MatchOption o (HasRead cutter.scanner (stream ++ portion) all) (λ s. ((rest : List ℕ) → Refuses (stream ++ portion ++ rest) s) × HasStopped (stream ++ portion) s all)) (sym none) read;
    }

pub scans_refused : (before : List Piece) (cutter : GroupCutter) (stream portion : List ℕ) (pieces : List Piece)
    (scan : Scan) → cutter.scan ≡ Some scan → IsFrontOf (stream ++ portion) (pieces ++ added before cutter.pieces.items) → ((rest : List ℕ) → Refuses (stream ++ portion ++ rest) scan) → HasStopped (stream ++ portion) scan (pieces ++ added before cutter.pieces.items) → ScansOn before cutter stream portion pieces
scans_refused before cutter stream portion pieces scan some front refuses stopped =
    let all : List Piece = pieces ++ added before cutter.pieces.items in
    record {
      front = front;
      scanned =
          subst (λ o. MatchOption o (HasRead cutter.scanner (stream ++ portion) all) (λ s. ((rest : List ℕ) → Refuses (stream ++ portion ++ rest) s) × HasStopped (stream ++ portion) s all)) (sym some) (refuses, stopped);
    }

-- at the beginning
none_after : (gone : List (List Piece)) (current : List Piece) → [] ≡ gone ++ groups_after current [] → (gone ≡ []) × (current ≡ [])
none_after [] [] e = (refl, refl)
none_after [] (c ∷ cs) e = absurd (not_nil (c ∷ cs) e)
  where
    not_nil : (x : List Piece) → [] ≡ x ∷ [] → ⊥
    not_nil x e = cc
none_after (g ∷ gone) current e = absurd (not_nil g (gone ++ groups_after current []) e)
  where
    not_nil : (x : List Piece) (xs : List (List Piece)) → [] ≡ x ∷ xs → ⊥
    not_nil x xs e = cc

pub new_cut : (cutter : GroupCutter) (priority : Priorities) → HasRead cutter.scanner [] []
    → HasAdded cutter.splitter priority [] [] → cutter.pieces.items ≡ [] → cutter.looked ≡ 0 → cutter.held.items ≡ [] → cutter.from ≡ 0 → cutter.fault ≡ None → cutter.scan ≡ None → HasCut cutter priority [] []
new_cut cutter priority read added pieces looked held from fault scan =
    let none = none_after added.gone added.current (added.groups []) in
    let nil : pending cutter ≡ [] = ap (λ n. drop n cutter.pieces.items) looked ∙ pieces in
    cut_scanned cutter priority [] [] [] fault (record { front = λ rest. (pieces_of rest, refl); end = 0; stand = refl; within = omega arith; bounded = omega arith })
    (record {
      looked = [];
      cuts = [];
      whole = sym nil;
      some = omega arith;
      stand = refl;
      within = omega arith;
      added = added;
      gives = λ more. ap (map (cut_group priority more)) (sym none.0);
      current = subst (λ l. StandOnEnd cutter.from l 0) (sym none.1) from;
      held = held ∙ ap (λ n. drop n []) (sym from);
    })
    (subst (λ o. MatchOption o (HasRead cutter.scanner [] []) (λ s. ((rest : List ℕ) → Refuses ([] ++ rest) s) × HasStopped [] s [])) (sym scan) read)

-- the pieces that a call appended are pending too
pub grown : (looked : ℕ) (olds news : List Piece) → looked ≤ length olds → HasGrown olds news
    → (drop looked news ≡ drop looked olds ++ added olds news) × (looked ≤ length news)
grown looked olds news le grows = (
  ap (drop looked) grows ∙ drop-append-le looked olds (added olds news) le,
  subst (λ l. looked ≤ length l) (sym grows) (omega (arith, length-append olds (added olds news))),
)

same_added : (old new : Splitter) (priority : Priorities) (pieces : List Piece) (cuts : List Cut)
    (h : HasAdded old priority pieces cuts) → new ≡ old → (k : HasAdded new priority pieces cuts) × (k.gone ≡ h.gone) × (k.current ≡ h.current)
same_added old new priority pieces cuts h e =
    subst (λ n. (k : HasAdded n priority pieces cuts) × (k.gone ≡ h.gone) × (k.current ≡ h.current)) (sym e) (h, refl, refl)

-- more of the stream was read
pub reads_more : (old new : GroupCutter) (priority : Priorities) (stream portion all : List ℕ)
    (pieces more every : List Piece) (given : List CutGroup) (end : ℕ) → HasLooked old priority stream pieces given → new.splitter ≡ old.splitter → new.from ≡ old.from → pending new ≡ pending old ++ more → new.looked ≤ length new.pieces.items → new.held.items ≡ old.held.items ++ portion → stream ++ portion ≡ all → pieces ++ more ≡ every → StandOnEnd 0 every end → end ≤ length all → HasLooked new priority all every given
reads_more old new priority stream portion all pieces more every given end h splitter from next some held whole are stand le =
    let k = same_added old.splitter new.splitter priority h.looked h.cuts h.added splitter in
    let ends = ends_within old priority stream pieces given h in
    let front = ends.0 in
    let back = ends.1 in
    let last = stand_end 0 end every stand in
    record {
      looked = h.looked;
      cuts = h.cuts;
      whole = sym are ∙ (ap (λ l. l ++ more) h.whole ∙ (append_assoc h.looked (pending old) more ∙ ap (λ l. h.looked ++ l) (sym next)));
      some = some;
      stand = subst (StandOnEnd 0 every) last stand;
      within = subst (λ n. n ≤ length all) last le;
      added = k.0;
      gives = λ rest.
          h.gives (portion ++ rest)
          ∙ (ap (λ w. map (cut_group priority w) h.added.gone) (sym (append_assoc stream portion rest) ∙ ap (λ w. w ++ rest) whole)
          ∙ ap (map (cut_group priority (all ++ rest))) (sym k.1));
      current = subst (λ l. StandOnEnd new.from l (end_of 0 h.looked)) (sym k.2) (subst (λ n. StandOnEnd n h.added.current (end_of 0 h.looked)) (sym from) h.current);
      held = held ∙ (ap (λ l. l ++ portion) h.held
          ∙ (sym (drop-append-le old.from stream portion (omega arith)) ∙ (ap (drop old.from) whole ∙ ap (λ n. drop n all) (sym from))));
    }

-- where the cutter stands after the scanner has read
pub feeds : (old mid new : GroupCutter) (priority : Priorities) (stream portion : List ℕ) (given : List CutGroup)
    (live : IsLive old priority stream given) → KeepsPending old mid → HasGrown mid.pieces.items new.pieces.items → new.splitter ≡ mid.splitter → new.from ≡ mid.from → new.looked ≡ mid.looked → new.held.items ≡ mid.held.items ++ portion → IsFrontOf (stream ++ portion) (live.pieces ++ added mid.pieces.items new.pieces.items) → HasLooked new priority (stream ++ portion) (live.pieces ++ added mid.pieces.items new.pieces.items) given
feeds old mid new priority stream portion given live keeps grows splitter from looked held front =
    let more : List Piece = added mid.pieces.items new.pieces.items in
    let g = grown mid.looked mid.pieces.items new.pieces.items (keeps.some live.looked.some) grows in
    reads_more old new priority stream portion (stream ++ portion) live.pieces more (live.pieces ++ more) given front.end live.looked
    (splitter ∙ keeps.splitter) (from ∙ keeps.from)
    (ap (λ n. drop n new.pieces.items) looked ∙ (g.0 ∙ ap (λ l. l ++ more) keeps.pending))
    (subst (λ n. n ≤ length new.pieces.items) (sym looked) g.1)
    (held ∙ ap (λ v. v.items ++ portion) keeps.held) refl refl front.stand front.within

-- a portion more of a stream whose groups are not refused
pub feeds_cut : (old mid new : GroupCutter) (priority : Priorities) (stream portion : List ℕ) (given : List CutGroup)
    → old.fault ≡ None → old.scan ≡ None → KeepsPending old mid → (mid.scan ≡ None → (s : List ℕ) (pieces : List Piece) → HasRead mid.scanner s pieces → ScansOn mid.pieces.items new s portion pieces) → HasGrown mid.pieces.items new.pieces.items → new.splitter ≡ mid.splitter → new.from ≡ mid.from → new.looked ≡ mid.looked → new.fault ≡ mid.fault → new.held.items ≡ mid.held.items ++ portion → HasCut old priority stream given → HasCut new priority (stream ++ portion) given
feeds_cut old mid new priority stream portion given fault scan keeps scans grows splitter from looked same held h =
    let live = live_of old priority stream given h fault scan in
    let on = scans (keeps.scan ∙ scan) stream live.pieces (subst (λ (s : Scanner). HasRead s stream live.pieces) (sym keeps.scanner) live.read) in
    cut_scanned new priority (stream ++ portion) (live.pieces ++ added mid.pieces.items new.pieces.items) given (same ∙ (keeps.fault ∙ fault)) on.front
    (feeds old mid new priority stream portion given live keeps grows splitter from looked held on.front) on.scanned

-- what holds of a stream that is refused, or whose groups are, as it goes on
stopped_longer : (old new : GroupCutter) (priority : Priorities) (stream portion : List ℕ) (given : List CutGroup)
    (fault : SplitFault) → pieces_left new ≡ 0 → IsStopped old priority stream given fault → IsStopped new priority (stream ++ portion) given fault
stopped_longer old new priority stream portion given fault left over = record {
  told = over.told;
  refuses = λ rest. ap (groups_fault priority) (append_assoc stream portion rest) ∙ over.refuses (portion ++ rest);
  none_left = left;
  ended = ended_longer priority stream portion given over.ended;
  none_further = λ rest. subst (λ w. NoneFurther priority w given) (sym (append_assoc stream portion rest)) (over.none_further (portion ++ rest));
}

seen_longer : (cutter : GroupCutter) (priority : Priorities) (stream portion : List ℕ) (given : List CutGroup)
    (scan : Scan) → IsSeen cutter priority stream given scan → IsSeen cutter priority (stream ++ portion) given scan
seen_longer cutter priority stream portion given scan part = record {
  seen = part.seen;
  unseen = part.unseen ++ portion;
  parts = ap (λ w. w ++ portion) part.parts ∙ append_assoc part.seen part.unseen portion;
  pieces = part.pieces;
  front = part.front;
  refuses = part.refuses;
  stopped = part.stopped;
  looked = part.looked;
}

-- the groups were refused before, and the scanner has read on
stopped_more : (old new : GroupCutter) (priority : Priorities) (stream portion : List ℕ) (given : List CutGroup)
    (o : Option SplitFault) → is_some o ≡ true → pieces_left new ≡ 0 → MatchOption o (IsCutting old priority stream given) (λ f. IsStopped old priority stream given f) → MatchOption o (IsCutting new priority (stream ++ portion) given) (λ f. IsStopped new priority (stream ++ portion) given f)
stopped_more old new priority stream portion given None some left state = absurd cc
stopped_more old new priority stream portion given (Some fault) some left over = stopped_longer old new priority stream portion given fault left over

pub scans_stopped : (old mid new : GroupCutter) (priority : Priorities) (stream portion : List ℕ)
    (given : List CutGroup) → is_some old.fault ≡ true → old.scan ≡ None → (old.scan ≡ None → (s : List ℕ) (pieces : List Piece) → HasRead old.scanner s pieces → ScansOn old.pieces.items mid s portion pieces) → new.scanner ≡ mid.scanner → new.scan ≡ mid.scan → new.fault ≡ old.fault → new.pieces.items ≡ [] → HasCut old priority stream given → HasCut new priority (stream ++ portion) given
scans_stopped old mid new priority stream portion given some scan scans scanner same fault empty h =
    let read = read_of old stream h.scanned scan in
    let on = scans scan stream read.0 read.1 in
    let none : length new.pieces.items ≡ 0 = ap length empty in
    record {
      scanned =
          same_scanned mid new (stream ++ portion) scanner same (scanned_told mid.scanner (stream ++ portion) (read.0 ++ added old.pieces.items mid.pieces.items) mid.scan on.scanned);
      state = subst (λ o. MatchOption o (IsCutting new priority (stream ++ portion) given) (λ f. IsStopped new priority (stream ++ portion) given f)) (sym fault)
          (stopped_more old new priority stream portion given old.fault some (omega arith) h.state);
    }

-- the stream was refused before, and goes on
scanned_more : (o : Option Scan) (A B : Type 0) (stream portion : List ℕ) → is_some o ≡ true
    → MatchOption o A (λ s. (rest : List ℕ) → Refuses (stream ++ rest) s) → MatchOption o B (λ s. (rest : List ℕ) → Refuses (stream ++ portion ++ rest) s)
scanned_more None A B stream portion is h = absurd cc
scanned_more (Some scan) A B stream portion is h = λ rest. subst (λ w. Refuses w scan) (sym (append_assoc stream portion rest)) (h (portion ++ rest))

state_more : (cutter : GroupCutter) (priority : Priorities) (stream portion : List ℕ) (given : List CutGroup)
    (fault : Option SplitFault) (scan : Option Scan) → is_some scan ≡ true → MatchOption fault (MatchOption scan (IsLive cutter priority stream given) (λ s. IsSeen cutter priority stream given s)) (λ f. IsStopped cutter priority stream given f)
    → MatchOption fault (MatchOption scan (IsLive cutter priority (stream ++ portion) given)
    (λ s. IsSeen cutter priority (stream ++ portion) given s)) (λ f. IsStopped cutter priority (stream ++ portion) given f)
state_more cutter priority stream portion given None None is state = absurd cc
state_more cutter priority stream portion given None (Some scan) is part = seen_longer cutter priority stream portion given scan part
state_more cutter priority stream portion given (Some fault) scan is over = stopped_longer cutter cutter priority stream portion given fault over.none_left over

pub refused_more : (cutter : GroupCutter) (priority : Priorities) (stream portion : List ℕ) (given : List CutGroup)
    → is_some cutter.scan ≡ true → HasCut cutter priority stream given → HasCut cutter priority (stream ++ portion) given
refused_more cutter priority stream portion given is h = record {
  scanned = scanned_more cutter.scan _ _ stream portion is h.scanned;
  state = state_more cutter priority stream portion given cutter.fault cutter.scan is h.state;
}

-- a group was given
gives_by : (old new : GroupCutter) (group : Option CutGroup) (priority : Priorities) (stream : List ℕ)
    (given : List CutGroup) (fault : Option SplitFault) (scan : Option Scan) → ((seen : List ℕ) (pieces : List Piece) → HasLooked old priority seen pieces given → HasLooked new priority seen pieces (given ++ groups_in group)) → (pieces_left old ≡ 0 → (group ≡ None) × (new ≡ old)) → new.scanner ≡ old.scanner
    → MatchOption fault (MatchOption scan (IsLive old priority stream given) (λ s. IsSeen old priority stream given s)) (λ f. IsStopped old priority stream given f)
    → MatchOption fault (MatchOption scan (IsLive new priority stream (given ++ groups_in group))
    (λ s. IsSeen new priority stream (given ++ groups_in group) s)) (λ f. IsStopped new priority stream (given ++ groups_in group) f)
gives_by old new group priority stream given None None looks idle scanner live = record {
  pieces = live.pieces;
  read = subst (λ (s : Scanner). HasRead s stream live.pieces) (sym scanner) live.read;
  front = live.front;
  looked = looks stream live.pieces live.looked;
}
gives_by old new group priority stream given None (Some scan) looks idle scanner part = record {
  seen = part.seen;
  unseen = part.unseen;
  parts = part.parts;
  pieces = part.pieces;
  front = part.front;
  refuses = part.refuses;
  stopped = part.stopped;
  looked = looks part.seen part.pieces part.looked;
}
gives_by old new group priority stream given (Some fault) scan looks idle scanner over =
    let same = idle over.none_left in
    let groups : given ≡ given ++ groups_in group = sym (ap (λ g. given ++ groups_in g) same.0 ∙ append-nil given) in
    record {
      told = over.told;
      refuses = over.refuses;
      none_left = subst (λ n. pieces_left n ≡ 0) (sym same.1) over.none_left;
      ended = subst (HaveEnded priority stream) groups over.ended;
      none_further = λ rest. subst (NoneFurther priority (stream ++ rest)) groups (over.none_further rest);
    }

pub gives : (old new : GroupCutter) (group : Option CutGroup) (priority : Priorities) (stream : List ℕ)
    (given : List CutGroup) → ((seen : List ℕ) (pieces : List Piece) → HasLooked old priority seen pieces given → HasLooked new priority seen pieces (given ++ groups_in group)) → (pieces_left old ≡ 0 → (group ≡ None) × (new ≡ old)) → new.scanner ≡ old.scanner → new.scan ≡ old.scan → new.fault ≡ old.fault → HasCut old priority stream given → HasCut new priority stream (given ++ groups_in group)
gives old new group priority stream given looks idle scanner scan fault h = record {
  scanned = same_scanned old new stream scanner scan h.scanned;
  state = subst (λ o. MatchOption o (IsCutting new priority stream (given ++ groups_in group)) (λ f. IsStopped new priority stream (given ++ groups_in group) f)) (sym fault)
      (subst (λ o. MatchOption old.fault (MatchOption o (IsLive new priority stream (given ++ groups_in group))
      (λ s. IsSeen new priority stream (given ++ groups_in group) s)) (λ f. IsStopped new priority stream (given ++ groups_in group) f)) (sym scan)
      (gives_by old new group priority stream given old.fault old.scan looks idle scanner h.state));
}

-- the groups are refused
faulty : (priority : Priorities) (seen rest : List ℕ) (pieces : List Piece) (fault : SplitFault)
    → IsFrontOf seen pieces → ((later : List Piece) → fault_of (layer_of priority) (length priority.layers) (groups_of (pieces ++ later)) ≡ Some fault) → groups_fault priority (seen ++ rest) ≡ Some fault
faulty priority seen rest pieces fault front faults =
    let all = front.front rest in
    ap (λ ps. fault_of (layer_of priority) (length priority.layers) (groups_of ps)) all.1 ∙ faults all.0

faulty_by : (old : GroupCutter) (priority : Priorities) (stream : List ℕ) (given : List CutGroup) (fault : SplitFault)
    (o : Option SplitFault) (scan : Option Scan) → ((seen : List ℕ) (pieces : List Piece) → HasLooked old priority seen pieces given → (later : List Piece) → fault_of (layer_of priority) (length priority.layers) (groups_of (pieces ++ later)) ≡ Some fault) → (pieces_left old ≡ 0 → ⊥)
    → MatchOption o (MatchOption scan (IsLive old priority stream given) (λ s. IsSeen old priority stream given s))
    (λ f. IsStopped old priority stream given f) → (rest : List ℕ) → groups_fault priority (stream ++ rest) ≡ Some fault
faulty_by old priority stream given fault None None faults some live rest = faulty priority stream rest live.pieces fault live.front (faults stream live.pieces live.looked)
faulty_by old priority stream given fault None (Some scan) faults some part rest =
    ap (λ w. groups_fault priority (w ++ rest)) part.parts
    ∙ (ap (groups_fault priority) (append_assoc part.seen part.unseen rest)
    ∙ faulty priority part.seen (part.unseen ++ rest) part.pieces fault part.front (faults part.seen part.pieces part.looked))
faulty_by old priority stream given fault (Some before) scan faults some over rest = absurd (some over.none_left)

pub stops : (old new : GroupCutter) (priority : Priorities) (stream : List ℕ) (given : List CutGroup)
    (fault : SplitFault) → fault ≢ split.NoMemory → ((seen : List ℕ) (pieces : List Piece) → HasLooked old priority seen pieces given → (later : List Piece) → fault_of (layer_of priority) (length priority.layers) (groups_of (pieces ++ later)) ≡ Some fault) → ((seen : List ℕ) (pieces : List Piece) → HasLooked old priority seen pieces given → HasMetLimit priority pieces given) → (pieces_left old ≡ 0 → ⊥)
    → new.fault ≡ Some fault → pieces_left new ≡ 0 → new.scanner ≡ old.scanner → new.scan ≡ old.scan
    → HasCut old priority stream given → HasCut new priority stream (given ++ [])
stops old new priority stream given fault told faults limits some kept left scanner scan h =
    subst (HasCut new priority stream) (sym (append-nil given))
    (record {
      scanned = same_scanned old new stream scanner scan h.scanned;
      state = subst (λ o. MatchOption o (IsCutting new priority stream given) (λ f. IsStopped new priority stream given f)) (sym kept)
          (record {
            told = told;
            refuses = faulty_by old priority stream given fault old.fault old.scan faults some h.state;
            none_left = left;
            ended = given_ended old priority stream given h;
            none_further = stopped_by old priority stream given old.fault old.scan limits h.state;
          });
    })

-- the refusal that was kept
pub refused_before : (cutter : GroupCutter) (priority : Priorities) (stream : List ℕ) (given : List CutGroup)
    (scan : Scan) → cutter.scan ≡ Some scan → HasCut cutter priority stream given → IsCutFault priority stream (Stream scan)
refused_before cutter priority stream given scan e h =
    let all = refused_of cutter stream scan h.scanned e in
    (subst (λ w. Refuses w scan) (append-nil stream) (all []), λ _. all)

-- that of the end
pub refused_at_end : (cutter : GroupCutter) (priority : Priorities) (stream : List ℕ) (given : List CutGroup)
    (scan : Scan) → cutter.scan ≡ None → ((s : List ℕ) (pieces : List Piece) → HasRead cutter.scanner s pieces → Refuses s scan) → HasCut cutter priority stream given → IsCutFault priority stream (Stream scan)
refused_at_end cutter priority stream given scan none refuses h =
    let read = read_of cutter stream h.scanned none in
    let bounded = read.1.bounded in
    (refuses stream read.0 read.1, λ long. absurd (omega (arith, bounded, long)))

-- and the fault of the groups of an accepted stream
pub groups_refused : (cutter : GroupCutter) (priority : Priorities) (stream : List ℕ) (given : List CutGroup)
    (fault : SplitFault) → cutter.scan ≡ None → cutter.fault ≡ Some fault → ((s : List ℕ) (pieces : List Piece) → HasRead cutter.scanner s pieces → IsAccepted s) → HasCut cutter priority stream given → IsCutFault priority stream (Groups fault)
groups_refused cutter priority stream given fault none e accepted h =
    let read = read_of cutter stream h.scanned none in
    let over = stopped_of cutter priority stream given fault h e in
    (accepted stream read.0 read.1, over.told, ap (groups_fault priority) (sym (append-nil stream)) ∙ over.refuses [])

-- the stream has ended
pub ends : (old new : GroupCutter) (priority : Priorities) (stream : List ℕ) (given : List CutGroup)
    (live : IsLive old priority stream given) → HasGrown old.pieces.items new.pieces.items → new.splitter ≡ old.splitter → new.from ≡ old.from → new.looked ≡ old.looked → new.held ≡ old.held → live.pieces ++ added old.pieces.items new.pieces.items ≡ pieces_of stream → StandOnEnd 0 (pieces_of stream) (length stream) → length stream ≤ max_stream → HasEnded new priority stream given
ends old new priority stream given live grows splitter from looked held are standing bounded =
    let more : List Piece = added old.pieces.items new.pieces.items in
    let g = grown old.looked old.pieces.items new.pieces.items live.looked.some grows in
    record {
      standing = standing;
      bounded = bounded;
      looked = reads_more old new priority stream [] stream live.pieces more (pieces_of stream) given (length stream) live.looked splitter from
          (ap (λ n. drop n new.pieces.items) looked ∙ g.0) (subst (λ n. n ≤ length new.pieces.items) (sym looked) g.1)
          (ap (λ v. v.items) held ∙ sym (append-nil old.held.items)) (append-nil stream) are standing (omega arith);
    }

-- and gives one group more
pub ended_more : (old new : GroupCutter) (group : Option CutGroup) (priority : Priorities) (stream : List ℕ)
    (given groups : List CutGroup) → ((seen : List ℕ) (pieces : List Piece) (before : List CutGroup) → HasLooked old priority seen pieces before → HasLooked new priority seen pieces (before ++ groups_in group)) → HasEnded old priority stream (given ++ groups) → HasEnded new priority stream (given ++ (groups ++ groups_in group))
ended_more old new group priority stream given groups looks h = record {
  standing = h.standing;
  bounded = h.bounded;
  looked = subst (HasLooked new priority stream (pieces_of stream)) (append_assoc given groups (groups_in group)) (looks stream (pieces_of stream) (given ++ groups) h.looked);
}

-- and its groups are refused
pub ended_fault : (old : GroupCutter) (priority : Priorities) (stream : List ℕ) (given : List CutGroup)
    (fault : SplitFault) → ((seen : List ℕ) (pieces : List Piece) (before : List CutGroup) → HasLooked old priority seen pieces before → (later : List Piece) → fault_of (layer_of priority) (length priority.layers) (groups_of (pieces ++ later)) ≡ Some fault) → HasEnded old priority stream given → fault_of (layer_of priority) (length priority.layers) (groups_of (pieces_of stream)) ≡ Some fault
ended_fault old priority stream given fault faults h =
    ap (λ ps. fault_of (layer_of priority) (length priority.layers) (groups_of ps)) (sym (append-nil (pieces_of stream))) ∙ faults stream (pieces_of stream) given h.looked []
