-- No group ended behind those that a cutter has given, where it has looked at all pieces or the groups are refused.
use Rattle.std.proofs.Common.{◌≡◌, ℕ, ◌+◌, ◌<◌, ◌≤◌, false, List, [], ◌∷◌, ◌++◌, length, get_or, take, drop, Option}
use Rattle.std.proofs.Common.{None, Some, refl, sym, ◌∙◌, ap, subst, arith, inl, inr, append_assoc}
use Rattle.std.specs.Prelude.{IsTrue, MatchOption, Result, Ok, Err, OnErr}
use Rattle.std.proofs.Math.Seq.{take-append_seam}
use Rattle.std.proofs.lemmas.Bool.{both_ways}
use Rattle.std.proofs.lemmas.List.{append-nil, length-append, length-map, length_push, take-append-le, take-append-drop}
use Rattle.std.proofs.lemmas.List.{get_or_append_left, get_or_at}
use Rattle.mpeg_scan.specs.declared.piece.Piece.{Piece}
use Rattle.mpeg_scan.specs.declared.refusal.Scan.{Scan}
use Rattle.mpeg_scan.specs.Refusals.{decided_at, holds}
use Rattle.mpeg_scan.specs.Pieces.{pieces_of, ended_pieces}
use Rattle.mpeg_scan.specs.Scanning.{IsFrontOf}
use Rattle.mpeg_scan.specs.laws.EndedLaws.{read_ended, ended_grow}
use Rattle.priority_file.specs.Priority.{Priorities, layer_of}
use Rattle.layer_split.specs.declared.fault.SplitFault.{SplitFault}
use Rattle.layer_split.specs.Groups.{groups_of, ended_groups, last_group}
use Rattle.layer_split.specs.Splitting.{IsOneTooMany}
use Rattle.layer_split.specs.Faults.{is_too_long}
use Rattle.layer_split.specs.laws.EndedLaws.{gone_ended, groups_grow, last_ends, ended_count}
use Rattle.stream_groups.specs.CutGroups.{CutGroup}
use Rattle.stream_groups.specs.declared.groups.GroupCutter.{GroupCutter}
use Rattle.stream_groups.specs.Cutting.{HasCut, HasLooked, HasMetLimit, HaveEnded, IsLive, IsStopped, IsSeen}
use Rattle.stream_groups.specs.Cutting.{NoneFurther, cut_group, pieces_left}
use Rattle.stream_groups.specs.laws.EndedLaws.{groups_parted}
use Rattle.stream_groups.proofs.Looking.{all_looked, pieces_at}

-- how many were given
given_count : (cutter : GroupCutter) (priority : Priorities) (seen : List ℕ) (pieces : List Piece)
    (given : List CutGroup) (h : HasLooked cutter priority seen pieces given)
    → length given ≡ length (ended_groups h.looked)
given_count cutter priority seen pieces given h =
    ap length (h.gives [])
    ∙ (length-map h.added.gone (cut_group priority (seen ++ []))
    ∙ ap length (gone_ended cutter.splitter priority h.looked h.cuts h.added))

-- and how many have ended of groups with one more
one_more : (priority : Priorities) (stream : List ℕ) (given : List CutGroup) (next : CutGroup)
    (u : HaveEnded priority stream (given ++ next ∷ [])) → length u.ended ≡ length given + 1
one_more priority stream given next u =
    sym (length-map u.ended (cut_group priority u.front)) ∙ (ap length (sym u.groups_are) ∙ length_push given next)

-- Those that were given are all that had ended in a front of the stream: one more had not ended in a shorter one.
none_before : (priority : Priorities) (stream front behind : List ℕ) (given : List CutGroup) (next : CutGroup)
    (u : HaveEnded priority stream (given ++ next ∷ [])) → stream ≡ front ++ behind
    → length given ≡ length (ended_groups (ended_pieces front)) → length u.front ≤ length front → ⊥
none_before priority stream front behind given next u parts count le =
    let n : ℕ = length u.front in
    let more : List ℕ = drop n front in
    let first : u.front ≡ take n front =
    sym (take-append_seam u.front u.behind) ∙ (ap (take n) (sym u.parts ∙ parts) ∙ take-append-le n front behind le) in
    let whole : front ≡ u.front ++ more = sym (take-append-drop n front) ∙ ap (λ w. w ++ more) (sym first) in
    let pieces = ended_grow u.front more in
    let groups = groups_grow (ended_pieces u.front) pieces.0 in
    let all : ended_groups (ended_pieces front) ≡ (u.ended ++ u.later) ++ groups.0 =
    ap (λ w. ended_groups (ended_pieces w)) whole
    ∙ (ap ended_groups pieces.1 ∙ (groups.1 ∙ ap (λ l. l ++ groups.0) u.first)) in
    let one = one_more priority stream given next u in
    let a = ap length all in
    let b = length-append (u.ended ++ u.later) groups.0 in
    let c = length-append u.ended u.later in
    absurd (omega (arith, count, one, a, b, c))

-- nothing is refused so far
further_live : (cutter : GroupCutter) (priority : Priorities) (stream : List ℕ) (given : List CutGroup)
    → IsLive cutter priority stream given → pieces_left cutter ≡ 0 → NoneFurther priority stream given
further_live cutter priority stream given live left next u =
    let h = live.looked in
    let pieces : h.looked ≡ ended_pieces stream =
    all_looked cutter priority stream live.pieces given h left
    ∙ read_ended cutter.scanner stream live.pieces live.read in
    let lengths = ap length u.parts in
    let sum = length-append u.front u.behind in
    none_before priority stream stream [] given next u (sym (append-nil stream))
    (given_count cutter priority stream live.pieces given h ∙ ap (λ ps. length (ended_groups ps)) pieces)
    (omega (arith, lengths, sum))

-- the stream is refused at a byte behind which no front goes on undecided
further_seen : (cutter : GroupCutter) (priority : Priorities) (stream : List ℕ) (given : List CutGroup) (scan : Scan)
    → IsSeen cutter priority stream given scan → pieces_left cutter ≡ 0 → NoneFurther priority stream given
further_seen cutter priority stream given scan part left next u =
    let s = part.stopped in
    let h = part.looked in
    let pieces : h.looked ≡ ended_pieces s.before =
    all_looked cutter priority part.seen part.pieces given h left ∙ s.ended in
    let parts : stream ≡ s.before ++ (s.behind ++ part.unseen) =
    part.parts ∙ (ap (λ w. w ++ part.unseen) s.parts ∙ append_assoc s.before s.behind part.unseen) in
    let same : part.seen ++ part.unseen ≡ u.front ++ u.behind = sym part.parts ∙ u.parts in
    let holding = subst (λ w. IsTrue (holds w scan)) same (part.refuses part.unseen).holding in
    let decided : decided_at (u.front ++ u.behind) scan ≡ length s.before =
    ap (λ w. decided_at w scan) (sym same) ∙ s.decided part.unseen in
    let le = u.undecided u.behind scan holding in
    none_before priority stream s.before (s.behind ++ part.unseen) given next u parts
    (given_count cutter priority part.seen part.pieces given h ∙ ap (λ ps. length (ended_groups ps)) pieces)
    (subst (λ n. length u.front ≤ n) decided le)

further_by : (cutter : GroupCutter) (priority : Priorities) (stream : List ℕ) (given : List CutGroup)
    (fault : Option SplitFault) (scan : Option Scan) → pieces_left cutter ≡ 0
    → MatchOption fault (MatchOption scan (IsLive cutter priority stream given)
    (λ s. IsSeen cutter priority stream given s)) (λ f. IsStopped cutter priority stream given f)
    → NoneFurther priority stream given
further_by cutter priority stream given None None left live = further_live cutter priority stream given live left
further_by cutter priority stream given None (Some scan) left part =
    further_seen cutter priority stream given scan part left
further_by cutter priority stream given (Some fault) scan left over =
    subst (λ w. NoneFurther priority w given) (append-nil stream) (over.none_further [])

-- where no piece is left
pub none_further : (cutter : GroupCutter) (priority : Priorities) (stream : List ℕ) (given : List CutGroup)
    → HasCut cutter priority stream given → pieces_left cutter ≡ 0 → NoneFurther priority stream given
none_further cutter priority stream given h left =
    further_by cutter priority stream given cutter.fault cutter.scan left h.state

pub any_further : {T E : Type 0} (result : Result T E) (cutter : GroupCutter)
    → OnErr result ((priority : Priorities) (stream : List ℕ) (given : List CutGroup)
    → HasCut cutter priority stream given → pieces_left cutter ≡ 0 → NoneFurther priority stream given)
any_further (Ok x) cutter = tt
any_further (Err e) cutter = none_further cutter

-- the splitter refused the next piece
pub met_limit : (old : GroupCutter) (p : Piece) (priority : Priorities) (seen : List ℕ) (pieces : List Piece)
    (given : List CutGroup) (h : HasLooked old priority seen pieces given) → old.looked < length old.pieces.items
    → get_or old.pieces.items old.looked p ≡ p → IsOneTooMany priority h.looked p → HasMetLimit priority pieces given
met_limit old p priority seen pieces given h lt read limit =
    let rest : List Piece = drop (old.looked + 1) old.pieces.items in
    record {
      before = h.looked;
      piece = p;
      behind = rest;
      parts =
          sym (append-nil pieces)
          ∙ (sym (pieces_at old p priority seen pieces [] given h lt read)
          ∙ ap (λ l. h.looked ++ p ∷ l) (append-nil rest));
      count = given_count old priority seen pieces given h;
      limit = limit;
    }

-- the group behind these ended groups, where both lists are of the groups of one stream
group_behind : (ended later before after : List (List Piece)) (group : List Piece)
    → ended ++ later ≡ before ++ group ∷ after → length ended ≡ length before + 1
    → get_or ended (length before) group ≡ group
group_behind ended later before after group same one =
    sym (get_or_append_left ended later group (length before) (omega arith))
    ∙ (ap (λ l. get_or l (length before) group) same ∙ get_or_at before group after group (length before) refl)

-- the next group is too long, or one too many
further_limit : (priority : Priorities) (seen rest : List ℕ) (pieces : List Piece) (given : List CutGroup)
    → IsFrontOf seen pieces → HasMetLimit priority pieces given → NoneFurther priority (seen ++ rest) given
further_limit priority seen rest pieces given front m next u =
    let all = front.front rest in
    let behind : List Piece = m.behind ++ all.0 in
    let n : ℕ = length (ended_groups m.before) in
    let last : List Piece = last_group m.before in
    let ends = last_ends m.before m.piece behind m.limit.begins in
    let parted = groups_parted u.front u.behind in
    let whole : pieces_of (seen ++ rest) ≡ m.before ++ m.piece ∷ behind =
    all.1 ∙ (ap (λ l. l ++ all.0) m.parts ∙ append_assoc m.before (m.piece ∷ m.behind) all.0) in
    let same : u.ended ++ (u.later ++ parted.0) ≡ ended_groups m.before ++ last ∷ ends.0 =
    sym (append_assoc u.ended u.later parted.0)
    ∙ (ap (λ l. l ++ parted.0) (sym u.first)
    ∙ (sym parted.1 ∙ (ap (λ w. groups_of (pieces_of w)) (sym u.parts) ∙ (ap groups_of whole ∙ ends.1)))) in
    let one : length u.ended ≡ n + 1 = one_more priority (seen ++ rest) given next u ∙ ap (λ k. k + 1) m.count in
    elim m.limit.last [
      | inl long ↦
          both_ways (is_too_long (layer_of priority) (length priority.layers) last)
          (subst (λ g. is_too_long (layer_of priority) (length priority.layers) g ≡ false)
          (group_behind u.ended (u.later ++ parted.0) (ended_groups m.before) ends.0 last same one)
          (u.fit n last (omega arith)))
          long
      | inr many ↦ let few = u.few in let count = ended_count m.before in absurd (omega (arith, one, few, count, many))
    ]

-- where the groups are refused
pub stopped_by : (cutter : GroupCutter) (priority : Priorities) (stream : List ℕ) (given : List CutGroup)
    (fault : Option SplitFault) (scan : Option Scan)
    → ((seen : List ℕ) (pieces : List Piece) → HasLooked cutter priority seen pieces given
    → HasMetLimit priority pieces given)
    → MatchOption fault (MatchOption scan (IsLive cutter priority stream given)
    (λ s. IsSeen cutter priority stream given s)) (λ f. IsStopped cutter priority stream given f) → (rest : List ℕ)
    → NoneFurther priority (stream ++ rest) given
stopped_by cutter priority stream given None None limits live rest =
    further_limit priority stream rest live.pieces given live.front (limits stream live.pieces live.looked)
stopped_by cutter priority stream given None (Some scan) limits part rest =
    subst (λ w. NoneFurther priority w given)
    (sym (append_assoc part.seen part.unseen rest) ∙ ap (λ w. w ++ rest) (sym part.parts))
    (further_limit priority part.seen (part.unseen ++ rest) part.pieces given part.front
    (limits part.seen part.pieces part.looked))
stopped_by cutter priority stream given (Some fault) scan limits over rest = over.none_further rest
