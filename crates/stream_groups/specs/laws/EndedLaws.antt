-- What callers know of groups that ended before a refusal: those that a cutter gave did, they stay as the stream goes
-- on,
-- and they are the first groups of the stream. This project's own.
use Rattle.std.proofs.Common.{◌≡◌, ◌≢◌, ℕ, ◌+◌, false, List, [], ◌∷◌, ◌++◌, length, take, drop, map, Option, None, Some}
use Rattle.std.proofs.Common.{refl, sym, ◌∙◌, ap, subst, arith, append_assoc}
use Rattle.std.specs.Prelude.{All, MatchOption}
use Rattle.std.proofs.lemmas.Bool.{both_ways}
use Rattle.std.proofs.Math.Seq.{take-append_seam}
use Rattle.std.proofs.lemmas.List.{append-nil, map-append, length-append, take-map, take-append-drop}
use Rattle.std.proofs.lemmas.List.Elements.{All-nil, All-take, All-tail}
use Rattle.mpeg_scan.specs.declared.piece.Piece.{Piece}
use Rattle.mpeg_scan.specs.declared.refusal.Scan.{Scan}
use Rattle.mpeg_scan.specs.Refusals.{IsUndecided, holds}
use Rattle.mpeg_scan.specs.Pieces.{pieces_of, ended_pieces}
use Rattle.mpeg_scan.specs.laws.EndedLaws.{read_ended, ended_stay}
use Rattle.priority_file.specs.Priority.{Priorities, layer_of}
use Rattle.layer_split.specs.declared.fault.SplitFault.{SplitFault}
use Rattle.layer_split.specs.Groups.{groups_of, ended_groups}
use Rattle.layer_split.specs.Faults.{is_too_long}
use Rattle.layer_split.specs.Layers.{cut_of}
use Rattle.layer_split.specs.laws.CutLaws.{StandsIn}
use Rattle.layer_split.specs.laws.EndedLaws.{gone_ended, groups_stay, groups_grow}
use Rattle.stream_groups.specs.CutGroups.{CutGroup}
use Rattle.stream_groups.specs.declared.fault.CutFault.{CutFault}
use Rattle.stream_groups.specs.declared.fault.CutFault.TheVariants.{Stream, Groups, NoMemory}
use Rattle.stream_groups.specs.declared.groups.GroupCutter.{GroupCutter}
use Rattle.stream_groups.specs.Cutting.{HasCut, HasLooked, IsLive, IsSeen, IsStopped, IsCuttable, IsCutFault, HaveEnded}
use Rattle.stream_groups.specs.Cutting.{AreFirstGroups, cut_group, cut_groups, group_from, first_at, bytes_of_pieces}
use Rattle.stream_groups.specs.Cutting.{pending}
use Rattle.stream_groups.specs.laws.StandingLaws.{stand_bytes, groups_stand}

-- the first of elements that all pass
All-front : {X : Type 0} (P : X → Type 0) (xs ys : List X) → All P (xs ++ ys) → All P xs
All-front P xs ys all = subst (All P) (take-append_seam xs ys) (All-take P (length xs) (xs ++ ys) all)

-- the groups that ended, among all groups of the stream
pub groups_parted : (stream rest : List ℕ)
    → (more : List (List Piece)) × (groups_of (pieces_of (stream ++ rest)) ≡ ended_groups (ended_pieces stream) ++ more)
groups_parted stream rest =
    let pieces = ended_stay stream rest in
    let groups = groups_stay (ended_pieces stream) pieces.0 in
    (groups.0, ap groups_of pieces.1 ∙ groups.1)

-- they stand in what was read
ended_stand : (stream : List ℕ) → All (StandsIn (length stream)) (ended_groups (ended_pieces stream))
ended_stand stream =
    let groups = groups_parted stream [] in
    All-front (StandsIn (length stream)) (ended_groups (ended_pieces stream)) groups.0
    (subst (All (StandsIn (length stream))) (ap (λ s. groups_of (pieces_of s)) (sym (append-nil stream)) ∙ groups.1)
    (groups_stand stream))

-- a group that stands in a stream stays as that goes on
cut_stays : (priority : Priorities) (stream more : List ℕ) (group : List Piece) → StandsIn (length stream) group
    → cut_group priority (stream ++ more) group ≡ cut_group priority stream group
cut_stays priority stream more group s =
    let bytes : bytes_of_pieces (stream ++ more) group ≡ bytes_of_pieces stream group =
    stand_bytes stream more s.from s.to group s.stand s.within
    ∙ (sym (stand_bytes stream [] s.from s.to group s.stand s.within)
    ∙ ap (λ w. bytes_of_pieces w group) (append-nil stream)) in
    ap (group_from (first_at group) (cut_of (layer_of priority) (length priority.layers) group)) bytes

cuts_stay : (priority : Priorities) (stream more : List ℕ) (groups : List (List Piece))
    → All (StandsIn (length stream)) groups
    → map (cut_group priority (stream ++ more)) groups ≡ map (cut_group priority stream) groups
cuts_stay priority stream more [] stand = refl
cuts_stay priority stream more (g ∷ gs) stand =
    ap (λ c. c ∷ map (cut_group priority (stream ++ more)) gs)
    (cut_stays priority stream more g (stand 0 g (omega arith)))
    ∙ ap (λ l. cut_group priority stream g ∷ l)
    (cuts_stay priority stream more gs (All-tail (StandsIn (length stream)) g gs stand))

-- those that were given of a stream, whose pieces are those that had ended in a front of it by which nothing is refused
looked_ended : (cutter : GroupCutter) (priority : Priorities) (front behind : List ℕ) (pieces : List Piece)
    (given : List CutGroup) → HasLooked cutter priority (front ++ behind) pieces given → IsUndecided front
    → pieces ≡ ended_pieces front → HaveEnded priority (front ++ behind) given
looked_ended cutter priority front behind pieces given h undecided ended =
    let more = groups_grow h.looked (pending cutter) in
    let gone : h.added.gone ≡ ended_groups h.looked = gone_ended cutter.splitter priority h.looked h.cuts h.added in
    let first : ended_groups (ended_pieces front) ≡ h.added.gone ++ more.0 =
    ap ended_groups (sym ended ∙ h.whole) ∙ (more.1 ∙ ap (λ l. l ++ more.0) (sym gone)) in
    record {
      front = front;
      behind = behind;
      parts = refl;
      undecided = undecided;
      ended = h.added.gone;
      later = more.0;
      first = first;
      groups_are = h.gives []
          ∙ (ap (λ w. map (cut_group priority w) h.added.gone) (append-nil (front ++ behind))
          ∙ cuts_stay priority front behind h.added.gone
          (All-front (StandsIn (length front)) h.added.gone more.0
          (subst (All (StandsIn (length front))) first (ended_stand front))));
      fit = h.added.fit;
      few = h.added.few;
    }

-- they stay ended as the stream goes on
pub ended_longer : (priority : Priorities) (stream portion : List ℕ) (groups : List CutGroup)
    → HaveEnded priority stream groups → HaveEnded priority (stream ++ portion) groups
ended_longer priority stream portion groups h = record {
  front = h.front;
  behind = h.behind ++ portion;
  parts = ap (λ w. w ++ portion) h.parts ∙ append_assoc h.front h.behind portion;
  undecided = h.undecided;
  ended = h.ended;
  later = h.later;
  first = h.first;
  groups_are = h.groups_are;
  fit = h.fit;
  few = h.few;
}

ended_by : (cutter : GroupCutter) (priority : Priorities) (stream : List ℕ) (given : List CutGroup)
    (fault : Option SplitFault) (scan : Option Scan)
    → MatchOption fault (MatchOption scan (IsLive cutter priority stream given)
    (λ s. IsSeen cutter priority stream given s)) (λ f. IsStopped cutter priority stream given f)
    → HaveEnded priority stream given
ended_by cutter priority stream given None None live =
    let whole = append-nil stream in
    subst (λ w. HaveEnded priority w given) whole
    (looked_ended cutter priority stream [] live.pieces given
    (subst (λ w. HasLooked cutter priority w live.pieces given) (sym whole) live.looked)
    live.read.undecided (read_ended cutter.scanner stream live.pieces live.read))
ended_by cutter priority stream given None (Some scan) part =
    let s = part.stopped in
    subst (λ w. HaveEnded priority w given) (sym part.parts)
    (ended_longer priority part.seen part.unseen given
    (subst (λ w. HaveEnded priority w given) (sym s.parts)
    (looked_ended cutter priority s.before s.behind part.pieces given
    (subst (λ w. HasLooked cutter priority w part.pieces given) s.parts part.looked)
    s.undecided s.ended)))
ended_by cutter priority stream given (Some fault) scan over = over.ended

-- the groups that a cutter has given
pub given_ended : (cutter : GroupCutter) (priority : Priorities) (stream : List ℕ) (given : List CutGroup)
    → HasCut cutter priority stream given → HaveEnded priority stream given
given_ended cutter priority stream given h = ended_by cutter priority stream given cutter.fault cutter.scan h.state

none_and_some : (fault : SplitFault) (o : Option SplitFault) → o ≡ Some fault → o ≡ None → ⊥
none_and_some fault o some none = cc

-- what is refused so cannot be cut
pub fault_refuses : (priority : Priorities) (stream : List ℕ) (fault : CutFault) → fault ≢ NoMemory
    → IsCutFault priority stream fault → IsCuttable priority stream → ⊥
fault_refuses priority stream (Stream scan) told is cuttable =
    both_ways (holds stream scan) (cuttable.0 scan) is.0.holding
fault_refuses priority stream (Groups fault) told is cuttable = none_and_some fault _ is.2 cuttable.1
fault_refuses priority stream NoMemory told is cuttable = told refl

-- no group at all
pub none_ended : (priority : Priorities) (stream : List ℕ) → HaveEnded priority stream []
none_ended priority stream = record {
  front = [];
  behind = stream;
  parts = refl;
  undecided = λ rest scan holds. omega arith;
  ended = [];
  later = ended_groups (ended_pieces []);
  first = refl;
  groups_are = refl;
  fit = All-nil (λ group. is_too_long (layer_of priority) (length priority.layers) group ≡ false);
  few = omega arith;
}

-- the first of them
pub ended_before : (priority : Priorities) (stream : List ℕ) (groups more : List CutGroup)
    → HaveEnded priority stream (groups ++ more) → HaveEnded priority stream groups
ended_before priority stream groups more h =
    let n : ℕ = length groups in
    let first : List (List Piece) = take n h.ended in
    let last : List (List Piece) = drop n h.ended in
    let whole : first ++ last ≡ h.ended = take-append-drop n h.ended in
    let lengths : length first + length last ≡ length h.ended = sym (length-append first last) ∙ ap length whole in
    let few = h.few in
    record {
      front = h.front;
      behind = h.behind;
      parts = h.parts;
      undecided = h.undecided;
      ended = first;
      later = last ++ h.later;
      first = h.first ∙ (ap (λ l. l ++ h.later) (sym whole) ∙ append_assoc first last h.later);
      groups_are =
          sym (take-append_seam groups more)
          ∙ (ap (take n) h.groups_are ∙ take-map (cut_group priority h.front) n h.ended);
      fit = All-take (λ group. is_too_long (layer_of priority) (length priority.layers) group ≡ false) n h.ended h.fit;
      few = omega (arith, lengths, few);
    }

-- they are the first groups of the stream
pub ended_first : (priority : Priorities) (stream : List ℕ) (groups : List CutGroup) → HaveEnded priority stream groups
    → AreFirstGroups priority stream groups
ended_first priority stream groups h rest =
    let behind : List ℕ = h.behind ++ rest in
    let parts : stream ++ rest ≡ h.front ++ behind = ap (λ w. w ++ rest) h.parts ∙ append_assoc h.front h.behind rest in
    let more = groups_parted h.front behind in
    let later : List (List Piece) = h.later ++ more.0 in
    let split : groups_of (pieces_of (h.front ++ behind)) ≡ h.ended ++ later =
    more.1 ∙ (ap (λ l. l ++ more.0) h.first ∙ append_assoc h.ended h.later more.0) in
    let stand = All-front (StandsIn (length h.front)) h.ended h.later
    (subst (All (StandsIn (length h.front))) h.first (ended_stand h.front)) in
    let same : map (cut_group priority (h.front ++ behind)) h.ended ≡ groups =
    cuts_stay priority h.front behind h.ended stand ∙ sym h.groups_are in
    let cuts : List CutGroup = map (cut_group priority (h.front ++ behind)) later in (
      cuts,
      ap (cut_groups priority) parts
          ∙ (ap (map (cut_group priority (h.front ++ behind))) split
          ∙ (map-append (cut_group priority (h.front ++ behind)) h.ended later ∙ ap (λ l. l ++ cuts) same)),
    )
