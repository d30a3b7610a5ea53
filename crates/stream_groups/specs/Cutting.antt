-- The groups of a stream with their bytes, and where a cutter stands that has read a stream, however that came in
-- portions. This project's own.
use Rattle.std.specs.Prelude.{◌≡◌, ◌≢◌, ℕ, ◌+◌, ◌-◌, ◌<◌, ◌≤◌, false, List, [], ◌∷◌, ◌++◌, length, map, take, drop}
use Rattle.std.specs.Prelude.{Option, None, Some, MatchOption, All}
use Rattle.std.specs.List.{flat_map}
use Rattle.pet_base.specs.declared.limits.TheConstants.{MAX_GROUPS}
use Rattle.mpeg_scan.specs.declared.piece.Piece.{Piece}
use Rattle.mpeg_scan.specs.declared.refusal.Scan.{Scan}
use Rattle.mpeg_scan.specs.Refusals.{IsAccepted, IsUndecided, IsRefusal, Refuses, max_stream}
use Rattle.mpeg_scan.specs.Pieces.{pieces_of, ended_pieces, StandOnEnd}
use Rattle.mpeg_scan.specs.Scanning.{HasRead, HasStopped, HasGrown, IsFrontOf, added}
use Rattle.priority_file.specs.Priority.{Priorities, layer_of}
use Rattle.layer_split.specs.declared.fault.SplitFault.{SplitFault}
use Rattle.layer_split.specs.declared.fault.SplitFault.TheVariants as split
use Rattle.layer_split.specs.Groups.{groups_of, ended_groups}
use Rattle.layer_split.specs.Layers.{Cut, cut_of}
use Rattle.layer_split.specs.Faults.{fault_of, is_too_long}
use Rattle.layer_split.specs.Splitting.{HasAdded, IsOneTooMany, rebased}
use Rattle.stream_groups.specs.CutGroups.{CutGroup}
use Rattle.stream_groups.specs.declared.fault.CutFault.{CutFault}
use Rattle.stream_groups.specs.declared.fault.CutFault.TheVariants.{Stream, Groups, NoMemory}
use Rattle.stream_groups.specs.declared.groups.GroupCutter.{GroupCutter}

-- the bytes of a group's pieces
abbrev pub bytes_of_pieces : List ℕ → List Piece → List ℕ
bytes_of_pieces stream group = flat_map (λ piece. take piece.len (drop piece.at stream)) group

-- where its first piece begins
abbrev pub first_at : List Piece → ℕ
first_at [] = 0
first_at (piece ∷ later) = piece.at

-- a cut whose runs are counted from this byte, with its bytes
abbrev pub group_from : ℕ → Cut → List ℕ → CutGroup
group_from from cut bytes =
    record { cut = record { runs = map (rebased from) cut.runs; lengths = cut.lengths }; bytes = bytes }

-- a group of the stream, counted from its first byte
abbrev pub cut_group : Priorities → List ℕ → List Piece → CutGroup
cut_group priority stream group =
    group_from (first_at group) (cut_of (layer_of priority) (length priority.layers) group)
    (bytes_of_pieces stream group)

-- all groups of the stream
abbrev pub cut_groups : Priorities → List ℕ → List CutGroup
cut_groups priority stream = map (cut_group priority stream) (groups_of (pieces_of stream))

abbrev pub groups_in : Option CutGroup → List CutGroup
groups_in None = []
groups_in (Some group) = group ∷ []

-- why the stream's groups are refused
abbrev pub groups_fault : Priorities → List ℕ → Option SplitFault
groups_fault priority stream = fault_of (layer_of priority) (length priority.layers) (groups_of (pieces_of stream))

-- neither the stream nor its groups are refused
abbrev pub IsCuttable : Priorities → List ℕ → Type 0
IsCuttable priority stream = IsAccepted stream × (groups_fault priority stream ≡ None)

-- Why the stream is not cut: its refusal, which holds however it goes on where it is too long already, or else that of
-- its groups. Want of memory says nothing.
abbrev pub IsCutFault : Priorities → List ℕ → CutFault → Type 0
IsCutFault priority stream (Stream scan) = IsRefusal stream scan
IsCutFault priority stream (Groups fault) =
    IsAccepted stream × (fault ≢ split.NoMemory) × (groups_fault priority stream ≡ Some fault)
IsCutFault priority stream NoMemory = Unit {0}

-- these are all groups of the stream, of which nothing is refused
pub record AreAll (priority : Priorities) (stream : List ℕ) (groups : List CutGroup) : Type 0 where
  pub all : groups ≡ cut_groups priority stream
  pub cuttable : IsCuttable priority stream

-- where pieces end that stand on end from this byte on
abbrev pub end_of : ℕ → List Piece → ℕ
end_of from [] = from
end_of from (piece ∷ later) = end_of (from + piece.len) later

-- the pieces that were not looked at, and how many they are
abbrev pub pending : GroupCutter → List Piece
pending cutter = drop cutter.looked cutter.pieces.items

abbrev pub pieces_left : GroupCutter → ℕ
pieces_left cutter = length cutter.pieces.items - cutter.looked

-- The cutter has looked at these pieces but for those that are pending, has given the groups that ended, and holds what
-- was seen of the stream from the first byte of the current group on.
pub record HasLooked (cutter : GroupCutter) (priority : Priorities) (seen : List ℕ) (pieces : List Piece)
    (given : List CutGroup) : Type 0 where
  pub looked : List Piece
  pub cuts : List Cut
  pub whole : pieces ≡ looked ++ pending cutter
  pub some : cutter.looked ≤ length cutter.pieces.items
  pub stand : StandOnEnd 0 pieces (end_of 0 pieces)
  pub within : end_of 0 pieces ≤ length seen
  pub added : HasAdded cutter.splitter priority looked cuts
  pub gives : (more : List ℕ) → given ≡ map (cut_group priority (seen ++ more)) added.gone
  pub current : StandOnEnd cutter.from added.current (end_of 0 looked)
  pub held : cutter.held.items ≡ drop cutter.from seen

-- nothing is refused so far
pub record IsLive (cutter : GroupCutter) (priority : Priorities) (stream : List ℕ)
    (given : List CutGroup) : Type 0 where
  pub pieces : List Piece
  pub read : HasRead cutter.scanner stream pieces
  pub front : IsFrontOf stream pieces
  pub looked : HasLooked cutter priority stream pieces given

-- a front of the stream was seen, by which the stream is refused so, and its pieces are looked at
pub record IsSeen (cutter : GroupCutter) (priority : Priorities) (stream : List ℕ) (given : List CutGroup)
    (scan : Scan) : Type 0 where
  pub seen : List ℕ
  pub unseen : List ℕ
  pub parts : stream ≡ seen ++ unseen
  pub pieces : List Piece
  pub front : IsFrontOf seen pieces
  pub refuses : (rest : List ℕ) → Refuses (seen ++ rest) scan
  pub stopped : HasStopped seen scan pieces
  pub looked : HasLooked cutter priority seen pieces given

-- These groups are the first of the stream, and ended before it or its groups were refused: in a front of it by which
-- nothing
-- is refused, and before a group that is too long or one too many.
pub record HaveEnded (priority : Priorities) (stream : List ℕ) (groups : List CutGroup) : Type 0 where
  pub front : List ℕ
  pub behind : List ℕ
  pub parts : stream ≡ front ++ behind
  pub undecided : IsUndecided front
  pub ended : List (List Piece)
  pub later : List (List Piece)
  pub first : ended_groups (ended_pieces front) ≡ ended ++ later
  pub groups_are : groups ≡ map (cut_group priority front) ended
  pub fit : All (λ group. is_too_long (layer_of priority) (length priority.layers) group ≡ false) ended
  pub few : length ended < MAX_GROUPS

-- and no further one did
abbrev pub NoneFurther : Priorities → List ℕ → List CutGroup → Type 0
NoneFurther priority stream groups = (next : CutGroup) → HaveEnded priority stream (groups ++ next ∷ []) → ⊥

-- These groups are all that had ended before one of these pieces, with which the groups are refused.
pub record HasMetLimit (priority : Priorities) (pieces : List Piece) (given : List CutGroup) : Type 0 where
  pub before : List Piece
  pub piece : Piece
  pub behind : List Piece
  pub parts : pieces ≡ before ++ piece ∷ behind
  pub count : length given ≡ length (ended_groups before)
  pub limit : IsOneTooMany priority before piece

-- these are the first groups of the stream, however it goes on
abbrev pub AreFirstGroups : Priorities → List ℕ → List CutGroup → Type 0
AreFirstGroups priority stream groups =
    (rest : List ℕ) → (later : List CutGroup) × (cut_groups priority (stream ++ rest) ≡ groups ++ later)

-- the groups are refused so, however the stream goes on, and of those that had ended before none is left
pub record IsStopped (cutter : GroupCutter) (priority : Priorities) (stream : List ℕ) (given : List CutGroup)
    (fault : SplitFault) : Type 0 where
  pub told : fault ≢ split.NoMemory
  pub refuses : (rest : List ℕ) → groups_fault priority (stream ++ rest) ≡ Some fault
  pub none_left : pieces_left cutter ≡ 0
  pub ended : HaveEnded priority stream given
  pub none_further : (rest : List ℕ) → NoneFurther priority (stream ++ rest) given

-- Once the stream is refused it is so however it goes on; until then the scanner has read all of it, also where the
-- groups are refused.
abbrev pub HasScanned : GroupCutter → List ℕ → Type 0
HasScanned cutter stream =
    MatchOption cutter.scan ((pieces : List Piece) × HasRead cutter.scanner stream pieces)
    (λ scan. (rest : List ℕ) → Refuses (stream ++ rest) scan)

-- the groups are not refused so far
abbrev pub IsCutting : GroupCutter → Priorities → List ℕ → List CutGroup → Type 0
IsCutting cutter priority stream given =
    MatchOption cutter.scan (IsLive cutter priority stream given) (λ scan. IsSeen cutter priority stream given scan)

-- The cutter for this priority has read the stream, and has given these groups.
pub record HasCut (cutter : GroupCutter) (priority : Priorities) (stream : List ℕ)
    (given : List CutGroup) : Type 0 where
  pub scanned : HasScanned cutter stream
  pub state : MatchOption cutter.fault (IsCutting cutter priority stream given)
      (λ fault. IsStopped cutter priority stream given fault)

-- the stream has ended with these pieces, of which nothing is refused
pub record HasEnded (cutter : GroupCutter) (priority : Priorities) (stream : List ℕ)
    (given : List CutGroup) : Type 0 where
  pub standing : StandOnEnd 0 (pieces_of stream) (length stream)
  pub bounded : length stream ≤ max_stream
  pub looked : HasLooked cutter priority stream (pieces_of stream) given

-- what looking at pieces does: the group that it gives comes behind those before
abbrev pub LooksOn : GroupCutter → GroupCutter → Option CutGroup → Type 0
LooksOn old new group = (priority : Priorities) (seen : List ℕ) (pieces : List Piece) (given : List CutGroup)
    → HasLooked old priority seen pieces given → HasLooked new priority seen pieces (given ++ groups_in group)

-- unless memory ran out, this is the fault of the groups, whatever comes behind these pieces
abbrev pub MeetsFault : GroupCutter → SplitFault → Type 0
MeetsFault old fault = fault ≢ split.NoMemory → (priority : Priorities) (seen : List ℕ) (pieces : List Piece)
    (given : List CutGroup) → HasLooked old priority seen pieces given → (later : List Piece)
    → fault_of (layer_of priority) (length priority.layers) (groups_of (pieces ++ later)) ≡ Some fault

-- and one of these pieces meets it
abbrev pub MeetsLimit : GroupCutter → SplitFault → Type 0
MeetsLimit old fault = fault ≢ split.NoMemory → (priority : Priorities) (seen : List ℕ) (pieces : List Piece)
    (given : List CutGroup) → HasLooked old priority seen pieces given → HasMetLimit priority pieces given

-- what the reading of a portion leaves alone: all but the scanner, its refusal, and the pieces, which it appends
pub record KeepsHeld (old new : GroupCutter) : Type 0 where
  pub splitter : new.splitter ≡ old.splitter
  pub held : new.held ≡ old.held
  pub from : new.from ≡ old.from
  pub looked : new.looked ≡ old.looked
  pub fault : new.fault ≡ old.fault
  pub grows : HasGrown old.pieces.items new.pieces.items

-- The scanner, which had given these pieces of the stream, has read the portion too, and appended further pieces to
-- those
-- that the cutter had before; or the portion refuses the stream.
pub record ScansOn (before : List Piece) (cutter : GroupCutter) (stream portion : List ℕ)
    (pieces : List Piece) : Type 0 where
  pub front : IsFrontOf (stream ++ portion) (pieces ++ added before cutter.pieces.items)
  pub scanned : MatchOption cutter.scan
      (HasRead cutter.scanner (stream ++ portion) (pieces ++ added before cutter.pieces.items))
      (λ scan. ((rest : List ℕ) → Refuses (stream ++ portion ++ rest) scan)
      × HasStopped (stream ++ portion) scan (pieces ++ added before cutter.pieces.items))

-- what letting go of pieces leaves alone
pub record KeepsPending (old new : GroupCutter) : Type 0 where
  pub scanner : new.scanner ≡ old.scanner
  pub splitter : new.splitter ≡ old.splitter
  pub held : new.held ≡ old.held
  pub from : new.from ≡ old.from
  pub scan : new.scan ≡ old.scan
  pub fault : new.fault ≡ old.fault
  pub pending : pending new ≡ pending old
  pub some : old.looked ≤ length old.pieces.items → new.looked ≤ length new.pieces.items

-- what the end of a group leaves alone
pub record KeepsPieces (old new : GroupCutter) : Type 0 where
  pub scanner : new.scanner ≡ old.scanner
  pub splitter : new.splitter ≡ old.splitter
  pub pieces : new.pieces ≡ old.pieces
  pub looked : new.looked ≡ old.looked
  pub scan : new.scan ≡ old.scan
  pub fault : new.fault ≡ old.fault

-- the group of this cut, where there is one, has the bytes that were held before this byte of the stream
abbrev pub Ends : GroupCutter → GroupCutter → Option Cut → ℕ → Option CutGroup → Type 0
Ends old new None end group = (group ≡ None) × (new ≡ old)
Ends old new (Some cut) end group =
    (new.held.items ≡ drop (end - old.from) old.held.items) × (new.from ≡ end)
    × (All (λ run. old.from ≤ run.at) cut.runs
    → group ≡ Some (group_from old.from cut (take (end - old.from) old.held.items)))
