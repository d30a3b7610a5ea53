use Rattle.std.proofs.Common.{◌≡◌, ◌≤◌, ℕ, List}
use Rattle.mpeg_scan.specs.declared.piece.Piece.{Piece}
use Rattle.priority_file.specs.Priority.{Priorities}
use Rattle.stream_groups.specs.CutGroups.{CutGroup}
use Rattle.stream_groups.specs.Cutting.{HasLooked, pieces_left}
use Rattle.stream_groups.proofs.groups.GroupCutter.look_on.Given as goal

-- pieces were looked at, and no group has ended
abbrev pub invariant-loop-self : goal.invariant-loop-self
invariant-loop-self l = record {
  looked : (priority : Priorities) (seen : List ℕ) (pieces : List Piece) (given : List CutGroup)
      → HasLooked l.initial.self priority seen pieces given → HasLooked l.self priority seen pieces given;
  fewer : pieces_left l.self ≤ pieces_left l.initial.self;
  idle : pieces_left l.initial.self ≡ 0 → l.self ≡ l.initial.self;
  scanner : l.self.scanner ≡ l.initial.self.scanner;
  scan : l.self.scan ≡ l.initial.self.scan;
  fault : l.self.fault ≡ l.initial.self.fault;
}

abbrev pub decreases-loop-self : goal.decreases-loop-self
decreases-loop-self l = pieces_left l.self
