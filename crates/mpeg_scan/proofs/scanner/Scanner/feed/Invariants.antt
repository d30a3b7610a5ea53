use Rattle.std.proofs.Common.{ℕ, ◌≤◌, ◌-◌, List, ◌++◌, take, length}
use Rattle.mpeg_scan.specs.declared.piece.Piece.{Piece}
use Rattle.mpeg_scan.specs.Scanning.{HasRead, HasGrown, added}
use Rattle.mpeg_scan.proofs.scanner.Scanner.feed.Given as goal

-- what was read is what the caller had read and the front of the portion
abbrev pub invariant-loop-read : goal.invariant-loop-read
invariant-loop-read l = record {
  within : l.read ≤ length l.portion;
  grows : HasGrown l.fn.pieces.items l.pieces.items;
  front : (stream : List ℕ) (given : List Piece) → HasRead l.fn.self stream given
      → HasRead l.self (stream ++ take l.read l.portion) (given ++ added l.fn.pieces.items l.pieces.items);
}

abbrev pub decreases-loop-read : goal.decreases-loop-read
decreases-loop-read l = length l.portion - l.read
