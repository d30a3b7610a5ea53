use Rattle.std.proofs.Common.{take}
use Rattle.layer_split.specs.Splitting.{HasAdded}
use Rattle.layer_split.proofs.whole.split.Given as goal

-- the pieces so far were added, and their cuts kept
abbrev pub invariant-loop-piece : goal.invariant-loop-piece
invariant-loop-piece l = HasAdded l.splitter l.priority (take l.piece-index l.pieces) l.cuts.items
