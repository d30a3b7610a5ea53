-- A piece taken in, or no more than that the group is too long.
use Rattle.std.proofs.Common.{◌≡◌, ◌+◌, sym, ap, arith}
use Rattle.priority_file.specs.Priority.{layer_of}
use Rattle.layer_split.specs.Splitting.{HaveCounted}
use Rattle.layer_split.proofs.Running.{entry_if}
use Rattle.layer_split.proofs.Tabling.{row_is}
use Rattle.layer_split.proofs.Holding.{long_more, long_piece, row_more}
use Rattle.layer_split.proofs.splitter.Splitter.take.Goals as goal

pub returns-then-self-clause-held : goal.returns-then-self-clause-held
returns-then-self-clause-held c priority group are h =
    long_more c.args.self.now (layer_of priority) group c.args.piece.now (omega arith) h

pub returns-then-piece-clause-held : goal.returns-then-piece-clause-held
returns-then-piece-clause-held c priority group are h =
    long_piece (record c.args.self.now { size = 4194305 }) (layer_of priority) group c.args.piece.now (omega arith)
    (omega arith)

pub returns-then-begun-clause-held : goal.returns-then-begun-clause-held
returns-then-begun-clause-held c priority group are h =
    let is = λ (counted : HaveCounted c.args.self.now.places group).
    row_is c.args.self.now.layers priority are group c.args.piece.now c.take-place.result c.layer_of.result
    c.layer_of.ensures (c.take-place.ensures.place group counted) in
    let size : c.args.self.now.size + c.args.piece.now.len + 5
    ≡ c.args.self.now.size + c.args.piece.now.len + entry_if c.in-Ok.begun =
    ap (λ b. c.args.self.now.size + c.args.piece.now.len + entry_if b) (sym c.if-begun.true) in
    row_more c.args.self.now (record c.args.self.now {
      runs = c.add_run.new.runs;
      size = c.args.self.now.size + c.args.piece.now.len + 5;
      places = c.take-place.new.self;
    })
    (layer_of priority) group c.args.piece.now _ c.in-Ok.begun is h
    (omega arith) c.in-Ok.ensures.begun c.in-Ok.ensures.ok size (c.take-place.ensures.counted group)

pub returns-else-begun-clause-held : goal.returns-else-begun-clause-held
returns-else-begun-clause-held c priority group are h =
    let is = λ (counted : HaveCounted c.args.self.now.places group).
    row_is c.args.self.now.layers priority are group c.args.piece.now c.take-place.result c.layer_of.result
    c.layer_of.ensures (c.take-place.ensures.place group counted) in
    let none : entry_if c.in-Ok.begun ≡ 0 = ap entry_if c.if-begun.false in
    let size : c.args.self.now.size + c.args.piece.now.len
    ≡ c.args.self.now.size + c.args.piece.now.len + entry_if c.in-Ok.begun = omega arith in
    row_more c.args.self.now (record c.args.self.now {
      runs = c.add_run.new.runs;
      size = c.args.self.now.size + c.args.piece.now.len;
      places = c.take-place.new.self;
    })
    (layer_of priority) group c.args.piece.now _ c.in-Ok.begun is h
    (omega arith) c.in-Ok.ensures.begun c.in-Ok.ensures.ok size (c.take-place.ensures.counted group)
