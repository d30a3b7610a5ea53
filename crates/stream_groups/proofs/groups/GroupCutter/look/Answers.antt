-- The next piece, in the current group or behind it.
use Rattle.std.proofs.Common.{◌≡◌, ◌+◌, ◌<◌, ◌++◌, length, drop, Some, sym, subst, arith}
use Rattle.std.proofs.lemmas.Result.{err_from_is_err_and, IfOk-weaker}
use Rattle.priority_file.specs.Priority.{layer_of}
use Rattle.layer_split.specs.Groups.{groups_of}
use Rattle.layer_split.specs.Faults.{fault_of}
use Rattle.stream_groups.proofs.Looking.{look_one, pieces_at}
use Rattle.stream_groups.proofs.Further.{met_limit}
use Rattle.stream_groups.proofs.groups.GroupCutter.look.Goals as goal

pub returns-in_err-cut-clause-fault : goal.returns-in_err-cut-clause-fault
returns-in_err-cut-clause-fault c =
    let p = err_from_is_err_and c.from_residual.result c.from_residual.ensures.1 in
    let lt : c.args.self.now.looked < length c.args.self.now.pieces.items = omega (arith, c.requires) in
    rw (p.1, p.2) (λ ne priority seen pieces given h later.
    subst (λ ps. fault_of (layer_of priority) (length priority.layers) (groups_of ps) ≡ Some c.in_err-cut.field-0.0)
    (pieces_at c.args.self.now c.index.result.now priority seen pieces later given h lt (sym c.index.ensures))
    (c.in_err-cut.ensures.refusal ne priority h.looked h.cuts h.added
    (drop (c.args.self.now.looked + 1) c.args.self.now.pieces.items ++ later)))

pub returns-in_err-cut-clause-limit : goal.returns-in_err-cut-clause-limit
returns-in_err-cut-clause-limit c =
    let p = err_from_is_err_and c.from_residual.result c.from_residual.ensures.1 in
    let lt : c.args.self.now.looked < length c.args.self.now.pieces.items = omega (arith, c.requires) in
    rw (p.1, p.2) (λ ne priority seen pieces given h.
    met_limit c.args.self.now c.index.result.now priority seen pieces given h lt (sym c.index.ensures)
    (c.in_err-cut.ensures.last ne priority h.looked h.cuts h.added))

pub returns-clause-looked : goal.returns-clause-looked
returns-clause-looked c =
    let lt : c.args.self.now.looked < length c.args.self.now.pieces.items = omega (arith, c.requires) in
    IfOk-weaker c.end_group.result _ _
    (λ group ends.
    look_one c.args.self.now c.end_group.new.self c.add.new.self c.index.result.now c.in_ok-cut.cut group lt
    (sym c.index.ensures)
    c.in_ok-cut.ensures.ok c.in_ok-cut.ensures.begins c.end_group.ensures.rest ends)
    c.end_group.ensures.ends
