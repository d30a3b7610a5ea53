-- All pieces were looked at, and the last group has what is held.
use Rattle.std.proofs.Common.{◌≡◌, Some, None, subst, length, rules, arith}
use Rattle.std.proofs.lemmas.Result.{err_from_is_err_and, IfOk-weaker}
use Rattle.priority_file.specs.Priority.{layer_of}
use Rattle.mpeg_scan.specs.Pieces.{pieces_of}
use Rattle.layer_split.specs.Groups.{groups_of}
use Rattle.layer_split.specs.Faults.{fault_of}
use Rattle.stream_groups.proofs.Looking.{last_whole, all_looked}
use Rattle.stream_groups.proofs.groups.GroupCutter.last_group.Goals as goal

pub returns-in_err-cut-clause-fault : goal.returns-in_err-cut-clause-fault
returns-in_err-cut-clause-fault c =
    let p = err_from_is_err_and c.from_residual.result c.from_residual.ensures.1 in
    rw (p.1, p.2) (λ ne priority stream given h left.
    subst (λ ps. fault_of (layer_of priority) (length priority.layers) (groups_of ps) ≡ Some c.in_err-cut.field-0.0)
    (all_looked c.args.self.now priority stream (pieces_of stream) given h.looked left)
    (c.in_err-cut.ensures.refusal priority h.looked.looked h.looked.cuts h.looked.added))

pub returns-clause-whole : goal.returns-clause-whole
returns-clause-whole c =
    let len : c.len.result ≡ length c.args.self.now.held.items = search rules in
    let sum = c.saturating_add-end.ensures in
    IfOk-weaker c.end_group.result _ _
    (λ group ends priority stream given h left. (
      last_whole c.args.self.now c.end_group.new.self c.finish.new.self c.in_ok-cut.cut c.saturating_add-end.result
          group
          (λ p ps cs k. (c.in_ok-cut.ensures.ok p ps cs k).0) c.in_ok-cut.ensures.none ends
          (λ lt. omega arith) priority stream given h left,
      subst (λ ps. fault_of (layer_of priority) (length priority.layers) (groups_of ps) ≡ None)
          (all_looked c.args.self.now priority stream (pieces_of stream) given h.looked left)
          (c.in_ok-cut.ensures.ok priority h.looked.looked h.looked.cuts h.looked.added).1,
    ))
    c.end_group.ensures.ends
