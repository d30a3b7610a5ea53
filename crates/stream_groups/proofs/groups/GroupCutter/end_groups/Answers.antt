-- One group more, and the last.
use Rattle.std.proofs.Common.{◌≡◌, ◌++◌, ◌∙◌, length, sym, ap, subst, arith, rules, append_assoc}
use Rattle.std.proofs.lemmas.Result.{err_from_is_err_and, IfOk-weaker}
use Rattle.stream_groups.specs.Cutting.{HasEnded, groups_in, pieces_left}
use Rattle.stream_groups.proofs.Reading.{ended_more, ended_fault}
use Rattle.stream_groups.proofs.groups.GroupCutter.end_groups.Goals as goal

pub returns-in_err-group-clause-fault : goal.returns-in_err-group-clause-fault
returns-in_err-group-clause-fault c =
    let p = err_from_is_err_and c.from_residual.result c.from_residual.ensures.1 in
    rw (p.1, p.2) (λ ne priority stream given h.
    ended_fault c.loop-self.self priority stream (given ++ c.loop-self.groups.items) c.in_err-group.field-0.0
    (λ seen pieces before. c.in_err-group.ensures.fault ne priority seen pieces before)
    (c.loop-self.invariant priority stream given h))

pub loop-self-preserved : goal.loop-self-preserved
loop-self-preserved c priority stream given h =
    subst (λ l. HasEnded c.look.new.self priority stream (given ++ l)) (sym c.in_ok-keep.ensures.ok)
    (ended_more c.loop-self.self c.look.new.self c.in_ok-group.group priority stream given c.loop-self.groups.items
    (λ seen pieces before. c.in_ok-group.ensures.looked priority seen pieces before)
    (c.loop-self.invariant priority stream given h))

pub returns-in_err-last-clause-fault : goal.returns-in_err-last-clause-fault
returns-in_err-last-clause-fault c =
    let p = err_from_is_err_and c.from_residual-in_err-last.result c.from_residual-in_err-last.ensures.1 in
    let len : c.len.result ≡ length c.loop-self.self.pieces.items = search rules in
    let left : pieces_left c.loop-self.self ≡ 0 = omega arith in
    rw (p.1, p.2) (λ ne priority stream given h.
    c.in_err-last.ensures.fault ne priority stream (given ++ c.loop-self.groups.items)
    (c.loop-self.invariant priority stream given h) left)

pub returns-clause-whole : goal.returns-clause-whole
returns-clause-whole c =
    let len : c.len.result ≡ length c.loop-self.self.pieces.items = search rules in
    let left : pieces_left c.loop-self.self ≡ 0 = omega arith in
    IfOk-weaker c.keep-2.result _ _
    (λ _ grown priority stream given h.
    let whole = c.in_ok-last.ensures.whole priority stream (given ++ c.loop-self.groups.items)
    (c.loop-self.invariant priority stream given h) left in (
      ap (λ l. given ++ l) grown
          ∙ (sym (append_assoc given c.loop-self.groups.items (groups_in c.in_ok-last.last)) ∙ whole.0),
      whole.1,
    ))
    c.keep-2.ensures.ok
