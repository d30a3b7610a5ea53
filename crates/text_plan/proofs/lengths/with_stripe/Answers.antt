use Rattle.std.proofs.Common.{length, take, ap, ◌∙◌}
use Rattle.std.proofs.Math.Seq.{take-length}
use Rattle.text_plan.proofs.Rows.{text_same, text_other, front_kept}
use Rattle.text_plan.proofs.lengths.with_stripe.Goals as goal

pub returns-then-size-row-clause-text : goal.returns-then-size-row-clause-text
returns-then-size-row-clause-text c sizes =
    text_same c.args.row.size c.args.row.times c.args.size sizes c.args.into.now.items c.if-size-row.true

pub returns-clause-text : goal.returns-clause-text
returns-clause-text c sizes =
    text_other c.args.row.size c.args.row.times c.args.size sizes c.args.into.now.items c.append_row.new.into.items
    c.if-size-row.false c.in_ok-append_row.ensures.ok

pub returns-in_err-append_row-clause-front : goal.returns-in_err-append_row-clause-front
returns-in_err-append_row-clause-front c =
    ap (take (length c.args.into.now.items)) c.in_err-append_row.ensures.err ∙ take-length c.args.into.now.items

pub returns-clause-front : goal.returns-clause-front
returns-clause-front c =
    front_kept c.args.into.now.items c.args.into.now.items _ c.append_row.new.into.items c.in_ok-append_row.ensures.ok
    (take-length c.args.into.now.items)
