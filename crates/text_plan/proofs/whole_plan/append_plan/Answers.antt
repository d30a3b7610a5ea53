use Rattle.std.proofs.Common.{◌≡◌, arith, ap, ◌∙◌, ◌++◌, length}
use Rattle.std.proofs.Math.Seq.{take-length}
use Rattle.text_plan.specs.PlanLines.{plan_session_text}
use Rattle.text_plan.specs.PlanText.{plan_text}
use Rattle.pet_base.specs.laws.Through.{on_any_err}
use Rattle.text_plan.proofs.Rows.{front_kept, front_stays}
use Rattle.text_plan.proofs.PlanTexts.{plan_begun, text_next, text_done}
use Rattle.text_plan.proofs.whole_plan.append_plan.Goals as goal

pub loop-group-init : goal.loop-group-init
loop-group-init c =
    let line = c.in_ok-plan_session_line.ensures.ok in
    let packets : c.priority.inside.packets ≡ c.args.priority.now.packets = grind (arith, c.priority.view_is) in
    record {
      text =
          plan_begun c.args.session.now c.args.priority.now c.args.tables.now c.args.into.now.items
          c.plan_session_line.new.into.items c.requires.sized
          (line ∙ ap (λ n. c.args.into.now.items ++ plan_session_text c.args.session.now (length c.args.tables.now) n)
          packets);
      front =
          front_kept c.args.into.now.items c.args.into.now.items _ c.plan_session_line.new.into.items line
          (take-length _);
    }

pub append_group-requires : goal.append_group-requires
append_group-requires c =
    rw c.index-tables-group.is (c.requires.sized c.loop-group.group c.index-tables-group.result (omega arith))

pub loop-group-preserved : goal.loop-group-preserved
loop-group-preserved c =
    let old = c.args.into.now.items in
    let into = c.loop-group.into.items in
    let new = c.append_group.new.into.items in
    let priority = c.args.priority.now in
    let tables = c.args.tables.now in
    record {
      text =
          text_next priority.layers c.loop-group.group tables c.index-tables-group.result into new
          (old ++ plan_text c.args.session.now priority tables)
          (omega arith) c.index-tables-group.is c.in_ok-append_group.ensures.ok c.loop-group.invariant.text;
      front = front_kept old into _ new c.in_ok-append_group.ensures.ok c.loop-group.invariant.front;
    }

pub returns-in_err-append_group-clause-err : goal.returns-in_err-append_group-clause-err
returns-in_err-append_group-clause-err c =
    on_any_err c.from_residual-in_err-append_group.result
    (front_stays c.args.into.now.items c.loop-group.into.items c.append_group.new.into.items
    c.in_err-append_group.ensures.err c.loop-group.invariant.front)

pub returns-clause-ok : goal.returns-clause-ok
returns-clause-ok c =
    text_done c.args.priority.now.layers c.loop-group.group c.args.tables.now c.loop-group.into.items
    (c.args.into.now.items ++ plan_text c.args.session.now c.args.priority.now c.args.tables.now)
    (omega arith) c.loop-group.invariant.text
