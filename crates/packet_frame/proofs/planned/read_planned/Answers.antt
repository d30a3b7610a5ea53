use Rattle.std.proofs.Common.{ap, sym, ◌∙◌, subst}
use Rattle.std.proofs.lemmas.Result.{err_from_is_err_and}
use Rattle.stripe_plan.specs.Sizes.{planned}
use Rattle.packet_frame.specs.Frame.{IsFrameBy}
use Rattle.packet_frame.specs.Planned.{by_plan}
use Rattle.packet_frame.specs.laws.PlannedLaws.{planned_is}
use Rattle.packet_frame.proofs.Rows.{with_table}
use Rattle.packet_frame.proofs.planned.read_planned.Goals as goal

pub returns-in_err-parts-clause-refused : goal.returns-in_err-parts-clause-refused
returns-in_err-parts-clause-refused c =
    let p = err_from_is_err_and c.from_residual.result c.from_residual.ensures.1 in
    rw (p.1, p.2) c.in_err-parts.ensures.refused

pub returns-clause-refused : goal.returns-clause-refused
returns-clause-refused c = c.in_ok-parts.ensures.refused

pub returns-clause-fields : goal.returns-clause-fields
returns-clause-fields c =
    let parts = c.in_ok-parts.parts in
    let t = c.args.format.now in
    let table = c.plan_table-table in
    let told = planned t.bounds parts.layers.items in
    let layers = table.ensures.layers ∙ ap (planned t.bounds) c.deref.ensures.0 in
    with_table parts.head table.result.packets told table.result.layers parts.payload.now _ table.ensures.packets layers
    (ap (by_plan t) c.in_ok-parts.ensures.fields)

pub plan_table-table-requires-clause-table : goal.plan_table-table-requires-clause-table
plan_table-table-requires-clause-table c = rw c.deref.ensures.0 c.in_ok-parts.ensures.table

pub returns-clause-ranges : goal.returns-clause-ranges
returns-clause-ranges c =
    let t = c.args.format.now in
    let is = planned_is t c.requires.format c.requires.plan c.args.bytes.now c.in_ok-parts.ensures.refused in
    subst (IsFrameBy t.word) (sym (returns-clause-fields c)) is
