-- More packets than the format allows come first.
use Rattle.std.proofs.Common.{◌∙◌}
use Rattle.stream_session.specs.laws.FitLaws.{many_off}
use Rattle.stream_session.proofs.Planned.{allowed_by, many_by}
use Rattle.stream_session.proofs.marking.groups_fault.Goals as goal

pub returns-in-Ok : goal.returns-in-Ok
returns-in-Ok c priority later are =
    many_off c.args.format.now priority _
    (allowed_by c.args.format.now c.args.tables.now.needs priority are c.in-Ok.ensures.few)
    ∙ c.refusal_of.ensures later

pub returns-in-Err : goal.returns-in-Err
returns-in-Err c priority later are =
    many_by c.args.format.now c.args.tables.now.needs priority c.in-Err.many _ are c.in-Err.ensures.many
