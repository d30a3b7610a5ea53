use Rattle.std.proofs.Common.{◌++◌, ◌∙◌, ap, take}
use Rattle.stream_session.proofs.pass.plan_of.Goals as goal

pub returns-in-Ok-clause-plan : goal.returns-in-Ok-clause-plan
returns-in-Ok-clause-plan c priority given message planned held =
    let tables = c.in-Ok.ensures.tables priority (given ++ c.args.last.now)
    (c.in_ok-add_all.ensures priority given planned) in
    record {
      fits = tables.0;
      number = c.first_eight.ensures ∙ ap (take 8) (c.finalize.ensures message held);
      tables = tables.1;
    }
