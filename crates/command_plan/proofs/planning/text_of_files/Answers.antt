use Rattle.std.proofs.Common.{◌∙◌}
use Rattle.session_source.specs.laws.SourceLaws.{session_in, source_few, source_layered}
use Rattle.command_plan.proofs.PlanTexts.{plan_of_source}
use Rattle.command_plan.proofs.planning.text_of_files.Goals as goal

pub text_of-requires-clause-few : goal.text_of-requires-clause-few
text_of-requires-clause-few g c =
    source_few (g.P.Place.seen c.args.place.now).files c.args.stream.now c.args.priority.now c.in_ok-source.source
    c.in_ok-source.ensures.source

pub text_of-requires-clause-layered : goal.text_of-requires-clause-layered
text_of-requires-clause-layered g c =
    source_layered (g.P.Place.seen c.args.place.now).files c.args.stream.now c.args.priority.now c.in_ok-source.source
    c.in_ok-source.ensures.source

pub returns-in-Ok-clause-text : goal.returns-in-Ok-clause-text
returns-in-Ok-clause-text g c =
    let old = g.P.Place.seen c.args.place.now in
    let source = c.in_ok-source.ensures.source in (
      session_in old c.args.stream.now c.args.priority.now c.in_ok-source.source source,
      c.in-Ok.ensures.text
          ∙ plan_of_source old.files c.args.stream.now c.args.priority.now c.in_ok-source.source source,
    )
