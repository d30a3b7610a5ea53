-- No group is too long, and none too wide.
use Rattle.std.proofs.Common.{◌∙◌, Some, None, ap, map}
use Rattle.std.proofs.lemmas.Result.{err_from_is_err_and}
use Rattle.stream_session.specs.Refusals.{first_above}
use Rattle.stream_session.specs.inside.Planning.{table_cost}
use Rattle.stream_session.proofs.Planned.{judged_large}
use Rattle.stream_session.proofs.group_tables.GroupTables.judged.Goals as goal

pub returns-in_err-tables-clause-refused : goal.returns-in_err-tables-clause-refused
returns-in_err-tables-clause-refused c =
    let r = err_from_is_err_and c.from_residual.result c.from_residual.ensures.1 in
    rw (r.1, r.2) (λ ne priority cuts h. c.in_err-tables.ensures.refused ne c.args.limit priority cuts h)

pub returns-in-Some-clause-refused : goal.returns-in-Some-clause-refused
returns-in-Some-clause-refused c ne priority cuts h =
    let made = c.in_ok-tables.ensures.tables priority cuts h in
    judged_large c.args.format.now c.args.limit priority cuts _ (Some c.in-Some.group) made.0 made.1 made.2
    (c.in-Some.ensures ∙ ap (λ ts. first_above c.args.limit 0 (map (table_cost c.args.format.now.word) ts)) c.deref.ensures.value)

pub returns-clause-tables : goal.returns-clause-tables
returns-clause-tables c priority cuts h =
    let made = c.in_ok-tables.ensures.tables priority cuts h in (
      judged_large c.args.format.now c.args.limit priority cuts _ None made.0 made.1 made.2
          (c.in-None.ensures
          ∙ ap (λ ts. first_above c.args.limit 0 (map (table_cost c.args.format.now.word) ts)) c.deref.ensures.value),
      made.2,
    )
