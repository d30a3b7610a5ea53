-- What the pieces have, at the end.
use Rattle.std.proofs.Common.{◌∙◌, Some, None, ap}
use Rattle.std.proofs.lemmas.Result.{IfOk-weaker, IfErr-weaker, err_from_is_err_and}
use Rattle.stream_session.specs.Tables.{tables_of_in}
use Rattle.stream_session.specs.laws.FitLaws.{many_off}
use Rattle.stream_session.proofs.Planned.{ends_refused, live_of, at_end, fault_judged, fault_refused, fault_many}
use Rattle.stream_session.proofs.Planned.{allowed_by, needs_planned}
use Rattle.stream_session.proofs.planner.Planner.finish_in.Goals as goal

pub returns-in_err-allowed-clause-refused : goal.returns-in_err-allowed-clause-refused
returns-in_err-allowed-clause-refused c =
    let r = err_from_is_err_and c.from_residual.result c.from_residual.ensures.1 in
    rw (r.1, r.2) (λ ne priority pieces h. fault_many c.args.format.now c.args.limit c.args.self.tables.needs priority
    pieces _ (needs_planned c.args.self priority pieces h) c.in_err-allowed.ensures.many)

pub returns-in-Some-clause-refused : goal.returns-in-Some-clause-refused
returns-in-Some-clause-refused c ne priority pieces h =
    let few = allowed_by c.args.format.now c.args.self.tables.needs priority (needs_planned c.args.self priority pieces h)
    c.in_ok-allowed.ensures.few in
    ends_refused c.args.format.now c.args.limit c.args.self c.in-Some.fault c.in-Some.is priority pieces few h

pub returns-in-Ok-clause-tables : goal.returns-in-Ok-clause-tables
returns-in-Ok-clause-tables c = IfOk-weaker c.end.result _ _ (λ tables told priority pieces h.
    let few = allowed_by c.args.format.now c.args.self.tables.needs priority (needs_planned c.args.self priority pieces h)
    c.in_ok-allowed.ensures.few in
    let e = at_end c.args.self c.in-Ok.cut priority pieces c.in-Ok.ensures.ok
    (live_of c.args.self priority pieces c.in_default.not-Some h) in
    let judged = told priority e.cuts e.few e.fit e.kept in (
      fault_judged c.args.format.now c.args.limit priority pieces _ None e.none e.all
          (many_off c.args.format.now priority _ few ∙ judged.0),
      judged.1 ∙ ap (tables_of_in c.args.format.now priority) e.all,
    ))
    c.end.ensures.tables

pub returns-in-Ok-clause-refused : goal.returns-in-Ok-clause-refused
returns-in-Ok-clause-refused c = IfErr-weaker c.end.result _ _ (λ fault told ne priority pieces h.
    let few = allowed_by c.args.format.now c.args.self.tables.needs priority (needs_planned c.args.self priority pieces h)
    c.in_ok-allowed.ensures.few in
    let e = at_end c.args.self c.in-Ok.cut priority pieces c.in-Ok.ensures.ok
    (live_of c.args.self priority pieces c.in_default.not-Some h) in
    fault_judged c.args.format.now c.args.limit priority pieces _ (Some fault) e.none e.all
    (many_off c.args.format.now priority _ few ∙ told ne priority e.cuts e.few e.fit e.kept))
    c.end.ensures.refused

pub returns-in-Err-clause-refused : goal.returns-in-Err-clause-refused
returns-in-Err-clause-refused c ne priority pieces h =
    let few = allowed_by c.args.format.now c.args.self.tables.needs priority (needs_planned c.args.self priority pieces h)
    c.in_ok-allowed.ensures.few in
    let live = live_of c.args.self priority pieces c.in_default.not-Some h in
    fault_refused c.args.format.now c.args.limit priority pieces c.in-Err.fault _ few
    (c.in-Err.ensures.refusal priority pieces live.cuts live.added) c.refusal_of.ensures
