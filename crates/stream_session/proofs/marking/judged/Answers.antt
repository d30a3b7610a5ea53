-- The packets are allowed, or too many.
use Rattle.std.proofs.Common.{◌∙◌}
use Rattle.std.proofs.lemmas.Result.{IfOk-weaker, IfErr-weaker, err_from_is_err_and}
use Rattle.stream_session.specs.laws.FitLaws.{many_off}
use Rattle.stream_session.proofs.Planned.{allowed_by, many_by}
use Rattle.stream_session.proofs.marking.judged.Goals as goal

pub returns-in_err-allowed-clause-refused : goal.returns-in_err-allowed-clause-refused
returns-in_err-allowed-clause-refused c =
    let r = err_from_is_err_and c.from_residual.result c.from_residual.ensures.1 in
    rw (r.1, r.2) (λ ne priority cuts h. many_by c.args.format.now c.args.tables.needs priority _ _ h.needs
    c.in_err-allowed.ensures.many)

pub returns-clause-tables : goal.returns-clause-tables
returns-clause-tables c = IfOk-weaker c.judged.result _ _ (λ made told priority cuts h.
    let few = allowed_by c.args.format.now c.args.tables.needs priority h.needs c.in_ok-allowed.ensures.few in
    let of = told priority cuts h in
    (many_off c.args.format.now priority _ few ∙ of.0, of.1))
    c.judged.ensures.tables

pub returns-clause-refused : goal.returns-clause-refused
returns-clause-refused c = IfErr-weaker c.judged.result _ _ (λ fault told ne priority cuts h.
    let few = allowed_by c.args.format.now c.args.tables.needs priority h.needs c.in_ok-allowed.ensures.few in
    many_off c.args.format.now priority _ few ∙ told ne priority cuts h)
    c.judged.ensures.refused
