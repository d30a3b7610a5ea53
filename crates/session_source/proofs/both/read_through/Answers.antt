use Rattle.std.proofs.lemmas.Result.{err_from_is_err_and}
use Rattle.pet_base.specs.declared.limits.TheConstants.{MAX_STREAM}
use Rattle.outside_files.specs.laws.InputLaws.{front_of, failed_at}
use Rattle.session_source.proofs.both.read_through.Goals as goal

pub returns-clause-read : goal.returns-clause-read
returns-clause-read g c =
    let passed = c.in_ok-pass_over.ensures.passed in
    let front = front_of MAX_STREAM passed.0 c.args.name.now (g.P.Place.seen c.args.place.now)
    (g.P.Place.seen c.enter.new.self)
    (g.P.Place.seen c.pass_over.new.place) c.in_ok-enter.ensures.rest c.in_ok-enter.ensures.found passed.1 in
    (passed.0, front, passed.2 c.args.priority.now c.args.file.now c.in_ok-reader.ensures)

pub returns-in_err-pass_over-clause-cause : goal.returns-in_err-pass_over-clause-cause
returns-in_err-pass_over-clause-cause g c =
    let r = err_from_is_err_and c.from_residual-in_err-pass_over.result c.from_residual-in_err-pass_over.ensures.1 in
    rw (r.1, r.2) (failed_at c.args.name.now c.in_err-pass_over.field-0.0 (g.P.Place.seen c.args.place.now)
    (g.P.Place.seen c.enter.new.self) (g.P.Place.seen c.pass_over.new.place)
    c.in_ok-enter.ensures.source c.enter.ensures.cause.later c.in_err-pass_over.ensures.cause)
