use Rattle.std.proofs.lemmas.Result.{IfOk-weaker}
use Rattle.outside_files.specs.laws.OutputLaws.{on_err}
use Rattle.mpeg_system.proofs.Whole.{opened, unwraps_at, begun_at}
use Rattle.mpeg_system.proofs.unwrap_files.unwrap_file.Goals as goal

pub returns-clause-unwraps : goal.returns-clause-unwraps
returns-clause-unwraps g c =
    let seen = g.P.Place.seen in
    let o = opened c.args.file.now c.args.out.now (seen c.args.place.now) (seen c.enter.new.self)
    (seen c.create.new.self) c.in_ok-enter.ensures.found c.in_ok-enter.ensures.rest c.enter.ensures.others.files
    c.in_ok-create.ensures.files c.in_ok-create.ensures.target c.create.ensures.others.rest in
    IfOk-weaker c.unwrap_opened.result _ _
    (λ end h. unwraps_at c.args.file.now c.args.out.now c.args.id (seen c.args.place.now) (seen c.create.new.self)
    (seen c.unwrap_opened.new.place) end o h)
    c.unwrap_opened.ensures.unwrapped

pub returns-clause-begun : goal.returns-clause-begun
returns-clause-begun g c =
    let seen = g.P.Place.seen in
    let o = opened c.args.file.now c.args.out.now (seen c.args.place.now) (seen c.enter.new.self)
    (seen c.create.new.self) c.in_ok-enter.ensures.found c.in_ok-enter.ensures.rest c.enter.ensures.others.files
    c.in_ok-create.ensures.files c.in_ok-create.ensures.target c.create.ensures.others.rest in
    on_err c.unwrap_opened.result
    (λ h. begun_at c.args.file.now c.args.out.now c.args.id (seen c.args.place.now) (seen c.create.new.self)
    (seen c.unwrap_opened.new.place) o h)
    c.unwrap_opened.ensures.begun
