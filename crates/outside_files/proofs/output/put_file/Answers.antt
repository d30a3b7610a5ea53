use Rattle.std.proofs.Common.{inr}
use Rattle.outside_files.specs.laws.OutputLaws.{on_ok, on_err}
use Rattle.outside_files.specs.laws.WroteLaws.{Wrote-file, Wrote-front}
use Rattle.outside_files.proofs.output.put_file.Goals as goal

pub returns-clause-written : goal.returns-clause-written
returns-clause-written g c =
    let seen = g.P.Place.seen in
    on_ok c.put.result
    (λ grows. Wrote-file (record { name = c.args.name.now; bytes = c.args.bytes.now }) (seen c.create.new.self).target
    (seen c.args.place.now) (seen c.create.new.self)
    (seen c.put.new.self) c.in_ok-create.ensures.files c.in_ok-create.ensures.target grows)
    c.put.ensures.files

pub returns-clause-front : goal.returns-clause-front
returns-clause-front g c =
    let seen = g.P.Place.seen in
    on_err c.put.result
    (λ p. inr (Wrote-front (record { name = c.args.name.now; bytes = c.args.bytes.now }) p.0
    (seen c.create.new.self).target (seen c.args.place.now) (seen c.create.new.self)
    (seen c.put.new.self) c.in_ok-create.ensures.files c.in_ok-create.ensures.target p.1))
    c.put.ensures.part
