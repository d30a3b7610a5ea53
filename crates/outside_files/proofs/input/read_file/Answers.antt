use Rattle.outside_files.specs.laws.InputLaws.{front_ok}
use Rattle.outside_files.proofs.input.read_file.Goals as goal

pub returns-clause-read : goal.returns-clause-read
returns-clause-read g c =
    front_ok (λ bytes. bytes.items) c.read_entered.result c.args.limit c.args.name.now
    (g.P.Place.seen c.args.place.now) (g.P.Place.seen c.enter.new.self)
    (g.P.Place.seen c.read_entered.new.place) c.in_ok-enter.ensures.rest c.in_ok-enter.ensures.found
    c.read_entered.ensures.read
