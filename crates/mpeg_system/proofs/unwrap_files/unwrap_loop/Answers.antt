use Rattle.mpeg_system.specs.laws.Completed.{completes_unwrap}
use Rattle.mpeg_system.proofs.unwrap_files.unwrap_loop.Goals as goal

pub returns-in-Ok-clause-completes : goal.returns-in-Ok-clause-completes
returns-in-Ok-clause-completes g c =
    completes_unwrap c.args.file.now c.args.id c.args.out.now (g.P.Place.seen c.args.place.now)
    (g.P.Place.seen c.unwrap_file.new.place) c.in-Ok.end c.in-Ok.ensures.unwraps
