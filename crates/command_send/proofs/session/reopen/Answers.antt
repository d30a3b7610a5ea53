use Rattle.std.proofs.Common.{refl}
use Rattle.outside_routes.specs.Sending.{routes}
use Rattle.outside_routes.specs.Way.{way_of}
use Rattle.command_send.specs.inside.Job.{lent}
use Rattle.command_send.proofs.ReopenedFiles.{reopened}
use Rattle.command_send.proofs.session.reopen.Goals as goal

pub returns-clause-opened : goal.returns-clause-opened
returns-clause-opened g c =
    let entered = c.in_ok-enter.ensures in
    reopened c.args.stream.now (way_of c.args.to) (lent c.args.outside.now)
    (routes g.P.Place g.K.Link c.open_route.new.place c.open_route.new.link)
    (routes g.P.Place g.K.Link c.enter.new.self c.open_route.new.link)
    c.requires.differ c.in_ok-open_route.ensures.opened c.open_route.ensures.others refl entered.rest entered.source
    entered.input entered.others
