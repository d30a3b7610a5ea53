use Rattle.std.proofs.Common.{get_or}
use Rattle.std.proofs.lemmas.Option.{slice_get-get_or}
use Rattle.pet_world.proofs.OneReceiver.{accepted, unchanged, if_err}
use Rattle.pet_world.proofs.receivers.accept_at.Goals as goal

pub returns-clause-accepts : goal.returns-clause-accepts
returns-clause-accepts g c =
    let old = c.args.receivers.now in
    let d = c.index-receivers-here.result in
    accepted old c.args.here (get_or old c.args.here d)
    (slice_get-get_or old c.args.here d c.requires) c.accept.new.self c.args.datagram.now c.args.steps.now
    c.accept.new.steps c.accept.result
    c.accept.ensures.verdict c.accept.ensures.kept c.accept.ensures.unchanged c.accept.ensures.cost

pub returns-clause-err : goal.returns-clause-err
returns-clause-err g c =
    let old = c.args.receivers.now in
    let d = c.index-receivers-here.result in
    if_err c.accept.result (λ m. unchanged old c.args.here (get_or old c.args.here d)
    (slice_get-get_or old c.args.here d c.requires) c.accept.new.self m.0) c.accept.ensures.memory
