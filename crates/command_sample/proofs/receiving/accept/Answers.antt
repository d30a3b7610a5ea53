use Rattle.command_sample.proofs.Handing.{accepted}
use Rattle.command_sample.proofs.receiving.accept.Goals as goal

pub returns-clause-accepts : goal.returns-clause-accepts
returns-clause-accepts g c =
    accepted c.args.receiver.now c.accept.new.self c.args.datagram.now c.args.steps.now c.accept.new.steps
    c.accept.result c.accept.ensures.verdict c.accept.ensures.kept c.accept.ensures.unchanged c.accept.ensures.order
    c.accept.ensures.cost
