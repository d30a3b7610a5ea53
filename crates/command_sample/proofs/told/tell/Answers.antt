use Rattle.command_sample.proofs.Telling.{cost_so, none_received, samples_so}
use Rattle.command_sample.proofs.told.tell.Goals as goal

pub receive_all-requires-clause-empty : goal.receive_all-requires-clause-empty
receive_all-requires-clause-empty g c =
    none_received c.in_ok-made.made c.in_ok-made.ensures.made c.new-receiver.result c.new-receiver.ensures.empty
    c.new-receiver.ensures.order

pub returns-in_err-receive_all-clause-cost : goal.returns-in_err-receive_all-clause-cost
returns-in_err-receive_all-clause-cost g c =
    cost_so c.in_ok-made.made c.in_ok-made.ensures.made c.args.seed c.args.groups c.requires.some c.requires.few
    c.in_ok-made.ensures.stream c.args.steps.now c.receive_all.new.steps c.receive_all.ensures.cost

pub returns-in_err-store-clause-cost : goal.returns-in_err-store-clause-cost
returns-in_err-store-clause-cost g c =
    cost_so c.in_ok-made.made c.in_ok-made.ensures.made c.args.seed c.args.groups c.requires.some c.requires.few
    c.in_ok-made.ensures.stream c.args.steps.now c.receive_all.new.steps c.receive_all.ensures.cost

pub returns-in_err-video-clause-cost : goal.returns-in_err-video-clause-cost
returns-in_err-video-clause-cost g c =
    cost_so c.in_ok-made.made c.in_ok-made.ensures.made c.args.seed c.args.groups c.requires.some c.requires.few
    c.in_ok-made.ensures.stream c.args.steps.now c.receive_all.new.steps c.receive_all.ensures.cost

pub returns-clause-samples : goal.returns-clause-samples
returns-clause-samples g c =
    samples_so c.in_ok-made.made c.in_ok-made.ensures.made c.args.seed c.args.groups c.requires.some c.requires.few
    c.in_ok-made.ensures.stream c.receive_all.new.receiver c.in_ok-receive_all.ensures.received
    c.figures_of-figures.result c.in_ok-store.store c.in_ok-video.video c.in_ok-store.ensures c.in_ok-video.ensures
    c.figures_of-figures.ensures (λ text. text.items) c.summary.result c.summary.ensures

pub returns-clause-cost : goal.returns-clause-cost
returns-clause-cost g c =
    cost_so c.in_ok-made.made c.in_ok-made.ensures.made c.args.seed c.args.groups c.requires.some c.requires.few
    c.in_ok-made.ensures.stream c.args.steps.now c.receive_all.new.steps c.receive_all.ensures.cost
