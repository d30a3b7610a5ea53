-- A fault of the groups is one of the plan.
use Rattle.pet_base.specs.declared.limits.TheConstants.{MAX_SESSION}
use Rattle.stream_session.proofs.KeptInOrder.{groups_told}
use Rattle.stream_session.proofs.marking.stream_fault.Goals as goal

pub returns-in-Groups : goal.returns-in-Groups
returns-in-Groups c priority stream are is =
    groups_told c.args.format.now MAX_SESSION priority stream c.args.fault c.in-Groups.fault c.groups_fault.result
    c.in-Groups.is is (λ later. c.groups_fault.ensures priority later are)
