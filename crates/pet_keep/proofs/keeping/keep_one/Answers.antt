use Rattle.pet_base.specs.Causes.{Rose}
use Rattle.pet_keep.specs.inside.SoFar.{IsKeepStop, of_fault}
use Rattle.pet_keep.proofs.CameSoFar.{fault_cause, stop_is, true_false}
use Rattle.pet_keep.proofs.keeping.keep_one.Goals as goal

pub returns-in_err-accept-clause-cause : goal.returns-in_err-accept-clause-cause
returns-in_err-accept-clause-cause g c =
    let fault = c.in_err-accept.field-0.0 in
    let rose = Rose (g.D.Disk.faults c.args.keeper.now.disk) (g.D.Disk.faults c.accept.new.self.disk) in
    stop_is (IsKeepStop ⊥ ⊥ ⊥ rose) c.from_residual.result (of_fault fault) c.from_residual.ensures.1
    (fault_cause fault rose
    (λ is. true_false _ (c.in_err-accept.ensures.stopped is).0 c.requires.going)
    (λ is. (c.in_err-accept.ensures.cause is).0))
