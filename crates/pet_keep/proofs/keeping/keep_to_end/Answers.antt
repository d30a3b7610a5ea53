use Rattle.std.proofs.Common.{Bool, ap, sym, subst}
use Rattle.packet_reading.specs.Begun.{OutStops}
use Rattle.pet_base.specs.Lent.{seen}
use Rattle.pet_keep.specs.Keeps.{end_of_output}
use Rattle.pet_keep.proofs.CameSoFar.{read_to_end}
use Rattle.pet_keep.proofs.keeping.keep_to_end.Goals as goal

pub returns-in-Ok-clause-out : goal.returns-in-Ok-clause-out
returns-in-Ok-clause-out g c =
    subst (λ (failed : Bool). OutStops failed (seen c.args.outside.now) (seen c.keep_from.new.outside))
    (read_to_end _ c.in-Ok.read c.end_of_reading.result c.end_of_reading.ensures) c.in-Ok.ensures.out

pub returns-in-Err-clause-out : goal.returns-in-Err-clause-out
returns-in-Err-clause-out g c =
    subst (λ (failed : Bool). OutStops failed (seen c.args.outside.now) (seen c.keep_from.new.outside))
    (ap end_of_output (sym c.end_of_stop.ensures)) c.in-Err.ensures.out
