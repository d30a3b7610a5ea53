use Rattle.std.proofs.Common.{arith}
use Rattle.pet_receive.specs.Arrivals.{kept_set}
use Rattle.store_keeper.proofs.Started.{keeps_on, starts}
use Rattle.store_keeper.proofs.keeper.Keeper.start.Goals as goal

pub invariant_of-result : goal.invariant_of-result
invariant_of-result g c =
    keeps_on c.args.session c.args.limit (kept_set c.new.result) (kept_set c.open.new.receiver.receiver) c.in-Ok-open.gate _ _
    (g.D.Disk.seen c.args.disk) (g.D.Disk.seen c.open.new.disk) c.new.ensures.empty c.new.ensures.sound
    c.in-Ok-open.ensures.reached c.in-Ok-open.ensures.open c.in-Ok.buffer.len (omega (arith, c.in-Ok.ensures))

pub returns-in-Ok-open-clause-starts : goal.returns-in-Ok-open-clause-starts
returns-in-Ok-open-clause-starts g c =
    starts c.args.session c.args.limit (kept_set c.new.result) (kept_set c.open.new.receiver.receiver) c.in-Ok-open.gate _ _
    (g.D.Disk.seen c.args.disk) (g.D.Disk.seen c.open.new.disk) c.new.ensures.empty c.new.ensures.sound
    c.in-Ok-open.ensures.reached c.in-Ok-open.ensures.open c.in-Ok-open.ensures.read c.open.ensures.images
