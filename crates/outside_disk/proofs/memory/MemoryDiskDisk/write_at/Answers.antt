use Rattle.std.proofs.Common.{refl, ap, length}
use Rattle.outside_disk.proofs.MemoryCalls.{same_torn, done_torn, done_torn_any, does_from, kept_torn, kept_from}
use Rattle.outside_disk.proofs.memory.MemoryDiskDisk.write_at.Goals as goal

pub returns-then-count-clause-images : goal.returns-then-count-clause-images
returns-then-count-clause-images c = same_torn _ _ c.args.self.now

pub returns-in-Ok-clause-images : goal.returns-in-Ok-clause-images
returns-in-Ok-clause-images c = let d = c.in-Ok.ensures.done in
    done_torn _ _ d.0 c.args.self.now c.write.new.self (ap length d.1)
    (does_from _ c.args.self.now _ c.write.new.self refl refl refl refl d.2)

pub returns-in-Ok-clause-any : goal.returns-in-Ok-clause-any
returns-in-Ok-clause-any c = let d = c.in-Ok.ensures.done in
    done_torn_any _ _ d.0 c.args.self.now c.write.new.self (ap length d.1)
    (does_from _ c.args.self.now _ c.write.new.self refl refl refl refl d.2)

pub returns-in-Ok-clause-done : goal.returns-in-Ok-clause-done
returns-in-Ok-clause-done c = let d = c.in-Ok.ensures.done in
    (d.0, d.1, does_from _ c.args.self.now _ c.write.new.self refl refl refl refl d.2)

pub returns-in-Err-clause-images : goal.returns-in-Err-clause-images
returns-in-Err-clause-images c =
    kept_torn _ _ c.args.self.now c.write.new.self
    (kept_from c.args.self.now _ c.write.new.self refl refl refl refl c.in-Err.ensures.err)
