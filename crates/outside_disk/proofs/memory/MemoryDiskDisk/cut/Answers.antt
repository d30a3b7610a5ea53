use Rattle.std.proofs.Common.{refl}
use Rattle.outside_disk.proofs.MemoryCalls.{same_cut, done_cut, done_cut_any, does_from, kept_cut, kept_from}
use Rattle.outside_disk.proofs.memory.MemoryDiskDisk.cut.Goals as goal

pub returns-then-count-clause-images : goal.returns-then-count-clause-images
returns-then-count-clause-images c = same_cut _ c.args.self.now

pub returns-in-Ok-clause-images : goal.returns-in-Ok-clause-images
returns-in-Ok-clause-images c =
    done_cut _ c.args.self.now c.shorten.new.self
    (does_from _ c.args.self.now _ c.shorten.new.self refl refl refl refl c.in-Ok.ensures.done)

pub returns-in-Ok-clause-any : goal.returns-in-Ok-clause-any
returns-in-Ok-clause-any c =
    done_cut_any _ c.args.self.now c.shorten.new.self
    (does_from _ c.args.self.now _ c.shorten.new.self refl refl refl refl c.in-Ok.ensures.done)

pub returns-in-Ok-clause-done : goal.returns-in-Ok-clause-done
returns-in-Ok-clause-done c =
    does_from _ c.args.self.now _ c.shorten.new.self refl refl refl refl c.in-Ok.ensures.done

pub returns-in-Err-clause-images : goal.returns-in-Err-clause-images
returns-in-Err-clause-images c =
    kept_cut _ c.args.self.now c.shorten.new.self
    (kept_from c.args.self.now _ c.shorten.new.self refl refl refl refl c.in-Err.ensures.err)
