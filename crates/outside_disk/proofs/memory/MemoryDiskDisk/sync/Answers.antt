use Rattle.std.proofs.Common.{refl}
use Rattle.outside_disk.proofs.MemoryCalls.{same_leaves, same_no_more, done_synced, done_no_more, does_from, kept_leaves}
use Rattle.outside_disk.proofs.MemoryCalls.{kept_no_more, kept_from}
use Rattle.outside_disk.proofs.memory.MemoryDiskDisk.sync.Goals as goal

pub returns-then-count-clause-same : goal.returns-then-count-clause-same
returns-then-count-clause-same c = same_no_more c.args.self.now

pub returns-then-count-clause-failed : goal.returns-then-count-clause-failed
returns-then-count-clause-failed c = same_leaves c.args.self.now

pub returns-in-Ok-clause-synced : goal.returns-in-Ok-clause-synced
returns-in-Ok-clause-synced c =
    done_synced c.args.self.now c.settle.new.self
    (does_from _ c.args.self.now _ c.settle.new.self refl refl refl refl c.in-Ok.ensures.done)

pub returns-in-Ok-clause-same : goal.returns-in-Ok-clause-same
returns-in-Ok-clause-same c =
    done_no_more c.args.self.now c.settle.new.self
    (does_from _ c.args.self.now _ c.settle.new.self refl refl refl refl c.in-Ok.ensures.done)

pub returns-in-Ok-clause-done : goal.returns-in-Ok-clause-done
returns-in-Ok-clause-done c =
    does_from _ c.args.self.now _ c.settle.new.self refl refl refl refl c.in-Ok.ensures.done

pub returns-in-Err-clause-same : goal.returns-in-Err-clause-same
returns-in-Err-clause-same c =
    kept_no_more c.args.self.now c.settle.new.self
    (kept_from c.args.self.now _ c.settle.new.self refl refl refl refl c.in-Err.ensures.err)

pub returns-in-Err-clause-failed : goal.returns-in-Err-clause-failed
returns-in-Err-clause-failed c =
    kept_leaves c.args.self.now c.settle.new.self
    (kept_from c.args.self.now _ c.settle.new.self refl refl refl refl c.in-Err.ensures.err)
