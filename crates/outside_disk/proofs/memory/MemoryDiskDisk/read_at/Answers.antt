use Rattle.outside_disk.proofs.MemoryCalls.{same_leaves}
use Rattle.outside_disk.proofs.memory.MemoryDiskDisk.read_at.Goals as goal

pub returns-then-count-clause-same : goal.returns-then-count-clause-same
returns-then-count-clause-same c = same_leaves c.args.self.now

pub returns-clause-same : goal.returns-clause-same
returns-clause-same c = same_leaves c.args.self.now
