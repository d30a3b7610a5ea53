use Rattle.outside_disk.proofs.MemoryCalls.{synced_left}
use Rattle.outside_disk.proofs.memory.MemoryDisk.synced.Goals as goal

pub returns-in-Some-clause-image : goal.returns-in-Some-clause-image
returns-in-Some-clause-image c = synced_left c.args.self.now

pub returns-in-None-clause-image : goal.returns-in-None-clause-image
returns-in-None-clause-image c = synced_left c.args.self.now
