use Rattle.std.proofs.Common.{refl}
use Rattle.outside_disk.specs.laws.MemoryLaws.{first_only}
use Rattle.outside_disk.proofs.memory.MemoryDisk.new.Goals as goal

pub returns-clause-image : goal.returns-clause-image
returns-clause-image c = first_only c.args.bytes.items c.args.bytes.items _ c.new.ensures.items refl
