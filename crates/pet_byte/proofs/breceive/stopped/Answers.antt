use Rattle.std.proofs.Common.{rules}
use Rattle.pet_byte.proofs.breceive.stopped.Goals as goal

pub returns-in-Link : goal.returns-in-Link
returns-in-Link c = search rules
