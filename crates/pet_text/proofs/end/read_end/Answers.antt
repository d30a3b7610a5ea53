use Rattle.std.proofs.Common.{rules}
use Rattle.pet_text.proofs.end.read_end.Goals as goal

pub returns : goal.returns
returns c = search rules

pub returns-in_err-address : goal.returns-in_err-address
returns-in_err-address c = search rules
