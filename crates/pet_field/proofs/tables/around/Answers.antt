use Rattle.std.proofs.Common.{refl, arith}
use Rattle.pet_field.proofs.Tabled.{around_same}
use Rattle.pet_field.proofs.tables.around.Goals as goal

pub returns-then-exponent-gt-ORDER-clause-same : goal.returns-then-exponent-gt-ORDER-clause-same
returns-then-exponent-gt-ORDER-clause-same c = around_same 65535 refl c.args.exponent (omega arith)
