use Rattle.std.proofs.Common.{◌∙◌, get_or, bit_xor, ap}
use lib.Bits.{xor_comm}
use Rattle.field_elements.specs.Gf16.{gf16}
use Rattle.field_transform.proofs.subspaces.Gf16TablesSubspaces.butterfly_row.Goals as goal

pub returns-clause-low : goal.returns-clause-low
returns-clause-low g c i l =
    c.butterfly_row.ensures.low i l
    ∙ ap (λ f. bit_xor (get_or c.args.low.now i 0) (gf16.times f (get_or c.args.high.now i 0))) c.new.ensures

pub returns-clause-high : goal.returns-clause-high
returns-clause-high g c i l =
    c.butterfly_row.ensures.high i l ∙ xor_comm (get_or c.args.high.now i 0) (get_or c.butterfly_row.new.low i 0)
