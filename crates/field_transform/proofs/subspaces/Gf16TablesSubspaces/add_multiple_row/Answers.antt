use Rattle.std.proofs.Common.{◌∙◌, get_or, bit_xor, ap}
use Rattle.field_elements.specs.Gf16.{gf16}
use Rattle.field_transform.proofs.subspaces.Gf16TablesSubspaces.add_multiple_row.Goals as goal

pub returns-clause-sums : goal.returns-clause-sums
returns-clause-sums g c i l =
    c.add_multiple_row.ensures.sums i l
    ∙ ap (λ f. bit_xor (get_or c.args.into.now i 0) (gf16.times f (get_or c.args.other.now i 0))) c.new.ensures
