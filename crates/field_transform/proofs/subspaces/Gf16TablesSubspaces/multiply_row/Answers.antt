use Rattle.std.proofs.Common.{◌∙◌, get_or, ap}
use Rattle.field_elements.specs.Gf16.{gf16}
use Rattle.field_transform.proofs.subspaces.Gf16TablesSubspaces.multiply_row.Goals as goal

pub returns-clause-products : goal.returns-clause-products
returns-clause-products g c i l =
    c.multiply_row.ensures.products i l ∙ ap (λ f. gf16.times f (get_or c.args.row.now i 0)) c.new.ensures
