use Rattle.std.proofs.Common.{get_or, ap, ◌∙◌, arith}
use Rattle.field_rows.proofs.Parts.{scaled_entry}
use Rattle.field_transform.proofs.subspaces.Subspaces.add_multiple_row.Goals as goal

pub returns-clause-sums : goal.returns-clause-sums
returns-clause-sums g c i l =
    let o = g.Self.Field.coding.ops in
    ap (λ t. get_or t i o.nought) c.add_scaled.ensures.places
    ∙ scaled_entry o c.args.by o.nought c.args.into.now c.args.other.now i l (omega (arith, c.requires.same))

pub returns-clause-cost : goal.returns-clause-cost
returns-clause-cost g c = c.add_scaled.ensures.cost
