use Rattle.std.proofs.lemmas.List.Elements.{All-map}
use Rattle.test_fields.proofs.rows_tests.added.Goals as goal

pub add_products-requires-clause-factors : goal.add_products-requires-clause-factors
add_products-requires-clause-factors g c =
    All-map g.F.Field.is_element g.F.Rows.element_of c.args.factors.now c.requires.factors
