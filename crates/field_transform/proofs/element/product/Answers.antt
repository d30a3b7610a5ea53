use Rattle.field_transform.proofs.element.product.Goals as goal

pub returns-clause-element : goal.returns-clause-element
returns-clause-element g c =
    rw c.single_product.ensures.product
    (g.met.F.Field.lawful.field.times_is c.args.a c.args.b c.requires.first c.requires.second)
