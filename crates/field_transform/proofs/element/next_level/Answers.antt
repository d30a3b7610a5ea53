use Rattle.std.proofs.Common.{◌∙◌, ap, ap₂}
use Rattle.field_transform.proofs.element.next_level.Goals as goal

pub product-requires-clause-second : goal.product-requires-clause-second
product-requires-clause-second g c =
    rw c.add-sum.ensures (g.met.F.Field.lawful.field.plus_is c.product-square.result c.args.value
    c.product-square.ensures.element c.requires.value)

pub returns-clause-next : goal.returns-clause-next
returns-clause-next g c =
    let o = g.F.Field.coding.ops in
    c.product.ensures.product
    ∙ ap₂ o.times c.inverse_at.ensures.inverse
    (c.add-sum.ensures ∙ ap (λ s. o.plus s c.args.value) c.product-square.ensures.product)
