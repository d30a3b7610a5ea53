use Rattle.field_transform.proofs.element.one.Goals as goal

pub returns-clause-element : goal.returns-clause-element
returns-clause-element g c = rw c.one.ensures g.met.F.Field.lawful.field.one_is
