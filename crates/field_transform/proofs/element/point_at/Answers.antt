use Rattle.field_transform.proofs.element.point_at.Goals as goal

pub returns-clause-element : goal.returns-clause-element
returns-clause-element g c = rw c.point.ensures (g.met.F.Field.lawful.points.point_is c.args.number c.requires)
