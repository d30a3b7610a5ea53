use Rattle.pet_poly.specs.laws.Roots.{value_determines}
use Rattle.pet_poly.proofs.law.values_determine.Goals as goal

pub returns : goal.returns
returns g c first second points =
    value_determines g.F.Field.is_element g.F.Field.coding.ops g.met.F.Field.lawful.field points first second
