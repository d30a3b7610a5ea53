use Rattle.std.proofs.Common.{w16}
use Rattle.field_vectors.specs.laws.WordLaws.{all_elements}
use Rattle.pet_field.proofs.rows.Gf16TablesRows.scale.Goals as goal

pub returns-clause-products : goal.returns-clause-products
returns-clause-products g c = c.scale_row.ensures

pub returns-clause-elements : goal.returns-clause-elements
returns-clause-elements g c = all_elements w16 c.scale_row.new.row c.type_inv.row
