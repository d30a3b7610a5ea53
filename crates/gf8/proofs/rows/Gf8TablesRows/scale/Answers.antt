use Rattle.std.proofs.Common.{w8}
use Rattle.field_vectors.specs.laws.WordLaws.{all_elements}
use Rattle.gf8.proofs.rows.Gf8TablesRows.scale.Goals as goal

pub returns-clause-products : goal.returns-clause-products
returns-clause-products g c = c.scale_row.ensures

pub returns-clause-elements : goal.returns-clause-elements
returns-clause-elements g c = all_elements w8 c.scale_row.new.row c.type_inv.row
