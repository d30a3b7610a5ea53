use Rattle.std.proofs.Common.{w8}
use Rattle.field_vectors.specs.laws.WordLaws.{all_elements}
use Rattle.gf8.proofs.rows.Gf8TablesRows.add_products.Goals as goal

pub returns-clause-elements : goal.returns-clause-elements
returns-clause-elements g c = all_elements w8 c.add_multiples.new.rows c.type_inv.rows
