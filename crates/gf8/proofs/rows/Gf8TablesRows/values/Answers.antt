use Rattle.std.proofs.Common.{w8}
use Rattle.field_vectors.specs.laws.WordLaws.{all_elements}
use Rattle.gf8.proofs.rows.Gf8TablesRows.values.Goals as goal

pub returns-clause-values : goal.returns-clause-values
returns-clause-values g c = c.column_values.ensures

pub returns-clause-elements : goal.returns-clause-elements
returns-clause-elements g c = all_elements w8 c.column_values.new.into c.type_inv.into

pub returns-clause-cost : goal.returns-clause-cost
returns-clause-cost g c = c.count_steps.ensures
