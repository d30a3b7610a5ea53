use Rattle.std.proofs.Common.{w16}
use Rattle.field_vectors.specs.laws.WordLaws.{all_elements}
use Rattle.pet_field.proofs.rows.Gf16TablesRows.values.Goals as goal

pub returns-then-is_narrow-clause-values : goal.returns-then-is_narrow-clause-values
returns-then-is_narrow-clause-values g c = c.each_column.ensures.values

pub returns-then-is_narrow-clause-elements : goal.returns-then-is_narrow-clause-elements
returns-then-is_narrow-clause-elements g c = c.each_column.ensures.elements

pub returns-else-is_narrow-clause-values : goal.returns-else-is_narrow-clause-values
returns-else-is_narrow-clause-values g c = c.column_values.ensures

pub returns-else-is_narrow-clause-elements : goal.returns-else-is_narrow-clause-elements
returns-else-is_narrow-clause-elements g c = all_elements w16 c.column_values.new.into c.type_inv.into

pub returns-else-is_narrow-clause-cost : goal.returns-else-is_narrow-clause-cost
returns-else-is_narrow-clause-cost g c = c.count_steps.ensures
