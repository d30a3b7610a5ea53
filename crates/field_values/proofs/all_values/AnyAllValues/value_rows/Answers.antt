use Rattle.std.proofs.Common.{◌∙◌, length, drop}
use Rattle.std.proofs.lemmas.List.{take_at}
use Rattle.field_values.proofs.all_values.AnyAllValues.value_rows.Goals as goal

pub fill_values-requires-clause-room : goal.fill_values-requires-clause-room
fill_values-requires-clause-room g c = c.deref_mut.ensures.len ∙ c.in_ok-values.ensures.len

pub returns-clause-rows : goal.returns-clause-rows
returns-clause-rows g c =
    rw (take_at c.fill_values.new.into (drop (length c.fill_values.new.into) c.in_ok-values.values.items)
    c.in_ok-values.values.len (c.fill_values.auto.into ∙ c.deref_mut.ensures.len))
    c.fill_values.ensures.rows
