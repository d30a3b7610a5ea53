use Rattle.test_fields.proofs.field_tests.computes_as_any_field.Given as goal

abbrev pub ghosts-spelt_product : goal.ghosts-spelt_product
ghosts-spelt_product g a = record { name = a.blank.name; parts = a.blank.parts }
