use Rattle.test_fields.proofs.field_tests.is_so.Given as goal

abbrev pub ghosts-has_product_and_inverse : goal.ghosts-has_product_and_inverse
ghosts-has_product_and_inverse a = record { name = a.blank.name; parts = a.blank.parts }
