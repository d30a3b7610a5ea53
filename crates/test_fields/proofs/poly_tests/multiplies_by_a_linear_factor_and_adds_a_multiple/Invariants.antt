use Rattle.test_fields.proofs.poly_tests.multiplies_by_a_linear_factor_and_adds_a_multiple.Given as goal

abbrev pub ghosts-products : goal.ghosts-products
ghosts-products g a = record { name = a.blank.name; parts = a.blank.parts }
