use Rattle.test_fields.proofs.poly_tests.gives_values_of_two_polynomials.Given as goal

abbrev pub ghosts-values : goal.ghosts-values
ghosts-values g a = record { name = a.blank.name; parts = a.blank.parts }
