use Rattle.test_fields.proofs.rows_tests.laid_out.Given as goal

abbrev pub ghosts-stripe_values : goal.ghosts-stripe_values
ghosts-stripe_values a = record { name = a.blank.name; parts = a.blank.parts }
