use Rattle.test_fields.proofs.values_tests.is_so.Given as goal

abbrev pub ghosts-digest_of_values : goal.ghosts-digest_of_values
ghosts-digest_of_values g a = record { name = a.blank.name; parts = a.blank.parts }
