use Rattle.test_own_field.proofs.own_tests.encodes_receives_stores_and_repairs.Given as goal

abbrev pub ghosts-is_made_again : goal.ghosts-is_made_again
ghosts-is_made_again g a = record { name = a.blank.name; parts = a.blank.parts }
