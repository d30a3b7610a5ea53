use Rattle.test_outside.proofs.base_tests.the_outside_is_lent_as_one_value.Given as goal

abbrev pub ghosts-lend : goal.ghosts-lend
ghosts-lend g a = record { name = a.blank.name; parts = a.blank.parts }
