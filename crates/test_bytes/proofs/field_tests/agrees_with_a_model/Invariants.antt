use Rattle.test_bytes.proofs.field_tests.agrees_with_a_model.Given as goal

abbrev pub ghosts-wrong_rows : goal.ghosts-wrong_rows
ghosts-wrong_rows g a = record { name = a.blank.name; parts = a.blank.parts }
