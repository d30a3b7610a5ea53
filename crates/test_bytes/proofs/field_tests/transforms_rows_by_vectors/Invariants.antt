use Rattle.test_bytes.proofs.field_tests.transforms_rows_by_vectors.Given as goal

abbrev pub ghosts-transform : goal.ghosts-transform
ghosts-transform g a = record { name = a.blank.name; parts = a.blank.parts }
