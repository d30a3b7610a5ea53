use Rattle.test_fields.proofs.transform_tests.is_so.Given as goal

abbrev pub ghosts-digests : goal.ghosts-digests
ghosts-digests g a = record { name = a.blank.name; parts = a.blank.parts }
