use Rattle.test_keep.proofs.refusal_tests.is_so.Given as goal

abbrev pub ghosts-started : goal.ghosts-started
ghosts-started a = record { name = a.blank.name; parts = a.blank.parts }
