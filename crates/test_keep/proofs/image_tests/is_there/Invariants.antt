use Rattle.test_keep.proofs.image_tests.is_there.Given as goal

abbrev pub ghosts-keeps_what_was_answered : goal.ghosts-keeps_what_was_answered
ghosts-keeps_what_was_answered a = record { name = a.blank.name; parts = a.blank.parts }
