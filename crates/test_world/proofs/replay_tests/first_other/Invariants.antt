use Rattle.test_world.proofs.replay_tests.first_other.Given as goal

abbrev pub ghosts-ends : goal.ghosts-ends
ghosts-ends a = record { name = a.blank.name; parts = a.blank.parts }
