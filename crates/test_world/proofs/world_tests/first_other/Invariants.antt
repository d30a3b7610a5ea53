use Rattle.test_world.proofs.world_tests.first_other.Given as goal

abbrev pub ghosts-plays : goal.ghosts-plays
ghosts-plays a = record { name = a.blank.name; parts = a.blank.parts }
