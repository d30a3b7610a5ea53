use Rattle.test_world.proofs.world_tests.plays_the_example_script.Given as goal

abbrev pub ghosts-plays_example : goal.ghosts-plays_example
ghosts-plays_example g a = record { name = a.blank.name; parts = a.blank.parts }
