use Rattle.test_world.proofs.sample_command_tests.first_other.Given as goal

abbrev pub ghosts-tells : goal.ghosts-tells
ghosts-tells a = record { name = a.blank.name; parts = a.blank.parts }
