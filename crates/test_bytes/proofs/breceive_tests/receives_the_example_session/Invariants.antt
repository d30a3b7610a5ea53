use Rattle.test_bytes.proofs.breceive_tests.receives_the_example_session.Given as goal

abbrev pub ghosts-frames_by : goal.ghosts-frames_by
ghosts-frames_by g a = record { name = a.blank.name; parts = a.blank.parts }
