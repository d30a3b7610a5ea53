use Rattle.test_bytes.proofs.session_tests.shows_the_layers_of_the_example_session.Given as goal

abbrev pub ghosts-frames_by : goal.ghosts-frames_by
ghosts-frames_by g a = record { name = a.blank.name; parts = a.blank.parts }

abbrev pub ghosts-received : goal.ghosts-received
ghosts-received g a = record { name = a.blank.name; parts = a.blank.parts }

abbrev pub ghosts-received-2 : goal.ghosts-received-2
ghosts-received-2 g a = record { name = a.blank.name; parts = a.blank.parts }
