use Rattle.test_bytes.proofs.session_tests.makes_the_packets_at_once.Given as goal

abbrev pub ghosts-frames_by : goal.ghosts-frames_by
ghosts-frames_by g a = record { name = a.blank.name; parts = a.blank.parts }

abbrev pub ghosts-makes_at_once : goal.ghosts-makes_at_once
ghosts-makes_at_once g a = record { name = a.blank.name; parts = a.blank.parts }
