use Rattle.test_bytes.proofs.random_tests.is_next_received.Given as goal

abbrev pub ghosts-is_received : goal.ghosts-is_received
ghosts-is_received a = record { name = a.blank.name; parts = a.blank.parts }
