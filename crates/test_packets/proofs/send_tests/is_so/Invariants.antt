use Rattle.test_packets.proofs.send_tests.is_so.Given as goal

abbrev pub ghosts-send_example : goal.ghosts-send_example
ghosts-send_example a = record { name = a.blank.name; parts = a.blank.parts }
