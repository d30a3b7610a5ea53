use Rattle.test_packets.proofs.encode_tests.most_frames.Given as goal

abbrev pub ghosts-made : goal.ghosts-made
ghosts-made a = record { name = a.blank.name; parts = a.blank.parts }
