use Rattle.test_bytes.proofs.breceive_tests.keeps_no_packet_of_today.Given as goal

abbrev pub ghosts-of_today : goal.ghosts-of_today
ghosts-of_today g a = record { name = a.blank.name; parts = a.blank.parts }
