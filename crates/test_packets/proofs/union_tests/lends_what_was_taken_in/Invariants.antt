use Rattle.test_packets.proofs.union_tests.lends_what_was_taken_in.Given as goal

abbrev pub ghosts-lends : goal.ghosts-lends
ghosts-lends g a = record { name = a.blank.name; parts = a.blank.parts }
