use Rattle.test_bytes.proofs.breceive_tests.is_so_alone.Given as goal

abbrev pub ghosts-is_so : goal.ghosts-is_so
ghosts-is_so a = record { name = a.blank.name; parts = a.blank.parts }
