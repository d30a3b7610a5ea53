use Rattle.test_keep.proofs.stop_tests.stops_at_each_call_that_fails.Given as goal

abbrev pub ghosts-tells_that_its_disk_failed : goal.ghosts-tells_that_its_disk_failed
ghosts-tells_that_its_disk_failed g a = record { name = a.blank.name; parts = a.blank.parts }
