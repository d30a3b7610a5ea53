use Rattle.trial.proofs.run.Given as goal

abbrev pub ghosts-comes_out : goal.ghosts-comes_out
ghosts-comes_out a = record { name = a.blank.name; parts = a.blank.parts }
