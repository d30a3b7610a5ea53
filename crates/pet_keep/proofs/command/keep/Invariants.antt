use Rattle.pet_keep.proofs.command.keep.Given as goal

abbrev pub ghosts-keep_counted : goal.ghosts-keep_counted
ghosts-keep_counted g a = record { name = a.blank.name; parts = a.blank.parts }
