use Rattle.test_fields.proofs.interp_tests.finds_the_line_in_both_orders.Given as goal

abbrev pub ghosts-line : goal.ghosts-line
ghosts-line g a = record { name = a.blank.name; parts = a.blank.parts }

abbrev pub ghosts-met_line : goal.ghosts-met_line
ghosts-met_line g a = record { name = a.blank.name; parts = a.blank.parts }
