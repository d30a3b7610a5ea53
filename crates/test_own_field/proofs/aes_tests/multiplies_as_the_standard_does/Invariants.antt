use Rattle.test_own_field.proofs.aes_tests.multiplies_as_the_standard_does.Given as goal

abbrev pub ghosts-wrong_products : goal.ghosts-wrong_products
ghosts-wrong_products g a = record { name = a.blank.name; parts = a.blank.parts }
