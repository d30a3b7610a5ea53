use Rattle.test_own_field.proofs.aes_tests.finds_a_stripe_again.Given as goal

abbrev pub ghosts-stripe : goal.ghosts-stripe
ghosts-stripe g a = record { name = a.blank.name; parts = a.blank.parts }
