use Rattle.test_bytes.proofs.field_tests.has_the_same_products_by_tables.Given as goal

abbrev pub ghosts-other_products : goal.ghosts-other_products
ghosts-other_products g a = record { name = a.blank.name; parts = a.blank.parts }
