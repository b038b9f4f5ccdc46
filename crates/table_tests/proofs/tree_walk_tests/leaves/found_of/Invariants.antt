use Rattle.table_tests.proofs.tree_walk_tests.leaves.found_of.Given as goal

abbrev pub ghosts-rows_of : goal.ghosts-rows_of
ghosts-rows_of g a = record { name = a.blank.name; parts = a.blank.parts }
