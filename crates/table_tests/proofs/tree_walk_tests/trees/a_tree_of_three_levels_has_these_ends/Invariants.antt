use Rattle.table_tests.proofs.tree_walk_tests.trees.a_tree_of_three_levels_has_these_ends.Given as goal

abbrev pub ghosts-audited : goal.ghosts-audited
ghosts-audited g a = record { name = a.blank.name; parts = a.blank.parts }

abbrev pub ghosts-walked : goal.ghosts-walked
ghosts-walked g a = record { name = a.blank.name; parts = a.blank.parts }
