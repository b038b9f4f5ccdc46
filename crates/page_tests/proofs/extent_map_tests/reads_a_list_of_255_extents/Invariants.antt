use Rattle.page_tests.proofs.extent_map_tests.reads_a_list_of_255_extents.Given as goal

abbrev pub ghosts-read : goal.ghosts-read
ghosts-read g a = record { name = a.blank.name; parts = a.blank.parts }

abbrev pub ghosts-followed : goal.ghosts-followed
ghosts-followed g a = record { name = a.blank.name; parts = a.blank.parts }
