use Rattle.page_tests.proofs.space_header_tests.follows_a_list.Given as goal

abbrev pub ghosts-followed : goal.ghosts-followed
ghosts-followed g a = record { name = a.blank.name; parts = a.blank.parts }
