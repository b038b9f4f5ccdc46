use Rattle.page_tests.proofs.space_header_tests.is_refused.Given as goal

abbrev pub ghosts-followed : goal.ghosts-followed
ghosts-followed a = record { name = a.blank.name; parts = a.blank.parts }
