use Rattle.page_tests.proofs.extent_map_tests.reads_a_small_tablespace.Given as goal

abbrev pub ghosts-read : goal.ghosts-read
ghosts-read g a = record { name = a.blank.name; parts = a.blank.parts }
