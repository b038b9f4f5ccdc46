use Rattle.value_tests.proofs.page_source_tests.adapters.pages_of_a_file_are_read.Given as goal

abbrev pub ghosts-fetch : goal.ghosts-fetch
ghosts-fetch g a = record { name = a.blank.name; parts = a.blank.parts }
