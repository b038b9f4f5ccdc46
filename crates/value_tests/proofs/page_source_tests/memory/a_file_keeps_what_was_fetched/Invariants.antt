use Rattle.value_tests.proofs.page_source_tests.memory.a_file_keeps_what_was_fetched.Given as goal

abbrev pub ghosts-logged : goal.ghosts-logged
ghosts-logged g a = record { name = a.blank.name; parts = a.blank.parts }
